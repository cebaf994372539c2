-- `begins`: id, then metadata, then a node's coordinates.
use Rattle.std.proofs.Common.{sym, ◌∙◌}
use Rattle.event_fields.specs.Field.{id_field}
use Rattle.event_values.proofs.Values.{handed_on}
use Rattle.event_decide.proofs.Tasked.{begins_id, begins_metadata, begins_kept}
use Rattle.event_decide.proofs.tasks.begins.Goals as goal

pub returns-in_err-id : goal.returns-in_err-id
returns-in_err-id c =
    record {
      means = λ p. rw (handed_on c.from_residual.ensures) (begins_id _ _ _ p c.args.action c.in_err-id.ensures);
      in_bounds = rw (handed_on c.from_residual.ensures) tt;
      written = rw (handed_on c.from_residual.ensures) tt;
    }

pub returns-in_err-metadata : goal.returns-in_err-metadata
returns-in_err-metadata c =
    record {
      means = λ p. rw (handed_on c.from_residual-in_err-metadata.ensures) (begins_metadata _ _ _ p c.args.action c.in_ok-id.ensures c.in_err-metadata.ensures.means);
      in_bounds = rw (handed_on c.from_residual-in_err-metadata.ensures) tt;
      written = rw (handed_on c.from_residual-in_err-metadata.ensures) tt;
    }

pub returns-in_err-coordinates-in-Create : goal.returns-in_err-coordinates-in-Create
unfolding id_field
returns-in_err-coordinates-in-Create c =
    record {
      means = λ p. sym (sym (begins_kept _ _ _ _ p c.in-Create.is) ∙ rw (handed_on c.from_residual-in_err-coordinates-in-Create.ensures, ← c.in_ok-id.ensures, ← c.in_ok-metadata.ensures.means, ← c.in_err-coordinates-in-Create.ensures));
      in_bounds = rw (handed_on c.from_residual-in_err-coordinates-in-Create.ensures) tt;
      written = rw (handed_on c.from_residual-in_err-coordinates-in-Create.ensures) tt;
    }

pub returns-in-Delete : goal.returns-in-Delete
unfolding id_field
returns-in-Delete c =
    record {
      means = λ p. rw (c.in-Delete.is, ← c.in_ok-id.ensures, ← c.in_ok-metadata.ensures.means);
      in_bounds = c.in_ok-metadata.ensures.in_bounds;
      written = c.in_ok-metadata.ensures.written;
    }

pub returns-in_ok-coordinates-in-Create : goal.returns-in_ok-coordinates-in-Create
unfolding id_field
returns-in_ok-coordinates-in-Create c =
    record {
      means = λ p. sym (sym (begins_kept _ _ _ _ p c.in-Create.is) ∙ rw (← c.in_ok-id.ensures, ← c.in_ok-metadata.ensures.means, ← c.in_ok-coordinates-in-Create.ensures));
      in_bounds = c.in_ok-metadata.ensures.in_bounds;
      written = c.in_ok-metadata.ensures.written;
    }
