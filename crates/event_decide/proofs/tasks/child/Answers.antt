-- `child`: a refusal, or the child, unless its element is deleted.
use Rattle.std.proofs.Common.{◌∙◌}
use Rattle.event_fields.specs.Field.{ref_of}
use Rattle.event_values.proofs.Values.{handed_on}
use Rattle.event_decide.proofs.tasks.child.Goals.{in-Tag+in_ok-tag_of-in-Tag, in-Nd+in_ok-integer_field-in-Nd, in-Member+in_ok-member_of-in-Member}
use Rattle.event_decide.proofs.tasks.child.Goals as goal

pub returns-in_err-integer_field-in-Nd : goal.returns-in_err-integer_field-in-Nd
unfolding ref_of
returns-in_err-integer_field-in-Nd c =
    record {
      means = λ p. rw (handed_on c.from_residual-in_err-integer_field-in-Nd.ensures, c.in-Nd.is, ← c.in_err-integer_field-in-Nd.ensures);
      in_bounds = rw (handed_on c.from_residual-in_err-integer_field-in-Nd.ensures) tt;
      written = rw (handed_on c.from_residual-in_err-integer_field-in-Nd.ensures) tt;
    }

pub returns : goal.returns
unfolding ref_of
returns c =
    record {
      means = λ p. c.unless_deleted.ensures.means p ∙ elim c.match-child.branch [
        | in-Tag+in_ok-tag_of-in-Tag w ↦ rw (w.work-is, w.in-Tag.is, ← w.in_ok-tag_of-in-Tag.ensures.means)
        | in-Nd+in_ok-integer_field-in-Nd w ↦ rw (w.work-is, w.in-Nd.is, ← w.in_ok-integer_field-in-Nd.ensures)
        | in-Member+in_ok-member_of-in-Member w ↦ rw (w.work-is, w.in-Member.is, ← w.in_ok-member_of-in-Member.ensures.means)
      ];
      in_bounds = c.unless_deleted.ensures.in_bounds _ (elim c.match-child.branch [
        | in-Tag+in_ok-tag_of-in-Tag w ↦ rw w.work-is w.in_ok-tag_of-in-Tag.ensures.in_bounds
        | in-Nd+in_ok-integer_field-in-Nd w ↦ rw w.work-is tt
        | in-Member+in_ok-member_of-in-Member w ↦ rw w.work-is w.in_ok-member_of-in-Member.ensures.in_bounds
      ]);
      written = c.unless_deleted.ensures.written _ (elim c.match-child.branch [
        | in-Tag+in_ok-tag_of-in-Tag w ↦ rw w.work-is w.in_ok-tag_of-in-Tag.ensures.written
        | in-Nd+in_ok-integer_field-in-Nd w ↦ rw w.work-is tt
        | in-Member+in_ok-member_of-in-Member w ↦ rw w.work-is w.in_ok-member_of-in-Member.ensures.written
      ]);
    }
