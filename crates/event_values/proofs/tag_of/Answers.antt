-- `tag_of`: k, then v.
use Rattle.event_fields.specs.Field.{tag_of}
use Rattle.event_values.proofs.Values.{handed_on}
use Rattle.event_values.proofs.tag_of.Goals as goal

pub returns-in_err-key : goal.returns-in_err-key
unfolding tag_of
returns-in_err-key g c =
    record {
      means = rw (handed_on c.from_residual.ensures, ← c.in_err-key.ensures.means);
      in_bounds = rw (handed_on c.from_residual.ensures) tt;
      written = rw (handed_on c.from_residual.ensures) tt;
    }

pub returns-in_err-value : goal.returns-in_err-value
unfolding tag_of
returns-in_err-value g c =
    record {
      means = rw (handed_on c.from_residual-in_err-value.ensures, ← c.in_ok-key.ensures.means, ← c.in_err-value.ensures.means);
      in_bounds = rw (handed_on c.from_residual-in_err-value.ensures) tt;
      written = rw (handed_on c.from_residual-in_err-value.ensures) tt;
    }

pub returns : goal.returns
unfolding tag_of
returns g c =
    record {
      means = rw (← c.in_ok-key.ensures.means, ← c.in_ok-value.ensures.means);
      in_bounds = (c.in_ok-key.ensures.in_bounds, c.in_ok-value.ensures.in_bounds);
      written = (c.in_ok-key.ensures.written, c.in_ok-value.ensures.written);
    }
