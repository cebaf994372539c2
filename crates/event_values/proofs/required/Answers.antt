-- `required`: a value, or 7.
use Rattle.event_scan.proofs.Parts.{found_short}
use Rattle.event_values.proofs.Values.{found_kept, found_written, field_written}
use Rattle.event_values.proofs.required.Goals as goal

pub returns : goal.returns
returns g c =
    record {
      means = field_written c.args.name.now _ _ _ c.value_of.ensures.text c.ok_or.ensures.value;
      in_bounds = found_kept _ _ _ c.ok_or.ensures.value (found_short (λ v. v.bytes.now) _ _ _ c.value_of.ensures.written);
      written = found_kept _ _ _ c.ok_or.ensures.value (found_written (λ v. v.bytes.now) _ c.value_of.ensures.written);
    }
