-- `value_at` goes from field to field. The invariant: the fields that are left are those from the present place on, and the search from there decides.
use Rattle.std.proofs.Common.{◌≡◌}
use Rattle.event_scan.specs.Fields.{fields_left}
use Rattle.event_scan.specs.Scan.{fields_at}
use Rattle.event_scan.specs.Places.{attribute_value}
use Rattle.event_scan.proofs.located.value_at.Given as goal

abbrev pub invariant-loop-field : goal.invariant-loop-field
invariant-loop-field l =
    (fields_left l.field-iterator ≡ fields_at l.text l.place) × (attribute_value l.text l.name l.place ≡ attribute_value l.text l.name l.at)
