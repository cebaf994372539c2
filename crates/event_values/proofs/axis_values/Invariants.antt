-- `axis_values` goes from attribute to attribute. The invariant: those that are left decide, of both names.
use Rattle.std.proofs.Common.{◌≡◌, length}
use Rattle.event.specs.Event.{value_of}
use Rattle.event_scan.specs.Fields.{written_left}
use Rattle.event_values.proofs.axis_values.Given as goal

abbrev pub invariant-loop-attribute : goal.invariant-loop-attribute
invariant-loop-attribute g l =
    (value_of l.whole_name (written_left l.rest) ≡ value_of l.whole_name (written_left l.attributes))
    × (value_of l.degrees_name (written_left l.rest) ≡ value_of l.degrees_name (written_left l.attributes))

abbrev pub decreases-loop-attribute : goal.decreases-loop-attribute
decreases-loop-attribute g l = length (written_left l.rest)
