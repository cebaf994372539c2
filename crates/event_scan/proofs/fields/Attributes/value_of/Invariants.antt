-- `value_of` goes from attribute to attribute. The invariant: those that are left decide.
use Rattle.std.proofs.Common.{◌≡◌, length}
use Rattle.event.specs.Event.{value_of}
use Rattle.event_scan.specs.Fields.{written_left}
use Rattle.event_scan.proofs.fields.Attributes.value_of.Given as goal

abbrev pub invariant-loop-attribute : goal.invariant-loop-attribute
invariant-loop-attribute g l = value_of l.name (written_left l.rest) ≡ value_of l.name (written_left l.self)

abbrev pub decreases-loop-attribute : goal.decreases-loop-attribute
decreases-loop-attribute g l = length (written_left l.rest)
