-- `once_in_pairs` goes from attribute to attribute. The invariant: those that are left decide.
use Rattle.std.proofs.Common.{◌≡◌, length}
use Rattle.event.specs.Event.{none_twice}
use Rattle.event_scan.specs.Fields.{written_left, attributes_left}
use Rattle.event_scan.proofs.fields.Attributes.once_in_pairs.Given as goal

abbrev pub invariant-loop-attribute : goal.invariant-loop-attribute
invariant-loop-attribute g l = none_twice (attributes_left l.rest) ≡ none_twice (attributes_left l.self)

abbrev pub decreases-loop-attribute : goal.decreases-loop-attribute
decreases-loop-attribute g l = length (written_left l.rest)
