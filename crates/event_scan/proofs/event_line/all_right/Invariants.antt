-- `all_right` goes from field to field. The invariant: those that are left decide.
use Rattle.std.proofs.Common.{◌≡◌}
use Rattle.event.specs.Event.{attrs_of}
use Rattle.event_scan.specs.Piece.{there}
use Rattle.event_scan.specs.Fields.{fields_left}
use Rattle.event_scan.proofs.event_line.all_right.Given as goal

abbrev pub invariant-loop-field : goal.invariant-loop-field
invariant-loop-field l = there (attrs_of (fields_left l.field-iterator)) ≡ there (attrs_of (fields_left l.rest))
