-- `few_stand` goes from field to field. The invariant: the names so far are kept and differ, and the fields that are left decide.
use Rattle.std.proofs.Common.{◌≡◌, ◌≤◌, length, take}
use Rattle.event.specs.Event.{attrs_of}
use Rattle.event_scan.specs.Fields.{fields_left}
use Rattle.event_scan.specs.Names.{texts_of}
use Rattle.event_scan.specs.Scan.{stand}
use Rattle.event_scan.proofs.Standing.{stand_after}
use Rattle.event_scan.proofs.event_line.few_stand.Given as goal

abbrev pub invariant-loop-field : goal.invariant-loop-field
invariant-loop-field l =
    (length l.names ≡ 16) × (l.n ≤ 16) × (stand_after (texts_of (take l.n l.names)) (attrs_of (fields_left l.field-iterator)) ≡ stand (attrs_of (fields_left l.rest)))
