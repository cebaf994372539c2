-- `note_names` goes from field to field. The invariant: the fields that are left are those from the present place on, and the names are those noted and theirs.
use Rattle.std.proofs.Common.{◌≡◌, ◌≤◌, ◌+◌, ◌++◌, length, take}
use Rattle.distinct.specs.Distinct.{runs_in}
use Rattle.event_scan.specs.Fields.{fields_left}
use Rattle.event_scan.specs.Names.{names_of}
use Rattle.event_scan.specs.Parts.{attributes_in}
use Rattle.event_scan.specs.Scan.{fields_at}
use Rattle.event_scan.proofs.event_line.note_names.Given as goal

abbrev pub invariant-loop-field : goal.invariant-loop-field
invariant-loop-field l =
    (fields_left l.field-iterator ≡ fields_at l.text l.at) × (l.n ≤ l.at) × (l.at ≤ length l.text + 1) × (length l.words ≡ length l.fn.words)
    × (l.n ≤ length l.words → names_of (attributes_in (fields_left l.rest)) ≡ runs_in l.text (take l.n l.words) ++ names_of (attributes_in (fields_left l.field-iterator)))
