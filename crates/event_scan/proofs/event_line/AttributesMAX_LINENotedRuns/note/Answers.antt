-- The names are distinct exactly where no attribute is there twice.
use Rattle.std.proofs.Common.{◌∙◌, ap}
use Rattle.distinct.specs.Distinct.{distinct}
use Rattle.event_scan.proofs.Names.{names_distinct}
use Rattle.event_scan.proofs.event_line.AttributesMAX_LINENotedRuns.note.Goals as goal

pub returns : goal.returns
returns c = λ small h. names_distinct _ ∙ ap distinct (c.note_names.ensures h)
