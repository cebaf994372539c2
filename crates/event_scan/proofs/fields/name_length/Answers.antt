-- The name goes to the first `=`, or to the end.
use Rattle.event_scan.proofs.Parts.{name_found, name_whole}
use Rattle.event_scan.proofs.fields.name_length.Goals as goal

pub returns-in-Some : goal.returns-in-Some
returns-in-Some c = name_found c.args.field.now c.in-Some.ensures

pub returns-in-None : goal.returns-in-None
returns-in-None c = name_whole c.args.field.now c.in-None.ensures
