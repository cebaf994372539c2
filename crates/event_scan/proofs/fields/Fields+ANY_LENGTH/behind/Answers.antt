-- `behind`: the fields behind a place, if it lies in the text.
use Rattle.event_scan.proofs.Parts.{left_behind}
use Rattle.event_scan.proofs.fields.Fields+ANY_LENGTH.behind.Goals as goal

pub returns : goal.returns
returns c = left_behind _ _ _ c.get-rest.ensures.lookup.0
