-- `of`: the fields from a place on, as attributes.
use Rattle.std.proofs.Common.{ap}
use Rattle.event_scan.specs.Parts.{written_in}
use Rattle.event_scan.proofs.fields.Attributes+ANY_LENGTH.of.Goals as goal

pub returns : goal.returns
returns c = ap written_in c.behind-fields.ensures
