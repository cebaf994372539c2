-- `lacks`: the byte is found nowhere exactly where each byte is another one.
use Rattle.event_scan.proofs.Places.{lacks_told}
use Rattle.event_scan.proofs.lacks.Goals as goal

pub returns : goal.returns
returns c = lacks_told c.args.c c.args.t.now _ _ c.byte_position.ensures c.is_none.ensures
