-- `put` prints a tab and then its piece.
use Rattle.print.proofs.Pieces.{then_printed}
use Rattle.print.proofs.Printer.put.Goals as goal

pub returns : goal.returns
returns g c = then_printed c.put_bytes.ensures c.print.ensures
