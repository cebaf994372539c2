-- Three fields, one after the other.
use Rattle.print.specs.Print.{tabs}
use Rattle.print.proofs.Pieces.{then_printed}
use Rattle.listing_fields.proofs.HeldRecord.put_member.Goals as goal

pub returns : goal.returns
unfolding tabs
returns c = then_printed (then_printed (rw c.from.ensures at c.put.ensures) c.put-2.ensures) (rw c.text.ensures at c.put-3.ensures)
