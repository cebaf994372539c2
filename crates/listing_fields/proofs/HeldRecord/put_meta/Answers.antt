-- Six fields, one after the other.
use Rattle.print.specs.Print.{tabs}
use Rattle.print.proofs.Pieces.{then_printed}
use Rattle.compact.specs.Held.{meta_of}
use Rattle.listing_fields.proofs.HeldRecord.put_meta.Goals as goal

pub returns : goal.returns
unfolding tabs meta_of
returns c =
    let version = rw c.from_bits_32.ensures at c.put-2.ensures in
    let uid = rw c.from_bits_32-2.ensures at c.put-5.ensures in
    then_printed (then_printed (then_printed (then_printed (then_printed (rw c.from.ensures at c.put.ensures) version) c.put-3.ensures) c.put-4.ensures) uid) (rw c.text.ensures at c.put-6.ensures)
