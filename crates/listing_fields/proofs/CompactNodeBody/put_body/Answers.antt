-- Latitude and longitude.
use Rattle.compact.specs.Held.{node_head}
use Rattle.print.specs.Print.{tabs}
use Rattle.print.proofs.Pieces.{then_printed}
use Rattle.listing_fields.specs.Fields.{body_fields_at}
use Rattle.listing_fields.proofs.CompactNodeBody.put_body.Goals as goal

pub returns : goal.returns
unfolding tabs body_fields_at node_head
returns c = then_printed (rw c.from_bits_32.ensures at c.put.ensures) (rw c.from_bits_32-2.ensures at c.put-2.ensures)
