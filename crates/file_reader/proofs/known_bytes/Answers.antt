-- Each element of a lent slice is a value of its type.
use native.Mathlib.Omega.{arith}
use Rattle.little.proofs.Littles.{bytes_of}
use Rattle.file_reader.proofs.known_bytes.Goals as goal

pub lesser-requires : goal.lesser-requires
lesser-requires c = tt

pub returns : goal.returns
returns c = bytes_of c.args.bytes.now (λ i l. omega (arith, c.type_inv.bytes i))
