-- A node's head is written field after field.
use native.Mathlib.Omega.{arith}
use Rattle.compact.proofs.Holds.{NodeHeld, node_bits_lem}
use Rattle.compact_append.proofs.Writes.{start, field}
use Rattle.compact_append.proofs.CompactNodeWrittenHead.put.Goals as goal

pub returns : goal.returns
returns c =
    let h = c.args.self in
    let f = c.struct_known-3-1.given in
    let held : NodeHeld h = record { id = omega (arith, f); lat = omega (arith, f); lon = omega (arith, f); tags = omega (arith, f) } in
    let w1 = field 8 h.id (start c.args.out.now) c.put_at.ensures in
    let w2 = field 4 h.lat w1 c.put_at-2.ensures in
    let w3 = field 4 h.lon w2 c.put_at-3.ensures in
    rw (node_bits_lem h held) (field 4 h.tag_count w3 c.put_at-4.ensures).is
