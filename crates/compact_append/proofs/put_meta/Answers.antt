-- The metadata is written field after field.
use native.Mathlib.Omega.{arith}
use Rattle.compact.proofs.Holds.{MetaHeld, meta_bits_lem}
use Rattle.compact_append.proofs.Writes.{start, field}
use Rattle.compact_append.proofs.put_meta.Goals as goal

pub returns : goal.returns
returns c =
    let c6 = c in
    let c5 = c6 in
    let c4 = c5 in
    let c3 = c4 in
    let c2 = c3 in
    let c1 = c2 in
    let a = c1.args in
    let m = a.meta in
    let f = c6.struct_known-4-1.given in
    let held : MetaHeld m =
    record { flags = omega (arith, f); version = omega (arith, f); timestamp = omega (arith, f); changeset = omega (arith, f); uid = omega (arith, f); user = omega (arith, f) } in
    let w1 = field 1 m.flags (start a.out.now) c1.put_at.ensures in
    let w2 = field 4 m.version w1 c2.put_at-2.ensures in
    let w3 = field 8 m.timestamp w2 c3.put_at-3.ensures in
    let w4 = field 8 m.changeset w3 c4.put_at-4.ensures in
    let w5 = field 4 m.uid w4 c5.put_at-5.ensures in
    rw (meta_bits_lem m held) (field 4 m.user w5 c6.put_at-6.ensures).is
