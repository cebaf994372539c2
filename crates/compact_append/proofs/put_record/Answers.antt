-- Head, metadata and parts one after another.
use mathlib.Core.Path.{◌≡◌, refl, ◌∙◌}
use native.Mathlib.Nat.{zero-add}
use native.Mathlib.Omega.{arith}
use lib.ListN.{length}
use Rattle.compact.specs.Layout.{head_bytes, head_len, meta_bytes}
use Rattle.compact.specs.Held.{meta_of}
use Rattle.compact.proofs.Lengths.{length_head, length_meta}
use Rattle.compact_append.proofs.Writes.{start, next, lent, wrote_length}
use Rattle.compact_append.proofs.put_record.Goals as goal

pub returns : goal.returns
returns g c =
    let a = c.args in
    let h = g.H.RecordHead in
    let says = h.says a.head in
    let long : c.LEN.result ≡ head_len h.kind = c.LEN.ensures ∙ g.met.H.RecordHead.is_long in
    let w1 = rw zero-add at (next (head_bytes h.kind says) (head_len h.kind) (length_head h.kind says) (start a.out.now) c.put.ensures) in
    let w2 = lent _ (meta_bytes (meta_of a.meta)) 29 c.LEN.result long (length_meta (meta_of a.meta)) (omega (arith, wrote_length w1, long, c.requires)) w1 c.put_meta.ensures in
    (lent _ a.parts.now (length a.parts.now) c.parts_at.result c.parts_at.ensures refl (omega (arith, wrote_length w2, c.parts_at.ensures, c.requires)) w2 c.copy_in.ensures).is
