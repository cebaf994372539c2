-- Refs of 8 bytes each.
use Prim.Native.Nat.{◌+◌, ◌*◌}
use mathlib.Core.Path.{◌∙◌}
use lib.ListN.{length}
use borrow.Author.Tests.{le-leb, lt-leb}
use Rattle.base.proofs.Split.{by_le}
use Rattle.compact.specs.Held.{way_head, counts_head}
use Rattle.compact_legal.proofs.Bodies.{body_short, body_refs}
use Rattle.compact_legal.proofs.CompactWayJudgedHead.body_end.Goals as goal

pub returns : goal.returns
unfolding way_head counts_head
returns c =
    let a = c.args in
    let p = a.parts.now in
    let s = p.bytes.now in
    let h = way_head a.self in
    let e = a.at + 8 * a.self.ref_count in
    by_le e (length s)
    (λ l. c.end_within.ensures ∙ rw (le-leb e (length s) l) (body_refs p.strings h s a.at l))
    (λ l. c.end_within.ensures ∙ rw (lt-leb e (length s) l) (body_short p.strings h s a.at c.requires l))
