-- The body, and then the tags.
use mathlib.Core.Path.{sym}
use native.Mathlib.Omega.{arith}
use Rattle.compact_legal.specs.Judge.{walk_of}
use Rattle.compact_legal.proofs.Judging.{body_within, tags_room}
use Rattle.compact_legal.proofs.PartBytes.walk.Goals as goal

pub returns-in_err-tags : goal.returns-in_err-tags
unfolding walk_of
returns-in_err-tags g c = rw (c.from_residual.ensures, ← c.in_err-tags.ensures)

pub tags_end-requires : goal.tags_end-requires
tags_end-requires g c =
    let h = g.H.RecordHead in let p = c.args.self.now in
    body_within p.strings h.kind (h.says c.args.head) p.bytes.now c.args.at c.requires c.in_ok-tags.tags (sym c.in_ok-tags.ensures)

pub returns-in_err-tagged : goal.returns-in_err-tagged
unfolding walk_of
returns-in_err-tagged g c =
    let e = rw c.tag_count-count.ensures at c.in_err-tagged.ensures in
    rw (c.from_residual-in_err-tagged.ensures, ← c.in_ok-tags.ensures, ← e)

pub overflow_sub-result : goal.overflow_sub-result
overflow_sub-result g c =
    let h = g.H.RecordHead in let p = c.args.self.now in
    let e = rw c.tag_count-count.ensures at c.in_ok-tagged.ensures in
    omega (arith, tags_room p.strings h.kind (h.says c.args.head) p.bytes.now c.args.at c.requires c.in_ok-tags.tags (sym c.in_ok-tags.ensures) c.in_ok-tagged.tagged (sym e))

pub overflow_sub-result-2 : goal.overflow_sub-result-2
overflow_sub-result-2 g c =
    let h = g.H.RecordHead in let p = c.args.self.now in
    let e = rw c.tag_count-count.ensures at c.in_ok-tagged.ensures in
    omega (arith, c.tag_count-count.ensures, tags_room p.strings h.kind (h.says c.args.head) p.bytes.now c.args.at c.requires c.in_ok-tags.tags (sym c.in_ok-tags.ensures) c.in_ok-tagged.tagged (sym e))

pub returns : goal.returns
unfolding walk_of
returns g c =
    let e = rw c.tag_count-count.ensures at c.in_ok-tagged.ensures in
    rw (← c.in_ok-tags.ensures, ← e, c.tag_count-count.ensures)
