-- A step that yields no tag ends the tags.
use Rattle.std.specs.Prelude.{None, Ok, Some}
use Prim.Native.Nat.{◌+◌, ◌≤◌}
use lib.ListN.{length}
use mathlib.Core.Path.{◌≡◌, sym, ap, ◌∙◌}
use borrow.Author.Rules.{rules}
use native.Mathlib.Omega.{arith}
use Rattle.interner.specs.Lent.{store_seen}
use Rattle.compact.specs.View.{TagStep}
use Rattle.compact.specs.declared.TagPlace.{TagPlace}
use Rattle.print.specs.Print.{tabs}
use Rattle.print.proofs.Pieces.{then_printed}
use Rattle.print.proofs.Walks.{stepped, ended}
use Rattle.listing_fields.specs.Fields.{text_held}
use Rattle.listing_fields.proofs.Walks.{cut_part, cut_length, turn_answers, tag_there, tag_fits, tag_more, turn_on, tags_next, tags_done, tags_stop}
use Rattle.listing_fields.proofs.HeldRecord.put_tags.Goals.{In-Ok-Some}
use Rattle.listing_fields.proofs.HeldRecord.put_tags.Goals as goal

-- a tag that is yielded
yielded : (c : In-Ok-Some) → ◌≡◌ {A = TagStep} c.next.result (Ok (Some c.in-Ok-Some.tag))
yielded c = let q : c.in-Ok-Some.field-0 ≡ Some c.in-Ok-Some.tag = c.in-Ok-Some.field-0-is in c.in-Ok-Some.is ∙ ap Ok q

pub loop-tag-smaller : goal.loop-tag-smaller
loop-tag-smaller c =
    let s = c.args.self.now in
    let l = c.loop-tag in
    let y = yielded search in
    let on = turn_on s.bytes.now l.place c.next.new.self c.next.result c.next.ensures c.in-Ok-Some.tag y in
    omega (arith, ap (λ (p : TagPlace). p.remaining) on, tag_more s.bytes.now l.place c.next.new.self c.next.result c.next.ensures c.in-Ok-Some.tag y)

-- it lies within the bytes
within : (c : In-Ok-Some) → c.in-Ok-Some.tag.start + c.in-Ok-Some.tag.len ≤ length c.args.self.now.bytes.now
within c = tag_fits c.args.self.now.bytes.now c.loop-tag.place c.next.new.self c.next.result c.next.ensures c.in-Ok-Some.tag (yielded c)

pub slice_bounds-put-count : goal.slice_bounds-put-count
slice_bounds-put-count c = omega (arith, within search)

pub slice_bounds-put-start : goal.slice_bounds-put-start
slice_bounds-put-start c = omega (arith, within search)

pub slice_bounds-put-end : goal.slice_bounds-put-end
slice_bounds-put-end c = omega (arith, within search)

pub slice_bounds-put-end-in-Ok-Some : goal.slice_bounds-put-end-in-Ok-Some
slice_bounds-put-end-in-Ok-Some c = cut_length _ _ _ (within search)

pub loop-tag-preserved : goal.loop-tag-preserved
unfolding tabs
loop-tag-preserved c =
    let s = c.args.self.now in
    let f = text_held (store_seen s.strings) in
    let l = c.loop-tag in
    let t = c.in-Ok-Some.tag in
    let y = yielded search in
    let on = turn_on s.bytes.now l.place c.next.new.self c.next.result c.next.ensures t y in
    let there = tag_there s.bytes.now l.place c.next.new.self c.next.result c.next.ensures t y in
    let more = tag_more s.bytes.now l.place c.next.new.self c.next.result c.next.ensures t y in
    rw on
    (stepped (tags_next f s.bytes.now l.place.offset l.place.remaining t more there) l.invariant
    (then_printed (rw c.text.ensures at c.put-in-Ok-Some.ensures) (rw (cut_part s.bytes.now t.start t.len) at c.put-in-Ok-Some-2.ensures)))

pub returns-in_default : goal.returns-in_default
unfolding tabs
returns-in_default c =
    let s = c.args.self.now in
    let l = c.loop-tag in
    let n : c.in_default.field-0 ≡ None = search rules in
    let a = turn_answers s.bytes.now l.place c.next.new.self c.next.result c.next.ensures in
    then_printed (rw c.from.ensures at c.put.ensures)
    (ended (tags_done (text_held (store_seen s.strings)) s.bytes.now l.place.offset l.place.remaining (sym (c.in_default.is ∙ ap Ok n) ∙ a)) l.invariant)

pub returns-in_default-2 : goal.returns-in_default-2
unfolding tabs
returns-in_default-2 c =
    let s = c.args.self.now in
    let l = c.loop-tag in
    let a = turn_answers s.bytes.now l.place c.next.new.self c.next.result c.next.ensures in
    then_printed (rw c.from.ensures at c.put.ensures)
    (ended (tags_stop (text_held (store_seen s.strings)) s.bytes.now _ l.place.offset l.place.remaining (sym c.in_default.is ∙ a)) l.invariant)
