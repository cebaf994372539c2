-- The bytes of the handle's span, or none.
use mathlib.Core.Path.{sym, ◌∙◌}
use native.Mathlib.Omega.{arith}
use Prim.Native.Nat.{◌+◌, ◌≤◌}
use lib.ListN.{length}
use Rattle.interner.specs.Strings.{used_of}
use Rattle.interner.specs.Lent.{store_seen}
use Rattle.listing_fields.proofs.Walks.{cut_part, cut_length, text_within, text_found, text_missing}
use Rattle.listing_fields.proofs.HeldRecord.text.Goals.{In-Some}
use Rattle.listing_fields.proofs.HeldRecord.text.Goals as goal

-- the span lies within the bytes in use
within : (c : In-Some) → c.in-Some.span.start + c.in-Some.span.len ≤ length c.texts-texts.result.bytes.now
within c =
    let s = store_seen c.args.self.now.strings in
    rw c.texts-texts.ensures.bytes (text_within s c.args.handle c.in-Some.span (sym c.in-Some.is ∙ rw c.from.ensures at c.resolve.ensures))

pub slice_bounds-result-count : goal.slice_bounds-result-count
slice_bounds-result-count c = omega (arith, within search)

pub slice_bounds-result-start : goal.slice_bounds-result-start
slice_bounds-result-start c = omega (arith, within search)

pub slice_bounds-result-end : goal.slice_bounds-result-end
slice_bounds-result-end c = omega (arith, within search)

pub slice_bounds-result-end-in-Some : goal.slice_bounds-result-end-in-Some
slice_bounds-result-end-in-Some c = cut_length _ _ _ (within search)

pub returns-in-Some : goal.returns-in-Some
returns-in-Some c =
    let s = store_seen c.args.self.now.strings in
    let p = c.in-Some.span in
    rw (c.texts-texts.ensures.bytes, cut_part (used_of s) p.start p.len) (text_found s c.args.handle p (sym c.in-Some.is ∙ rw c.from.ensures at c.resolve.ensures))

pub returns-in-None : goal.returns-in-None
returns-in-None c = text_missing (store_seen c.args.self.now.strings) c.args.handle (sym c.in-None.is ∙ rw c.from.ensures at c.resolve.ensures)
