-- A walk over a record's tags: where it begins, that a tag which is yielded ends within the bytes, and that the walk stays where it was when none is.
use Rattle.std.specs.Prelude.{Err, None, Ok, Option, Some}
use Prim.Native.Nat.{ℕ, ◌+◌, ◌-◌, ◌≤◌, ◌<◌}
use mathlib.Core.Path.{◌≡◌, refl, sym, ap, ◌∙◌}
use mathlib.Core.Bool.{Bool, cond}
use native.Mathlib.Omega.{arith}
use lib.ListN.{length, drop, length-drop}
use Rattle.base.specs.Bytes.{Bytes}
use Rattle.base.proofs.Split.{by_eq, by_le, by_bool, no}
use Rattle.text.specs.Check.{is_text}
use Rattle.kind.specs.declared.Kind.{Kind}
use Rattle.model.specs.Record.{Tag}
use Rattle.refusal.specs.declared.Refusal.{Refusal}
use Rattle.refusal.specs.declared.Refusal.TheVariants.{Unsound}
use Rattle.compact.specs.declared.TagPart.{TagPart}
use Rattle.compact.specs.declared.TagPlace.{TagPlace}
use Rattle.compact.specs.declared.CompactTagIter.{CompactTagIter}
use Rattle.compact.specs.Layout.{Head, head_len}
use Rattle.compact.specs.Cut.{Cut, found}
use Rattle.compact.specs.View.{TagStep, head_at, tags_at, cut_text, tag_step, read_as}
use Rattle.compact.specs.Tags.{tag_place, turn_by, tag_turn, tag_next}
use Rattle.compact.proofs.Format.{first, of_cut}
use Rattle.compact.proofs.Places.{Off, tag_off, off_length, head_whole, head_short}
use Rattle.compact.proofs.Steps.{step_done, step_none, step_some, tag_past}

-- ---- where a walk begins

module _ (k : Kind) (s : Bytes) where
  pub place_short : length s < head_len k → record { offset = length s; remaining = 1 } ≡ tag_place k s
  unfolding tag_place
  place_short h = rw (head_short k s h)

  pub place_whole : head_len k ≤ length s → record { offset = tags_at k (head_at k s).count; remaining = (head_at k s).tags } ≡ tag_place k s
  unfolding tag_place
  place_whole h = rw (head_whole k s h)

  -- the same by what a user reads of the head
  module _ {A : Type 0} (saying : Head → A) where
    pub place_read : (a : A) (h : Head) → Ok a ≡ read_as saying k s → h ≡ head_at k s → record { offset = tags_at k h.count; remaining = h.tags } ≡ tag_place k s
    place_read a h e q =
        by_le (head_len k) (length s) (λ l. rw q (place_whole l)) (λ l. let z : Ok a ≡ Err Unsound = rw (head_short k s l) at e in no cc)

    pub place_refused : (r : Refusal) → Err r ≡ read_as saying k s → record { offset = length s; remaining = 1 } ≡ tag_place k s
    place_refused r e =
        by_le (head_len k) (length s) (λ l. let z : Err r ≡ Ok (saying (head_at k s)) = rw (head_whole k s l) at e in no cc) (λ l. place_short l)

  -- a head that is cut short: the first step answers 22
  pub short_22 : length s < head_len k → tag_step s (tag_place k s).offset (tag_place k s).remaining ≡ Err Unsound
  short_22 h = rw (← place_short h) (sym (tag_past s (length s) 1 (λ e. no (omega arith)) (omega arith)))

-- ---- a tag that is yielded

-- it ends within the bytes, and one was remaining
pub record Left (s : Bytes) (remaining start len : ℕ) : Type 0 where
  pub fits : start + len ≤ length s
  pub more : 1 ≤ remaining

text_off : (s : Bytes) (c : Cut (Tag ℕ)) → cut_text s ≡ Some c → Off s (8 + length c.item.value) c.rest
unfolding cut_text
text_off s c h =
    first (λ t r. Off s (8 + length t.value) r) (tag_off s) h (λ t r o e. by_bool (is_text t.value)
    (λ b. of_cut (λ t r. Off s (8 + length t.value) r) (ap (λ (x : Bool). cond x (found t r) None) (sym b) ∙ e) o)
    (λ b. let f : None ≡ Some c = ap (λ (x : Bool). cond x (found t r) None) (sym b) ∙ e in no cc))

module _ (s : Bytes) (offset remaining : ℕ) (t : TagPart) where
  pub tag_left : tag_step s offset remaining ≡ Ok (Some t) → Left s remaining t.start t.len
  unfolding tag_step
  tag_left e = by_eq remaining 0 (λ z. let f : ◌≡◌ {A = TagStep} (Ok None) (Ok (Some t)) = sym (step_done _ _ _ _ s offset remaining z) ∙ e in no cc) (λ z. go z (cut_text (drop offset s)) refl)
    where
      go : (remaining ≡ 0 → ⊥) → (o : Option (Cut (Tag ℕ))) → cut_text (drop offset s) ≡ o → Left s remaining t.start t.len
      go z None q = let f : ◌≡◌ {A = TagStep} (Err Unsound) (Ok (Some t)) = sym (step_none _ _ _ _ s offset remaining z q) ∙ e in no cc
      go z (Some c) q =
          let w = text_off (drop offset s) c q in
          let n = length c.item.value in
          let f : ◌≡◌ {A = TagStep} (Ok (Some (record { key = c.item.key; start = length s - length c.rest - n; len = n }))) (Ok (Some t)) = sym (step_some _ _ _ _ s offset remaining z c.item c.rest q) ∙ e in
          let a : length s - length c.rest - n ≡ t.start = cc in
          let b : n ≡ t.len = cc in
          let l = off_length w in
          let g = w.fits in
          let d = length-drop offset s in
          record { fits = omega arith; more = omega (arith, z) }

-- ---- where a step leaves a walk

-- the step is the one that was taken
turn_step : (t : TagStep) (p : TagPlace) → (turn_by t p).step ≡ t
unfolding turn_by
turn_step (Ok None) p = refl
turn_step (Err r) p = refl
turn_step (Ok (Some t)) p = refl

-- where it yields no tag, the walk stays where it was
pub turn_stays : (t : TagStep) (p : TagPlace) → ((x : TagPart) → t ≡ Ok (Some x) → ⊥) → turn_by t p ≡ record { step = t; place = p }
unfolding turn_by
turn_stays (Ok None) p none_there = refl
turn_stays (Err r) p none_there = refl
turn_stays (Ok (Some x)) p none_there = absurd (none_there x refl)

module _ (it : CompactTagIter) where
  abbrev taken : TagStep
  taken = tag_step it.bytes.now it.offset it.remaining

  -- `next` answers the step at its place
  pub next_step : (tag_next it).step ≡ taken
  unfolding tag_next tag_turn
  next_step = turn_step taken (record { offset = it.offset; remaining = it.remaining })

  next_stays : ((p : TagPart) → taken ≡ Ok (Some p) → ⊥) → (tag_next it).iter ≡ it
  unfolding tag_next tag_turn
  next_stays none_there = rw (turn_stays taken (record { offset = it.offset; remaining = it.remaining }) none_there)

  -- on 22, and where no tag remains, the iterator is unchanged
  pub next_22 : taken ≡ Err Unsound → (tag_next it).iter ≡ it
  next_22 e = next_stays (λ p f. let g : ◌≡◌ {A = TagStep} (Err Unsound) (Ok (Some p)) = sym e ∙ f in no cc)

  pub next_done : taken ≡ Ok None → (tag_next it).iter ≡ it
  next_done e = next_stays (λ p f. let g : ◌≡◌ {A = TagStep} (Ok None) (Ok (Some p)) = sym e ∙ f in no cc)

  -- a tag that is yielded is passed by: the iterator goes on behind its value
  pub next_tag : (p : TagPart) → taken ≡ Ok (Some p) → (tag_next it).iter ≡ record { bytes = it.bytes; offset = p.start + p.len; remaining = it.remaining - 1 }
  unfolding tag_next tag_turn turn_by
  next_tag p e = rw e
