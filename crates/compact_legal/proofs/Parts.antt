-- A member and a tag at an offset, test by test.
use Rattle.std.specs.Prelude.{None, Option, Some}
use Prim.Native.Nat.{ℕ, zero, suc, ◌+◌, ◌-◌, ◌<◌, ◌≤◌}
use mathlib.Core.Path.{◌≡◌, refl, sym, ◌∙◌}
use mathlib.Core.Bool.{true, cond}
use native.Mathlib.Omega.{arith}
use lib.Dec.{ltb}
use lib.IntN.{ℤ}
use lib.ListN.{length, take, drop}
use mir.Syntax.{w64}
use mir.Val.{to_z}
use borrow.Author.Tests.{le-ltb}
use Rattle.base.specs.Bytes.{Bytes, both}
use Rattle.base.proofs.Split.{by_le, no}
use Rattle.little.specs.Little.{value_at}
use Rattle.kind.specs.Kind.{of_number}
use Rattle.model.specs.Record.{Member, Tag}
use Rattle.compact.specs.Cut.{Cut, found, cut_tag}
use Rattle.compact.specs.Held.{member_named}
use Rattle.compact.specs.Legal.{handle}
use Rattle.compact_legal.specs.Judge.{end_of, member_end, tag_end}
use Rattle.compact.proofs.Places.{leaving, member_sized, tag_short, tag_long, tag_whole}
use Rattle.compact_legal.proofs.Ends.{end_none, end_found}

-- what the end of a tag tells
pub record Tagged (s : Bytes) (at e : ℕ) : Type 0 where
  pub room : at + 8 ≤ e
  pub to : e ≤ length s
  pub cut : cut_tag (drop at s) ≡ found (record { key = value_at 4 s at; value = take (e - (at + 8)) (drop (at + 8) s) }) (drop e s)

module _ (strings : ℕ) (s : Bytes) (at : ℕ) (within : at ≤ length s) where
  -- ---- members

  pub member_bad : length s < at + 13 → None ≡ member_end strings s at
  unfolding member_end
  member_bad h = rw (member_sized.short s at within h) (sym (end_none _ (length s)))

  type_and_role : (ref : ℤ) (n role e : ℕ) → e ≤ length s
      → end_of (λ m. handle strings m.role) (length s) (leaving (member_named ref (of_number n) role) (drop e s)) ≡ cond (both (ltb n 3) (ltb role strings)) (Some e) None
  unfolding of_number both
  type_and_role ref zero role e h = end_found (λ (m : Member ℕ). handle strings m.role) s _ e h
  type_and_role ref (suc zero) role e h = end_found (λ (m : Member ℕ). handle strings m.role) s _ e h
  type_and_role ref (suc (suc zero)) role e h = end_found (λ (m : Member ℕ). handle strings m.role) s _ e h
  type_and_role ref (suc (suc (suc n))) role e h = rw (le-ltb (suc (suc (suc n))) 3 (omega arith)) (end_none (λ (m : Member ℕ). handle strings m.role) (length s))

  pub member_is : at + 13 ≤ length s → member_end strings s at ≡ cond (both (ltb (value_at 1 s (at + 8)) 3) (ltb (value_at 4 s (at + 9)) strings)) (Some (at + 13)) None
  unfolding member_end
  member_is h =
      let e : at + 8 + 1 ≡ at + 9 = omega arith in
      rw (member_sized.whole s at h, e) (type_and_role (to_z w64 (value_at 8 s at)) (value_at 1 s (at + 8)) (value_at 4 s (at + 9)) (at + 13) h)

  -- ---- tags

  pub tag_bad_short : length s < at + 8 → None ≡ tag_end s at
  unfolding tag_end
  tag_bad_short h = rw (tag_short s at h) (sym (end_none _ (length s)))

  module _ (room : at + 8 ≤ length s) (n : ℕ) (len : n ≡ value_at 4 s (at + 4)) where
    pub tag_bad_long : length s < at + 8 + n → None ≡ tag_end s at
    unfolding tag_end
    tag_bad_long h = rw (tag_long s at room n len h) (sym (end_none _ (length s)))

    pub tag_good : at + 8 + n ≤ length s → Some (at + 8 + n) ≡ tag_end s at
    unfolding tag_end
    tag_good h = rw (tag_whole s at room n len h) (sym (end_found (λ (t : Tag ℕ). true) s _ (at + 8 + n) h))

  pub tagged : (e : ℕ) → tag_end s at ≡ Some e → Tagged s at e
  tagged e h =
      let n = value_at 4 s (at + 4) in
      by_le (at + 8) (length s)
      (λ k. by_le (at + 8 + n) (length s)
      (λ l. let x : Some (at + 8 + n) ≡ Some e = tag_good k n refl l ∙ h in
      let y : at + 8 + n ≡ e = cc in
      let z : at + 8 + n - (at + 8) ≡ n = omega arith in
      record { room = omega arith; to = omega arith; cut = rw (← y, z) (tag_whole s at k n refl l) })
      (λ l. let x : None ≡ Some e = tag_bad_long k n refl l ∙ h in no cc))
      (λ k. let x : None ≡ Some e = tag_bad_short k ∙ h in no cc)

  -- a tag that is no tag is none whatever is asked of it
  pub tag_none : None ≡ tag_end s at → cut_tag (drop at s) ≡ None
  unfolding tag_end end_of
  tag_none h = go (cut_tag (drop at s)) refl h
    where
      go : (o : Option (Cut (Tag ℕ))) → cut_tag (drop at s) ≡ o → None ≡ end_of (λ (t : Tag ℕ). true) (length s) o → cut_tag (drop at s) ≡ None
      go None e t = e
      go (Some c) e t = no cc
