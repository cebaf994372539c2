-- Where parts end: one part at an offset, and so many of them.
use Rattle.std.specs.Prelude.{None, Option, Some}
use Prim.Native.Nat.{ℕ, zero, suc, ◌+◌, ◌-◌, ◌<◌, ◌≤◌}
use mathlib.Core.Path.{◌≡◌, refl, sym, ◌∙◌, ap}
use mathlib.Core.Bool.{Bool, true, false, cond}
use mathlib.Core.List.{List, [], ◌∷◌}
use native.Mathlib.Omega.{arith}
use lib.ListN.{length, drop, length-drop}
use Rattle.base.specs.Bytes.{Bytes, both, all}
use Rattle.base.proofs.Split.{by_bool, no}
use Rattle.compact.specs.Cut.{Cut, then_cut, found, times, cut_member}
use Rattle.compact_legal.specs.Judge.{end_of, member_end, members_end}
use Rattle.compact.proofs.Places.{Off, off_end, member_off}

-- what an end tells: what was cut off, that it passes, and where the rest begins
pub record Ends {A : Type 0} (p : A → Bool) (s : Bytes) (at : ℕ) (o : Option (Cut A)) (e : ℕ) : Type 0 where
  pub item : A
  pub cut : o ≡ found item (drop e s)
  pub passes : p item ≡ true
  pub from : at ≤ e
  pub to : e ≤ length s

module _ {A : Type 0} (p : A → Bool) (s : Bytes) (at : ℕ) (long : A → ℕ) (within : at ≤ length s) where
  pub ends_at : (o : Option (Cut A)) (e : ℕ) → ((c : Cut A) → o ≡ Some c → Off (drop at s) (long c.item) c.rest) → end_of p (length s) o ≡ Some e → Ends p s at o e
  unfolding end_of
  ends_at None e off h = no cc
  ends_at (Some c) e off h =
      by_bool (p c.item)
      (λ t. let w : Some (length s - length c.rest) ≡ Some e = rw t at h in
      let x : length s - length c.rest ≡ e = cc in
      let y = off_end s at within (off c refl) in
      let z : at + long c.item ≡ e = omega (arith, y.1.1) in
      let r : c.rest ≡ drop e s = y.0 ∙ ap (λ n. drop n s) z in
      record { item = c.item; cut = rw (← r); passes = t; from = omega arith; to = omega (arith, y.1.0) })
      (λ t. let w : None ≡ Some e = rw t at h in no cc)

pub end_found : {A : Type 0} (p : A → Bool) (s : Bytes) (a : A) (e : ℕ) → e ≤ length s → end_of p (length s) (found a (drop e s)) ≡ cond (p a) (Some e) None
unfolding end_of
end_found p s a e h = let l : length s - length (drop e s) ≡ e = omega (arith, length-drop e s) in rw l

pub end_none : {A : Type 0} (p : A → Bool) (len : ℕ) → end_of p len None ≡ None
unfolding end_of
end_none p len = refl

pub end_some : {A : Type 0} (p : A → Bool) (len : ℕ) (c : Cut A) → end_of p len (Some c) ≡ cond (p c.item) (Some (len - length c.rest)) None
unfolding end_of
end_some p len c = refl

-- ---- so many

module _ {A : Type 0} (cut : Bytes → Option (Cut A)) (p : A → Bool) (long : A → ℕ) (off : (s : Bytes) (c : Cut A) → cut s ≡ Some c → Off s (long c.item) c.rest)
    (s : Bytes) where
  abbrev one : ℕ → Option ℕ
  one at = end_of p (length s) (cut (drop at s))

  abbrev many : ℕ → ℕ → Option ℕ
  many n at = end_of (all p) (length s) (times cut n (drop at s))

  -- a first element that passes changes nothing, and one that fails spoils all
  more : (a : A) (o : Option (Cut (List A))) → p a ≡ true → end_of (all p) (length s) (then_cut o (λ xs q. found (a ∷ xs) q)) ≡ end_of (all p) (length s) o
  unfolding end_of then_cut all both
  more a None t = refl
  more a (Some c) t = rw t

  fails : (a : A) (o : Option (Cut (List A))) → p a ≡ false → end_of (all p) (length s) (then_cut o (λ xs q. found (a ∷ xs) q)) ≡ None
  unfolding end_of then_cut all both
  fails a None t = refl
  fails a (Some c) t = rw t

  many_none : (at : ℕ) → at ≤ length s → many 0 at ≡ Some at
  unfolding times all
  many_none at h = end_found (all p) s [] at h

  many_bad : (n at : ℕ) → one at ≡ None → many (suc n) at ≡ None
  unfolding times then_cut
  many_bad n at h = go (cut (drop at s)) h
    where
      go : (o : Option (Cut A)) → end_of p (length s) o ≡ None → end_of (all p) (length s) (then_cut o (λ a r. then_cut (times cut n r) (λ xs q. found (a ∷ xs) q))) ≡ None
      go None t = end_none (all p) (length s)
      go (Some c) t =
          by_bool (p c.item)
          (λ y. let z : Some (length s - length c.rest) ≡ None = rw y at (sym (end_some p (length s) c) ∙ t) in no cc)
          (λ y. fails c.item (times cut n c.rest) y)

  many_at : (n at e : ℕ) → at ≤ length s → one at ≡ Some e → (many (suc n) at ≡ many n e) × ((at ≤ e) × (e ≤ length s))
  unfolding times then_cut
  many_at n at e h t =
      let x = ends_at p s at long h (cut (drop at s)) e (off (drop at s)) t in
      (rw x.cut (more x.item (times cut n (drop e s)) x.passes), (x.from, x.to))

-- ---- members

module _ (strings : ℕ) (s : Bytes) where
  pub members_none : (at : ℕ) → at ≤ length s → members_end strings 0 s at ≡ Some at
  unfolding members_end
  members_none at h = many_none cut_member _ (λ m. 13) member_off s at h

  pub members_bad : (n at : ℕ) → 0 < n → member_end strings s at ≡ None → members_end strings n s at ≡ None
  unfolding member_end members_end
  members_bad zero at l h = absurd (omega arith)
  members_bad (suc n) at l h = many_bad cut_member _ (λ m. 13) member_off s n at h

  pub members_at : (n at e : ℕ) → 0 < n → at ≤ length s → member_end strings s at ≡ Some e
      → (members_end strings n s at ≡ members_end strings (n - 1) s e) × ((at ≤ e) × (e ≤ length s))
  unfolding member_end members_end
  members_at zero at e k l h = absurd (omega arith)
  members_at (suc n) at e k l h = let q : suc n - 1 ≡ n = omega arith in rw q (many_at cut_member _ (λ m. 13) member_off s n at e l h)
