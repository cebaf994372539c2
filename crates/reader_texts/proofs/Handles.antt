-- A text taken in, by its cases. Its handle is at most the number of held strings, so in sound storage it fits 32 bits.
use Rattle.std.specs.Prelude.{Err, None, Ok, Option, Result, Some}
use Prim.Native.Nat.{ℕ, zero, suc, ◌+◌, ◌≤◌, ◌<◌}
use mathlib.Core.Path.{◌≡◌, refl, sym, ◌∙◌}
use mathlib.Core.List.{List}
use native.Mathlib.Omega.{arith}
use Rattle.base.specs.Bytes.{Bytes}
use Rattle.base.proofs.Split.{by_bool, no}
use Rattle.refusal.specs.declared.Refusal.{Refusal}
use Rattle.refusal.specs.declared.Refusal.TheVariants as R
use Rattle.interner.specs.Interned as I
use Rattle.interner.specs.Strings.{Store, used_of, is_at, find_from, find_in, text_room, text_taken, intern}
use Rattle.interner.proofs.Finds.{find_none, find_here, find_on}
use Rattle.interner.proofs.Takes.{held, new, full}
use Rattle.overlay.specs.Overlay.{Overlay}
use Rattle.overlay_store.specs.Calls.{store_text}

-- ---- what `intern` does, by its cases

-- a handle that the search finds is one of those searched
found_below : (spans : List ℕ) (bytes t : Bytes) (n h k : ℕ) → find_from spans bytes t n h ≡ Some k → k < h + n
found_below spans bytes t zero h k e =
    let z : None ≡ Some k = sym (find_none spans bytes t h) ∙ e in
    let q : ◌≡◌ {A = ℕ} 0 1 = cc in
    no q
found_below spans bytes t (suc n) h k e =
    by_bool (is_at spans bytes t h)
    (λ p. let q : h ≡ k = at_inj (sym (find_here spans bytes t n h p) ∙ e) in omega arith)
    (λ p. let q = found_below spans bytes t n (suc h) k (sym (find_on spans bytes t n h p) ∙ e) in omega arith)
  where
    at_inj : {a b : ℕ} → Some a ≡ Some b → a ≡ b
    at_inj r = cc

module _ (s : Store) (t : Bytes) {C : Type 0} where
  pub by_intern : ((h : ℕ) → h < s.strings → intern s t ≡ record { store = s; answer = I.Held h } → C)
      → (intern s t ≡ text_taken s t → C)
      → (intern s t ≡ record { store = s; answer = I.Full } → C)
      → C
  unfolding find_in
  by_intern f g z = go (find_in s.spans (used_of s) s.strings t) refl
    where
      go : (x : Option ℕ) → find_in s.spans (used_of s) s.strings t ≡ x → C
      go (Some h) e = let b = found_below s.spans (used_of s) t s.strings 0 h e in f h (omega arith) (held s t h e)
      go None e = by_bool (text_room s t) (λ r. g (new s t e r)) (λ r. z (full s t e r))

-- ---- a text taken in

module _ (t : Bytes) (o : Overlay) where
  -- its handle is at most the number of held strings
  pub handle_few : (h : ℕ) → (store_text t o).answer ≡ Ok h → h ≤ o.texts.strings
  handle_few h e =
      by_intern o.texts t
      (λ k b i. let q : k ≡ h = is_inj (rw i at e) in omega arith)
      (λ i. let q : o.texts.strings ≡ h = is_inj (rw i at e) in omega arith)
      (λ i. let q : Err R.StringsFull ≡ Ok h = rw i at e in let z : ◌≡◌ {A = ℕ} 0 1 = cc in no z)
    where
      is_inj : {a b : ℕ} → ◌≡◌ {A = Result ℕ Refusal} (Ok a) (Ok b) → a ≡ b
      is_inj r = cc

  -- a refused one changes nothing
  pub text_kept : (r : Refusal) → (store_text t o).answer ≡ Err r → (store_text t o).overlay ≡ o
  text_kept r e =
      by_intern o.texts t
      (λ k b i. rw i)
      (λ i. let q : Ok o.texts.strings ≡ Err r = rw i at e in let z : ◌≡◌ {A = ℕ} 0 1 = cc in no z)
      (λ i. rw i)
