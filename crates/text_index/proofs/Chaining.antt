-- A search by a chain: the handles that it has passed do not have the text.
use Prim.Native.Nat.{ℕ, zero, suc, ◌+◌, ◌-◌, ◌≤◌, ◌<◌}
use mathlib.Core.Path.{◌≡◌, ◌∙◌, ap}
use mathlib.Core.Bool.{true, false}
use mathlib.Core.List.{List, []}
use native.Mathlib.Nat.{zero-add}
use native.Mathlib.Omega.{arith}
use lib.ListN.{length, length-map}
use Rattle.std.specs.Prelude.{Some, None}
use Rattle.base.specs.Bytes.{Bytes}
use Rattle.base.proofs.Split.{by_bool, by_eq, both_right, clash}
use Rattle.base.proofs.Lists.{same_yes}
use Rattle.interner.specs.Texts.{text_of}
use Rattle.interner.specs.Strings.{bytes_at, is_at, find_from, find_in}
use Rattle.interner.specs.Sound.{handles, texts_in, sound_up_to}
use Rattle.interner.proofs.Finds.{find_here, find_on}
use Rattle.interner.proofs.Handles.{length_handles, made_at}
use Rattle.interner.proofs.Checks.{upto_parts}
use Rattle.text_index.specs.Index.{bucket_of}
use Rattle.text_index.specs.Chained.{FoundBelow}

module _ (spans : List ℕ) (bytes : Bytes) where
  pub length_in : (n : ℕ) → length (texts_in spans bytes n) ≡ n
  unfolding texts_in
  length_in n = length-map (handles n 0) (bytes_at spans bytes) ∙ length_handles n 0

  pub text_in : (n h : ℕ) → h < n → text_of (texts_in spans bytes n) h ≡ bytes_at spans bytes h
  unfolding texts_in
  text_in n h g = rw zero-add at (made_at (bytes_at spans bytes) [] n 0 h g)

  module _ (t : Bytes) where
    -- a handle that has the text
    pub at_same : (h : ℕ) → is_at spans bytes t h ≡ true → t ≡ bytes_at spans bytes h
    unfolding is_at
    at_same h e = same_yes t (bytes_at spans bytes h) (both_right _ _ e)

    pub at_not : (h : ℕ) → (t ≡ bytes_at spans bytes h → ⊥) → is_at spans bytes t h ≡ false
    at_not h f = by_bool (is_at spans bytes t h) (λ e. absurd (f (at_same h e))) (λ e. e)

    -- ---- what is found one by one

    find_at : (n h k : ℕ) → h ≤ k → k < h + n → is_at spans bytes t k ≡ true → ((j : ℕ) → h ≤ j → j < k → is_at spans bytes t j ≡ false) → find_from spans bytes t n h ≡ Some k
    find_at zero h k a b e f = absurd (omega arith)
    find_at (suc n) h k a b e f =
        by_eq h k
        (λ q. rw q (find_here spans bytes t n k e))
        (λ q. find_on spans bytes t n h (f h (omega arith) (omega arith)) ∙ find_at n (suc h) k (omega arith) (omega arith) e (λ j c d. f j (omega arith) d))

    find_skip : (m n h k : ℕ) → k ≡ h + m → ((j : ℕ) → h ≤ j → j < k → is_at spans bytes t j ≡ false) → find_from spans bytes t (m + n) h ≡ find_from spans bytes t n k
    find_skip zero n h k e f = let q : k ≡ h = omega arith in rw (zero-add, q)
    find_skip (suc m) n h k e f =
        let q : suc m + n ≡ suc (m + n) = omega arith in
        rw q (find_on spans bytes t (m + n) h (f h (omega arith) (omega arith)) ∙ find_skip m n (suc h) k (omega arith) (λ j c d. f j (omega arith) d))

    -- a text has one handle
    pub found_chained : (n count h : ℕ) → n ≤ count → sound_up_to spans bytes count ≡ true → FoundBelow spans bytes t n (Some h) → find_in spans bytes count t ≡ Some h
    unfolding find_in is_at
    found_chained n count h b g d =
        let u = upto_parts spans bytes count g in
        find_at count 0 h (omega arith) (omega (arith, d.0)) d.1
        (λ j a e. at_not j (λ q. clash (both_right _ _ d.1) (let z = u.differ j h e (omega (arith, d.0)) in rw (← q) at z)))

    pub found_rest : (n count : ℕ) → n ≤ count → FoundBelow spans bytes t n None → find_in spans bytes count t ≡ find_from spans bytes t (count - n) n
    unfolding find_in
    found_rest n count b d =
        let e : count ≡ n + (count - n) = omega arith in
        ap (λ k. find_from spans bytes t k 0) e ∙ find_skip n (count - n) 0 n (omega arith) (λ j a h. d j h)

-- ---- the chain

-- what is left of the chain: no handle from c to n has the text, and c is in its bucket
pub record ChainLeft (spans : List ℕ) (bytes t : Bytes) (n c : ℕ) : Type 0 where
  pub passed : (h : ℕ) → c ≤ h → h < n → is_at spans bytes t h ≡ false
  pub bucket : 0 < c → bucket_of (bytes_at spans bytes (c - 1)) ≡ bucket_of t
