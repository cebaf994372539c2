-- The first byte of a run that passes a test, found by the bits of blocks.
use Rattle.std.proofs.Common.{◌≡◌, ℕ, suc, ◌+◌, ◌%◌, ◌^◌, ◌-◌, ◌<◌, ◌≤◌, Bool, true, false, not, cond, eqb, leb, List, [], ◌∷◌, map, length, get_or, take, drop, replicate, refl, sym, ap, ◌∙◌, inl, inr, arith, ltb, bit_and, bit_or}
use Rattle.std.specs.List.{position_or_len}
use Rattle.std.specs.Simd.Lanes.{zip2, mask_l, top}
use Rattle.std.proofs.lemmas.Bool.{cases_lt}
use Rattle.std.proofs.lemmas.List.{length-map}
use Rattle.std.proofs.lemmas.Simd.{first_set_mask_l, mask_l-mod, get_or-chunk, length-chunk}
use Rattle.std.proofs.lemmas.List.Sums.{position_or_len_is, fails_before_first, passes_at_first, prefix_len-le-length}
use lib.Count.{count_trailing_zeros}
use borrow.Author.Tests.{eqb-true, eqb-false, eq-eqb, ne_eqb, lt-ltb, le-ltb, le-leb, lt-leb}
use Rattle.base.specs.Bytes.{Bytes, both, either, all}
use Rattle.base.proofs.Split.{by_bool, by_lt, by_eq}
use Rattle.text.specs.Char.{from_to}
use Rattle.text.specs.Check.{is_plain}

-- ---- a block by its bits

module _ (p : ℕ → Bool) (xs : Bytes) (n bits : ℕ) (long : length xs ≡ n) (small : n ≤ 64) (e : bits ≡ mask_l (map p xs)) where
  pub none_set : bits ≡ 0 → n ≡ position_or_len p xs
  none_set z =
      sym (ap (λ b. cond b n (count_trailing_zeros 64 (mask_l (map p xs)))) (eq-eqb (mask_l (map p xs)) 0 (sym e ∙ z))) ∙ first_set_mask_l p xs n long small

  pub lowest_set : (bits ≡ 0 → ⊥) → count_trailing_zeros 64 bits ≡ position_or_len p xs
  lowest_set z =
      ap (count_trailing_zeros 64) e
      ∙ sym (ap (λ b. cond b n (count_trailing_zeros 64 (mask_l (map p xs)))) (ne_eqb (mask_l (map p xs)) 0 (λ m. z (e ∙ m))))
      ∙ first_set_mask_l p xs n long small

-- ---- blocks one after another

-- no byte before a place passes
abbrev pub NoneBefore : (ℕ → Bool) → Bytes → ℕ → Type 0
NoneBefore p s i = (k : ℕ) → k < i → p (get_or s k 0) ≡ false

module _ (p : ℕ → Bool) (s : Bytes) (i n m : ℕ) (fits : i + n ≤ length s) (e : m ≡ position_or_len p (take n (drop i s))) where
  pub within_block : m ≤ n
  within_block = omega (arith, e, prefix_len-le-length (λ x. not (p x)) (take n (drop i s)), length-chunk i n s fits)

  pub none_so_far : NoneBefore p s i → NoneBefore p s (i + m)
  none_so_far before k h =
      elim (cases_lt k i) [
        | inl l ↦ before k l
        | inr g ↦
            let j : ℕ = k - i in
            let f = fails_before_first p (take n (drop i s)) j 0 (omega (arith, e)) in
            let c = get_or-chunk i n s j 0 (omega (arith, within_block)) in
            let there : i + j ≡ k = omega arith in
            sym (ap p (c ∙ ap (λ h. get_or s h 0) there)) ∙ f
      ]

  pub passes_there : m < n → p (get_or s (i + m) 0) ≡ true
  passes_there h =
      let x = passes_at_first p (take n (drop i s)) 0 (omega (arith, e, length-chunk i n s fits)) in
      let c = get_or-chunk i n s m 0 h in
      sym (ap p c) ∙ ap (λ h. p (get_or (take n (drop i s)) h 0)) e ∙ x

  pub found : NoneBefore p s i → m < n → i + m ≡ position_or_len p s
  found before h =
      sym (position_or_len_is p s (i + m) 0 (omega (arith, within_block)) (none_so_far before) (λ l. passes_there h))

  -- in the last block
  pub found_last : NoneBefore p s i → i + n ≡ length s → i + m ≡ position_or_len p s
  found_last before last =
      sym (position_or_len_is p s (i + m) 0 (omega (arith, within_block)) (none_so_far before) (λ l. passes_there (omega arith)))

-- ---- a byte that is not plain

-- a mask's lane
abbrev pub lane : Bool → ℕ
lane t = cond t 255 0

-- the lanes of a block: a byte is no tab, and it is below the blank or above the tilde
abbrev pub outside_lanes : ℕ → Bytes → List ℕ
outside_lanes n xs =
    zip2 bit_and (zip2 (λ a b. lane (not (eqb a b))) xs (replicate n 9))
    (zip2 bit_or (zip2 (λ a b. lane (ltb a b)) xs (replicate n 32)) (zip2 (λ a b. lane (ltb a b)) (replicate n 126) xs))

lane_told : (t u w : Bool) → top 7 (bit_and (lane (not t)) (bit_or (lane u) (lane w))) ≡ not (either t (both (not u) (not w)))
unfolding either both
lane_told true true true = refl
lane_told true true false = refl
lane_told true false true = refl
lane_told true false false = refl
lane_told false true true = refl
lane_told false true false = refl
lane_told false false true = refl
lane_told false false false = refl

no_less : (a b : ℕ) → leb a b ≡ not (ltb b a)
no_less a b = by_lt b a (λ l. lt-leb a b l ∙ sym (ap not (lt-ltb b a l))) (λ g. le-leb a b g ∙ sym (ap not (le-ltb b a g)))

outside_lane : (x : ℕ) → top 7 (bit_and (lane (not (eqb x 9))) (bit_or (lane (ltb x 32)) (lane (ltb 126 x)))) ≡ not (is_plain x)
unfolding is_plain from_to
outside_lane x = rw (no_less 32 x, no_less x 126) (lane_told (eqb x 9) (ltb x 32) (ltb 126 x))

outside_tops : (xs : Bytes) → map (top 7) (outside_lanes (length xs) xs) ≡ map (λ b. not (is_plain b)) xs
outside_tops [] = refl
outside_tops (x ∷ xs) =
    ap (λ t. t ∷ map (top 7) (outside_lanes (length xs) xs)) (outside_lane x) ∙ ap (λ ts. not (is_plain x) ∷ ts) (outside_tops xs)

pub outside_bits : (xs : Bytes) (n : ℕ) → length xs ≡ n → n ≤ 64 → mask_l (map (top 7) (outside_lanes n xs)) % 2 ^ 64 ≡ mask_l (map (λ b. not (is_plain b)) xs)
outside_bits xs n long small =
    ap (λ m. mask_l (map (top 7) (outside_lanes m xs)) % 2 ^ 64) (sym long)
    ∙ ap (λ ts. mask_l ts % 2 ^ 64) (outside_tops xs)
    ∙ mask_l-mod (map (λ b. not (is_plain b)) xs) 64 (omega (arith, length-map xs (λ b. not (is_plain b)), long, small))

-- ---- all bytes of a run

same_next : (m n : ℕ) → eqb (1 + m) (suc n) ≡ eqb m n
same_next m n = by_eq m n (λ e. eq-eqb (1 + m) (suc n) (omega (arith, e)) ∙ sym (eq-eqb m n e)) (λ d. ne_eqb (1 + m) (suc n) (λ e. d (omega (arith, e))) ∙ sym (ne_eqb m n d))

-- all pass where none is found that does not
pub all_told : (p : ℕ → Bool) (s : Bytes) → eqb (position_or_len (λ b. not (p b)) s) (length s) ≡ all p s
unfolding all both
all_told p [] = refl
all_told p (b ∷ s) =
    by_bool (p b)
    (λ t. rw t (same_next (position_or_len (λ b. not (p b)) s) (length s) ∙ all_told p s))
    (λ f. rw f (ne_eqb 0 (suc (length s)) (λ e. omega (arith, e))))

-- ---- where one is found, and where none is

module _ (c : ℕ) (s : Bytes) (i : ℕ) (e : i ≡ position_or_len (λ b. eqb b c) s) where
  pub first_found : i < length s → (get_or s i 0 ≡ c) × ((k : ℕ) → k < i → get_or s k 0 ≡ c → ⊥)
  first_found h = (
    eqb-true _ _ (ap (λ n. eqb (get_or s n 0) c) e ∙ passes_at_first (λ b. eqb b c) s 0 (omega (arith, e, h))),
    λ k l x. eqb-false _ _ (fails_before_first (λ b. eqb b c) s k 0 (omega (arith, e, l))) x,
  )

  pub none_found : length s ≤ i → (k : ℕ) → k < length s → get_or s k 0 ≡ c → ⊥
  none_found h k l x = eqb-false _ _ (fails_before_first (λ b. eqb b c) s k 0 (omega (arith, e, h, l))) x
