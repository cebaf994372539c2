-- Texts end to end: those that a caller joins are read back, and what fits is texts that were joined.
use Prim.Native.Nat.{ℕ, suc, ◌+◌, ◌≤◌, ◌<◌, min}
use mathlib.Core.Path.{◌≡◌, refl, sym, ◌∙◌, ap}
use mathlib.Core.Bool.{true, false}
use mathlib.Core.List.{List, [], ◌∷◌, map, flatten}
use native.Mathlib.Omega.{arith}
use borrow.Author.Tests.{eq-eqb, eqb-true, ne_eqb}
use lib.Dec.{eqb}
use lib.ListN.{length, get_or, take, drop, length-append, length-drop, take-append-drop, drop_of_length-le}
use lib.Seq.{take_all, drop-length, take-length, length-take-le, take-append_seam, drop-append_seam}
use Rattle.std.specs.Prelude.{None, Some}
use Rattle.std.specs.List.{sum, slice_get}
use Rattle.std.proofs.lemmas.List.{nil_from_length}
use Rattle.std.proofs.lemmas.List.Sums.{sum_by-cons, sum_by-take-le, fold_more}
use Rattle.base.specs.Bytes.{Bytes, all}
use Rattle.base.proofs.Lists.{all_nil, all_cons}
use Rattle.base.proofs.Split.{by_le, by_eq, no}
use Rattle.little.specs.Little.{is_byte}
use Rattle.little.proofs.Littles.{bytes_take, bytes_drop}
use Rattle.overlay_texts.specs.Texts.{cut_texts, lengths_fit}

-- ---- the cases

pub cut_none : (s : Bytes) → cut_texts [] s ≡ []
unfolding cut_texts
cut_none s = refl

pub cut_more : (n : ℕ) (ns : List ℕ) (s : Bytes) → cut_texts (n ∷ ns) s ≡ take n s ∷ cut_texts ns (drop n s)
unfolding cut_texts
cut_more n ns s = refl

pub length_cut : (ns : List ℕ) (s : Bytes) → length (cut_texts ns s) ≡ length ns
unfolding cut_texts
length_cut [] s = refl
length_cut (n ∷ ns) s = ap suc (length_cut ns (drop n s))

-- their bytes are bytes
pub bytes_cut : (ns : List ℕ) (s : Bytes) → all is_byte s ≡ true → all (all is_byte) (cut_texts ns s) ≡ true
unfolding cut_texts
bytes_cut [] s b = all_nil (all is_byte)
bytes_cut (n ∷ ns) s b = all_cons (all is_byte) (take n s) (cut_texts ns (drop n s)) (bytes_take n s b) (bytes_cut ns (drop n s) (bytes_drop n s b))

-- ---- what is joined is read back

pub cut_joined : (ts : List Bytes) → cut_texts (map length ts) (flatten ts) ≡ ts
unfolding cut_texts flatten
cut_joined [] = refl
cut_joined (t ∷ ts) = rw (take-append_seam t (flatten ts), drop-append_seam t (flatten ts), cut_joined ts)

sum_joined : (ts : List Bytes) → sum (map length ts) ≡ length (flatten ts)
unfolding flatten
sum_joined [] = refl
sum_joined (t ∷ ts) = sum_by-cons (λ x. x) (length t) (map length ts) ∙ (ap (length t +◌) (sum_joined ts) ∙ sym (length-append t (flatten ts)))

pub joined_fit : (ts : List Bytes) → lengths_fit (map length ts) (flatten ts) ≡ true
unfolding lengths_fit
joined_fit ts = rw sum_joined (eq-eqb (length (flatten ts)) (length (flatten ts)) refl)

-- ---- what fits was joined

joined_back : (ns : List ℕ) (s : Bytes) → sum ns ≡ length s → flatten (cut_texts ns s) ≡ s
unfolding cut_texts flatten
joined_back [] s e = sym (nil_from_length s (sym e))
joined_back (n ∷ ns) s e =
    let c = sum_by-cons (λ x. x) n ns in
    let l = length-drop n s in
    rw (joined_back ns (drop n s) (omega (arith, c, e, l))) (take-append-drop n s)

lengths_back : (ns : List ℕ) (s : Bytes) → sum ns ≡ length s → map length (cut_texts ns s) ≡ ns
unfolding cut_texts
lengths_back [] s e = refl
lengths_back (n ∷ ns) s e =
    let c = sum_by-cons (λ x. x) n ns in
    let l = length-drop n s in
    cc (length-take-le n s (omega (arith, c, e)), lengths_back ns (drop n s) (omega (arith, c, e, l)))

fit_sum : (ns : List ℕ) (s : Bytes) → lengths_fit ns s ≡ true → sum ns ≡ length s
unfolding lengths_fit
fit_sum ns s e = eqb-true (sum ns) (length s) e

pub fit_joined : (ns : List ℕ) (s : Bytes) → lengths_fit ns s ≡ true → (flatten (cut_texts ns s) ≡ s) × (map length (cut_texts ns s) ≡ ns)
fit_joined ns s e = let f = fit_sum ns s e in (joined_back ns s f, lengths_back ns s f)

-- ---- the first text, as it is cut off

module _ (s : Bytes) where
  pub no_cut : (ns : List ℕ) → None ≡ slice_get ns 0 → cut_texts ns s ≡ []
  unfolding cut_texts
  no_cut [] e = refl
  no_cut (m ∷ ns) e = no (cc)

  pub first_cut : (ns : List ℕ) (n k : ℕ) → Some n ≡ slice_get ns 0 → k ≡ min n (length s) → cut_texts ns s ≡ take k s ∷ cut_texts (drop 1 ns) (drop k s)
  unfolding cut_texts
  first_cut [] n k e f = no (cc)
  first_cut (m ∷ ns) n k e f =
      let g : m ≡ n = cc in
      by_le n (length s)
      (λ l. let q : k ≡ m = omega arith in rw q)
      (λ l. let q : k ≡ length s = omega arith in
      let a : drop m s ≡ [] = drop_of_length-le s {i = m} (omega arith) in
      rw (q, take_all m s (omega arith), take-length s, a, drop-length s))

-- ---- the lengths taken away from the bytes, one by one

module _ (ns : List ℕ) (s : Bytes) (i rest : ℕ) (h : rest + sum (take i ns) ≡ length s) where
  pub fit_over : i < length ns → rest < get_or ns i 0 → lengths_fit ns s ≡ false
  unfolding lengths_fit
  fit_over l k = ne_eqb (sum ns) (length s) (λ z. omega (arith, fold_more (λ (a x : ℕ). a + x) 0 ns i 0 l, h, sum_by-take-le (λ (x : ℕ). x) ns (i + 1)))

  pub fit_end : length ns ≤ i → eqb rest 0 ≡ lengths_fit ns s
  unfolding lengths_fit
  fit_end l =
      let t : take i ns ≡ ns = take_all i ns l in
      let q : rest + sum ns ≡ length s = rw t at h in
      by_eq rest 0
      (λ z. eq-eqb rest 0 z ∙ sym (eq-eqb (sum ns) (length s) (omega arith)))
      (λ z. ne_eqb rest 0 z ∙ sym (ne_eqb (sum ns) (length s) (λ y. z (omega arith))))
