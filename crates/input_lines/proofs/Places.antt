-- Lines where they lie: the first of them, and what is kept.
use Prim.Native.Nat.{ℕ, zero, suc, ◌+◌, ◌-◌, ◌<◌, ◌≤◌}
use Rattle.std.specs.Prelude.{min}
use mathlib.Core.Path.{◌≡◌, refl, sym, ◌∙◌, ap}
use mathlib.Core.List.{[], ◌∷◌, ◌++◌}
use native.Mathlib.Nat.{zero-add}
use native.Mathlib.Omega.{arith}
use lib.ListN.{length, get_or, take, drop, length-take, length-drop}
use Rattle.std.proofs.Math.Seq.{slice}
use Rattle.std.proofs.lemmas.List.{nil_from_length, take_all, take_min}
use Rattle.std.specs.List.{copy_within}
use Rattle.base.specs.Bytes.{Bytes}
use Rattle.base.proofs.Lists.{slice_take}
use Rattle.little.specs.Little.{over}
use Rattle.little.proofs.Overs.{over_nothing, over_start}
use Rattle.input_lines.specs.Lines.{onto_first, lines_of}
use Rattle.input_lines.specs.Place.{Front, keep_rest}
use Rattle.input_lines.proofs.Lines.{lines_feed, lines_byte}

-- ---- by the first line feed

-- the first line ends behind it
pub first_line : (s : Bytes) (i : ℕ) → i < length s → get_or s i 0 ≡ 10 → ((k : ℕ) → k < i → get_or s k 0 ≡ 10 → ⊥)
    → lines_of s ≡ take (suc i) s ∷ lines_of (drop (suc i) s)
first_line [] i h e n = absurd (omega arith)
first_line (b ∷ s) zero h e n = rw e (lines_feed s)
first_line (b ∷ s) (suc i) h e n =
    lines_byte b s (n 0 (omega arith)) ∙ ap (onto_first b) (first_line s i (omega arith) e (λ k l. n (suc k) (omega arith)))

-- where there is none, there is no line
pub no_line : (s : Bytes) → ((k : ℕ) → k < length s → get_or s k 0 ≡ 10 → ⊥) → lines_of s ≡ []
unfolding lines_of
no_line [] n = refl
no_line (b ∷ s) n = lines_byte b s (n 0 (omega arith)) ∙ ap (onto_first b) (no_line s (λ k l. n (suc k) (omega arith)))

-- ---- what is kept

-- up to the end
pub slice_end : (s : Bytes) (from : ℕ) → slice from (length s) s ≡ drop from s
slice_end s from = ap (drop from) (take_all (length s) s (omega arith))

module _ (s : Bytes) (from to : ℕ) where
  pub kept_none : min to (length s) ≤ from → ◌≡◌ {A = Front} (record { buffer = s; kept = 0 }) (keep_rest s from to)
  unfolding keep_rest
  kept_none h =
      let n : slice from to s ≡ [] = nil_from_length (slice from to s) (omega (arith, length-drop from (take to s), length-take to s)) in
      rw (n, over_nothing)

  pub kept_front : (end : ℕ) → end ≡ min to (length s) → from ≤ end → ◌≡◌ {A = Front} (record { buffer = copy_within s from end 0; kept = end - from }) (keep_rest s from to)
  unfolding keep_rest
  kept_front end e h =
      let t = slice from to s in
      let i : from + (end - from) ≡ end = omega arith in
      let same : slice from end s ≡ t = ap (drop from) (rw (← e) at (take_min to s)) in
      let p : take (end - from) (drop from s) ≡ t = sym (rw i at (slice_take from (end - from) s)) ∙ same in
      let l : length t ≡ end - from = omega (arith, length-drop from (take to s), length-take to s, e) in
      let q : over s 0 t ≡ t ++ drop (length t) s = over_start s t (omega (arith, l, e)) in
      let r : copy_within s from end 0 ≡ t ++ drop (length t) s = rw (zero-add, p, l) in
      let u : copy_within s from end 0 ≡ over s 0 t = r ∙ sym q in
      cc
