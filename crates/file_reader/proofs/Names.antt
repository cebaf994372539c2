-- The name of an element: where it ends, and the bytes that are moved to where it is kept.
use Prim.Native.Nat.{ℕ, zero, suc, ◌+◌, ◌-◌, ◌<◌, ◌≤◌, min}
use mathlib.Core.Path.{◌≡◌, refl, sym, ◌∙◌, ap}
use mathlib.Core.List.{[], ◌∷◌, ◌++◌, append_assoc}
use native.Mathlib.Omega.{arith}
use lib.ListN.{length, get_or, take, drop, length-drop}
use lib.Seq.{take-take, drop-drop, length-take-le}
use borrow.Author.Tests.{eq-eqb, ne_eqb}
use Rattle.std.specs.List.{copy_within}
use Rattle.base.specs.Bytes.{Bytes}
use Rattle.little.specs.Little.{over}
use Rattle.little.proofs.Overs.{over_cut, over_rest}
use Rattle.file_reader.specs.File.{before_tab}

-- ---- where it ends

-- before the first tab
pub name_at_tab : (s : Bytes) (i : ℕ) → i < length s → get_or s i 0 ≡ 9 → ((k : ℕ) → k < i → get_or s k 0 ≡ 9 → ⊥) → take i s ≡ before_tab s
unfolding before_tab
name_at_tab [] i h e n = absurd (omega arith)
name_at_tab (b ∷ s) zero h e n = rw (eq-eqb b 9 e)
name_at_tab (b ∷ s) (suc i) h e n =
    rw (ne_eqb b 9 (n 0 (omega arith))) (ap (b ∷◌) (name_at_tab s i (omega arith) e (λ k l. n (suc k) (omega arith))))

-- where there is none it is all
pub name_is_all : (s : Bytes) → ((k : ℕ) → k < length s → get_or s k 0 ≡ 9 → ⊥) → take (length s) s ≡ before_tab s
unfolding before_tab
name_is_all [] n = refl
name_is_all (b ∷ s) n = rw (ne_eqb b 9 (n 0 (omega arith))) (ap (b ∷◌) (name_is_all s (λ k l. n (suc k) (omega arith))))

-- ---- where it is kept

module _ (s t : Bytes) (used named kept : ℕ)
    (name : take named (take used (drop 6 s)) ≡ t) (within : named ≤ length (take used (drop 6 s))) (fits : kept ≡ min named (length s - 16387)) (room : 16387 ≤ length s) where
  pub long : length t ≡ named
  long = sym (ap length name) ∙ length-take-le named (take used (drop 6 s)) within

  -- the bytes that are moved are the name's
  moved : take kept t ≡ take kept (drop 6 s)
  moved =
      let d : Bytes = drop 6 s in
      let u : length (take used d) ≤ used = omega (arith, length-take_at_most used d) in
      ap (take kept) (sym name) ∙ (take-take kept named (take used d) (omega arith) ∙ take-take kept used d (omega arith))
    where
      length-take_at_most : (n : ℕ) (x : Bytes) → length (take n x) ≤ n
      length-take_at_most zero x = omega arith
      length-take_at_most (suc n) [] = omega arith
      length-take_at_most (suc n) (b ∷ x) = omega (arith, length-take_at_most n x)

  pub name_kept : copy_within s 6 (6 + kept) 16387 ≡ over s 16387 t
  name_kept =
      let k : 6 + kept - 6 ≡ kept = omega arith in
      let l : kept ≡ min (length t) (length (drop 16387 s)) = omega (arith, long, length-drop 16387 s) in
      let c : over (drop 16387 s) 0 t ≡ take kept t ++ drop kept (drop 16387 s) = over_cut (drop 16387 s) t kept l in
      let d : drop kept (drop 16387 s) ≡ drop (16387 + kept) s = drop-drop kept 16387 s in
      let r : take 16387 s ++ over (drop 16387 s) 0 t ≡ over s 16387 t = over_rest s 16387 0 t room in
      rw (k, append_assoc) (rw (c, d, moved) at r)
