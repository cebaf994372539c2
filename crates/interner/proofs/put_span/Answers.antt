-- `put_span` writes two words over the start, or as many as there is room for.
use Prim.Native.Nat.{ℕ}
use mathlib.Core.Path.{◌≡◌, refl, sym, ◌∙◌, ap}
use mathlib.Core.List.{List, [], ◌∷◌}
use native.Mathlib.Omega.{arith}
use lib.ListN.{length, set}
use lib.Seq.{take_all}
use Rattle.little.specs.Little.{over}
use Rattle.interner.proofs.put_span.Goals as goal

two : (xs : List ℕ) (a b : ℕ) → set (set xs 0 a) 1 b ≡ over xs 0 (a ∷ b ∷ [])
unfolding over
two [] a b = refl
two (x ∷ []) a b = refl
two (x ∷ y ∷ ys) a b = ap (λ (zs : List ℕ). a ∷ b ∷ zs) (sym (take_all (length ys) ys (omega arith)))

pub returns : goal.returns
returns c = c.put_word-2.ensures ∙ rw c.put_word.ensures (two c.args.out.now c.args.start c.args.len)
