-- What a list tells that was made from lent ids, or that none was made.
use Rattle.std.specs.Prelude.{Err, Ok, Result}
use Rattle.std.specs.Result.{IsErr, IsErrAnd}
use Rattle.std.proofs.lemmas.Result.{err_from_is_err_and}
use Prim.Native.Nat.{ℕ}
use mathlib.Core.Path.{◌≡◌, ◌∙◌, ap}
use mathlib.Core.Bool.{true, false}
use mathlib.Core.List.{List}
use Rattle.base.proofs.Split.{by_bool, no}
use Rattle.refusal.specs.declared.Refusal.{Refusal}
use Rattle.refusal.specs.declared.Refusal.TheVariants.{NotInOrder}
use Rattle.sorted.specs.Lookup.{ids_of, in_order}
use Rattle.sorted.specs.Sorted.{sorted_of}

module _ (ws : List ℕ) where
  pub made : {vs : List ℕ} → Ok vs ≡ sorted_of ws → (vs ≡ ws) × (in_order (ids_of ws) ≡ true)
  unfolding sorted_of
  made {vs} e =
      by_bool (in_order (ids_of ws))
      (λ o. let z : Ok vs ≡ Ok ws = rw o at e in (cc, o))
      (λ n. let z : Ok vs ≡ Err NotInOrder = rw n at e in no (cc))

  -- what is handed on then: 20
  pub not_made : {x : Refusal} {A : Type 0} {r : Result A Refusal} → Err x ≡ sorted_of ws → IsErr r × IsErrAnd r (λ y. y ≡ x)
      → (in_order (ids_of ws) ≡ false) × (r ≡ Err NotInOrder)
  unfolding sorted_of
  not_made {x} {A} {r} e h =
      let p = err_from_is_err_and r h.1 in
      by_bool (in_order (ids_of ws))
      (λ o. let z : Err x ≡ Ok ws = rw o at e in no (cc))
      (λ n. let z : Err x ≡ Err NotInOrder = rw n at e in let q : x ≡ NotInOrder = cc in (n, p.1 ∙ ap Err (p.2 ∙ q)))
