-- A key stands once in a map and in a set, also after one was put in or taken out.
use Rattle.std.proofs.Common.{◌≡◌, true, false, [], ◌∷◌, ℤ, w64, SFits, lt-ltb}
use Rattle.base.proofs.Split.{by_bool, clash, both_of, both_left, both_right}
use Rattle.compact.specs.Fits.{fits_signed}
use Rattle.published.specs.Std.{eq_z, HashMap, insert, remove, HashSet, insert_into, remove_from}
use Rattle.refines.specs.OneKind.{keyed, once}
use Rattle.refines.proofs.Maps.{eq_self, get_removed, get_kept, contains_removed, contains_kept}

-- an i64, and the test for one
pub fits_tested : {id : ℤ} → SFits w64 id → fits_signed w64 id ≡ true
unfolding fits_signed
fits_tested f = lt-ltb _ _ f.sfits

differ : (a k : ℤ) → eq_z a k ≡ false → a ≡ k → ⊥
differ a k t e = clash (rw e (eq_self k)) t

module _ {T : Type 0} where
  pub keyed_remove : (m : HashMap T) (k : ℤ) → keyed m ≡ true → keyed (remove m k) ≡ true
  unfolding keyed remove
  keyed_remove [] k h = h
  keyed_remove (e ∷ m) k h =
      let rest = both_right _ _ h in
      let kept = keyed_remove m k (both_right _ _ rest) in
      by_bool (eq_z e.key k)
      (λ t. rw t kept)
      (λ t. rw t (both_of (both_left _ _ h) (both_of (rw (get_kept m k e.key (differ e.key k t)) (both_left _ _ rest)) kept)))

  pub keyed_insert : (m : HashMap T) (k : ℤ) (v : T) → SFits w64 k → keyed m ≡ true → keyed (insert m k v) ≡ true
  unfolding keyed insert
  keyed_insert m k v f h = both_of (fits_tested f) (both_of (rw (get_removed m k)) (keyed_remove m k h))

pub once_remove : (s : HashSet) (k : ℤ) → once s ≡ true → once (remove_from s k) ≡ true
unfolding once remove_from
once_remove [] k h = h
once_remove (x ∷ s) k h =
    let rest = both_right _ _ h in
    let kept = once_remove s k (both_right _ _ rest) in
    by_bool (eq_z x k)
    (λ t. rw t kept)
    (λ t. rw t (both_of (both_left _ _ h) (both_of (rw (contains_kept s k x (differ x k t)) (both_left _ _ rest)) kept)))

pub once_insert : (s : HashSet) (k : ℤ) → SFits w64 k → once s ≡ true → once (insert_into s k) ≡ true
unfolding once insert_into
once_insert s k f h = both_of (fits_tested f) (both_of (rw (contains_removed s k)) (once_remove s k h))
