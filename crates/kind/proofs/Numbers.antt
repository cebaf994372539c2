-- A kind's number tells the kind.
use Rattle.std.specs.Prelude.{None, Some}
use Prim.Native.Nat.{ℕ, zero, suc}
use mathlib.Core.Path.{◌≡◌, refl}
use mathlib.Core.Bool.{true}
use Rattle.base.proofs.Split.{by_bool, clash}
use Rattle.kind.specs.Kind.{kind_number, of_number, same_kind}
use Rattle.kind.specs.declared.Kind.{Kind}
use Rattle.kind.specs.declared.Kind.TheVariants.{Node, Way, Relation}

pub above : (n : ℕ) → (n ≡ 0 → ⊥) → (n ≡ 1 → ⊥) → (n ≡ 2 → ⊥) → None ≡ of_number n
unfolding of_number
above zero a b d = absurd (a refl)
above (suc zero) a b d = absurd (b refl)
above (suc (suc zero)) a b d = absurd (d refl)
above (suc (suc (suc n))) a b d = refl

pub number_back : (k : Kind) → of_number (kind_number k) ≡ Some k
unfolding of_number
number_back Node = refl
number_back Way = refl
number_back Relation = refl

pub same_yes : (a b : Kind) → same_kind a b ≡ true → a ≡ b
unfolding same_kind
same_yes Node Node e = refl
same_yes Node Way e = clash e refl
same_yes Node Relation e = clash e refl
same_yes Way Node e = clash e refl
same_yes Way Way e = refl
same_yes Way Relation e = clash e refl
same_yes Relation Node e = clash e refl
same_yes Relation Way e = clash e refl
same_yes Relation Relation e = refl

pub same_refl : (a : Kind) → same_kind a a ≡ true
unfolding same_kind
same_refl Node = refl
same_refl Way = refl
same_refl Relation = refl

-- two kinds are one or not
pub by_kind : {C : Type 0} (j k : Kind) → (j ≡ k → C) → ((j ≡ k → ⊥) → C) → C
by_kind j k f g = by_bool (same_kind j k) (λ t. f (same_yes j k t)) (λ t. g (λ e. clash (rw e (same_refl k)) t))
