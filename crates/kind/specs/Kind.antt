-- Document 01, compact.rs: "type u8 with 0 node, 1 way, 2 relation".
use Rattle.std.specs.Prelude.{◌≡◌, ℕ, zero, suc, Bool, eqb, None, Option, Some, Result, MatchResult}
use Rattle.kind.specs.declared.Kind.{Kind}
use Rattle.kind.specs.declared.UnknownKind.{UnknownKind}
use Rattle.kind.specs.declared.Kind.TheVariants.{Node, Way, Relation}

abbrev pub kind_number : Kind → ℕ
kind_number Node = 0
kind_number Way = 1
kind_number Relation = 2

unfoldable pub of_number : ℕ → Option Kind
of_number zero = Some Node
of_number (suc zero) = Some Way
of_number (suc (suc zero)) = Some Relation
of_number (suc (suc (suc n))) = None

-- the kind that a number names, or the number, where it names none
abbrev pub Numbered : ℕ → Result Kind UnknownKind → Type 0
Numbered n r = MatchResult r (λ k. Some k ≡ of_number n) (λ e. (None ≡ of_number n) × (e.0 ≡ n))

unfoldable pub same_kind : Kind → Kind → Bool
same_kind a b = eqb (kind_number a) (kind_number b)
