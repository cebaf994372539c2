-- Bytes and texts of bytes, as every definition above speaks of them.
use Rattle.std.specs.Prelude.{ℕ, Bool, true, false, List, [], ◌∷◌, eqb, leb}

-- a run of bytes
abbrev pub Bytes : Type 0
Bytes = List ℕ

-- both tests hold
unfoldable pub both : Bool → Bool → Bool
both true t = t
both false t = false

-- one of the tests holds, or both
unfoldable pub either : Bool → Bool → Bool
either true t = true
either false t = t

-- a decimal digit, `0` to `9`
unfoldable pub is_digit : ℕ → Bool
is_digit b = both (leb 48 b) (leb b 57)

-- every element passes the test
unfoldable pub all : {A : Type 0} → (A → Bool) → List A → Bool
all p [] = true
all p (x ∷ xs) = both (p x) (all p xs)

-- two runs of bytes are the same
unfoldable pub same : Bytes → Bytes → Bool
same [] [] = true
same [] (b ∷ bs) = false
same (a ∷ xs) [] = false
same (a ∷ xs) (b ∷ bs) = both (eqb a b) (same xs bs)
