-- One piece, as its writer goes about it: the room behind it, its place in the output, the bytes of an escape.
use Rattle.std.specs.Prelude.{ℕ, ◌+◌, ◌-◌, Bool, not, cond, [], ◌∷◌, ◌++◌, leb, ltb, eqb, length, drop, None, Option, Some}
use Rattle.base.specs.Bytes.{Bytes, both}
use Rattle.base.specs.Chars.{backslash}
use Rattle.little.specs.Little.{over}

-- the room behind a piece of n bytes
unfoldable pub behind : Option ℕ → ℕ → Option ℕ
behind (Some r) n = cond (leb n r) (Some (r - n)) None
behind None n = None

-- where a piece of n bytes goes in an output of `len` bytes, by the room before it: behind the pieces before it, where there is room for it and it lies within
-- the output
unfoldable pub place_in : ℕ → Option ℕ → ℕ → ℕ → Option ℕ
place_in cap (Some r) n len = cond (leb n r) (cond (leb (cap - r + n) len) (Some (cap - r)) None) None
place_in cap None n len = None

-- the output with a piece at its place, if it has one
abbrev pub written_at : Bytes → Option ℕ → Bytes → Bytes
written_at out (Some at) x = over out at x
written_at out None x = out

-- a byte as it is escaped by a letter; without a letter it stands for itself
abbrev pub escaped_by : ℕ → Option ℕ → Bytes
escaped_by b None = b ∷ []
escaped_by b (Some m) = backslash ∷ m ∷ []

-- a byte that surely stands for itself: of the bytes up to 13 none is said to
abbrev pub is_plain : ℕ → Bool
is_plain b = both (ltb 13 b) (not (eqb b backslash))

-- what is left of an output, and the length of what was written at its start, if it was
pub record Whole : Type 0 where
  pub out : Bytes
  pub length : Option ℕ

-- some bytes at the start of an output, or nothing where they do not fit
unfoldable pub whole_over : Bytes → Bytes → Whole
whole_over out x =
    cond (leb (length x) (length out)) (record { out = x ++ drop (length x) out; length = Some (length x) }) (record { out = out; length = None })
