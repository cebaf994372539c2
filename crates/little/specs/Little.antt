-- Document 01: "stored numbers little-endian".
use Rattle.std.specs.Prelude.{ℕ, zero, suc, ◌+◌, ◌*◌, ◌/◌, ◌%◌, Bool, [], ◌∷◌, ◌++◌, ltb, length, take, drop}
use Rattle.base.specs.Bytes.{Bytes}

-- a number that a byte holds
unfoldable pub is_byte : ℕ → Bool
is_byte b = ltb b 256

-- a number in n bytes, the lowest first
unfoldable pub le : ℕ → ℕ → Bytes
le zero v = []
le (suc n) v = (v % 256) ∷ le n (v / 256)

-- the number of bytes, the lowest first
unfoldable pub value : Bytes → ℕ
value [] = 0
value (b ∷ bs) = b + 256 * value bs

-- the number in n bytes from a place on
unfoldable pub value_at : ℕ → Bytes → ℕ → ℕ
value_at n s at = value (take n (drop at s))

-- a run of bytes over another, from a place on; what would stand past the end is left out
unfoldable pub over : Bytes → ℕ → Bytes → Bytes
over s at t = take (length s) (take at s ++ t ++ drop (at + length t) s)
