-- What the code holds on its way: the number of a few digits, and exact degrees as a side and a size.
use Rattle.std.specs.Prelude.{ℕ, ◌+◌, ◌*◌, ◌^◌, cond, ℤ, pos, neg_ℤ, None, Option, Some}
use Rattle.base.specs.Bytes.{Bytes}
use Rattle.integer.specs.Integer.{decimal}
use Rattle.degrees.specs.Degrees.{unsigned, one_to, DegreeParts, legal_degrees, decimals_size, parts_behind}
use Rattle.degrees.specs.declared.ExactDegrees.{ExactDegrees}

-- the number of a text of one to so many digits
unfoldable pub digits_to : ℕ → Bytes → Option ℕ
digits_to most s = cond (one_to most s) (Some (decimal 0 s)) None

-- the size of a text without a sign
abbrev pub size_if : DegreeParts → Option ℕ
size_if p = cond (legal_degrees p) (Some (decimal 0 p.whole * 10 ^ 12 + decimals_size p.decimals)) None

unfoldable pub size_of : Bytes → Option ℕ
size_of s = size_if (parts_behind unsigned s)

abbrev pub exact_in : ExactDegrees → ℤ
exact_in e = cond e.negative (neg_ℤ (pos e.size)) (pos e.size)
