-- What the reader of both widths answers, from the largest number of the width and its bits all set.
use Rattle.std.specs.Prelude.{ℕ, ◌-◌, cond, leb, ℤ, pos, negsuc, None, Option, Some}
use Rattle.base.specs.Bytes.{Bytes}
use Rattle.integer.specs.Integer.{integer}

-- the number, if there is one and it is at most `most`
unfoldable pub at_most : ℕ → Option ℕ → Option ℕ
at_most most None = None
at_most most (Some n) = cond (leb n most) (Some n) None

-- the bits of a number from -(most + 1) to `most`, where `ones` has the width's bits all set
unfoldable pub bits_of : ℕ → ℕ → Option ℤ → Option ℕ
bits_of most ones None = None
bits_of most ones (Some (pos n)) = cond (leb n most) (Some n) None
bits_of most ones (Some (negsuc n)) = cond (leb n most) (Some (ones - n)) None

-- those of the integer of a text
unfoldable pub read_bits : ℕ → ℕ → Bytes → Option ℕ
read_bits most ones s = bits_of most ones (integer s)
