-- "Numbers are decimal": a number as the listing and event lines write it.
use Rattle.std.specs.Prelude.{ℕ, zero, suc, ◌+◌, ◌/◌, ◌%◌, true, false, [], ◌∷◌, ltb, ℤ, pos, negsuc}
use Rattle.base.specs.Bytes.{Bytes}
use Rattle.base.specs.Chars.{minus_sign, zero_digit}

-- the digits of n before the digits that follow; the first number bounds how many there are
unfoldable pub digits_before : ℕ → ℕ → Bytes → Bytes
digits_before zero n ds = (zero_digit + n) ∷ ds
digits_before (suc k) n ds = elim (ltb n 10) [ true ↦ (zero_digit + n) ∷ ds | false ↦ digits_before k (n / 10) ((zero_digit + n % 10) ∷ ds) ]

unfoldable pub number_text : ℕ → Bytes
number_text n = digits_before n n []

unfoldable pub integer_text : ℤ → Bytes
integer_text (pos n) = number_text n
integer_text (negsuc n) = minus_sign ∷ number_text (suc n)
