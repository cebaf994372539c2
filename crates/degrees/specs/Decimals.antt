-- A whole number of 1e-7 degree as degrees: with seven decimals, always, and a sign where it is negative.
use Rattle.std.specs.Prelude.{ℕ, zero, suc, ◌+◌, ◌/◌, ◌%◌, ◌^◌, [], ◌∷◌, ◌++◌, ℤ, pos, negsuc}
use Rattle.base.specs.Bytes.{Bytes}
use Rattle.base.specs.Chars.{minus_sign, zero_digit}
use Rattle.line.specs.Decimal.{number_text}
use Rattle.degrees.specs.Degrees.{decimal_point}

-- so many digits of a number, its last ones
unfoldable pub last_digits : ℕ → ℕ → Bytes
last_digits zero n = []
last_digits (suc k) n = last_digits k (n / 10) ++ ((zero_digit + n % 10) ∷ [])

abbrev pub seven_decimals : ℕ → Bytes
seven_decimals n = number_text (n / 10 ^ 7) ++ (decimal_point ∷ last_digits 7 (n % 10 ^ 7))

unfoldable pub degrees_text : ℤ → Bytes
degrees_text (pos n) = seven_decimals n
degrees_text (negsuc n) = minus_sign ∷ seven_decimals (suc n)
