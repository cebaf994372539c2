-- Document 02, request 1: "`lat` and `lon` as decimal text: an optional sign, one to three digits, then optionally a point and one to twelve digits." Twelve digits: the exact degrees
-- are a whole number of 1e-12 degree.
use Rattle.std.specs.Prelude.{ℕ, ◌+◌, ◌-◌, ◌*◌, ◌^◌, Bool, true, cond, [], ◌∷◌, ◌++◌, eqb, leb, length, ℤ, pos, neg_ℤ, None, Option, Some}
use Rattle.base.specs.Bytes.{Bytes, both, all, is_digit}
use Rattle.base.specs.Chars.{plus_sign, minus_sign}
use Rattle.integer.specs.Integer.{decimal}

abbrev pub decimal_point : ℕ
decimal_point = 46

-- ---- what a text is written from

-- "an optional sign"
pub data Sign : Type 0 where
  unsigned : Sign
  plus : Sign
  minus : Sign

-- a sign, the digits before a point, and those behind it if there is a point
pub record DegreeParts : Type 0 where
  pub sign : Sign
  pub whole : Bytes
  pub decimals : Option Bytes

-- digits, so many of them: "one to three digits", "one to twelve digits"
abbrev pub one_to : ℕ → Bytes → Bool
one_to most s = both (all is_digit s) (both (leb 1 (length s)) (leb (length s) most))

abbrev pub legal_decimals : Option Bytes → Bool
legal_decimals None = true
legal_decimals (Some s) = one_to 12 s

unfoldable pub legal_degrees : DegreeParts → Bool
legal_degrees p = both (one_to 3 p.whole) (legal_decimals p.decimals)

abbrev pub sign_text : Sign → Bytes
sign_text unsigned = []
sign_text plus = plus_sign ∷ []
sign_text minus = minus_sign ∷ []

abbrev pub decimals_text : Option Bytes → Bytes
decimals_text None = []
decimals_text (Some s) = decimal_point ∷ s

-- the text
unfoldable pub parts_text : DegreeParts → Bytes
parts_text p = sign_text p.sign ++ (p.whole ++ decimals_text p.decimals)

-- ---- the exact degrees that it writes, in units of 1e-12 degree

abbrev pub with_sign : Sign → ℕ → ℤ
with_sign unsigned n = pos n
with_sign plus n = pos n
with_sign minus n = neg_ℤ (pos n)

abbrev pub decimals_size : Option Bytes → ℕ
decimals_size None = 0
decimals_size (Some s) = decimal 0 s * 10 ^ (12 - length s)

unfoldable pub exact_of : DegreeParts → ℤ
exact_of p = with_sign p.sign (decimal 0 p.whole * 10 ^ 12 + decimals_size p.decimals)

-- ---- a text read

abbrev pub with_whole : ℕ → DegreeParts → DegreeParts
with_whole b p = record { sign = p.sign; whole = b ∷ p.whole; decimals = p.decimals }

-- behind a sign: what stands before the first point, and what behind it
unfoldable pub parts_behind : Sign → Bytes → DegreeParts
parts_behind g [] = record { sign = g; whole = []; decimals = None }
parts_behind g (b ∷ s) = cond (eqb b decimal_point) (record { sign = g; whole = []; decimals = Some s }) (with_whole b (parts_behind g s))

unfoldable pub parts_of : Bytes → DegreeParts
parts_of [] = parts_behind unsigned []
parts_of (b ∷ s) = cond (eqb b plus_sign) (parts_behind plus s) (cond (eqb b minus_sign) (parts_behind minus s) (parts_behind unsigned (b ∷ s)))

-- the exact degrees of a text of this form, none of another: "23 text not of this form"
abbrev pub exact_if : DegreeParts → Option ℤ
exact_if p = cond (legal_degrees p) (Some (exact_of p)) None

unfoldable pub exact_degrees : Bytes → Option ℤ
exact_degrees s = exact_if (parts_of s)
