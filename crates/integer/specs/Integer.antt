-- Document 01, field readers: "Integers read as Rust's `parse` for i64 or i32: at most one leading + or -, one or more digits."
use Rattle.std.specs.Prelude.{ℕ, ◌+◌, ◌-◌, ◌*◌, ◌^◌, Bool, cond, [], ◌∷◌, ltb, eqb, ℤ, pos, neg_ℤ, None, Option, Some, option_map}
use Rattle.std.specs.Int.Signed.{mag}
use Rattle.std.specs.Int.{Width}
use mir.Val.{of_z, hbits}
use Rattle.base.specs.Bytes.{Bytes, is_digit, all}
use Rattle.base.specs.Chars.{plus_sign, minus_sign, zero_digit}

-- the number that digits write after digits worth n
unfoldable pub decimal : ℕ → Bytes → ℕ
decimal n [] = n
decimal n (b ∷ bs) = decimal (n * 10 + (b - zero_digit)) bs

-- the number of one or more digits
unfoldable pub digits : Bytes → Option ℕ
digits [] = None
digits (b ∷ bs) = cond (all is_digit (b ∷ bs)) (Some (decimal 0 (b ∷ bs))) None

-- the number of digits after at most one `+` or `-`
unfoldable pub integer : Bytes → Option ℤ
integer [] = None
integer (b ∷ bs) =
    cond (eqb b plus_sign) (option_map pos (digits bs))
    (cond (eqb b minus_sign) (option_map (λ n. neg_ℤ (pos n)) (digits bs))
    (option_map pos (digits (b ∷ bs))))

-- a number that the width holds
unfoldable pub holds : Width → ℤ → Bool
holds w z = ltb (mag z) (2 ^ hbits w)

-- "8 not an integer of its width"
unfoldable pub of_width : Width → Option ℤ → Option ℤ
of_width w None = None
of_width w (Some z) = cond (holds w z) (Some z) None

unfoldable pub integer_of : Width → Bytes → Option ℤ
integer_of w s = of_width w (integer s)

-- the reader's answer: the number's bits
unfoldable pub read_of : Width → Bytes → Option ℕ
read_of w s = option_map (of_z w) (integer_of w s)
