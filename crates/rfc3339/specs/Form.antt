-- What document 01 keeps of RFC 3339: "takes 20 bytes, RFC 3339's separators"; "only hour, minute, second above 23, 59, 59, .. are refused".
use Prim.Native.Char.{code}
use Rattle.std.specs.Prelude.{◌≡◌, length, get_or, take, drop}
use Rattle.base.specs.Ascii.{ascii}
use Rattle.base.specs.Bytes.{Bytes}

-- The form that is kept: 20 bytes, so no fraction and no numeric offset, which make a date-time longer; capitals `T` and `Z`; no leap second.
pub record KeepsForm (s : Bytes) : Type 0 where
  pub bytes20 : length s ≡ 20
  pub capital_t : get_or s 10 0 ≡ code "T"
  pub capital_z : get_or s 19 0 ≡ code "Z"
  pub no_second60 : take 2 (drop 17 s) ≡ ascii "60" → ⊥
