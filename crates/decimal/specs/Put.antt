-- A text written into lent bytes: whole or not at all.
use Rattle.std.specs.Prelude.{Bool, true, false, cond, leb, length, ◌∷◌, None, Option, Some, ℕ}
use Rattle.base.specs.Bytes.{Bytes}
use Rattle.base.specs.Chars.{minus_sign}
use Rattle.line.specs.Decimal.{number_text}
use Rattle.little.specs.Little.{over}

-- what a writer leaves: the bytes that were lent, and its answer
pub record Wrote : Type 0 where
  pub bytes : Bytes
  pub answer : Option ℕ

-- a text at the start of the bytes s, where they are long enough; else nothing is changed
unfoldable pub put_text : Bytes → Bytes → Wrote
put_text s t = cond (leb (length t) (length s)) (record { bytes = over s 0 t; answer = Some (length t) }) (record { bytes = s; answer = None })

-- a number after a minus sign, or alone
unfoldable pub signed_text : Bool → ℕ → Bytes
signed_text true n = minus_sign ∷ number_text n
signed_text false n = number_text n
