-- The characters of XML in parts, as the code looks at them.
use Rattle.std.specs.Prelude.{ℕ, Bool, eqb}
use Rattle.base.specs.Bytes.{either}
use Rattle.text.specs.Char.{from_to}

-- the characters of [2] that do not stand from the blank to the surrogates
unfoldable pub other_char : ℕ → Bool
other_char c = either (either (eqb c 0x9) (either (eqb c 0xa) (eqb c 0xd))) (either (from_to 0xe000 0xfffd c) (from_to 0x10000 0x10ffff c))
