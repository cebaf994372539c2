-- Characters: XML 1.0's legal code points, and their encoding in UTF-8 by the Unicode standard.
use Rattle.std.specs.Prelude.{ℕ, ◌+◌, ◌/◌, ◌%◌, Bool, cond, [], ◌∷◌, ltb, leb, eqb}
use Rattle.base.specs.Bytes.{Bytes, both, either}

-- a number from lo to hi
unfoldable pub from_to : ℕ → ℕ → ℕ → Bool
from_to lo hi c = both (leb lo c) (leb c hi)

-- XML 1.0, production [2]: Char ::= #x9 | #xA | #xD | [#x20-#xD7FF] | [#xE000-#xFFFD] | [#x10000-#x10FFFF]
unfoldable pub xml_char : ℕ → Bool
xml_char c =
    either (either (eqb c 0x9) (either (eqb c 0xa) (eqb c 0xd)))
    (either (from_to 0x20 0xd7ff c) (either (from_to 0xe000 0xfffd c) (from_to 0x10000 0x10ffff c)))

-- The Unicode standard, table 3-6: a code point of at most 7, 11, 16 or 21 bits in one, two, three or four bytes
unfoldable pub utf8 : ℕ → Bytes
utf8 c =
    cond (ltb c 0x80) (c ∷ [])
    (cond (ltb c 0x800) ((0xc0 + c / 64) ∷ (0x80 + c % 64) ∷ [])
    (cond (ltb c 0x10000) ((0xe0 + c / 4096) ∷ (0x80 + c / 64 % 64) ∷ (0x80 + c % 64) ∷ [])
    ((0xf0 + c / 262144) ∷ (0x80 + c / 4096 % 64) ∷ (0x80 + c / 64 % 64) ∷ (0x80 + c % 64) ∷ [])))
