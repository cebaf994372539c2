-- The ranges of `markup/specs/Names` in parts, as the code looks at them.
use Rattle.std.specs.Prelude.{ℕ, Bool, eqb}
use Rattle.base.specs.Bytes.{either}
use Rattle.text.specs.Char.{from_to}

-- the characters of [4] in ASCII
unfoldable pub name_start_ascii : ℕ → Bool
name_start_ascii c = either (eqb c 0x3a) (either (from_to 0x41 0x5a c) (either (eqb c 0x5f) (from_to 0x61 0x7a c)))

-- and beyond it
unfoldable pub name_start_beyond : ℕ → Bool
name_start_beyond c =
    either (either (from_to 0xc0 0xd6 c) (either (from_to 0xd8 0xf6 c) (from_to 0xf8 0x2ff c)))
    (either (either (from_to 0x370 0x37d c) (either (from_to 0x37f 0x1fff c) (from_to 0x200c 0x200d c)))
    (either (either (from_to 0x2070 0x218f c) (either (from_to 0x2c00 0x2fef c) (from_to 0x3001 0xd7ff c)))
    (either (from_to 0xf900 0xfdcf c) (either (from_to 0xfdf0 0xfffd c) (from_to 0x10000 0xeffff c)))))

-- the characters that [4a] has beside those of [4]
unfoldable pub name_char_only : ℕ → Bool
name_char_only c = either (either (eqb c 0x2d) (either (eqb c 0x2e) (from_to 0x30 0x39 c))) (either (eqb c 0xb7) (either (from_to 0x300 0x36f c) (from_to 0x203f 0x2040 c)))
