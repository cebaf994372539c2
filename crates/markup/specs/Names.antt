-- XML 1.0, fifth edition, 2.3: white space and names, as tests of code points.
use Rattle.std.specs.Prelude.{ℕ, Bool, true, false, not, List, [], ◌∷◌, eqb}
use Rattle.base.specs.Bytes.{both, either, all}
use Rattle.text.specs.Char.{from_to}

-- [3] S ::= (#x20 | #x9 | #xD | #xA)+
unfoldable pub white_space : ℕ → Bool
white_space c = either (eqb c 0x20) (either (eqb c 0x9) (either (eqb c 0xd) (eqb c 0xa)))

-- [4] NameStartChar ::= ":" | [A-Z] | "_" | [a-z] | [#xC0-#xD6] | [#xD8-#xF6] | [#xF8-#x2FF] | [#x370-#x37D] | [#x37F-#x1FFF] | [#x200C-#x200D] | [#x2070-#x218F] | [#x2C00-#x2FEF]
-- | [#x3001-#xD7FF] | [#xF900-#xFDCF] | [#xFDF0-#xFFFD] | [#x10000-#xEFFFF]
unfoldable pub name_start_char : ℕ → Bool
name_start_char c =
    either (either (eqb c 0x3a) (either (from_to 0x41 0x5a c) (either (eqb c 0x5f) (from_to 0x61 0x7a c))))
    (either (either (from_to 0xc0 0xd6 c) (either (from_to 0xd8 0xf6 c) (from_to 0xf8 0x2ff c)))
    (either (either (from_to 0x370 0x37d c) (either (from_to 0x37f 0x1fff c) (from_to 0x200c 0x200d c)))
    (either (either (from_to 0x2070 0x218f c) (either (from_to 0x2c00 0x2fef c) (from_to 0x3001 0xd7ff c)))
    (either (from_to 0xf900 0xfdcf c) (either (from_to 0xfdf0 0xfffd c) (from_to 0x10000 0xeffff c))))))

-- [4a] NameChar ::= NameStartChar | "-" | "." | [0-9] | #xB7 | [#x0300-#x036F] | [#x203F-#x2040]
unfoldable pub name_char : ℕ → Bool
name_char c =
    either (name_start_char c)
    (either (either (eqb c 0x2d) (either (eqb c 0x2e) (from_to 0x30 0x39 c))) (either (eqb c 0xb7) (either (from_to 0x300 0x36f c) (from_to 0x203f 0x2040 c))))

-- [5] Name ::= NameStartChar (NameChar)*
unfoldable pub is_name : List ℕ → Bool
is_name [] = false
is_name (c ∷ cs) = both (name_start_char c) (all name_char cs)

-- no character
abbrev pub no_chars : List ℕ → Bool
no_chars [] = true
no_chars (c ∷ cs) = false

-- S?
abbrev pub optional_space : List ℕ → Bool
optional_space s = all white_space s

-- S
unfoldable pub some_space : List ℕ → Bool
some_space s = both (not (no_chars s)) (all white_space s)
