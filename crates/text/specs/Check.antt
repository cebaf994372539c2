-- The text check as a test, and the rule of its table of classes.
use Rattle.std.specs.Prelude.{ℕ, zero, suc, ◌+◌, ◌-◌, ◌*◌, ◌<◌, ◌≡◌, Bool, true, cond, [], ◌∷◌, ltb, leb, eqb, length, get_or, take, Option, Some, None}
use Rattle.base.specs.Bytes.{Bytes, both, either, same}
use Rattle.base.specs.Chars.{horizontal_tab}
use Rattle.text.specs.Char.{from_to, xml_char, utf8}

-- Document 01: "The first byte of a character is judged by a table of 256 classes".
-- The class: how many bytes a legal character has that starts with the byte, 0 where none does.
unfoldable pub class_of : ℕ → ℕ
class_of b =
    cond (ltb b 0x80) (cond (xml_char b) 1 0)
    (cond (ltb b 0xc2) 0
    (cond (ltb b 0xe0) 2
    (cond (ltb b 0xf0) 3
    (cond (ltb b 0xf5) 4
    0))))

-- the byte at a place, 0 past the end
abbrev pub byte_at : Bytes → ℕ → ℕ
byte_at s i = get_or s i 0

-- the bits v and the six of a byte that continues a character (table 3-6, 10xxxxxx); 0 where the byte continues none
unfoldable pub joined_bits : ℕ → ℕ → ℕ
joined_bits v b = cond (from_to 0x80 0xbf b) (v * 64 + (b - 0x80)) 0

-- table 3-6 from right to left: the one code point whose encoding a run of bytes can begin with
unfoldable pub decoded : Bytes → ℕ
decoded s =
    cond (ltb (byte_at s 0) 0x80) (byte_at s 0)
    (cond (ltb (byte_at s 0) 0xe0) (joined_bits (byte_at s 0 - 0xc0) (byte_at s 1))
    (cond (ltb (byte_at s 0) 0xf0) (joined_bits (joined_bits (byte_at s 0 - 0xe0) (byte_at s 1)) (byte_at s 2))
    (joined_bits (joined_bits (joined_bits (byte_at s 0 - 0xf0) (byte_at s 1)) (byte_at s 2)) (byte_at s 3))))

-- a run of bytes begins with another
unfoldable pub begins : Bytes → Bytes → Bool
begins p s = same p (take (length p) s)

-- how many bytes the legal character has that a run begins with, 0 where it begins with none
unfoldable pub char_len : Bytes → ℕ
char_len s = cond (both (begins (utf8 (decoded s)) s) (xml_char (decoded s))) (length (utf8 (decoded s))) 0

-- a run is text after the bytes to skip: those of a character that was found at its first byte
unfoldable pub text_after : ℕ → Bytes → Bool
text_after skip [] = true
text_after (suc skip) (b ∷ s) = text_after skip s
text_after zero (b ∷ s) = both (ltb 0 (char_len (b ∷ s))) (text_after (char_len (b ∷ s) - 1) s)

-- a run of bytes begins with a legal character, and so does what follows it, to the end
unfoldable pub is_text : Bytes → Bool
is_text s = text_after 0 s

-- an ASCII character of XML 1.0
unfoldable pub plain_ascii : ℕ → Bool
plain_ascii b = both (ltb b 0x80) (xml_char b)

-- What only the code's own steps need.

-- a tab, or an ASCII character from the blank to the tilde: a legal character that is neither a line feed nor a carriage return
unfoldable pub is_plain : ℕ → Bool
is_plain b = either (eqb b horizontal_tab) (from_to 0x20 0x7e b)

-- k where a code point is legal and not below the least of k bytes, else 0
unfoldable pub sized : ℕ → ℕ → ℕ → ℕ
sized k least v = cond (both (leb least v) (xml_char v)) k 0

-- a byte of class k stands at a place
pub record Starting (s : Bytes) (at k : ℕ) : Type 0 where
  pub inside : at < length s
  pub class : k ≡ class_of (byte_at s at)

-- what is answered of the character that a run begins with: how many bytes it has, or none where the run begins with none
abbrev pub Measured : Bytes → Option ℕ → Type 0
Measured s (Some n) = (0 < n) × (n ≡ char_len s)
Measured s None = char_len s ≡ 0
