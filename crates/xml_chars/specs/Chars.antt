-- What a reader of bytes keeps of a character, and what a byte more comes to, in the terms of `markup/specs/MarkupBytes`.
use Rattle.std.specs.Prelude.{ℕ, Bool, true, cond, [], ◌∷◌}
use Rattle.base.specs.Bytes.{Bytes}
use Rattle.text.specs.Check.{decoded}
use Rattle.markup.specs.Automaton.{Moved, continues, completes, malformed}
use Rattle.markup.specs.MarkupBytes.{begins_char, is_char}
use Rattle.xml_chars.specs.declared.CharBytes.{CharBytes}
use Rattle.xml_chars.specs.declared.CharBytes.TheVariants.{None, One, Two, Three}
use Rattle.xml_chars.specs.declared.CharMoved.{CharMoved}
use Rattle.xml_chars.specs.declared.CharMoved.TheVariants.{Continues, Completes, Malformed}

-- the bytes
abbrev pub bytes_in : CharBytes → Bytes
bytes_in None = []
bytes_in (One a) = a ∷ []
bytes_in (Two a b) = a ∷ b ∷ []
bytes_in (Three a b c) = a ∷ b ∷ c ∷ []

-- what a byte more comes to
abbrev pub char_moved : CharMoved → Moved Bytes ℕ
char_moved (Continues t) = continues (bytes_in t)
char_moved (Completes c) = completes c
char_moved Malformed = malformed

-- none, or bytes with which a character begins: what is left of a run of bytes that is not refused
unfoldable pub begun : Bytes → Bool
begun [] = true
begun (a ∷ s) = begins_char (a ∷ s)

-- what bytes come to with which no character begins: they are a character, or none
abbrev pub whole_char : Bytes → Moved Bytes ℕ
whole_char s = cond (is_char s) (completes (decoded s)) malformed
