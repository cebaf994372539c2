-- Document 01: "Text is well-formed UTF-8 of XML 1.0 characters."
use Rattle.std.specs.Prelude.{ℕ, ◌≡◌, true, List, [], ◌∷◌, ◌++◌}
use Rattle.base.specs.Bytes.{Bytes, all}
use Rattle.text.specs.Char.{xml_char, utf8}

-- the encodings of code points, one after the other
unfoldable pub encoded : List ℕ → Bytes
encoded [] = []
encoded (c ∷ cs) = utf8 c ++ encoded cs

-- a text: the encodings of legal characters
pub record Text (s : Bytes) : Type 0 where
  pub chars : List ℕ
  pub legal : all xml_char chars ≡ true
  pub same : s ≡ encoded chars
