-- Document 01, "The listing": "Program `roadlist` reads event lines from standard input and prints the listing, or `refused⇥NUMBER⇥LINE⇥HELD`: line from 1 (for 18 and
-- 19 one past the last), HELD the known version for 12, else `-`."
use Rattle.std.specs.Prelude.{ℕ, cond, List, [], ◌∷◌, eqb}
use Rattle.base.specs.Ascii.{ascii}
use Rattle.base.specs.Bytes.{Bytes}
use Rattle.refusal.specs.Refusal.{number_of, held_of}
use Rattle.refusal.specs.declared.Refusal.{Refusal}
use Rattle.line.specs.Line.{line}
use Rattle.line.specs.Decimal.{number_text, integer_text}

-- "HELD the known version for 12, else `-`"
unfoldable pub held_field : Refusal → Bytes
held_field r = cond (eqb (number_of r) 12) (integer_text (held_of r)) (ascii "-")

-- `refused⇥NUMBER⇥LINE⇥HELD`
abbrev pub refused_fields : Refusal → ℕ → List Bytes
refused_fields r n = ascii "refused" ∷ number_text (number_of r) ∷ number_text n ∷ held_field r ∷ []

unfoldable pub refused_line : Refusal → ℕ → Bytes
refused_line r n = line (refused_fields r n)
