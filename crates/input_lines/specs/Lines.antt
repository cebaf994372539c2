-- Document 01, "Event lines": "One event a line, ended by a line feed". The lines of a run of bytes, and what follows the last of them.
use Rattle.std.specs.Prelude.{ℕ, cond, not, List, [], ◌∷◌, ◌++◌, eqb}
use Rattle.base.specs.Bytes.{Bytes, all}
use Rattle.base.specs.Chars.{line_feed}

-- a byte before the first of some lines; before none it begins no line
abbrev pub onto_first : ℕ → List Bytes → List Bytes
onto_first b [] = []
onto_first b (l ∷ ls) = (b ∷ l) ∷ ls

-- the whole lines of a run of bytes, each with its line feed
unfoldable pub lines_of : Bytes → List Bytes
lines_of [] = []
lines_of (b ∷ bs) = cond (eqb b line_feed) ((b ∷ []) ∷ lines_of bs) (onto_first b (lines_of bs))

-- what follows the last line feed; all where there is none
unfoldable pub rest_of : Bytes → Bytes
rest_of [] = []
rest_of (b ∷ bs) = cond (all (λ c. not (eqb c line_feed)) (b ∷ bs)) (b ∷ bs) (rest_of bs)

-- a line more, where there is anything in it
abbrev pub last_line : Bytes → List Bytes
last_line [] = []
last_line (b ∷ bs) = (b ∷ bs) ∷ []

-- the lines of a whole input: "a last line without its line feed, is refused 4", so what follows the last line feed is a line too
unfoldable pub input_lines : Bytes → List Bytes
input_lines s = lines_of s ++ last_line (rest_of s)
