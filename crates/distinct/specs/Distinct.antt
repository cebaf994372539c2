-- No two of some runs of bytes are equal; and how a run that lies among other bytes is written in one word.
use Rattle.std.specs.Prelude.{ℕ, ◌/◌, ◌%◌, ◌≡◌, Bool, true, not, List, [], ◌∷◌, map, take, drop, Option, Some, None}
use Rattle.base.specs.Bytes.{Bytes, both, all, same}

unfoldable pub differs : Bytes → Bytes → Bool
differs t u = not (same t u)

-- no two of the texts are equal
unfoldable pub distinct : List Bytes → Bool
distinct [] = true
distinct (t ∷ ts) = both (all (differs t) ts) (distinct ts)

-- a word's low 17 bits are a length, the 17 above them a start
unfoldable pub run_start : ℕ → ℕ
run_start w = w / 131072 % 131072

unfoldable pub run_length : ℕ → ℕ
run_length w = w % 131072

-- the run of a word
abbrev pub run_in : Bytes → ℕ → Bytes
run_in bytes w = take (run_length w) (drop (run_start w) bytes)

-- the runs of words
abbrev pub runs_in : Bytes → List ℕ → List Bytes
runs_in bytes words = map (run_in bytes) words

-- an answer is right of a test, where it tells anything
abbrev pub RightOf : Option Bool → Bool → Type 0
RightOf (Some a) b = b ≡ a
RightOf None b = Unit {0}
