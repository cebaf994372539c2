-- "a refused event, except for 22, stops its reader": for each number that stops a reader, but for those of a file, an event that leaves it, on an overlay that starts empty, after calls that are taken.
use Rattle.reader.specs.declared.RefusedAt.{RefusedAt}
use Rattle.std.specs.Prelude.{ℕ, Bool, true, false, List, [], ◌∷◌, ◌++◌, map, eqb, replicate, Option, Some, None}
use Rattle.base.specs.Ascii.{ascii}
use Rattle.base.specs.Bytes.{Bytes, both, either}
use Rattle.refusal.specs.Refusal.{number_of}
use Rattle.reader.specs.State.{State}
use Rattle.reader.specs.Event.{event_on}
use Rattle.calls.specs.Ask.{Ask, state_of, after}
use Rattle.trial.specs.Rows.{small}

-- the lines that reader 0 has read, its next one, and the number of the stop mark that this one leaves
pub record StopRow : Type 0 where
  pub before : List Bytes
  pub line : Bytes
  pub number : ℕ

-- the state that the next line is read in
abbrev pub state_before : StopRow → State
state_before x = state_of 0 (after small (map (λ line. Ask.reads 0 line) x.before))

abbrev pub is_going : Option RefusedAt → Bool
is_going None = true
is_going (Some a) = false

abbrev pub has_mark : ℕ → Option RefusedAt → Bool
has_mark n None = false
has_mark n (Some a) = eqb (number_of a.refusal) n

-- the reader had no stop mark, and its next line leaves it one with the number
unfoldable pub leaves_number : StopRow → Bool
leaves_number x = both (is_going (state_before x).reader.stop) (has_mark x.number (event_on x.line (state_before x)).state.reader.stop)

-- a row for this number is there
unfoldable pub has_number : ℕ → List StopRow → Bool
has_number n [] = false
has_number n (x ∷ xs) = either (eqb x.number n) (has_number n xs)

-- ---- the table

abbrev pub stop_row : List Bytes → Bytes → ℕ → StopRow
stop_row before line number = record { before = before; line = line; number = number }

abbrev pub letters : ℕ → Bytes
letters n = replicate n 97

abbrev pub root : List Bytes
root = ascii "open\tosmChange\n" ∷ []

abbrev pub section : List Bytes
section = root ++ (ascii "open\tcreate\n" ∷ [])

abbrev pub way : List Bytes
way = section ++ (ascii "open\tway\tid=1\n" ∷ [])

abbrev pub relation : List Bytes
relation = section ++ (ascii "open\trelation\tid=1\n" ∷ [])

-- a tag whose value has so many letters
abbrev pub tag : ℕ → Bytes
tag n = ascii "empty\ttag\tk=a\tv=" ++ (letters n ++ ascii "\n")

abbrev pub stop_rows : List StopRow
stop_rows =
    stop_row [] (letters 16385) 2
    ∷ stop_row [] (255 ∷ 10 ∷ []) 3
    ∷ stop_row [] (ascii "line\n") 4
    ∷ stop_row [] (ascii "open\tway\n") 5
    ∷ stop_row root (ascii "open\tway\n") 6
    ∷ stop_row section (ascii "open\tway\n") 7
    ∷ stop_row section (ascii "open\tway\tid=x\n") 8
    ∷ stop_row section (ascii "open\tway\tid=1\ttimestamp=x\n") 9
    ∷ stop_row section (ascii "open\tnode\tid=1\tlat7=900000001\n") 10
    ∷ stop_row relation (ascii "empty\tmember\ttype=x\n") 11
    ∷ stop_row (section ++ (ascii "empty\tway\tid=1\tversion=2\n" ∷ [])) (ascii "empty\tway\tid=1\tversion=1\n") 12
    -- a key of nine bytes where eight are lent
    ∷ stop_row way (ascii "empty\ttag\tk=aaaaaaaaa\tv=\n") 13
    -- a fifth way where four are lent
    ∷ stop_row (section ++ (ascii "empty\tway\tid=1\n" ∷ ascii "empty\tway\tid=2\n" ∷ ascii "empty\tway\tid=3\n" ∷ ascii "empty\tway\tid=4\n" ∷ []))
    (ascii "empty\tway\tid=5\n") 14
    -- a record of more bytes than the 256 that are lent
    ∷ stop_row (way ++ (tag 256 ∷ [])) (ascii "close\n") 15
    -- values of more than 16,384 bytes
    ∷ stop_row (way ++ (tag 8192 ∷ [])) (tag 8193) 16
    ∷ stop_row section (ascii "open\tnode\tid=1\tlat=5.\n") 23
    ∷ stop_row section (ascii "open\tnode\tid=1\tlat=5\tlat7=5\n") 24
    ∷ []
