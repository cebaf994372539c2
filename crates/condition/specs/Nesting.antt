-- T16, up to the event call: event and end accept a reader's lines, as far as nesting goes, exactly when they are a document of the OsmChange page with the listed extras
-- (nesting/Grammar). Where a document can still go on, no event is refused 5 or 6; and an end is accepted where one has ended.
use Rattle.reader.specs.declared.RefusedAt.{RefusedAt}
use Rattle.std.specs.Prelude.{ℕ, ◌+◌, ◌≡◌, true, ◌↔◌, List, [], ◌∷◌, ◌++◌, length, Ok, Err, Result}
use Rattle.base.specs.Bytes.{Bytes, all}
use Rattle.refusal.specs.declared.Refusal.TheVariants as R
use Rattle.nesting.specs.Marks.{Mark}
use Rattle.nesting.specs.Grammar.{Document, each_gives, events}
use Rattle.acts.specs.Lines.{line_marks}
use Rattle.acts.specs.Call.{lines_read}
use Rattle.overlay.specs.Overlay.{Overlay}
use Rattle.reader.specs.State.{State, fresh_reader, refusal_at}
use Rattle.reader.specs.Event.{event_on, end_on}
use Rattle.calls.specs.Ask.{Ask, state_of, event_taken, storage_after, replies}

-- marks that are those of a document, and marks that one begins with
abbrev pub IsDocument : List Mark → Type 0
IsDocument ms = (d : Document) × (events d ≡ ms)

abbrev pub BeginsDocument : List Mark → Type 0
BeginsDocument ms = (rest : List Mark) × IsDocument (ms ++ rest)

-- 5 or 6, at a line
pub data NestingRefused (a : Result Unit RefusedAt) (line : ℕ) : Type 0 where
  misplaced : a ≡ Err (refusal_at R.Misplaced line) → NestingRefused a line
  outside : a ≡ Err (refusal_at R.OutsideSection line) → NestingRefused a line

-- A reader after a list of calls, whoever else was heard in between. The law asks that none of its events was refused, which would stop it, and that its count of lines is below its
-- largest, where it is refused 22.
module _ (setting : ℕ) (o : Overlay) (ps : ℕ → Bytes) (cs : List Ask) (n : ℕ) where
  abbrev pub reader_state : State
  reader_state = state_of n (storage_after setting o ps cs)

  -- the marks of the lines that it has taken
  abbrev pub marks_read : List Mark
  marks_read = each_gives line_marks (lines_read n (replies setting o ps cs))

  -- the line of its next event
  abbrev pub line_after : ℕ
  line_after = length (lines_read n (replies setting o ps cs)) + 1

  pub record NestsAsDocument : Type 0 where
    -- what it has taken begins a document
    pub begun : BeginsDocument marks_read
    -- an event is refused 5 or 6 exactly where no document goes on with its line
    pub event : (line : Bytes) → NestingRefused (event_on line reader_state).answer line_after ↔ (BeginsDocument (marks_read ++ line_marks line) → ⊥)
    -- the end is accepted exactly where the lines are a document, and refused 18 exactly where they are none
    pub end : ((end_on reader_state).answer ≡ Ok tt) ↔ IsDocument marks_read
    pub unfinished : ((end_on reader_state).answer ≡ Err (refusal_at R.Unfinished line_after)) ↔ (IsDocument marks_read → ⊥)

-- ---- a fresh reader that is heard alone: the answers to its lines, one after the other, and to its end

unfoldable pub answers_to : State → List Bytes → List (Result Unit RefusedAt)
answers_to s [] = (end_on s).answer ∷ []
answers_to s (line ∷ lines) = (event_on line s).answer ∷ answers_to (event_on line s).state lines

-- "as far as nesting goes": accepted, or refused 5, 6 or 18
pub data ByNesting (a : Result Unit RefusedAt) : Type 0 where
  is_accepted : a ≡ Ok tt → ByNesting a
  is_misnested : (line : ℕ) → NestingRefused a line → ByNesting a
  is_unfinished : (line : ℕ) → a ≡ Err (refusal_at R.Unfinished line) → ByNesting a

unfoldable pub AllByNesting : List (Result Unit RefusedAt) → Type 0
AllByNesting [] = Unit {0}
AllByNesting (a ∷ xs) = ByNesting a × AllByNesting xs

abbrev pub fresh_state : Overlay → Bytes → State
fresh_state o parts = record { overlay = o; reader = fresh_reader; parts = parts }

-- where nothing but the nesting refuses any of it, all is accepted exactly when the lines are a document
abbrev pub AcceptsDocuments : Overlay → Bytes → Type 0
AcceptsDocuments o parts = (lines : List Bytes) → AllByNesting (answers_to (fresh_state o parts) lines)
    → (all event_taken (answers_to (fresh_state o parts) lines) ≡ true) ↔ IsDocument (each_gives line_marks lines)
