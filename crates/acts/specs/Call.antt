-- Condition 3: "Each gets its own list of these calls, refused ones included: intern, direct push, direct delete, a reader's event, a reader's end". And the regression setting.
use Rattle.std.specs.Prelude.{ℕ, Bool, true, false, cond, List, [], ◌∷◌, eqb, ℤ, None, Option, Some}
use Rattle.base.specs.Bytes.{Bytes}
use Rattle.interner.specs.Texts.{take_in, take_all_of, no_texts, text_of}
use Rattle.kind.specs.declared.Kind.{Kind}
use Rattle.model.specs.Record.{Meta, Record, claim_of}
use Rattle.model.specs.Act.{Act, push, delete}
use Rattle.model.specs.Swap.{swap_record}
use Rattle.event_fields.specs.Field.{Field, got, bad}
use Rattle.acts.specs.Turn.{Reader, fresh, Turn, turn}

-- a call; a reader goes by its name, a number; a direct call gives handles, and parts that are cut short make no record
pub data Call : Type 0 where
  interns : Bytes → Call
  pushes : ℤ → Option (Record ℕ) → Call
  deletes : Kind → ℤ → Meta ℕ → Call
  reads : ℕ → Bytes → Call
  ends : ℕ → Call
  -- the regression setting: no act, no text, no line
  allows : ℕ → Call

-- a call and whether its reply accepted it
pub record Answered : Type 0 where
  pub call : Call
  pub accepted : Bool

-- ---- what the calls so far have left

pub record World : Type 0 where
  pub texts : List Bytes
  pub readers : ℕ → Reader

-- "start empty"; "readers begin fresh, anywhere in a list"
abbrev pub begin : World
begin = record { texts = no_texts; readers = λ n. fresh }

abbrev pub reader_set : ℕ → Reader → (ℕ → Reader) → ℕ → Reader
reader_set n r rs m = cond (eqb m n) r (rs m)

-- what an accepted call leaves, and the act that it is, if it is one
pub record Outcome : Type 0 where
  pub world : World
  pub act : Option (Act Bytes)

abbrev pub quiet : World → Outcome
quiet w = record { world = w; act = None }

abbrev pub push_of : World → ℤ → Option (Record ℕ) → Outcome
push_of w id None = quiet w
push_of w id (Some r) = record { world = w; act = Some (push id (swap_record (text_of w.texts) r)) }

abbrev pub turned : World → ℕ → Field Turn → Outcome
turned w n (bad r) = quiet w
turned w n (got t) =
    record { world = record { texts = take_all_of w.texts t.texts; readers = reader_set n t.reader w.readers }; act = t.act }

unfoldable pub outcome : World → Call → Outcome
outcome w (interns t) = quiet (record { texts = take_in w.texts t; readers = w.readers })
outcome w (pushes id r) = push_of w id r
outcome w (deletes k id m) = record { world = w; act = Some (delete k id (claim_of m)) }
outcome w (reads n s) = turned w n (turn s (w.readers n))
outcome w (ends n) = quiet w
outcome w (allows setting) = quiet w

abbrev pub acts_before : Option (Act Bytes) → List (Act Bytes) → List (Act Bytes)
acts_before None acts = acts
acts_before (Some a) acts = a ∷ acts

-- what a list of answered calls leaves: a refused one leaves what was there
unfoldable pub world_after : World → List Answered → World
world_after w [] = w
world_after w (c ∷ cs) = elim c.accepted [ true ↦ world_after (outcome w c.call).world cs | false ↦ world_after w cs ]

-- the accepted acts of a list of answered calls, in order: an act "is accepted unless refused"
unfoldable pub acts_from : World → List Answered → List (Act Bytes)
acts_from w [] = []
acts_from w (c ∷ cs) = elim c.accepted [ true ↦ acts_before (outcome w c.call).act (acts_from (outcome w c.call).world cs) | false ↦ acts_from w cs ]

unfoldable pub acts_of : List Answered → List (Act Bytes)
acts_of cs = acts_from begin cs

-- the lines that a reader has taken, in order: those of its accepted events
abbrev pub line_read : ℕ → Call → List Bytes → List Bytes
line_read n (interns t) ls = ls
line_read n (pushes id r) ls = ls
line_read n (deletes k id m) ls = ls
line_read n (reads m s) ls = cond (eqb n m) (s ∷ ls) ls
line_read n (ends m) ls = ls
line_read n (allows setting) ls = ls

unfoldable pub lines_read : ℕ → List Answered → List Bytes
lines_read n [] = []
lines_read n (c ∷ cs) = cond c.accepted (line_read n c.call (lines_read n cs)) (lines_read n cs)
