-- An input that comes in pieces: its whole lines are taken in as they come, and the unfinished one is kept.
use mathlib.Core.List.{[], ◌++◌, foldl}
use Rattle.base.specs.Bytes.{Bytes}
use Rattle.input_lines.specs.Lines.{lines_of, rest_of, input_lines, last_line}

-- the state after the whole lines so far, and the bytes of the unfinished line
pub record Stream (S : Type 0) : Type 0 where
  pub state : S
  pub rest : Bytes

module _ {S : Type 0} (step : S → Bytes → S) where
  -- after a whole input, line by line
  abbrev pub after_input : S → Bytes → S
  after_input s input = foldl step s (input_lines input)

  -- before the first piece
  abbrev pub fresh_stream : S → Stream S
  fresh_stream s = record { state = s; rest = [] }

  -- after a piece more
  abbrev pub after_piece : Stream S → Bytes → Stream S
  after_piece f piece = record { state = foldl step f.state (lines_of (f.rest ++ piece)); rest = rest_of (f.rest ++ piece) }

  -- after the end of the input: what is kept is its last line
  abbrev pub after_end : Stream S → S
  after_end f = foldl step f.state (last_line f.rest)
