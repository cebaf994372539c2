-- The acts of an input's lines, by document 01's rules alone: no storage, and nothing refused.
use Rattle.std.specs.Prelude.{true, List, map}
use Rattle.base.specs.Bytes.{Bytes}
use Rattle.model.specs.Act.{Act}
use Rattle.input_lines.specs.Lines.{input_lines}
use Rattle.acts.specs.Call.{reads, Answered, acts_of}

-- a line that the one reader takes
abbrev pub line_taken : Bytes → Answered
line_taken line = record { call = reads 0 line; accepted = true }

unfoldable pub input_acts : Bytes → List (Act Bytes)
input_acts input = acts_of (map line_taken (input_lines input))
