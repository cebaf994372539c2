-- What the program prints for an input in pieces is what is defined for the whole of it.
use mathlib.Core.Path.{◌≡◌, ◌∙◌, ap}
use mathlib.Core.List.{List, flatten}
use native.Mathlib.Omega.{arith}
use lib.ListN.{length, take, drop}
use lib.Seq.{take-append_seam}
use Rattle.base.specs.Bytes.{Bytes}
use Rattle.line.proofs.Lines.{lacks_nil}
use Rattle.input_lines.specs.Stream.{after_input}
use Rattle.input_lines.proofs.Streams.{pieces_whole}
use Rattle.reader.specs.State.{State}
use Rattle.input_pieces.specs.Feed.{after_event, Intake, read_on, state_at_end}
use Rattle.reader_events.specs.Runs.{RunGiven}
use Rattle.input_pieces.proofs.Pieces.{Holds, reads_stream, reads_given}
use Rattle.roadlist_page.specs.Roadlist.{program_start, ending_at, roadlist_of}
use Rattle.roadlist_page.specs.Finish.{finish_on}
use Rattle.roadlist_page.proofs.Starts.{start_given}

-- before the first piece, whatever the buffer holds
abbrev pub intake_start : Bytes → Intake
intake_start buffer = record { state = program_start; buffer = buffer; held = 0 }

module _ (buffer : Bytes) (room : length buffer ≡ 81920) (pieces : List Bytes) where
  at_start : Holds (intake_start buffer)
  at_start = record { room = room; short = omega arith; unbroken = lacks_nil 10 }

  -- before each piece the state is sound but for its count of lines, which is what `input_pieces::feed` needs: it tests nothing
  pub pieces_given : RunGiven (read_on pieces (intake_start buffer)).state
  pieces_given = reads_given pieces (intake_start buffer) start_given

  pub reads_whole : state_at_end (read_on pieces (intake_start buffer)) ≡ after_input after_event program_start (flatten pieces)
  reads_whole = reads_stream pieces (intake_start buffer) at_start ∙ pieces_whole after_event program_start pieces

  -- The program: each piece as it is read, up to the first refusal or to the input's end, then the end. The bytes that it is told to print are what is defined for the whole
  -- input, whatever output and buffer held before, and however the input was cut.
  pub roadlist_pieces : (out : Bytes) → let r = (finish_on out (read_on pieces (intake_start buffer))).output in take r.written r.out ≡ roadlist_of (flatten pieces)
  unfolding finish_on roadlist_of
  roadlist_pieces out =
      let x = ending_at (state_at_end (read_on pieces (intake_start buffer))) in
      take-append_seam x.text (drop (length x.text) out) ∙ ap (λ (s : State). (ending_at s).text) reads_whole
