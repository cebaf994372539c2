-- What the program prints for a file in pieces is what is defined for the whole of it.
use mathlib.Core.Path.{◌≡◌, ◌∙◌, ap}
use mathlib.Core.List.{List, flatten}
use lib.ListN.{length, take, drop}
use lib.Seq.{take-append_seam}
use Rattle.base.specs.Bytes.{Bytes}
use Rattle.reader_events.specs.Runs.{RunGiven}
use Rattle.file_reader.specs.File.{FileState}
use Rattle.program_ending.specs.Ending.{end_output}
use Rattle.file_page.specs.Roadfile.{program_start, read_on, file_ending, roadfile_of}
use Rattle.file_page.proofs.Pieces.{pieces_whole}
use Rattle.file_page.proofs.Starts.{after_given}

module _ (pieces : List Bytes) where
  -- before each piece the state is sound but for its count of line feeds, which is what `file_reader::piece_untested` needs: it tests nothing
  pub pieces_given : RunGiven (read_on pieces program_start).state
  pieces_given = rw (pieces_whole pieces program_start) (after_given (flatten pieces))

  -- The program: each piece as it is read, up to the first refusal or to the file's end, then the end. The bytes that it is told to print are what is defined for the whole file,
  -- whatever the output held before, and however the file was cut.
  pub roadfile_pieces : (out : Bytes) → let r = end_output out (file_ending (read_on pieces program_start)) in take r.written r.out ≡ roadfile_of (flatten pieces)
  unfolding roadfile_of
  roadfile_pieces out =
      let x = file_ending (read_on pieces program_start) in
      take-append_seam x.text (drop (length x.text) out) ∙ ap (λ (f : FileState). (file_ending f).text) (pieces_whole pieces program_start)
