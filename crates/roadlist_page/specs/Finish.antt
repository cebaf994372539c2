-- The end of the input: a last line, the end of the document, and what is printed at the start of the output.
use Rattle.base.specs.Bytes.{Bytes}
use Rattle.overlay.specs.Overlay.{Overlay}
use Rattle.input_pieces.specs.Feed.{Intake, state_at_end}
use Rattle.program_ending.specs.Ending.{EndOutput, end_output}
use Rattle.roadlist_page.specs.Roadlist.{ending_at}

-- what is left of the storage and of the output
pub record Finished : Type 0 where
  pub overlay : Overlay
  pub parts : Bytes
  pub output : EndOutput

unfoldable pub finish_on : Bytes → Intake → Finished
finish_on out f = record { overlay = (state_at_end f).overlay; parts = (state_at_end f).parts; output = end_output out (ending_at (state_at_end f)) }
