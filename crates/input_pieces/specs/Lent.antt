-- What is held between pieces, as a call is lent it and as it leaves it: the reader's state, and the buffer of the input.
use Rattle.std.specs.Prelude.{min}
use Rattle.reader.specs.declared.ReaderState.{ReaderState}
use Rattle.reader.specs.Lent.{state_held}
use Rattle.input_pieces.specs.declared.InputBuffer.{InputBuffer}
use Rattle.input_pieces.specs.Feed.{Intake}

-- of the bytes held at most 16,384 count
abbrev pub intake_lent : ReaderState → InputBuffer → Intake
intake_lent s b = record { state = state_held s; buffer = b.bytes.now; held = min b.held 16384 }

abbrev pub intake_left : ReaderState → InputBuffer → Intake
intake_left s b = record { state = state_held s; buffer = b.bytes.now; held = b.held }
