-- All bytes, by chains that hold no handle.
use mathlib.Core.Path.{refl}
use Rattle.reader.specs.Lent.{state_held}
use Rattle.reader_events.proofs.Chains.{zeros_given}
use Rattle.file_reader.proofs.piece_untested.Goals as goal

pub returns-clause-value : goal.returns-clause-value
returns-clause-value c = λ g. c.bytes_by.ensures.value g (zeros_given _ (state_held c.args.state.now) refl refl g)
