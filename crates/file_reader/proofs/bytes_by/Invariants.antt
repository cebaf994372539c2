-- `bytes_by` goes from markup to markup. The invariant: the memory is the same, and what the bytes that are left come to from the present state is what all come to.
use mathlib.Core.Path.{◌≡◌}
use lib.ListN.{length}
use Rattle.reader.specs.Lent.{state_held, IsSameState}
use Rattle.text_index.specs.Chained.{StoreChained}
use Rattle.text_index.specs.Lent.{chains_held, IsSameChains}
use Rattle.reader_events.specs.Runs.{RunGiven}
use Rattle.file_reader.specs.Held.{file_held}
use Rattle.file_reader.proofs.Runs.{Onward}
use Rattle.file_reader.proofs.bytes_by.Given as goal

abbrev pub invariant-loop-state : goal.invariant-loop-state
invariant-loop-state l =
    IsSameState l.state l.fn.state
    × IsSameChains l.chains l.fn.chains
    × (l.file.bytes.ghost_name ≡ l.fn.file.bytes.ghost_name)
    × (RunGiven (state_held l.fn.state) → StoreChained (chains_held l.fn.chains) (state_held l.fn.state).overlay.texts
    → Onward (chains_held l.chains) l.piece (file_held l.fn.state l.fn.file) l.rest (file_held l.state l.file))

abbrev pub decreases-loop-state : goal.decreases-loop-state
decreases-loop-state l = length l.rest
