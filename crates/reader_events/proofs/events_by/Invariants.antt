-- `events_by` goes from line to line. The invariant: the memory is the same, the lines that are left lie behind the bytes that were taken, and what they come to from the present state
-- is what all lines come to.
use Rattle.input_lines.specs.Lines.{lines_of}
use Rattle.input_lines.specs.Place.{lines_left}
use Rattle.reader.specs.Lent.{state_held, IsSameState}
use Rattle.text_index.specs.Chained.{StoreChained}
use Rattle.text_index.specs.Lent.{chains_held, IsSameChains}
use Rattle.reader_events.specs.Runs.{RunGiven}
use Rattle.reader_events.proofs.Runs.{Within}
use Rattle.reader_events.proofs.Chains.{RunningBy}
use Rattle.reader_events.proofs.events_by.Given as goal

abbrev pub invariant-loop-line : goal.invariant-loop-line
invariant-loop-line l =
    IsSameState l.state l.fn.state
    × IsSameChains l.chains l.fn.chains
    × Within l.run (lines_left l.line-iterator) l.taken
    × (RunGiven (state_held l.fn.state) → StoreChained (chains_held l.fn.chains) (state_held l.fn.state).overlay.texts
    → RunningBy (chains_held l.chains) (lines_of l.run) (state_held l.fn.state) (lines_left l.line-iterator) l.taken (state_held l.state))
