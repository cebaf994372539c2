-- A last line, and what the end prints.
use Prim.Native.Nat.{ℕ}
use mathlib.Core.Path.{◌∙◌, ap}
use Rattle.reader.specs.State.{State}
use Rattle.reader.specs.Lent.{state_held}
use Rattle.input_pieces.specs.Feed.{Intake}
use Rattle.roadlist_page.specs.Roadlist.{ending_at}
use Rattle.program_ending.specs.Ending.{end_output}
use Rattle.roadlist_page.specs.Finish.{finish_on}
use Rattle.roadlist_page.proofs.Ends.{finished_by, last_lent}
use Rattle.roadlist_page.proofs.finish.Goals as goal

pub returns-clause-value : goal.returns-clause-value
returns-clause-value c =
    let k = c.args in
    let h = c.lesser-held in
    let s = state_held k.state.now in
    let f : Intake = record { state = s; buffer = k.input.now.bytes.now; held = h.result } in
    finished_by f _ k.out.now _ (c.take_last.ensures.value ∙ last_lent f) (c.put_end.ensures ∙ ap (λ (t : State). end_output k.out.now (ending_at t)) c.view.ensures)
    ∙ ap (λ (n : ℕ). finish_on k.out.now (record { state = s; buffer = k.input.now.bytes.now; held = n })) h.ensures
