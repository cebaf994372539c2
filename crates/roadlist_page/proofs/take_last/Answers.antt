-- Nothing is held, or what is held is an event.
use native.Mathlib.Omega.{arith}
use mathlib.Core.Path.{◌≡◌, sym, ◌∙◌, ap}
use lib.ListN.{length}
use lib.Seq.{take-length}
use Rattle.base.specs.Bytes.{Bytes}
use Rattle.reader.specs.Event.{event_on}
use Rattle.reader.specs.Lent.{state_held}
use Rattle.roadlist_page.proofs.Ends.{last_none, last_event}
use borrow.Author.Rules.{rules}
use Rattle.roadlist_page.proofs.take_last.Goals as goal

pub returns-then-is_empty-clause-value : goal.returns-then-is_empty-clause-value
returns-then-is_empty-clause-value c =
    let n : length c.args.last.now ≡ 0 = search rules in
    last_none (record { state = state_held c.args.state.now; buffer = c.args.last.now; held = length c.args.last.now }) n

pub returns-clause-value : goal.returns-clause-value
returns-clause-value c =
    let k = c.args in
    let n : length k.last.now ≡ 0 → ⊥ = search rules in
    last_event (record { state = state_held k.state.now; buffer = k.last.now; held = length k.last.now }) n (omega arith) _
    (c.event_on.ensures.value ∙ ap (λ (l : Bytes). event_on l (state_held k.state.now)) (sym (take-length k.last.now)))
