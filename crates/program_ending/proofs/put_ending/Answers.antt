-- The end is accepted, and the page is printed; or the line of its refusal.
use mathlib.Core.Path.{◌≡◌, ◌∙◌}
use native.Mathlib.Omega.{arith}
use lib.ListN.{length}
use Prim.Native.Nat.{◌+◌}
use Rattle.reader.specs.Lent.{state_seen}
use Rattle.program_ending.specs.Ending.{end_output, page_ending}
use Rattle.program_ending.proofs.Ends.{overlay_sound, lines_count}
use Rattle.program_ending.proofs.put_ending.Goals as goal

pub returns-in-Ok : goal.returns-in-Ok
returns-in-Ok c =
    λ l g.
    let k = c.args in
    let s = state_seen k.state.now in
    let sound = g c.in-Ok.is in
    let n : c.saturating_add.result ≡ s.reader.lines + 1 = omega (arith, lines_count s sound, c.saturating_add.ensures) in
    rw c.in-Ok.is
    (c.put_page.ensures l (rw c.storage.ensures (overlay_sound s sound))
    ∙ (λ i. end_output k.out.now (page_ending (length k.out.now) (c.storage.ensures i) (n i))))

pub returns-in-Err : goal.returns-in-Err
returns-in-Err c = λ l g. rw c.in-Err.is (c.put_refusal.ensures l)
