-- The end's answer decides what is printed.
use mathlib.Core.Path.{◌≡◌, ◌∙◌, ap}
use native.Mathlib.Omega.{arith}
use borrow.Author.Rules.{rules}
use lib.ListN.{length}
use Rattle.reader.specs.Lent.{state_seen}
use Rattle.program_ending.specs.Ending.{end_output}
use Rattle.roadlist_page.proofs.Ends.{end_sound, ends_so}
use Rattle.roadlist_page.proofs.put_end.Goals as goal

pub returns : goal.returns
returns c =
    let k = c.args in
    let s = state_seen k.state.now in
    let e = c.end_on-answer in
    let n : length k.out.now ≡ 65536 = search rules in
    c.put_ending.ensures (omega (arith, n)) (end_sound s e.result e.ensures) ∙ ap (end_output k.out.now) (ends_so s e.result e.ensures k.out.now n)
