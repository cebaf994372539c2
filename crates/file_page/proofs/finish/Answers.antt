-- The end's answer decides what is printed.
use mathlib.Core.Path.{◌≡◌, ◌∙◌, ap}
use native.Mathlib.Omega.{arith}
use borrow.Author.Rules.{rules}
use lib.ListN.{length}
use Rattle.file_reader.specs.Held.{file_seen}
use Rattle.program_ending.specs.Ending.{end_output}
use Rattle.file_page.proofs.Ends.{ended_sound, ends_so}
use Rattle.file_page.proofs.finish.Goals as goal

pub returns : goal.returns
returns c =
    let k = c.args in
    let f = file_seen k.state.now k.file.now in
    let e = c.end_on-answer in
    let n : length k.out.now ≡ 2097152 = search rules in
    c.put_ending.ensures (omega (arith, n)) (ended_sound f f e.result e.ensures) ∙ ap (end_output k.out.now) (ends_so f f e.result e.ensures k.out.now n)
