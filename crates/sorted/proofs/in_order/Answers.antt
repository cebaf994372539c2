-- `sorted::in_order` meets its contract: the library's test of neighbours is the walk down the list.
use mathlib.Core.Path.{sym, ◌∙◌}
use Rattle.std.proofs.Common.{rules}
use Rattle.base.proofs.Neighbours.{neighbours_sorted}
use Rattle.sorted.proofs.Steps.{word_before, rises}
use Rattle.sorted.proofs.in_order.Goals as goal

pub returns : goal.returns
returns c =
    let ws = c.args.ids.now in
    neighbours_sorted word_before ws c.is_sorted_by.result c.is_sorted_by.ensures.cases (λ a b f k. search rules) ∙ sym (rises ws)
