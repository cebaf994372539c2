-- `Table::is_rising` meets its contract: the library's test of neighbours is the walk down the rows.
use mathlib.Core.Path.{sym, ◌∙◌, ◌≡◌}
use native.Mathlib.Omega.{arith}
use Rattle.std.proofs.Common.{rules}
use Rattle.base.proofs.Neighbours.{neighbours_sorted}
use Rattle.kind_table.specs.Words.{held}
use Rattle.kind_table.proofs.Rises.{rank_less, too_many, sound_where_rises}
use Rattle.kind_table.proofs.Table.is_rising.Goals as goal

pub returns-then-rows-self : goal.returns-then-rows-self
unfolding held
returns-then-rows-self c = let s = c.args.self.now in sym (too_many s.words.now s.count (omega arith))

pub returns : goal.returns
unfolding held
returns c =
    let s = c.args.self.now in
    let n : held s.words.now s.count ≡ s.count = omega arith in
    let checked = neighbours_sorted rank_less c.rows-rows.result.now c.is_sorted_by.result c.is_sorted_by.ensures.cases (λ a b f k. search rules) in
    rw (c.rows-rows.ensures.value, n) at checked ∙ sym (sound_where_rises s.words.now s.count (omega arith))
