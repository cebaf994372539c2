-- `TableMut::store_row` meets its contract.
use native.Mathlib.Omega.{arith}
use mathlib.Core.Path.{◌∙◌}
use Rattle.kind_table.proofs.Gaps.{row_lent}
use Rattle.kind_table.proofs.TableMut.store_row.Goals as goal

pub returns-clause-stored : goal.returns-clause-stored
returns-clause-stored c = row_lent c.args.self.now.words.now _ c.args.i _ c.args.row (omega arith) (c.copy_from_slice.ensures.after ∙ c.words.ensures)
