-- `Table::find` meets its contract: a row that was found is among those that are read.
use mathlib.Core.Path.{◌∙◌}
use Rattle.kind_table.proofs.Tables.{row_looked_up}
use Rattle.kind_table.proofs.Table.find.Goals as goal

pub returns : goal.returns
returns c =
    let s = c.args.self.now in
    c.found_row.ensures ∙ row_looked_up s.words.now s.count c.args.rank c.find_row.result c.find_row.ensures
