-- `TableMut::put_row` meets its contract: the row is stored by what the search found, which lies among the rows that are held.
use mathlib.Core.Path.{sym, ◌∙◌}
use native.Mathlib.Numerals.{add-one}
use native.Mathlib.Omega.{arith}
use Rattle.kind_table.specs.Words.{count_after, table_after}
use Rattle.kind_table.proofs.Halves.{lookup_at, lookup_place}
use Rattle.kind_table.proofs.Tables.{held_fits, held_counted, stored_known, stored_new, stored_full}
use Rattle.kind_table.proofs.TableMut.put_row.Goals as goal

pub returns-in-Ok-clause-done : goal.returns-in-Ok-clause-done
unfolding table_after count_after
returns-in-Ok-clause-done c =
    let a = c.args in
    let s = a.self.now in
    λ e. rw (c.store_row.ensures.stored, c.store_row.ensures.count, stored_known s.words.now s.count a.row c.in-Ok.i (sym e ∙ c.in-Ok.is))

pub returns-in-Err-clause-done : goal.returns-in-Err-clause-done
unfolding table_after count_after
returns-in-Err-clause-done c =
    let a = c.args in
    let s = a.self.now in
    λ e. rw (c.insert_row.ensures.inserted, c.insert_row.ensures.count, add-one, stored_new s.words.now s.count a.row c.in-Err.p (sym e ∙ c.in-Err.is) (omega arith))

pub returns-in_default-clause-done : goal.returns-in_default-clause-done
returns-in_default-clause-done c =
    let a = c.args in
    let s = a.self.now in
    λ e. absurd (omega (arith, lookup_at s.words.now a.row.rank s.count _ (sym e ∙ c.in-Ok.is), held_fits s.words.now s.count))

pub returns-in_default-2-clause-done : goal.returns-in_default-2-clause-done
unfolding table_after count_after
returns-in_default-2-clause-done c =
    let a = c.args in
    let s = a.self.now in
    λ e. rw (stored_full s.words.now s.count a.row c.in-Err.p (sym e ∙ c.in-Err.is) (omega arith))

pub returns-in_default-3-clause-done : goal.returns-in_default-3-clause-done
returns-in_default-3-clause-done c =
    let a = c.args in
    let s = a.self.now in
    λ e. absurd (omega (arith, lookup_place s.words.now a.row.rank s.count _ (sym e ∙ c.in-Err.is), held_counted s.words.now s.count))
