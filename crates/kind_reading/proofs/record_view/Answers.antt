-- The bytes that are used, as far as the arena goes, and where the record there ends.
use Rattle.std.specs.Prelude.{Err, None, Some}
use mathlib.Core.Path.{◌≡◌, sym, ◌∙◌}
use native.Mathlib.Omega.{arith}
use borrow.Author.Rules.{rules}
use lib.ListN.{take}
use Rattle.refusal.specs.declared.Refusal.TheVariants.{Unsound}
use Rattle.kind_reading.proofs.Views.{end_later, view_to_lem}
use Rattle.kind_reading.proofs.record_view.Goals as goal

pub returns-in_err-e : goal.returns-in_err-e
returns-in_err-e c =
    let s = c.args.storage.now in
    let n = c.min-n in
    let none : c.end.result ≡ None = search rules in
    let told : c.from_residual.result ≡ Err Unsound = search rules in
    told ∙ view_to_lem c.args.strings s.kind s.arena.now s.used c.args.at n.result None (omega (arith, n.ensures)) (sym none ∙ c.end.ensures)

pub overflow_sub-result : goal.overflow_sub-result
overflow_sub-result c =
    let s = c.args.storage.now in
    let some : c.end.result ≡ Some c.in_ok-e.e = search rules in
    omega (arith, end_later c.args.strings s.kind (take c.min-n.result s.arena.now) c.args.at c.in_ok-e.e (sym some ∙ c.end.ensures))

pub returns : goal.returns
returns c =
    let s = c.args.storage.now in
    let n = c.min-n in
    let some : c.end.result ≡ Some c.in_ok-e.e = search rules in
    view_to_lem c.args.strings s.kind s.arena.now s.used c.args.at n.result (Some c.in_ok-e.e) (omega (arith, n.ensures)) (sym some ∙ c.end.ensures)
