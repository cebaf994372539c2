use mathlib.Core.Path.{◌≡◌}
use Prim.Native.Nat.{ℕ}
use Rattle.std.specs.Prelude.{Err, Ok, Result, Some}
use Rattle.std.specs.Result.{result_ok}
use Rattle.kind_table.proofs.Table.found_row.Goals as goal

found : (r : Result ℕ ℕ) (i : ℕ) → Some i ≡ result_ok r → r ≡ Ok i
found (Ok j) i e = cc
found (Err p) i e = cc

pub returns : goal.returns
returns c = rw (found c.args.found c.in_ok-i.i c.in_ok-i.ensures.value) c.row.ensures
