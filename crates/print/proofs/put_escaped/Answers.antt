-- `put_escaped` stores the byte, or a backslash and its letter.
use Prim.Native.Nat.{◌<◌, ◌≤◌}
use mathlib.Core.Path.{refl}
use mathlib.Core.List.{[], ◌∷◌}
use native.Mathlib.Omega.{arith}
use lib.ListN.{length, set, length-set}
use Rattle.little.proofs.Overs.{over_step, over_nothing}
use Rattle.print.proofs.put_escaped.Goals as goal

pub returns-in-Some : goal.returns-in-Some
returns-in-Some c =
    let a = c.args in
    let e = c.in-Some.ensures in
    let m = c.in-Some.letter in
    let h : 2 ≤ length a.out.now = rw e at c.requires in
    let n : 1 < length (set a.out.now 0 92) = rw length-set (omega arith) in
    rw (e, over_step a.out.now 0 92 (m ∷ []) (omega arith), over_step (set a.out.now 0 92) 1 m [] n, over_nothing) (refl, refl)

pub returns-in-None : goal.returns-in-None
returns-in-None c =
    let a = c.args in
    let e = c.in-None.ensures in
    let h : 1 ≤ length a.out.now = rw e at c.requires in
    rw (e, over_step a.out.now 0 a.b [] (omega arith), over_nothing) (refl, refl)
