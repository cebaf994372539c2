-- `version_floor::version_of_word` meets its contract.
use mathlib.Core.Path.{sym, ◌∙◌, ap}
use native.Mathlib.Omega.{arith}
use mir.Syntax.{w32}
use mir.Val.{to_z}
use mir.Facts.{to_z-of_z, sfits_to_z, Fits-of_lt}
use borrow.Author.Tests.{lt-ltb}
use Rattle.version_floor.specs.Version.{of_word}
use Rattle.version_floor.proofs.Versions.{word_absent}
use Rattle.version_floor.proofs.version_of_word.Goals as goal

pub returns-in-Ok : goal.returns-in-Ok
unfolding of_word
returns-in-Ok c =
    let e = c.in-Ok.ensures in
    let f = c.cast_signed.ensures ∙ ap (to_z w32) e.1 in
    rw (f, to_z-of_z (sfits_to_z (Fits-of_lt e.0)), lt-ltb _ _ e.0)

pub returns-in-Err : goal.returns-in-Err
returns-in-Err c = let e = c.in-Err.ensures in sym (word_absent c.args.w (omega (arith, e)))
