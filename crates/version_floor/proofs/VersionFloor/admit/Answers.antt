-- `version_floor::VersionFloor::admit` meets its contract.
use Rattle.std.specs.Prelude.{Err}
use mathlib.Core.Path.{ap}
use mir.Syntax.{w32}
use mir.Val.{SFits}
use mir.Facts.{to_z-of_z}
use borrow.Author.Rules.{rules}
use Rattle.signed.proofs.Bits.{compared}
use Rattle.version_floor.specs.Version.{admit_of}
use Rattle.version_floor.proofs.VersionFloor.admit.Goals as goal

pub returns-in-Some-Some : goal.returns-in-Some-Some
unfolding admit_of
returns-in-Some-Some c =
    let v = c.in-Some-Some in
    let x : SFits w32 v.version = search rules in
    let y : SFits w32 v.floor = search rules in
    rw (v.is-0, v.is-1, compared w32 v.version v.floor x.sfits y.sfits c.if-version-floor.true) (ap Err (to_z-of_z y))

pub returns-in_default : goal.returns-in_default
unfolding admit_of
returns-in_default c =
    let v = c.in-Some-Some in
    let x : SFits w32 v.version = search rules in
    let y : SFits w32 v.floor = search rules in
    rw (v.is-0, v.is-1, compared w32 v.version v.floor x.sfits y.sfits c.if-version-floor.false)

pub returns-in_default-2 : goal.returns-in_default-2
unfolding admit_of
returns-in_default-2 c = rw (c.in_default.is-0, c.in_default.is-1)

pub returns-in_default-3 : goal.returns-in_default-3
unfolding admit_of
returns-in_default-3 c = rw (c.in_default.is-0)
