-- The claim is the version's bits where the flag is set.
use mathlib.Core.Path.{sym, ◌∙◌}
use native.Mathlib.Omega.{arith}
use mir.Syntax.{w32}
use mir.Facts.{to_z-of_z, sfits_to_z, Fits-of_lt}
use Rattle.model.specs.Record.{claim_of}
use Rattle.compact.specs.Held.{meta_of}
use Rattle.compact.proofs.ArenaMeta.claim.Goals as goal

pub returns-then-has_version : goal.returns-then-has_version
unfolding claim_of meta_of
returns-then-has_version c =
    let m = c.args.self in
    rw (c.cast_signed.ensures, to_z-of_z (sfits_to_z {w = w32} {n = m.version} (Fits-of_lt (omega arith))), ← c.has_version.ensures, c.if-has_version.true)

pub returns-else-has_version : goal.returns-else-has_version
unfolding claim_of meta_of
returns-else-has_version c = rw (← c.has_version.ensures, c.if-has_version.false)
