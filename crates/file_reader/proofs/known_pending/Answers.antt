-- Each number is a value of its type.
use native.Mathlib.Omega.{arith}
use Rattle.reader_events.proofs.Runs.{head_fits_lem, meta_fits_lem}
use Rattle.file_reader.proofs.known_pending.Goals as goal

pub returns-clause-head : goal.returns-clause-head
returns-clause-head c =
    head_fits_lem c.args.pending.head (omega (arith, c.well_formed)) (omega (arith, c.well_formed)) (omega (arith, c.well_formed)) (omega (arith, c.well_formed)) (omega (arith, c.well_formed))

pub returns-clause-meta : goal.returns-clause-meta
returns-clause-meta c =
    meta_fits_lem c.args.pending.meta (omega (arith, c.well_formed)) (omega (arith, c.well_formed)) (omega (arith, c.well_formed)) (omega (arith, c.well_formed)) (omega (arith, c.well_formed)) (omega (arith, c.well_formed))
