-- `read_six`: one law for the first field that is not digits, and one for all six.
use mathlib.Core.Path.{sym}
use Rattle.stamp.specs.Stamp.{stamp_field}
use Rattle.stamp.proofs.Reading.{no_year, no_month, no_day, no_hour, no_minute, no_second, moment_of_lem}
use Rattle.stamp.proofs.read_six.Goals as goal

pub returns-in_err-stamp_field : goal.returns-in_err-stamp_field
unfolding stamp_field
returns-in_err-stamp_field c = rw c.from_residual.ensures (sym (no_year c.args.s.now (sym c.in_err-stamp_field.ensures)))

pub returns-in_err-stamp_field-2 : goal.returns-in_err-stamp_field-2
unfolding stamp_field
returns-in_err-stamp_field-2 c = rw c.from_residual-in_err-stamp_field-2.ensures (sym (no_month c.args.s.now (sym c.in_err-stamp_field-2.ensures)))

pub returns-in_err-stamp_field-3 : goal.returns-in_err-stamp_field-3
unfolding stamp_field
returns-in_err-stamp_field-3 c = rw c.from_residual-in_err-stamp_field-3.ensures (sym (no_day c.args.s.now (sym c.in_err-stamp_field-3.ensures)))

pub returns-in_err-stamp_field-4 : goal.returns-in_err-stamp_field-4
unfolding stamp_field
returns-in_err-stamp_field-4 c = rw c.from_residual-in_err-stamp_field-4.ensures (sym (no_hour c.args.s.now (sym c.in_err-stamp_field-4.ensures)))

pub returns-in_err-stamp_field-5 : goal.returns-in_err-stamp_field-5
unfolding stamp_field
returns-in_err-stamp_field-5 c = rw c.from_residual-in_err-stamp_field-5.ensures (sym (no_minute c.args.s.now (sym c.in_err-stamp_field-5.ensures)))

pub returns-in_err-stamp_field-6 : goal.returns-in_err-stamp_field-6
unfolding stamp_field
returns-in_err-stamp_field-6 c = rw c.from_residual-in_err-stamp_field-6.ensures (sym (no_second c.args.s.now (sym c.in_err-stamp_field-6.ensures)))

pub returns : goal.returns
unfolding stamp_field
returns c =
    sym (moment_of_lem c.args.s.now _ (sym c.in_ok-stamp_field.ensures) (sym c.in_ok-stamp_field-2.ensures) (sym c.in_ok-stamp_field-3.ensures) (sym c.in_ok-stamp_field-4.ensures) (sym c.in_ok-stamp_field-5.ensures) (sym c.in_ok-stamp_field-6.ensures))
