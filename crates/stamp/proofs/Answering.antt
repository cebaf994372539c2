-- Laws of a stamp's answer: what is refused, and what a moment that is taken gives.
use Rattle.std.specs.Prelude.{None, Option, Some, option_map}
use mathlib.Core.Path.{◌≡◌}
use mathlib.Core.Bool.{true, false}
use lib.ListN.{length}
use mir.Syntax.{w64}
use mir.Val.{of_z}
use borrow.Author.Tests.{eq-eqb, ne_eqb}
use Rattle.base.specs.Bytes.{Bytes, both}
use Rattle.stamp.specs.Stamp.{separated, shaped, moment, taken_moment, seconds_of, accepted_moment, stamp, stamp_of}
use Rattle.stamp.specs.declared.Moment.{Moment}

module _ (o : Option Moment) where
  pub no_moment : o ≡ None → option_map (of_z w64) (accepted_moment o) ≡ None
  unfolding accepted_moment
  no_moment e = rw e

  pub not_taken : (t : Moment) → o ≡ Some t → taken_moment t ≡ false → option_map (of_z w64) (accepted_moment o) ≡ None
  unfolding accepted_moment
  not_taken t e f = rw (e, f)

  pub taken_at : (t : Moment) → o ≡ Some t → taken_moment t ≡ true → option_map (of_z w64) (accepted_moment o) ≡ Some (of_z w64 (seconds_of t))
  unfolding accepted_moment
  taken_at t e f = rw (e, f)

module _ (s : Bytes) where
  pub of_shape : length s ≡ 20 → separated s ≡ true → stamp_of s ≡ option_map (of_z w64) (accepted_moment (moment s))
  unfolding stamp_of stamp shaped both
  of_shape l h = rw (eq-eqb (length s) 20 l, h)

  pub not_separated : length s ≡ 20 → separated s ≡ false → stamp_of s ≡ None
  unfolding stamp_of stamp shaped both
  not_separated l h = rw (eq-eqb (length s) 20 l, h)

  pub not_twenty : (length s ≡ 20 → ⊥) → stamp_of s ≡ None
  unfolding stamp_of stamp shaped both
  not_twenty l = rw (ne_eqb (length s) 20 l)
