-- `osm_id::osm_id_key` meets its contract: an id by its sign.
use mathlib.Core.Path.{◌≡◌, sym, ◌∙◌, ap}
use native.Mathlib.Omega.{arith}
use lib.IntN.{pos, nat_abs}
use lib.Signed.{◌<ℤ◌}
use mir.Facts.{to_z-of_z}
use Rattle.std.proofs.lemmas.Int.{ints}
use Rattle.osm_id.proofs.Steps.{key_zero, key_negative, key_positive}
use Rattle.osm_id.proofs.osm_id_key.Goals.{in-0, in-minus9223372036854775808-to-minus1, in-1-to-9223372036854775807}
use Rattle.osm_id.proofs.osm_id_key.Goals as goal

pub returns : goal.returns
returns c =
    let u : c.unsigned_abs.result ≡ nat_abs c.args.id = c.unsigned_abs.ensures.value ∙ ap nat_abs (to_z-of_z c.ranges.id) in
    elim c.match-id.branch [
      | in-0 w ↦ let h : c.args.id ≡ pos 0 = omega (arith, ints) in rw (w.result-is, u) (sym (key_zero _ h))
      | in-minus9223372036854775808-to-minus1 w ↦ let h : c.args.id <ℤ pos 0 = omega (arith, ints) in rw (w.result-is, u) (sym (key_negative _ h))
      | in-1-to-9223372036854775807 w ↦ let h : pos 0 <ℤ c.args.id = omega (arith, ints) in rw (w.result-is, u) (sym (key_positive _ h))
    ]
