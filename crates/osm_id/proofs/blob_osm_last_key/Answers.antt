-- `osm_id::blob_osm_last_key` meets its contract.
use mathlib.Core.Path.{◌∙◌, ap}
use native.Mathlib.Omega.{arith}
use lib.IntN.{pos}
use lib.Signed.{◌<ℤ◌, ◌≤ℤ◌}
use mir.Facts.{to_z-of_z}
use Rattle.std.proofs.lemmas.Int.{ints}
use Rattle.osm_id.specs.Order.{osm_key_of}
use Rattle.osm_id.proofs.Steps.{last_least, last_natural, last_positive}
use Rattle.osm_id.proofs.blob_osm_last_key.Goals.{then-min_id-lt0+then-max_id-le0, else-min_id-lt0, else-min_id-lt0-via-then-min_id-lt0+else-max_id-le0, else-min_id-lt0-via-else-min_id-lt0}
use Rattle.osm_id.proofs.blob_osm_last_key.Goals as goal

pub returns : goal.returns
returns c =
    let a = c.args in
    let lo = to_z-of_z c.ranges.min_id in
    let hi = to_z-of_z c.ranges.max_id in
    c.osm_id_key.ensures
    ∙ elim c.if-min_id-lt0.branch [
      | then-min_id-lt0+then-max_id-le0 w ↦
          let h : a.min_id <ℤ pos 0 = omega (arith, ints) in
          ap osm_key_of (w.last-is ∙ lo) ∙ last_least a.min_id a.max_id h (rw hi at w.if-max_id-le0.true)
      | else-min_id-lt0 w ↦
          ap osm_key_of (w.last-is ∙ hi)
          ∙ elim w.else-min_id-lt0.branch [
            | else-min_id-lt0-via-then-min_id-lt0+else-max_id-le0 v ↦ last_positive a.min_id a.max_id (rw hi at v.if-max_id-le0.false)
            | else-min_id-lt0-via-else-min_id-lt0 v ↦ let h : pos 0 ≤ℤ a.min_id = omega (arith, ints) in last_natural a.min_id a.max_id h
          ]
    ]
