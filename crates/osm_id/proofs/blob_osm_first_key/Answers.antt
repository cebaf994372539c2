-- `osm_id::blob_osm_first_key` meets its contract.
use mathlib.Core.Path.{◌∙◌, ap}
use mir.Syntax.{w64}
use mir.Facts.{to_z-of_z}
use Rattle.osm_id.specs.Order.{osm_key_of}
use Rattle.osm_id.proofs.Steps.{first_natural, first_other}
use Rattle.osm_id.proofs.blob_osm_first_key.Goals.{then-min_id-ge0, else-min_id-ge0}
use Rattle.osm_id.proofs.blob_osm_first_key.Goals as goal

pub returns : goal.returns
returns c =
    let a = c.args in
    let lo = to_z-of_z c.ranges.min_id in
    let hi = to_z-of_z c.ranges.max_id in
    c.osm_id_key.ensures
    ∙ elim c.if-min_id-ge0.branch [
      | then-min_id-ge0 w ↦ ap osm_key_of (w.first-is ∙ lo) ∙ first_natural a.min_id a.max_id (rw lo at w.if-min_id-ge0.true)
      | else-min_id-ge0 w ↦
          let m = to_z-of_z {w = w64} (record { sfits = w.min-first.type_inv }) ∙ rw hi at w.min-first.ensures.value in
          ap osm_key_of (w.first-is ∙ m) ∙ first_other a.min_id a.max_id (rw lo at w.if-min_id-ge0.false)
    ]
