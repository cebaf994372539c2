-- `osm_id::rank_of_bits` meets its contract: an id by its sign.
use mathlib.Core.Path.{◌≡◌, sym, ◌∙◌, ap}
use native.Mathlib.Omega.{arith}
use lib.IntN.{pos, nat_abs}
use lib.Signed.{◌<ℤ◌, ◌≤ℤ◌}
use mir.Syntax.{w64}
use mir.Val.{to_z}
use mir.Facts.{to_z-of_z}
use Rattle.std.proofs.lemmas.Int.{ints}
use Rattle.osm_id.specs.Order.{rank}
use Rattle.osm_id.proofs.Steps.{rank_low, rank_high}
use Rattle.osm_id.proofs.rank_of_bits.Goals as goal

pub returns-in-minus9223372036854775808-to-0 : goal.returns-in-minus9223372036854775808-to-0
returns-in-minus9223372036854775808-to-0 c =
    let id = c.cast_signed-id in
    let h : id.result ≤ℤ pos 0 = omega (arith, ints) in
    let u = c.unsigned_abs.ensures.value ∙ ap nat_abs (to_z-of_z {w = w64} {z = id.result} (record { sfits = id.type_inv })) in
    u ∙ (sym (rank_low _ h) ∙ ap rank id.ensures)

pub returns-in-1-to-9223372036854775807 : goal.returns-in-1-to-9223372036854775807
returns-in-1-to-9223372036854775807 c =
    let id = c.cast_signed-id in
    let h : pos 0 <ℤ id.result = omega (arith, ints) in
    let u = c.unsigned_abs-in-1-to-9223372036854775807.ensures.value ∙ ap nat_abs (to_z-of_z {w = w64} {z = id.result} (record { sfits = id.type_inv })) in
    let r : rank id.result ≡ rank (to_z w64 c.args.bits) = ap rank id.ensures in
    omega (arith, u, rank_high _ h, r)
