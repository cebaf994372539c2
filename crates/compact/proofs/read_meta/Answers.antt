-- Metadata is read field by field, from the rest of the bytes.
use Prim.Native.Nat.{◌+◌}
use mathlib.Core.Path.{◌≡◌, ◌∙◌}
use native.Mathlib.Omega.{arith}
use Rattle.compact.specs.View.{meta_at}
use Rattle.compact.proofs.Rests.{number_in_rest}
use Rattle.compact.proofs.read_meta.Goals as goal

pub returns : goal.returns
unfolding meta_at
returns c =
    let s = c.args.bytes.now in
    let at = c.args.at in
    let m = c.min.ensures in
    let z : at + 0 ≡ at = omega arith in
    rw (
      c.get_u8.ensures ∙ number_in_rest 1 s at _ 0 m,
      z,
      c.get_u32.ensures ∙ number_in_rest 4 s at _ 1 m,
      c.get_u64.ensures ∙ number_in_rest 8 s at _ 5 m,
      c.get_u64-2.ensures ∙ number_in_rest 8 s at _ 13 m,
      c.get_u32-2.ensures ∙ number_in_rest 4 s at _ 21 m,
      c.get_u32-3.ensures ∙ number_in_rest 4 s at _ 25 m,
    )
