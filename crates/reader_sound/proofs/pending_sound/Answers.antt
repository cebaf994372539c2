-- The parts within the lent bytes, then the push that they will make.
use mathlib.Core.Path.{◌≡◌}
use Prim.Native.Nat.{◌-◌}
use native.Mathlib.Omega.{arith}
use Rattle.reader_sound.proofs.Sound.{pending_faulted, pending_beyond}
use Rattle.reader_sound.proofs.pending_sound.Goals as goal

pub returns-in_default : goal.returns-in_default
returns-in_default c = let a = c.args in pending_beyond a.strings a.kind a.parts.now a.pending (omega (arith, c.in_default.ensures.lookup))

pub returns : goal.returns
returns c =
    let a = c.args in
    let l = c.in-Some.ensures.lookup.0 in
    let z : a.pending.used - 0 ≡ a.pending.used = omega arith in
    rw (c.is_ok.ensures.value, c.record_fault.ensures, l.2, z) (pending_faulted a.strings a.kind a.parts.now a.pending l.1)
