-- `text::long` meets its contract: what it reads is what the length of the character goes by, and there is no character of class 0.
use Prim.Native.Nat.{◌+◌, ◌%◌}
use mathlib.Core.Path.{◌≡◌}
use native.Mathlib.Omega.{arith}
use Rattle.text.specs.Check.{byte_at, joined_bits}
use Rattle.text.proofs.Chars.{join_most}
use Rattle.text.proofs.Classes.{class_most, at_none, at_2, at_3, at_4, stops_2, stops_3, stops_4, measured}
use Rattle.text.proofs.long.Goals as goal

pub returns-in_err-x-in-2 : goal.returns-in_err-x-in-2
returns-in_err-x-in-2 c =
    let x = rw c.from-first.ensures at c.in_err-x-in-2.ensures.joined in
    rw c.from_residual.ensures (stops_2 (rw c.in-2.is at c.requires.starting) (omega (arith, x)))

pub returns-in_ok-x-in-2 : goal.returns-in_ok-x-in-2
returns-in_ok-x-in-2 c =
    let x = rw c.from-first.ensures at c.in_ok-x-in-2.ensures.joined in
    rw c.size.ensures (measured _ 2 0x80 _ (omega arith) (rw x (at_2 (rw c.in-2.is at c.requires.starting))))

pub returns-in_err-x-in-3 : goal.returns-in_err-x-in-3
returns-in_err-x-in-3 c =
    let s = c.args.s.now in
    let at = c.args.at in
    let x = rw c.from-first.ensures at c.in_err-x-in-3.ensures.joined in
    rw c.from_residual-in_err-x-in-3.ensures
    (stops_3 (rw c.in-3.is at c.requires.starting) (omega (arith, x, join_most (joined_bits (byte_at s at % 16) (byte_at s (at + 1))) (byte_at s (at + 2)))))

pub returns-in_err-y-in-3 : goal.returns-in_err-y-in-3
returns-in_err-y-in-3 c =
    let x = rw c.from-first.ensures at c.in_ok-x-in-3.ensures.joined in
    let y = rw x at c.in_err-y-in-3.ensures.joined in
    rw c.from_residual-in_err-y-in-3.ensures (stops_3 (rw c.in-3.is at c.requires.starting) (omega (arith, y)))

pub returns-in_ok-y-in-3 : goal.returns-in_ok-y-in-3
returns-in_ok-y-in-3 c =
    let x = rw c.from-first.ensures at c.in_ok-x-in-3.ensures.joined in
    let y = rw x at c.in_ok-y-in-3.ensures.joined in
    rw c.size-in-3.ensures (measured _ 3 0x800 _ (omega arith) (rw y (at_3 (rw c.in-3.is at c.requires.starting))))

pub returns-in_err-x-in-4 : goal.returns-in_err-x-in-4
returns-in_err-x-in-4 c =
    let s = c.args.s.now in
    let at = c.args.at in
    let x = rw c.from-first.ensures at c.in_err-x-in-4.ensures.joined in
    let v = joined_bits (byte_at s at % 8) (byte_at s (at + 1)) in
    let w = joined_bits v (byte_at s (at + 2)) in
    rw c.from_residual-in_err-x-in-4.ensures
    (stops_4 (rw c.in-4.is at c.requires.starting) (omega (arith, x, join_most v (byte_at s (at + 2)), join_most w (byte_at s (at + 3)))))

pub returns-in_err-y-in-4 : goal.returns-in_err-y-in-4
returns-in_err-y-in-4 c =
    let s = c.args.s.now in
    let at = c.args.at in
    let x = rw c.from-first.ensures at c.in_ok-x-in-4.ensures.joined in
    let y = rw x at c.in_err-y-in-4.ensures.joined in
    let w = joined_bits (joined_bits (byte_at s at % 8) (byte_at s (at + 1))) (byte_at s (at + 2)) in
    rw c.from_residual-in_err-y-in-4.ensures (stops_4 (rw c.in-4.is at c.requires.starting) (omega (arith, y, join_most w (byte_at s (at + 3)))))

pub returns-in_err-z-in-4 : goal.returns-in_err-z-in-4
returns-in_err-z-in-4 c =
    let x = rw c.from-first.ensures at c.in_ok-x-in-4.ensures.joined in
    let y = rw x at c.in_ok-y-in-4.ensures.joined in
    let z = rw y at c.in_err-z-in-4.ensures.joined in
    rw c.from_residual-in_err-z-in-4.ensures (stops_4 (rw c.in-4.is at c.requires.starting) (omega (arith, z)))

pub returns-in_ok-z-in-4 : goal.returns-in_ok-z-in-4
returns-in_ok-z-in-4 c =
    let x = rw c.from-first.ensures at c.in_ok-x-in-4.ensures.joined in
    let y = rw x at c.in_ok-y-in-4.ensures.joined in
    let z = rw y at c.in_ok-z-in-4.ensures.joined in
    rw c.size-in-4.ensures (measured _ 4 0x10000 _ (omega arith) (rw z (at_4 (rw c.in-4.is at c.requires.starting))))

pub returns-in_default : goal.returns-in_default
returns-in_default c =
    let h = c.requires.starting in
    let e : c.args.k ≡ 0 = omega (arith, class_most (byte_at c.args.s.now c.args.at)) in
    at_none (rw e at h)
