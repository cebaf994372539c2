-- A record from an offset on is one at the front of the rest.
use native.Mathlib.Omega.{arith}
use Rattle.compact_legal.proofs.Fronts.{rest_of, end_at, end_bad, end_past}
use Rattle.compact_legal.proofs.Records.end.Goals as goal

pub returns-in_err-n : goal.returns-in_err-n
returns-in_err-n c =
    let r = c.args.self.now in
    let s = r.bytes.now in
    rw c.from_residual.ensures (end_bad r.strings r.kind s c.args.at (rw (rest_of s c.args.at) at c.in_err-n.ensures))

pub overflow_add-result : goal.overflow_add-result
overflow_add-result c =
    let r = c.args.self.now in
    let s = r.bytes.now in
    omega (arith, (end_at r.strings r.kind s c.args.at (omega arith) c.in_ok-n.n (rw (rest_of s c.args.at) at c.in_ok-n.ensures)).1)

pub returns-then-at-self : goal.returns-then-at-self
returns-then-at-self c =
    let r = c.args.self.now in
    let s = r.bytes.now in
    (end_at r.strings r.kind s c.args.at (omega arith) c.in_ok-n.n (rw (rest_of s c.args.at) at c.in_ok-n.ensures)).0

pub returns : goal.returns
returns c = let r = c.args.self.now in end_past r.strings r.kind r.bytes.now c.args.at c.if-at-self.false
