use Rattle.std.proofs.Common.{◌≡◌, ◌+◌, ◌-◌, ◌/◌, ◌%◌, suc, ◌∷◌, inr, length, length-take, min, arith}
use Rattle.little.specs.Little.{le}
use Rattle.little.proofs.Littles.{le_suc, length_le}
use Rattle.little.proofs.Overs.{stored, written, over_front}
use Rattle.little.proofs.put_le.Goals as goal

pub loop-b-preserved : goal.loop-b-preserved
loop-b-preserved c =
    let n = c.args.n in
    let l = c.loop-b in
    let m : n - l.b-index ≡ suc (n - (l.b-index + 1)) = omega (arith, length-take c.min-end.result c.args.out.now) in
    let e : le (n - l.b-index) l.x ≡ l.x % 256 ∷ le (n - (l.b-index + 1)) (l.x / 256) = rw m (le_suc _ _) in
    stored l.part l.b-index (l.x % 256) (omega arith) e l.invariant

pub returns : goal.returns
returns c =
    let o = c.args.out.now in
    let t = le c.args.n c.args.v in
    let l = c.loop-b in
    let m : c.min-end.result ≡ min (length t) (length o) = rw length_le c.min-end.ensures in
    rw (written l.part l.b-index _ l.invariant (inr (omega arith))) (over_front o t c.min-end.result m)
