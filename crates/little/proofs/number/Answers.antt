use Rattle.std.proofs.Common.{◌+◌, ◌-◌, ◌*◌, ◌^◌, ◌<◌, ◌≤◌, sym, ap, ◌∙◌, length, drop_of_length-le, arith}
use Rattle.std.proofs.lemmas.Iterator.Adapters.{YieldsList-from_rev_slice}
use Rattle.std.proofs.lemmas.Iterator.Consumers.{YieldsList-turn}
use Rattle.std.proofs.lemmas.List.{length_push, length-reverse}
use Rattle.little.specs.Little.{value}
use Rattle.little.proofs.Littles.{bytes_of, value_nil, next, next_fits}
use Rattle.little.proofs.number.Goals as goal

pub loop-b-init : goal.loop-b-init
loop-b-init c =
    let s = c.args.s.now in
    let h : length s ≤ length s - 0 = omega arith in
    sym (ap value (drop_of_length-le s h) ∙ value_nil)

-- what a turn makes of the number fits
fits : (c : goal.In-Some) → c.loop-b.r * 256 + c.in-Some.b.now < 2 ^ 64
fits c =
    let s = c.args.s.now in
    let l = c.loop-b in
    let t = YieldsList-turn (YieldsList-from_rev_slice s cc) l.yielded _ l.yielded_by _ _ c.in-Some.b c.in-Some.is c.next.ensures.steps in
    next_fits s _ _ _ (omega (arith, length-reverse s)) t.1 l.invariant (bytes_of s (λ i h. omega (arith, c.type_inv.s i))) c.requires

pub overflow_mul-r : goal.overflow_mul-r
overflow_mul-r c = omega (arith, fits c)

pub overflow_add-r : goal.overflow_add-r
overflow_add-r c = omega (arith, fits (record { before = search; type_inv = search }))

pub loop-b-preserved : goal.loop-b-preserved
loop-b-preserved c =
    let s = c.args.s.now in
    let l = c.loop-b in
    let t = YieldsList-turn (YieldsList-from_rev_slice s cc) l.yielded _ l.yielded_by _ _ c.in-Some.b c.in-Some.is c.next.ensures.steps in
    rw (c.from.ensures, length_push l.yielded c.in-Some.b) (next s _ _ _ (omega (arith, length-reverse s)) t.1 l.invariant)
