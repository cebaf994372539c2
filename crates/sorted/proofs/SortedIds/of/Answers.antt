-- `sorted::SortedIds::of` meets its contract.
use Rattle.sorted.specs.Sorted.{sorted_of}
use Rattle.sorted.proofs.SortedIds.of.Goals as goal

pub returns-then-in_order : goal.returns-then-in_order
unfolding sorted_of
returns-then-in_order c = rw (← c.in_order.ensures, c.if-in_order.true)

pub returns : goal.returns
unfolding sorted_of
returns c = rw (← c.in_order.ensures, c.if-in_order.false)
