-- `child_name`: the spellings in their order.
use Rattle.nesting.specs.Name.{spellings, name_in, name_of}
use Rattle.distinct.proofs.Spelled.{spelled}
use Rattle.nesting.proofs.child_name.Goals as goal

pub returns-then-equal : goal.returns-then-equal
unfolding name_of name_in spellings
returns-then-equal c = rw (← spelled _ _ c.as_slice.ensures c.equal.ensures, c.if-equal.true)

pub returns-then-equal-2 : goal.returns-then-equal-2
unfolding name_of name_in spellings
returns-then-equal-2 c = rw (← spelled _ _ c.as_slice.ensures c.equal.ensures, c.if-equal.false, ← spelled _ _ c.as_slice-2.ensures c.equal-2.ensures, c.if-equal-2.true)

pub returns-then-equal-3 : goal.returns-then-equal-3
unfolding name_of name_in spellings
returns-then-equal-3 c = rw (← spelled _ _ c.as_slice.ensures c.equal.ensures, c.if-equal.false, ← spelled _ _ c.as_slice-2.ensures c.equal-2.ensures, c.if-equal-2.false, ← spelled _ _ c.as_slice-3.ensures c.equal-3.ensures, c.if-equal-3.true)

pub returns-then-equal-4 : goal.returns-then-equal-4
unfolding name_of name_in spellings
returns-then-equal-4 c = rw (← spelled _ _ c.as_slice.ensures c.equal.ensures, c.if-equal.false, ← spelled _ _ c.as_slice-2.ensures c.equal-2.ensures, c.if-equal-2.false, ← spelled _ _ c.as_slice-3.ensures c.equal-3.ensures, c.if-equal-3.false, ← spelled _ _ c.as_slice-4.ensures c.equal-4.ensures, c.if-equal-4.true)

pub returns-then-equal-5 : goal.returns-then-equal-5
unfolding name_of name_in spellings
returns-then-equal-5 c = rw (← spelled _ _ c.as_slice.ensures c.equal.ensures, c.if-equal.false, ← spelled _ _ c.as_slice-2.ensures c.equal-2.ensures, c.if-equal-2.false, ← spelled _ _ c.as_slice-3.ensures c.equal-3.ensures, c.if-equal-3.false, ← spelled _ _ c.as_slice-4.ensures c.equal-4.ensures, c.if-equal-4.false, ← spelled _ _ c.as_slice-5.ensures c.equal-5.ensures, c.if-equal-5.true)

pub returns : goal.returns
unfolding name_of name_in spellings
returns c = rw (← spelled _ _ c.as_slice.ensures c.equal.ensures, c.if-equal.false, ← spelled _ _ c.as_slice-2.ensures c.equal-2.ensures, c.if-equal-2.false, ← spelled _ _ c.as_slice-3.ensures c.equal-3.ensures, c.if-equal-3.false, ← spelled _ _ c.as_slice-4.ensures c.equal-4.ensures, c.if-equal-4.false, ← spelled _ _ c.as_slice-5.ensures c.equal-5.ensures, c.if-equal-5.false)
