-- Only a user that is named is asked for; the refusal of its text is the act's, but for 12 before it.
use Rattle.reader_acts.proofs.Bits.{act_named, act_unnamed}
use Rattle.reader_acts.proofs.user_before.Goals as goal

pub returns-in_default-clause-asked : goal.returns-in_default-clause-asked
returns-in_default-clause-asked g c = λ short serve. let f = act_unnamed c.args.act.now c.in_default.is in rw f

pub returns-in-Ok-clause-asked : goal.returns-in-Ok-clause-asked
returns-in-Ok-clause-asked g c =
    let u = act_named c.args.act.now c.in-Some.is in
    λ short serve. rw (u.0, ← (rw u.1 at (c.text_handle.ensures (rw c.in-Some.is at short) serve)), c.in-Ok.is)

pub returns-in-Err-clause-asked : goal.returns-in-Err-clause-asked
returns-in-Err-clause-asked g c =
    let u = act_named c.args.act.now c.in-Some.is in
    λ short serve. rw (u.0, ← (rw u.1 at (c.text_handle.ensures (rw c.in-Some.is at short) serve)), c.in-Err.is, c.first_refusal.ensures)
