-- A handle below the count is held; another one's text is taken in.
use mathlib.Core.Path.{sym, ap}
use Rattle.overlay.specs.Lent.{overlay_held}
use Rattle.overlay_store.specs.Calls.{Interning}
use Rattle.reader_acts.specs.Acts.{act_means}
use Rattle.reader_acts.proofs.Bits.{act_named, act_unnamed}
use Rattle.reader_acts.proofs.Handles.{user_held}
use Rattle.reader_acts.proofs.take_user.Goals as goal

pub returns-in_default-clause-taken : goal.returns-in_default-clause-taken
returns-in_default-clause-taken g c = λ short serve user. let f = act_unnamed c.args.act.now c.in_default.is in rw f

pub returns-in-Some-handle-clause-taken : goal.returns-in-Some-handle-clause-taken
returns-in-Some-handle-clause-taken g c =
    λ short serve user. sym (user_held (act_means c.args.act.now) (overlay_held c.args.storage.now) _ (rw c.in-Some-handle.is at user) c.if-handle-storage.true)

pub returns-in_default-handle-clause-taken : goal.returns-in_default-handle-clause-taken
returns-in_default-handle-clause-taken g c =
    λ short serve user. let u = act_named c.args.act.now c.in-Some.is in rw u.0 (ap (λ (z : Interning). z.overlay) (rw u.1 at (c.take_text.ensures.taken (rw c.in-Some.is at short) serve)))
