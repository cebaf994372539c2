-- Below 2^63 the metadata behind the head is read, else there is no record.
use Prim.Native.Nat.{ℕ, ◌+◌}
use mathlib.Core.Path.{◌∙◌, ap}
use native.Mathlib.Omega.{arith}
use Rattle.model.specs.Record.{claim_of}
use Rattle.compact.specs.View.{meta_at}
use Rattle.compact.specs.Held.{meta_of}
use Rattle.compact.specs.declared.ArenaMeta.{ArenaMeta}
use Rattle.kind_store.specs.KindStore.{version_at, live_version}
use Rattle.kind_store.proofs.Acts.{head_most}
use Rattle.kind_store.proofs.Settings.{live_offset, no_offset, offset_short}
use Rattle.kind_store.proofs.KindStorage.live_version.Goals as goal

pub overflow_add-at : goal.overflow_add-at
overflow_add-at c =
    let a = c.args in
    omega (arith, head_most a.self.now.kind, c.meta_off.ensures, offset_short a.row.offset c.in_ok-offset.offset c.in_ok-offset.ensures)

pub returns-in_err-offset : goal.returns-in_err-offset
unfolding live_version
returns-in_err-offset c = rw (no_offset c.args.row.offset c.in_err-offset.ensures) c.from_residual.ensures

pub returns : goal.returns
unfolding live_version version_at
returns c =
    let s = c.args.self.now in
    let l = live_offset c.args.row.offset c.in_ok-offset.offset c.in_ok-offset.ensures in
    rw (l.1, ← l.0)
    (c.claim.ensures ∙ ap (λ (m : ArenaMeta). claim_of (meta_of m)) (c.read_meta.ensures ∙ ap (λ (n : ℕ). meta_at s.arena.now (c.in_ok-offset.offset + n)) c.meta_off.ensures))
