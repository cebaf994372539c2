-- A record at the front: its head and metadata are read, and its parts checked.
use Rattle.std.specs.Prelude.{Err, true, ◌+◌}
use mathlib.Core.Path.{◌≡◌, sym, ◌∙◌}
use native.Mathlib.Omega.{arith}
use Rattle.refusal.specs.declared.Refusal.TheVariants.{BadRecord}
use Rattle.compact.specs.Held.{meta_of}
use Rattle.compact.specs.Layout.{head_len}
use Rattle.compact.specs.View.{meta_at}
use Rattle.compact_legal.proofs.Fronts.{front_short, front_is}
use Rattle.compact_legal.proofs.Judging.{walk_refused, walk_kept}
use Rattle.compact_legal.proofs.PartBytes.front_end.Goals as goal

pub returns-then-self-at : goal.returns-then-self-at
returns-then-self-at g c =
    let p = c.args.self.now in
    front_short p.strings g.H.RecordHead.kind p.bytes.now (omega (arith, c.parts_at-at.ensures))

pub returns-in_err-walk : goal.returns-in_err-walk
returns-in_err-walk g c =
    let p = c.args.self.now in
    let s = p.bytes.now in
    let k = g.H.RecordHead.kind in
    let e = c.parts_at-at.ensures in
    let w = rw (c.read-head.ensures.says, e) at c.walk.ensures in
    let n = sym c.in_err-walk.was ∙ w in
    rw c.from_residual.ensures
    (front_is p.strings k s (Err BadRecord) (omega (arith, e)) (walk_refused p.strings k _ s (head_len k + 29) (omega (arith, e)) (meta_of (meta_at s (head_len k))) true n))

pub returns : goal.returns
returns g c =
    let p = c.args.self.now in
    let s = p.bytes.now in
    let k = g.H.RecordHead.kind in
    let e = c.parts_at-at.ensures in
    let w = rw (c.read-head.ensures.says, e) at c.walk.ensures in
    let n = sym c.in_ok-walk.was ∙ w in
    let long : c.LEN.result ≡ head_len k = c.LEN.ensures ∙ g.met.H.RecordHead.is_long in
    let m = rw (c.read_meta-meta.ensures, long) at c.legal_meta.ensures in
    let v = rw (c.read-head.ensures.says, m) at c.verdict.ensures in
    c.ok.ensures.value ∙ front_is p.strings k s c.verdict.result (omega (arith, e)) (v ∙ sym (walk_kept p.strings k _ s (head_len k + 29) (omega (arith, e)) (meta_of (meta_at s (head_len k))) c.in_ok-walk.walk n))
