-- A push is answered by the check, with nothing behind its parts.
use Rattle.std.specs.Prelude.{Err, false}
use Rattle.std.proofs.lemmas.Result.{err_from_is_err_and}
use mathlib.Core.Path.{sym, ◌∙◌, ap}
use native.Mathlib.Omega.{arith}
use Rattle.refusal.specs.declared.Refusal.TheVariants.{BadRecord}
use Rattle.compact.specs.Held.{meta_of}
use Rattle.base.proofs.Tests.{and_both}
use Rattle.compact_legal.proofs.Judging.{handed, walk_refused, walk_pushed}
use Rattle.compact_legal.proofs.Pushes.{push_is}
use Rattle.compact_legal.proofs.parts_fault.Goals as goal

pub returns-in_err-walk : goal.returns-in_err-walk
returns-in_err-walk g c =
    let a = c.args in
    let p = a.parts.now in
    let k = g.H.RecordHead.kind in
    let h = g.H.RecordHead.says a.head in
    let o = c.in_err-walk.ensures in
    handed o.value o.ok_part c.from_residual.ensures
    ∙ push_is p.strings k h (meta_of a.meta) p.bytes.now (Err BadRecord) (walk_refused p.strings k h p.bytes.now 0 (omega arith) (meta_of a.meta) false (sym o.ok_part ∙ c.walk.ensures))

pub returns-in_err-verdict : goal.returns-in_err-verdict
returns-in_err-verdict g c =
    let a = c.args in
    let p = a.parts.now in
    let k = g.H.RecordHead.kind in
    let h = g.H.RecordHead.says a.head in
    let n = sym c.in_ok-walk.ensures.ok_part ∙ c.walk.ensures in
    let j = walk_pushed p.strings k h p.bytes.now 0 (omega arith) (meta_of a.meta) c.in_ok-walk.walk n in
    let v = c.in_err-verdict.ensures ∙ rw (and_both, c.legal_meta.ensures) (sym j) in
    let r = err_from_is_err_and c.from_residual-in_err-verdict.result c.from_residual-in_err-verdict.ensures.1 in
    r.1 ∙ (ap Err r.2 ∙ push_is p.strings k h (meta_of a.meta) p.bytes.now _ v)

pub returns : goal.returns
returns g c =
    let a = c.args in
    let p = a.parts.now in
    let k = g.H.RecordHead.kind in
    let h = g.H.RecordHead.says a.head in
    let n = sym c.in_ok-walk.ensures.ok_part ∙ c.walk.ensures in
    let j = walk_pushed p.strings k h p.bytes.now 0 (omega arith) (meta_of a.meta) c.in_ok-walk.walk n in
    let v = c.in_ok-verdict.ensures ∙ rw (and_both, c.legal_meta.ensures) (sym j) in
    push_is p.strings k h (meta_of a.meta) p.bytes.now _ v
