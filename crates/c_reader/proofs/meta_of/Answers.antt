-- Each word in the bits of its field, or none where one does not fit.
use Rattle.base.specs.Bytes.{both}
use Rattle.c_reader.specs.Words.{meta_coded}
use Rattle.c_reader.proofs.Coded.{narrow, wide}
use Rattle.c_reader.proofs.meta_of.Goals as goal

pub returns-in_err-flags : goal.returns-in_err-flags
unfolding meta_coded both
returns-in_err-flags c = rw (c.from_residual.ensures, wide _ _ _ c.try_from.ensures c.in_err-flags.ensures.value)

pub returns-in_err-version : goal.returns-in_err-version
unfolding meta_coded both
returns-in_err-version c =
    let t = narrow _ _ _ c.try_from.ensures c.in_ok-flags.ensures.value in
    rw (c.from_residual-in_err-version.ensures, t.0, wide _ _ _ c.try_from-2.ensures c.in_err-version.ensures.value)

pub returns-in_err-uid : goal.returns-in_err-uid
unfolding meta_coded both
returns-in_err-uid c =
    let t = narrow _ _ _ c.try_from.ensures c.in_ok-flags.ensures.value in
    let n = narrow _ _ _ c.try_from-2.ensures c.in_ok-version.ensures.value in
    rw (c.from_residual-in_err-uid.ensures, t.0, n.0, wide _ _ _ c.try_from-3.ensures c.in_err-uid.ensures.value)

pub returns-in_err-user : goal.returns-in_err-user
unfolding meta_coded both
returns-in_err-user c =
    let t = narrow _ _ _ c.try_from.ensures c.in_ok-flags.ensures.value in
    let n = narrow _ _ _ c.try_from-2.ensures c.in_ok-version.ensures.value in
    let m = narrow _ _ _ c.try_from-3.ensures c.in_ok-uid.ensures.value in
    rw (c.from_residual-in_err-user.ensures, t.0, n.0, m.0, wide _ _ _ c.try_from-4.ensures c.in_err-user.ensures.value)

pub returns : goal.returns
unfolding meta_coded both
returns c =
    let t = narrow _ _ _ c.try_from.ensures c.in_ok-flags.ensures.value in
    let n = narrow _ _ _ c.try_from-2.ensures c.in_ok-version.ensures.value in
    let m = narrow _ _ _ c.try_from-3.ensures c.in_ok-uid.ensures.value in
    let g = narrow _ _ _ c.try_from-4.ensures c.in_ok-user.ensures.value in
    rw (t.0, n.0, m.0, g.0, t.1, n.1, m.1, g.1)
