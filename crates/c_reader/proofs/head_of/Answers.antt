-- Each word in the bits of its field, or none where one does not fit.
use Rattle.base.specs.Bytes.{both}
use Rattle.c_reader.specs.Words.{head_coded}
use Rattle.c_reader.proofs.Coded.{narrow, wide}
use Rattle.c_reader.proofs.head_of.Goals as goal

pub returns-in_err-lat : goal.returns-in_err-lat
unfolding head_coded both
returns-in_err-lat c = rw (c.from_residual.ensures, wide _ _ _ c.try_from.ensures c.in_err-lat.ensures.value)

pub returns-in_err-lon : goal.returns-in_err-lon
unfolding head_coded both
returns-in_err-lon c =
    let t = narrow _ _ _ c.try_from.ensures c.in_ok-lat.ensures.value in
    rw (c.from_residual-in_err-lon.ensures, t.0, wide _ _ _ c.try_from-2.ensures c.in_err-lon.ensures.value)

pub returns-in_err-count : goal.returns-in_err-count
unfolding head_coded both
returns-in_err-count c =
    let t = narrow _ _ _ c.try_from.ensures c.in_ok-lat.ensures.value in
    let n = narrow _ _ _ c.try_from-2.ensures c.in_ok-lon.ensures.value in
    rw (c.from_residual-in_err-count.ensures, t.0, n.0, wide _ _ _ c.try_from-3.ensures c.in_err-count.ensures.value)

pub returns-in_err-tags : goal.returns-in_err-tags
unfolding head_coded both
returns-in_err-tags c =
    let t = narrow _ _ _ c.try_from.ensures c.in_ok-lat.ensures.value in
    let n = narrow _ _ _ c.try_from-2.ensures c.in_ok-lon.ensures.value in
    let m = narrow _ _ _ c.try_from-3.ensures c.in_ok-count.ensures.value in
    rw (c.from_residual-in_err-tags.ensures, t.0, n.0, m.0, wide _ _ _ c.try_from-4.ensures c.in_err-tags.ensures.value)

pub returns : goal.returns
unfolding head_coded both
returns c =
    let t = narrow _ _ _ c.try_from.ensures c.in_ok-lat.ensures.value in
    let n = narrow _ _ _ c.try_from-2.ensures c.in_ok-lon.ensures.value in
    let m = narrow _ _ _ c.try_from-3.ensures c.in_ok-count.ensures.value in
    let g = narrow _ _ _ c.try_from-4.ensures c.in_ok-tags.ensures.value in
    rw (t.0, n.0, m.0, g.0, t.1, n.1, m.1, g.1)
