-- Its three codes, or none where one is none.
use Rattle.base.specs.Bytes.{both}
use Rattle.c_reader.specs.Words.{place_coded}
use Rattle.c_reader.proofs.Coded.{coded, not_coded}
use Rattle.c_reader.proofs.place_of.Goals as goal

pub returns-in_err-level : goal.returns-in_err-level
unfolding place_coded both
returns-in_err-level c = rw (c.from_residual.ensures, not_coded _ c.in_err-level.ensures)

pub returns-in_err-section : goal.returns-in_err-section
unfolding place_coded both
returns-in_err-section c = rw (c.from_residual-in_err-section.ensures, (coded c.in_ok-level.ensures).0, not_coded _ c.in_err-section.ensures)

pub returns-in_err-kind : goal.returns-in_err-kind
unfolding place_coded both
returns-in_err-kind c =
    rw (c.from_residual-in_err-kind.ensures, (coded c.in_ok-level.ensures).0, (coded c.in_ok-section.ensures).0, not_coded _ c.in_err-kind.ensures)

pub returns : goal.returns
unfolding place_coded both
returns c =
    let l = coded c.in_ok-level.ensures in
    let s = coded c.in_ok-section.ensures in
    let k = coded c.in_ok-kind.ensures in
    rw (l.0, s.0, k.0, l.1, s.1, k.1)
