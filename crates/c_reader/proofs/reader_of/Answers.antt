-- Place, head, metadata and mark, each read back; or none where one is none.
use Rattle.base.specs.Bytes.{both}
use Rattle.c_reader.specs.Words.{is_reader, reader_of_words}
use Rattle.c_reader.proofs.Coded.{coded, not_coded}
use Rattle.c_reader.proofs.reader_of.Goals as goal

pub returns-in_err-place : goal.returns-in_err-place
unfolding reader_of_words is_reader both
returns-in_err-place c = rw (c.from_residual.ensures, not_coded _ c.in_err-place.ensures)

pub returns-in_err-head : goal.returns-in_err-head
unfolding reader_of_words is_reader both
returns-in_err-head c = rw (c.from_residual-in_err-head.ensures, (coded c.in_ok-place.ensures).0, not_coded _ c.in_err-head.ensures)

pub returns-in_err-meta : goal.returns-in_err-meta
unfolding reader_of_words is_reader both
returns-in_err-meta c =
    rw (c.from_residual-in_err-meta.ensures, (coded c.in_ok-place.ensures).0, (coded c.in_ok-head.ensures).0, not_coded _ c.in_err-meta.ensures)

pub returns-in_err-stop : goal.returns-in_err-stop
unfolding reader_of_words is_reader both
returns-in_err-stop c =
    let m = coded c.in_ok-meta.ensures in
    rw (c.from_residual-in_err-stop.ensures, (coded c.in_ok-place.ensures).0, (coded c.in_ok-head.ensures).0, m.0, not_coded _ c.in_err-stop.ensures)

pub returns : goal.returns
unfolding reader_of_words is_reader both
returns c =
    let p = coded c.in_ok-place.ensures in
    let h = coded c.in_ok-head.ensures in
    let m = coded c.in_ok-meta.ensures in
    let s = coded c.in_ok-stop.ensures in
    rw (p.0, h.0, m.0, s.0, p.1, h.1, m.1, s.1)
