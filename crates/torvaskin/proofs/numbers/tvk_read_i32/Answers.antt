use Rattle.torvaskin.proofs.numbers.tvk_read_i32.Goals as goal

pub returns : goal.returns
returns c = rw (c.from.ensures, c.ok_or.ensures.value, c.read.ensures)
