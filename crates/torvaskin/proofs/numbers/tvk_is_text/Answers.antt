use Rattle.torvaskin.proofs.numbers.tvk_is_text.Goals as goal

pub returns : goal.returns
returns c = rw (c.from.ensures, c.is_text.ensures)
