use Rattle.torvaskin.proofs.numbers.tvk_parse_rfc3339_utc.Goals as goal

pub returns : goal.returns
returns c = rw (c.from.ensures, c.ok_or.ensures.value, c.parse_rfc3339_utc.ensures)
