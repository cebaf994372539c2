-- `text::search::byte_position`: the place tells where the byte stands first, and the length that it stands nowhere.
use Rattle.text.proofs.Blocks.{first_found, none_found}
use Rattle.text.proofs.search.byte_position.Goals as goal

pub returns-then-i-s : goal.returns-then-i-s
returns-then-i-s c = (c.if-i-s.true, first_found c.args.byte c.args.s.now _ c.byte_place-i.ensures c.if-i-s.true)

pub returns : goal.returns
returns c = none_found c.args.byte c.args.s.now _ c.byte_place-i.ensures c.if-i-s.false
