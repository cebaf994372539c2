-- `text::search::is_plain`: the test is the definition's.
use Rattle.text.proofs.PlainBytes.{plain_test}
use Rattle.text.proofs.search.is_plain.Goals as goal

pub returns : goal.returns
returns c = plain_test c.args.b
