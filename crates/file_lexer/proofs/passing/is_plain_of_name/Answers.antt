use Rattle.base.proofs.Tests.{and_both, or_either}
use Rattle.text.specs.Char.{from_to}
use Rattle.file_lexer.specs.Plain.{plain_of_name}
use Rattle.file_lexer.proofs.passing.is_plain_of_name.Goals as goal

pub returns : goal.returns
unfolding plain_of_name from_to
returns c = simp (and_both, or_either)
