use Rattle.base.proofs.Tests.{and_both}
use Rattle.text.specs.Char.{from_to}
use Rattle.file_lexer.specs.Plain.{plain_but}
use Rattle.file_lexer.proofs.passing.is_plain.Goals as goal

pub returns : goal.returns
unfolding plain_but from_to
returns c = simp and_both
