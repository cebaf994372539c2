use Rattle.base.proofs.Tests.{and_both}
use Rattle.file_lexer.specs.Plain.{plain_of_value}
use Rattle.file_lexer.proofs.passing.is_plain_of_value.Goals as goal

pub returns : goal.returns
unfolding plain_of_value
returns c = rw c.is_plain.ensures (simp and_both)
