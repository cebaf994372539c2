use native.Mathlib.Omega.{arith}
use Rattle.file_lexer.proofs.passing.put_first.Goals as goal

pub returns-then-taken-eq0-clause-some : goal.returns-then-taken-eq0-clause-some
returns-then-taken-eq0-clause-some c = λ h. absurd (omega arith)

pub returns-clause-none : goal.returns-clause-none
returns-clause-none c = λ h. absurd (omega arith)

pub returns-clause-some : goal.returns-clause-some
returns-clause-some c = λ h. c.put_run.ensures
