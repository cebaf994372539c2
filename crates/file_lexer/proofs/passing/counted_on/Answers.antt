use native.Mathlib.Omega.{arith}
use Rattle.file_lexer.proofs.PlainRuns.{counted_total}
use Rattle.file_lexer.proofs.passing.counted_on.Goals as goal

pub returns-then-feeds-lines : goal.returns-then-feeds-lines
returns-then-feeds-lines c = let t = counted_total c.args.lines c.args.s.now (omega arith) in omega (arith, t, c.feeds_in-feeds.ensures)

pub returns : goal.returns
returns c = let t = counted_total c.args.lines c.args.s.now (omega arith) in omega (arith, t, c.feeds_in-feeds.ensures)
