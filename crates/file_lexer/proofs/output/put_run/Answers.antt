use native.Mathlib.Omega.{arith}
use Rattle.file_lexer.proofs.Lines.{grown_full, grown_kept, grown_past}
use Rattle.file_lexer.proofs.output.put_run.Goals as goal

pub returns-then-used-ge-KEPT : goal.returns-then-used-ge-KEPT
returns-then-used-ge-KEPT c = grown_full c.args.bytes.now c.args.used c.args.s.now c.if-used-ge-KEPT.true

pub returns-then-s-room : goal.returns-then-s-room
returns-then-s-room c = rw c.copy_at.ensures (grown_kept c.args.bytes.now c.args.used c.args.s.now (omega arith))

pub returns : goal.returns
returns c = rw c.copy_at-2.ensures (grown_past c.args.bytes.now c.args.used c.args.s.now (omega arith))
