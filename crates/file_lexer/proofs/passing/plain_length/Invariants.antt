use Rattle.std.proofs.Common.{◌≡◌, ◌-◌, ◌≤◌, true, length, take}
use Rattle.base.specs.Bytes.{all}
use Rattle.file_lexer.specs.Plain.{plain_but}
use Rattle.file_lexer.proofs.passing.plain_length.Given as goal

abbrev pub invariant-loop-n : goal.invariant-loop-n
invariant-loop-n l = record { in_bounds : l.n ≤ length l.s; plain : all (plain_but l.stop) (take l.n l.s) ≡ true }

abbrev pub decreases-loop-n : goal.decreases-loop-n
decreases-loop-n l = length l.s - l.n
