-- `text::plain` meets its contract. The loop's invariant: what is left decides.
use Rattle.std.proofs.Common.{◌≡◌, length}
use Rattle.base.specs.Bytes.{all}
use Rattle.text.specs.Check.{is_plain}
use Rattle.text.proofs.plain.Given as goal

abbrev pub invariant-loop-rest : goal.invariant-loop-rest
invariant-loop-rest l = all is_plain l.rest ≡ all is_plain l.s

abbrev pub decreases-loop-rest : goal.decreases-loop-rest
decreases-loop-rest l = length l.rest
