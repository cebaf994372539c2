use mathlib.Core.Path.{sym, ◌∙◌}
use native.Mathlib.Omega.{arith}
use Rattle.base.proofs.Lists.{all_nil}
use Rattle.file_lexer.specs.Plain.{plain_of_name}
use Rattle.file_lexer.proofs.PlainRuns.{test_on}
use Rattle.file_lexer.proofs.passing.name_length.Goals as goal

pub loop-n-init : goal.loop-n-init
loop-n-init c = record { in_bounds = omega arith; plain = all_nil plain_of_name }

pub loop-n-preserved : goal.loop-n-preserved
loop-n-preserved c =
    record {
      in_bounds = omega arith;
      plain =
          test_on plain_of_name c.args.s.now c.loop-n.n c.loop-n-test.true c.loop-n.invariant.plain
          (sym c.is_plain_of_name.ensures ∙ c.if-is_plain_of_name.true);
    }
