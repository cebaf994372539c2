-- The characters that have an escape, and the others.
use native.Mathlib.Omega.{arith}
use Rattle.text.specs.Char.{utf8}
use Rattle.text.specs.Escape.{escaped, escape}
use Rattle.file_lexer.proofs.Growths.{escape_char}
use Rattle.file_lexer.proofs.output.put_escaped.Goals as goal

pub returns-in-9 : goal.returns-in-9
unfolding utf8 escape escaped
returns-in-9 c = rw c.in-9.is c.put_two.ensures

pub returns-in-10 : goal.returns-in-10
unfolding utf8 escape escaped
returns-in-10 c = rw c.in-10.is c.put_two-in-10.ensures

pub returns-in-13 : goal.returns-in-13
unfolding utf8 escape escaped
returns-in-13 c = rw c.in-13.is c.put_two-in-13.ensures

pub returns-in-92 : goal.returns-in-92
unfolding utf8 escape escaped
returns-in-92 c = rw c.in-92.is c.put_two-in-92.ensures

pub returns-in_default : goal.returns-in_default
returns-in_default c =
    rw (escape_char c.args.c (λ e. omega arith) (λ e. omega arith) (λ e. omega arith) (λ e. omega arith)) c.put_char.ensures
