use Rattle.file_lexer.specs.Lexing.{is_first}
use Rattle.file_lexer.proofs.byte.is_first.Goals as goal

pub returns-in-Nothing : goal.returns-in-Nothing
unfolding is_first
returns-in-Nothing c = rw c.in-Nothing.is

pub returns-in-MarkFirst : goal.returns-in-MarkFirst
unfolding is_first
returns-in-MarkFirst c = rw c.in-MarkFirst.is

pub returns-in-MarkSecond : goal.returns-in-MarkSecond
unfolding is_first
returns-in-MarkSecond c = rw c.in-MarkSecond.is

pub returns-in-Mark : goal.returns-in-Mark
unfolding is_first
returns-in-Mark c = rw c.in-Mark.is

pub returns-in-Text : goal.returns-in-Text
unfolding is_first
returns-in-Text c = rw c.in-Text.is
