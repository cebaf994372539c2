-- Zeros, or the number, the line and the bits of HELD.
use Rattle.c_reader.proofs.Codes.{mark_is}
use mathlib.Core.Path.{◌∙◌}
use borrow.Author.Rules.{rules}
use Rattle.c_reader.proofs.MarkWordsFromOptionRefusedAt.from.Goals as goal

pub returns-in-Some : goal.returns-in-Some
returns-in-Some c = rw c.in-Some.is (mark_is c.in-Some.at.refusal c.from-reply.ensures (search rules) (c.from.ensures ∙ c.cast_unsigned.ensures))
