-- The number, HELD and the line.
use Rattle.c_replies.proofs.Refused.{refused_is}
use borrow.Author.Rules.{rules}
use Rattle.c_replies.proofs.EventReplyFromResultUnitRefusedAt.from.Goals as goal

pub returns-in-Err : goal.returns-in-Err
returns-in-Err c = rw c.in-Err.is (refused_is c.in-Err.at.refusal c.in-Err.at.line c.from-reply.ensures (search rules))
