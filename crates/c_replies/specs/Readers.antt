-- The C boundary of a reader: each answer's number and values, by one definition each.
use Rattle.reader.specs.State.{refusal_at}
use Rattle.reader.specs.declared.RefusedAt.{RefusedAt}
use Rattle.std.specs.Prelude.{ℕ, pos, Ok, Err, Result}
use Rattle.refusal.specs.Refusal.{number_of, held_of}
use Rattle.refusal.specs.declared.Refusal.TheVariants as R
use Rattle.c_replies.specs.declared.EventReply.{EventReply}
use Rattle.c_replies.specs.declared.EventsReply.{EventsReply}

-- "A refusal returns its number, with the known version for 12 (0 otherwise)", and the event's line
abbrev pub answer_reply : Result Unit RefusedAt → EventReply
answer_reply (Ok tt) = record { number = 0; held = pos 0; line = 0 }
answer_reply (Err a) = record { number = number_of a.refusal; held = held_of a.refusal; line = a.line }

-- 22, which names no line
abbrev pub no_reader : EventReply
no_reader = answer_reply (Err (refusal_at R.Unsound 0))

-- the reply of a run's last event, and how many bytes were taken
abbrev pub taken_reply : EventReply → ℕ → EventsReply
taken_reply r n = record { number = r.number; held = r.held; line = r.line; taken = n }
