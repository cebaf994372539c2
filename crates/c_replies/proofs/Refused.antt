-- A refusal's reply, with its line.
use Rattle.reader.specs.State.{refusal_at}
use Rattle.std.specs.Prelude.{Err}
use Prim.Native.Nat.{ℕ, ◌<◌, ◌^◌}
use mathlib.Core.Path.{◌≡◌}
use lib.Signed.{mag}
use mir.Syntax.{w32}
use mir.Val.{to_z, of_z, hbits}
use Rattle.signed.proofs.Bits.{held}
use Rattle.refusal.specs.Refusal.{reply_of}
use Rattle.refusal.specs.declared.Reply.{Reply}
use Rattle.refusal.specs.declared.Refusal.{Refusal}
use Rattle.c_replies.specs.declared.EventReply.{EventReply}
use Rattle.c_replies.specs.declared.EventsReply.{EventsReply}
use Rattle.c_replies.specs.Readers.{answer_reply, taken_reply}

pub refused_is : (r : Refusal) (line : ℕ) {x : Reply} → x ≡ reply_of r → mag x.held < 2 ^ hbits w32
    → ◌≡◌ {A = EventReply} (record { number = x.number; held = to_z w32 (of_z w32 x.held); line = line }) (answer_reply (Err (refusal_at r line)))
unfolding reply_of
refused_is r line {x} e h = rw (held w32 x.held h, e)

pub refused_taken : (r : Refusal) (line taken : ℕ) {x : Reply} → x ≡ reply_of r → mag x.held < 2 ^ hbits w32
    → ◌≡◌ {A = EventsReply} (record { number = x.number; held = to_z w32 (of_z w32 x.held); line = line; taken = taken }) (taken_reply (answer_reply (Err (refusal_at r line))) taken)
unfolding reply_of
refused_taken r line taken {x} e h = rw (held w32 x.held h, e)
