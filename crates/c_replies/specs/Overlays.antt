-- The C boundary of the overlay: each answer's number and values, by one definition each.
use Rattle.refusal.specs.declared.Refusal.{Refusal}
use Rattle.std.specs.Prelude.{Bool, true, false, pos, Err, Ok, Result, ℕ}
use Rattle.refusal.specs.Refusal.{number_of, reply_of}
use Rattle.refusal.specs.declared.Reply.{Reply}
use Rattle.refusal.specs.declared.Refusal.TheVariants as R
use Rattle.c_replies.specs.declared.Text.{Text}
use Rattle.c_replies.specs.declared.TextsReply.{TextsReply}
use Rattle.c_replies.specs.Readings.{unknown_kind}

-- 0 for what is taken, else the refusal
abbrev pub kept_reply : Result Unit Refusal → Reply
kept_reply (Ok tt) = record { number = 0; held = pos 0 }
kept_reply (Err r) = reply_of r

-- 22, else 0
abbrev pub sound_reply : Bool → Reply
sound_reply true = kept_reply (Ok tt)
sound_reply false = reply_of R.Unsound

-- a kind's number above 2: 22, else 17
abbrev pub unknown_reply : Bool → Reply
unknown_reply sound = reply_of (unknown_kind sound)

-- 0 with the text's handle, or the refusal with 0
abbrev pub handle_text : Result ℕ Refusal → Text
handle_text (Ok h) = record { number = 0; handle = h }
handle_text (Err r) = record { number = number_of r; handle = 0 }

-- 0 or the refusal, and how many texts were taken in
abbrev pub texts_reply : Result Unit Refusal → ℕ → TextsReply
texts_reply (Ok tt) n = record { number = 0; taken = n }
texts_reply (Err r) n = record { number = number_of r; taken = n }
