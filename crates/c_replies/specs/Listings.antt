-- The C boundary of the listing: its answer's number and length, by one definition.
use Rattle.refusal.specs.declared.Refusal.{Refusal}
use Rattle.std.specs.Prelude.{Err, Ok, Result, ℕ}
use Rattle.refusal.specs.Refusal.{number_of}
use Rattle.c_replies.specs.declared.ListingReply.{ListingReply}

-- 0 with the length, or the refusal with 0
abbrev pub listed_reply : Result ℕ Refusal → ListingReply
listed_reply (Ok n) = record { number = 0; length = n }
listed_reply (Err r) = record { number = number_of r; length = 0 }
