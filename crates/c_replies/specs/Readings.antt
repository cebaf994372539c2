-- The C boundary of the readings: each answer's number and values, by one definition each.
use Rattle.std.specs.Prelude.{ℕ, Bool, true, false, Err, None, Ok, Result, Some}
use Rattle.refusal.specs.Refusal.{number_of}
use Rattle.refusal.specs.declared.Refusal.{Refusal}
use Rattle.refusal.specs.declared.Refusal.TheVariants as R
use Rattle.kind_reading.specs.Listed.{View}
use Rattle.c_replies.specs.declared.Number.{Number}
use Rattle.c_replies.specs.declared.Part.{Part}

-- 0 with the number, or the refusal with 0
abbrev pub read_number : Result ℕ Refusal → Number
read_number (Ok n) = record { number = 0; value = n }
read_number (Err r) = record { number = number_of r; value = 0 }

abbrev pub no_part : ℕ → Part
no_part n = record { number = n; found = 0; start = 0; len = 0 }

-- 0 and found 1 with a start and a length, 0 and found 0, or the refusal
abbrev pub view_part : View → Part
view_part (Ok (Some p)) = record { number = 0; found = 1; start = p.start; len = p.len }
view_part (Ok None) = no_part 0
view_part (Err r) = no_part (number_of r)

-- a kind's number above 2: 22, else 17
abbrev pub unknown_kind : Bool → Refusal
unknown_kind true = R.BadRecord
unknown_kind false = R.Unsound
