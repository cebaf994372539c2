-- The C boundary of the lookups in lists: each answer's number and values, by one definition each.
use Rattle.std.specs.Prelude.{ℕ, Bool, ltb, Err, None, Ok, Option, Result, Some}
use Rattle.std.specs.Bool.{then_some}
use Rattle.refusal.specs.Refusal.{number_of}
use Rattle.refusal.specs.declared.Refusal.{Refusal}
use Rattle.sorted.specs.declared.IdRange.{IdRange}
use Rattle.sorted.specs.Lookup.{Found}
use Rattle.c_replies.specs.Numbers.{truth}
use Rattle.c_replies.specs.Readings.{read_number}
use Rattle.c_replies.specs.declared.Number.{Number}
use Rattle.c_replies.specs.declared.Places.{Places}
use Rattle.c_replies.specs.declared.Cursor.{Cursor}

-- 1 for yes, 0 for no, or refused 20
abbrev pub overlap_number : Result Bool Refusal → Number
overlap_number (Ok b) = read_number (Ok (truth b))
overlap_number (Err r) = read_number (Err r)

-- the first place and one past the last, or refused 20
abbrev pub span_places : Result IdRange Refusal → Places
span_places (Ok r) = record { number = 0; from = r.from; to = r.to }
span_places (Err r) = record { number = number_of r; from = 0; to = 0 }

-- a word from 2^63 on is no place
abbrev pub no_place : ℕ
no_place = 9223372036854775808

abbrev pub seek_place : ℕ → Option ℕ
seek_place w = then_some (ltb w no_place) w

abbrev pub place_word : Option ℕ → ℕ
place_word None = no_place
place_word (Some p) = p

-- where the id was found, or no place, or refused 20; and where the cursor stands then
abbrev pub sought_cursor : Result (Option ℕ) Refusal → ℕ → Cursor
sought_cursor (Ok found) place = record { number = 0; found = place_word found; place = place }
sought_cursor (Err r) place = record { number = number_of r; found = no_place; place = place }

abbrev pub found_cursor : Found → Cursor
found_cursor f = sought_cursor f.answer (place_word f.place)
