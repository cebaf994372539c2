-- The C boundary: each enum's number and values, by one definition each.
use Rattle.std.specs.Prelude.{ℕ, Bool, Err, Ok, Option, Result, ℤ}
use Rattle.std.specs.Int.{from_bool}
use Rattle.std.specs.Option.{ok_or}
use Rattle.refusal.specs.declared.Reply.{Reply}
use Rattle.refusal.specs.declared.Refusal.TheVariants.{NotInteger, NotTimestamp, Regression}
use Rattle.std.specs.declared.cmp.Ordering.{Ordering}
use Rattle.std.specs.declared.cmp.Ordering.TheVariants.{Less, Equal, Greater}
use Rattle.c_replies.specs.Overlays.{kept_reply}
use Rattle.c_replies.specs.Readings.{read_number}
use Rattle.c_replies.specs.declared.Number.{Number}

-- 0 less, 1 equal, 2 greater
abbrev pub order_number : Ordering → ℕ
order_number Less = 0
order_number Equal = 1
order_number Greater = 2

-- 1 for yes, 0 for no
abbrev pub truth : Bool → ℕ
truth b = from_bool b

-- an admitted claim, or the refusal 12 with the floor that it fell below
abbrev pub admit_reply : Result Unit ℤ → Reply
admit_reply (Ok tt) = kept_reply (Ok tt)
admit_reply (Err v) = kept_reply (Err (Regression v))

-- an integer's bits, or refused 8
abbrev pub integer_number : Option ℕ → Number
integer_number i = read_number (ok_or i NotInteger)

-- the bits of a stamp's seconds, or refused 9
abbrev pub stamp_number : Option ℕ → Number
stamp_number s = read_number (ok_or s NotTimestamp)
