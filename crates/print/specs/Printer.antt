-- What a printer stands for: its output and the room that is left; and what its methods leave.
use Rattle.std.specs.Prelude.{ℕ, ◌≡◌, List, length, Option}
use Rattle.base.specs.Bytes.{Bytes}
use Rattle.print.specs.Print.{Printed, print}
use Rattle.print.specs.Piece.{behind, place_in}
use Rattle.print.specs.declared.Printer.{Printer}

abbrev pub printed_by : Printer → Printed
printed_by p = record { out = p.out.now; room = p.room }

-- a printer of the same lent bytes, with the same bytes in all
pub record IsSame (p q : Printer) : Type 0 where
  pub out : q.out.ghost_name ≡ p.out.ghost_name
  pub cap : q.cap ≡ p.cap

-- the room of a piece of n bytes was taken, and nothing is written yet: its place
pub record TakesRoom (n : ℕ) (p q : Printer) (at : Option ℕ) : Type 0 where
  pub out : q.out.now ≡ p.out.now
  pub room : q.room ≡ behind p.room n
  pub place : at ≡ place_in p.cap p.room n (length p.out.now)

-- pieces were printed, one after the other
pub record Prints (xs : List Bytes) (p q : Printer) : Type 0 where
  pub out : q.out.ghost_name ≡ p.out.ghost_name
  pub cap : q.cap ≡ p.cap
  pub printed : printed_by q ≡ print p.cap xs (printed_by p)
