-- How the line is printed: HELD by the number, then the pieces in order.
use Prim.Native.Nat.{ℕ}
use mathlib.Core.Path.{◌≡◌, refl, ap}
use mathlib.Core.List.{[], ◌∷◌}
use lib.IntN.{ℤ}
use Rattle.base.specs.Ascii.{ascii}
use Rattle.refusal.specs.Refusal.{number_of, reply_of}
use Rattle.refusal.specs.declared.Refusal.{Refusal}
use Rattle.refusal.specs.declared.Refusal.TheVariants.{Regression}
use Rattle.refusal.specs.declared.Reply.{Reply}
use Rattle.line.specs.Decimal.{number_text, integer_text}
use Rattle.print.specs.Print.{joined_pieces, tab, tabs, line_pieces}
use Rattle.print.specs.Printer.{Prints}
use Rattle.print.specs.declared.Printer.{Printer}
use Rattle.print.proofs.Pieces.{then_printed}
use Rattle.print.proofs.Prints.{line_pieces_lem}
use Rattle.roadlist_report.proofs.Refused.{held_known, held_none, not_12}
use Rattle.roadlist_report.specs.Report.{held_field, refused_fields, refused_line}

-- ---- HELD

module _ {p q : Printer} (r : Refusal) where
  -- a regression holds a version, and no other refusal has its number
  pub known_printed : (v : ℤ) → r ≡ Regression v → Prints (tab ∷ integer_text v ∷ []) p q → Prints (tab ∷ held_field r ∷ []) p q
  known_printed v e h = rw (e, held_known (Regression v) refl) h

  pub none_printed : ((v : ℤ) → r ≡ Regression v → ⊥) → Prints (tab ∷ (45 ∷ []) ∷ []) p q → Prints (tab ∷ held_field r ∷ []) p q
  none_printed n h = rw (held_none r (not_12 r n)) h

-- ---- the pieces

pub line_printed : {p a b c d q : Printer} (r : Refusal) (n : ℕ) (y : Reply) → y ≡ reply_of r
    → Prints (ascii "refused" ∷ []) p a → Prints (tab ∷ number_text y.number ∷ []) a b → Prints (tab ∷ number_text n ∷ []) b c
    → Prints (tab ∷ held_field r ∷ []) c d → Prints ((10 ∷ []) ∷ []) d q → Prints (line_pieces (refused_fields r n)) p q
unfolding line_pieces tabs reply_of
line_printed r n y e f g h i j =
    let m : number_text y.number ≡ number_text (number_of r) = ap (λ (z : Reply). number_text z.number) e in
    then_printed f (then_printed (rw m at g) (then_printed h (then_printed i j)))

pub pieces_joined : (r : Refusal) (n : ℕ) → joined_pieces (line_pieces (refused_fields r n)) ≡ refused_line r n
unfolding refused_line
pieces_joined r n = line_pieces_lem (ascii "refused") (number_text (number_of r) ∷ number_text n ∷ held_field r ∷ [])
