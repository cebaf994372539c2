-- A walk that prints: what was printed so far and what is still to print make together all.
use Rattle.std.specs.Prelude.{None, Option, Some}
use Prim.Native.Nat.{ℕ, ◌-◌, ◌≤◌}
use mathlib.Core.Path.{◌≡◌, refl, sym, ◌∙◌, ap}
use mathlib.Core.List.{List, [], ◌++◌}
use native.Mathlib.Omega.{arith}
use lib.ListN.{length, drop}
use borrow.Author.Tests.{le-leb, lt-leb}
use Rattle.base.specs.Bytes.{Bytes}
use Rattle.base.proofs.Split.{by_le, no}
use Rattle.little.proofs.Overs.{over_start}
use Rattle.print.specs.Print.{Printed, print, joined_pieces}
use Rattle.print.specs.Piece.{behind, whole_over}
use Rattle.print.specs.Printer.{printed_by, Prints}
use Rattle.print.specs.declared.Printer.{Printer}
use Rattle.print.proofs.Prints.{behind_fits, behind_past, print_append, written}

-- the printer q stands where p has still the pieces `rest` to print of the pieces `all`
pub record Walk (all rest : List Bytes) (p q : Printer) : Type 0 where
  pub out : q.out.ghost_name ≡ p.out.ghost_name
  pub cap : q.cap ≡ p.cap
  pub left : print p.cap rest (printed_by q) ≡ print p.cap all (printed_by p)

pub begun : (all : List Bytes) (p : Printer) → Walk all all p p
begun all p = record { out = refl; cap = refl; left = refl }

-- the next pieces are printed
pub stepped : {all rest more xs : List Bytes} {p q s : Printer} → rest ≡ xs ++ more → Walk all rest p q → Prints xs q s → Walk all more p s
stepped {all} {rest} {more} {xs} {p} {q} {s} e w r =
    record {
      out = r.out ∙ w.out;
      cap = r.cap ∙ w.cap;
      left = rw (r.printed, w.cap) (sym (print_append p.cap xs more (printed_by q)) ∙ rw e at w.left);
    }

-- nothing is left to print
pub ended : {all rest : List Bytes} {p q : Printer} → rest ≡ [] → Walk all rest p q → Prints all p q
unfolding print
ended {all} {rest} {p} {q} e w = record { out = w.out; cap = w.cap; printed = rw e at w.left }

-- ---- measured, and then written

module _ (out : Bytes) (xs : List Bytes) {r : Option ℕ} (e : r ≡ behind (Some (length out)) (length (joined_pieces xs))) where
  -- it does not fit
  pub whole_short : {l : Option ℕ} → r ≡ None → l ≡ None → record { out = out; length = l } ≡ whole_over out (joined_pieces xs)
  unfolding whole_over
  whole_short {l} f g =
      by_le (length (joined_pieces xs)) (length out)
      (λ h. let w = behind_fits (length out) (length (joined_pieces xs)) h in no (cc))
      (λ h. rw (g, lt-leb (length (joined_pieces xs)) (length out) h))

  module _ {left : ℕ} (f : r ≡ Some left) where
    left_over : (length (joined_pieces xs) ≤ length out) × (left ≡ length out - length (joined_pieces xs))
    left_over =
        by_le (length (joined_pieces xs)) (length out)
        (λ h. let w = behind_fits (length out) (length (joined_pieces xs)) h in (h, (cc)))
        (λ h. let w = behind_past (length out) (length (joined_pieces xs)) h in no (cc))

    pub room_left : left ≤ length out
    room_left = omega (arith, left_over.0, left_over.1)

    -- it fits
    pub whole_written : (y : Bytes) {q : Printed} → y ≡ q.out → q ≡ print (length out) xs (record { out = out; room = Some (length out) })
        → record { out = y; length = Some (length out - left) } ≡ whole_over out (joined_pieces xs)
    unfolding whole_over
    whole_written y {q} o g =
        let w = left_over in
        let v = written xs out (length out) w.0 (omega arith) in
        let d : length out - length out ≡ 0 = omega arith in
        let y_is : y ≡ joined_pieces xs ++ drop (length (joined_pieces xs)) out = o ∙ (ap (λ (p : Printed). p.out) (g ∙ v) ∙ rw d (over_start out (joined_pieces xs) w.0)) in
        let l_is : length out - left ≡ length (joined_pieces xs) = omega (arith, w.0, w.1) in
        rw (le-leb (length (joined_pieces xs)) (length out) w.0, y_is, l_is)
