-- The line is short: 44 bytes hold it, whatever the line's number (u64) and the known version (i32).
use Rattle.std.specs.Prelude.{Some}
use Prim.Native.Nat.{ℕ, suc, ◌^◌, ◌<◌, ◌≤◌}
use mathlib.Core.Path.{◌≡◌}
use native.Mathlib.Omega.{arith}
use lib.IntN.{ℤ, pos, negsuc}
use mathlib.Core.List.{◌++◌}
use lib.ListN.{length, drop, length-append}
use mir.Syntax.{w32}
use mir.Val.{SFits}
use borrow.Author.Tests.{le-leb}
use Rattle.base.specs.Bytes.{Bytes}
use Rattle.base.proofs.Split.{by_eq}
use Rattle.refusal.specs.Refusal.{number_of, held_of}
use Rattle.refusal.specs.declared.Refusal.{Refusal}
use Rattle.line.specs.Line.{tabbed, line}
use Rattle.line.specs.Decimal.{integer_text}
use Rattle.print.proofs.Pieces.{digits_fit}
use Rattle.print.specs.Piece.{whole_over}
use Rattle.roadlist_report.specs.Report.{held_field, refused_line}
use Rattle.roadlist_report.proofs.Refused.{numbered, held_known, held_none}

integer_fits : (z : ℤ) → SFits w32 z → length (integer_text z) ≤ 11
unfolding integer_text
integer_fits (pos n) f = omega (arith, digits_fit 9 n (omega (arith, f.sfits)))
integer_fits (negsuc n) f = omega (arith, digits_fit 9 (suc n) (omega (arith, f.sfits)))

held_fits : (r : Refusal) → SFits w32 (held_of r) → length (held_field r) ≤ 11
held_fits r f =
    by_eq (number_of r) 12
    (λ e. rw (held_known r e) (integer_fits (held_of r) f))
    (λ n. rw (held_none r n) (omega arith))

module _ (r : Refusal) (n : ℕ) (h : n < 2 ^ 64) (f : SFits w32 (held_of r)) where
  pub refused_fits : length (refused_line r n) ≤ 44
  unfolding refused_line line tabbed
  refused_fits =
      let a = digits_fit 1 (number_of r) (omega (arith, (numbered r).0)) in
      let b = digits_fit 19 n (omega arith) in
      let c = held_fits r f in
      simp length-append (omega arith)

  -- so it is written wherever 44 bytes are lent
  pub refused_whole : (s : Bytes) → 44 ≤ length s
      → whole_over s (refused_line r n) ≡ record { out = refused_line r n ++ drop (length (refused_line r n)) s; length = Some (length (refused_line r n)) }
  unfolding whole_over
  refused_whole s k = rw (le-leb (length (refused_line r n)) (length s) (omega (arith, refused_fits)))
