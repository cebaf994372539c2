-- What is printed at the end: each step of the code by its definition.
use Rattle.std.specs.Prelude.{Option, Err, None, Ok, Result, Some}
use Prim.Native.Nat.{ℕ, ◌+◌, ◌^◌, ◌<◌, ◌≤◌}
use mathlib.Core.Path.{◌≡◌, sym, ◌∙◌, ap, subst}
use mathlib.Core.Bool.{true}
use mathlib.Core.List.{◌++◌}
use borrow.Author.Tests.{le-leb, lt-leb, ltb-true}
use mir.Syntax.{w32}
use mir.Val.{SFits}
use lib.ListN.{length, drop}
use Rattle.base.specs.Bytes.{Bytes}
use Rattle.base.proofs.Split.{by_le, both_left, both_right, no}
use Rattle.refusal.specs.Refusal.{held_of, reply_of}
use Rattle.refusal.specs.declared.Reply.{Reply}
use Rattle.refusal.specs.declared.Refusal.{Refusal}
use Rattle.refusal.specs.declared.Refusal.TheVariants as R
use Rattle.overlay.specs.Overlay.{Overlay}
use Rattle.overlay.specs.Sound.{is_sound}
use Rattle.listing.specs.Call.{Output, page_of, page_over, listing_on, not_listed}
use Rattle.std.specs.Option.{unwrap_or}
use Rattle.print.specs.Piece.{Whole, whole_over}
use Rattle.roadlist_report.specs.Report.{refused_line}
use Rattle.roadlist_report.proofs.Fits.{refused_whole}
use Rattle.reader.specs.State.{State, state_sound, reader_sound}
use Rattle.program_ending.specs.Ending.{refused_ending, page_ending, EndOutput, end_output}

-- the line of a refusal is at the start of the output
pub refused_put : (out : Bytes) → 44 ≤ length out → (r : Refusal) (n : ℕ) → n < 2 ^ 64 → (y : Reply) → SFits w32 y.held → y ≡ reply_of r
    → (q : Bytes) (m : Option ℕ) → ◌≡◌ {A = Whole} (record { out = q; length = m }) (whole_over out (refused_line r n))
    → ◌≡◌ {A = EndOutput} (record { out = q; written = unwrap_or m 0; refusal = Some r }) (end_output out (refused_ending r n))
unfolding reply_of
refused_put out l r n h y g k q m e =
    let f : SFits w32 (held_of r) = subst (λ (z : Reply). SFits w32 z.held) k g in
    let w = e ∙ refused_whole r n h f out l in
    λ i. record { out = (w i).out; written = unwrap_or (w i).length 0; refusal = Some r }

module _ (out : Bytes) (o : Overlay) (s : is_sound o ≡ true) (line : ℕ) where
  -- 19 is the only refusal of the listing
  by_page : {C : Type 0} (x : Output) → x ≡ listing_on out o
      → (x ≡ record { out = page_of o ++ drop (length (page_of o)) out; answer = Ok (length (page_of o)) }
      → page_ending (length out) o line ≡ record { text = page_of o; refusal = None } → C)
      → (x ≡ not_listed out R.ShortOutput → page_ending (length out) o line ≡ refused_ending R.ShortOutput line → C) → C
  unfolding listing_on page_over page_ending
  by_page x e f g =
      by_le (length (page_of o)) (length out)
      (λ h. f (rw (s, le-leb (length (page_of o)) (length out) h) at e) (rw (le-leb (length (page_of o)) (length out) h)))
      (λ h. g (rw (s, lt-leb (length (page_of o)) (length out) h) at e) (rw (lt-leb (length (page_of o)) (length out) h)))

  pub page_listed : (q : Bytes) (n : ℕ) (z : Result ℕ Refusal) → z ≡ Ok n → ◌≡◌ {A = Output} (record { out = q; answer = z }) (listing_on out o)
      → ◌≡◌ {A = EndOutput} (record { out = q; written = n; refusal = None }) (end_output out (page_ending (length out) o line))
  page_listed q n y k e =
      by_page (record { out = q; answer = y }) e
      (λ x p. let z = sym k ∙ ap (λ (z : Output). z.answer) x in let m : n ≡ length (page_of o) = cc in rw p (λ i. record { out = (x i).out; written = m i; refusal = None }))
      (λ x p. let z = sym k ∙ ap (λ (z : Output). z.answer) x in no (cc))

  pub page_refused : (q : Bytes) (r : Refusal) (z : Result ℕ Refusal) → z ≡ Err r → ◌≡◌ {A = Output} (record { out = q; answer = z }) (listing_on out o)
      → (x : EndOutput) → 44 ≤ length out → (44 ≤ length q → x ≡ end_output q (refused_ending r line)) → x ≡ end_output out (page_ending (length out) o line)
  page_refused q r v i e x l k =
      by_page (record { out = q; answer = v }) e
      (λ y p. let z = sym i ∙ ap (λ (z : Output). z.answer) y in no (cc))
      (λ y p. let z = sym i ∙ ap (λ (z : Output). z.answer) y in let m : r ≡ R.ShortOutput = cc in let w : q ≡ out = ap (λ (z : Output). z.out) y in
      rw p (rw (m, w) at k l))

-- a sound state has a sound overlay, and the line after its last is counted
module _ (s : State) (e : state_sound s ≡ true) where
  pub overlay_sound : is_sound s.overlay ≡ true
  unfolding state_sound
  overlay_sound = both_left _ _ e

  pub lines_count : s.reader.lines < 18446744073709551615
  unfolding state_sound reader_sound
  lines_count = ltb-true s.reader.lines 18446744073709551615 (both_right _ _ (both_right _ _ e))
