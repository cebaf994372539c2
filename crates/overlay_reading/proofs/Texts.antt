-- In a sound overlay the view of a handle is its text, and 21 is given exactly where the handle is not held.
use Rattle.std.specs.Prelude.{Err, Ok, Some}
use Prim.Native.Nat.{ℕ, ◌+◌, ◌<◌, ◌≤◌}
use mathlib.Core.Path.{◌≡◌, sym, ◌∙◌}
use mathlib.Core.Logic.{◌↔◌}
use native.Mathlib.Omega.{arith}
use lib.ListN.{take, drop, length, length-take}
use borrow.Author.Tests.{leb-true}
use Rattle.base.proofs.Split.{by_lt, both_right, no}
use Rattle.interner.specs.Strings.{start_of, length_of, spanned, used_of}
use Rattle.interner.specs.Sound.{texts_of}
use Rattle.interner.specs.Texts.{text_of}
use Rattle.interner.proofs.Interns.{sound_parts, text_at, resolved, unheld}
use Rattle.refusal.specs.declared.Refusal.TheVariants as R
use Rattle.kind_reading.specs.Listed.{View}
use Rattle.kind_reading.proofs.Views.{part_used}
use Rattle.overlay.specs.Overlay.{Overlay}
use Rattle.overlay.specs.Given.{InBytes}
use Rattle.overlay.specs.Sound.{Sound}
use Rattle.overlay.proofs.Decides.{decides}
use Rattle.overlay_reading.specs.Reading.{text_on}

module _ (o : Overlay) (b : InBytes o) (w : Sound o) (h : ℕ) where
  abbrev start : ℕ
  start = start_of o.texts.spans h

  abbrev long : ℕ
  long = length_of o.texts.spans h

  pub text_is : h < o.texts.strings → text_on h o ≡ Ok (Some (record { start = start; len = long }))
  unfolding text_on
  text_is l = rw ((decides o b).1 w, resolved o.texts (sound_parts o.texts w.strings) h l)

  pub text_bytes : h < o.texts.strings → take long (drop start o.texts.bytes) ≡ text_of (texts_of o.texts) h
  unfolding spanned
  text_bytes l =
      let p = sound_parts o.texts w.strings in
      let n = leb-true (start + long) (length (used_of o.texts)) (both_right _ _ (p.spans h l)) in
      let m = length-take o.texts.used o.texts.bytes in
      sym (part_used start long o.texts.used o.texts.bytes (omega arith)) ∙ sym (text_at o.texts h l)

  pub text_missing : (text_on h o ≡ Err R.NoSuchNumber) ↔ (o.texts.strings ≤ h)
  unfolding text_on
  text_missing = (
    λ e. by_lt h o.texts.strings (λ l. let z : ◌≡◌ {A = View} (Ok (Some (record { start = start; len = long }))) (Err R.NoSuchNumber) = sym (text_is l) ∙ e in no cc) (λ l. l),
    λ l. rw ((decides o b).1 w, unheld o.texts h l),
  )
