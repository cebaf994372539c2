-- "2 over 16,384 bytes without its line feed": of such a line its first 16,385 bytes alone decide, so that no more of it need be kept.
use Rattle.std.specs.Prelude.{None, Option, Some}
use Prim.Native.Nat.{◌<◌, ◌≤◌}
use mathlib.Core.Path.{◌≡◌, refl, sym, ◌∙◌}
use mathlib.Core.Bool.{true}
use mathlib.Core.List.{[], ◌∷◌, ◌++◌, append-nil}
use native.Mathlib.Omega.{arith}
use lib.ListN.{length, take, drop, length-append, take-append-drop}
use lib.Seq.{length-take-le}
use Rattle.base.specs.Bytes.{Bytes}
use Rattle.refusal.specs.declared.Refusal.TheVariants.{LongLine}
use Rattle.nesting.specs.declared.Place.{Place}
use Rattle.line.proofs.Lines.{lacks, lacks_head, lacks_tail}
use Rattle.event.specs.Event.{refused, unended, body, event_of}
use Rattle.event.proofs.Parts.{unended_some}
use Rattle.event.proofs.Events.{judged_long}
use Rattle.event_decision.specs.Decision.{refuses, decide}

-- of a run that begins with p, in which there is no line feed, and ends in one, p stands before that
longer : (p t b : Bytes) → lacks 10 p ≡ true → p ++ t ≡ b ++ (10 ∷ []) → length p ≤ length b
longer [] t b h e = omega arith
longer (x ∷ p) t [] h e = let q : x ≡ 10 = cc in absurd (lacks_head 10 x p h q)
longer (x ∷ p) t (y ∷ b) h e = let q : p ++ t ≡ b ++ (10 ∷ []) = cc in omega (arith, longer p t b (lacks_tail 10 x p h) q)

begins_body : (p t : Bytes) → lacks 10 p ≡ true → length p ≤ length (body (p ++ t))
begins_body p t h = go (unended (p ++ t)) refl
  where
    go : (o : Option Bytes) → unended (p ++ t) ≡ o → length p ≤ length (body (p ++ t))
    go None e = rw (e, length-append) (omega arith)
    go (Some b) e = rw e (longer p t b h (unended_some (p ++ t) b e))

module _ (p : Bytes) (k : 16384 < length p) (h : lacks 10 p ≡ true) where
  -- every line that begins with these bytes is refused 2, with or without its line feed
  pub long_begins : (t : Bytes) → event_of (p ++ t) ≡ refused LongLine
  long_begins t = judged_long (p ++ t) (omega (arith, begins_body p t h))

  pub long_decided : (t : Bytes) (at : Place) → decide (p ++ t) at ≡ refuses LongLine
  unfolding decide
  long_decided t at = rw (long_begins t)

  pub long_alone : (at : Place) → decide p at ≡ refuses LongLine
  long_alone at = rw append-nil at (long_decided [] at)

  -- so these bytes stand for the line
  pub long_stands : (t : Bytes) (at : Place) → decide (p ++ t) at ≡ decide p at
  long_stands t at = long_decided t at ∙ sym (long_alone at)

-- by the first 16,385 bytes of a line: they decide, and stand for it
module _ (s : Bytes) (k : 16384 < length s) (h : lacks 10 (take 16385 s) ≡ true) where
  enough : 16384 < length (take 16385 s)
  enough = omega (arith, length-take-le 16385 s (omega arith))

  pub long_first : event_of s ≡ refused LongLine
  long_first = rw take-append-drop at (long_begins (take 16385 s) enough h (drop 16385 s))

  pub first_stands : (at : Place) → decide s at ≡ decide (take 16385 s) at
  first_stands at = rw take-append-drop at (long_stands (take 16385 s) enough h (drop 16385 s) at)
