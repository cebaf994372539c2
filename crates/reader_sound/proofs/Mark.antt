-- A reader goes by its mark as by its stop.
use Rattle.reader.specs.declared.RefusedAt.{RefusedAt}
use Rattle.std.specs.Prelude.{Option, Some, None, Ok, Err}
use Prim.Native.Nat.{ℕ}
use mathlib.Core.Path.{◌≡◌, refl}
use mathlib.Core.Bool.{Bool, true, false}
use Rattle.base.proofs.Split.{by_bool, no}
use Rattle.refusal.specs.declared.Refusal.{Refusal}
use Rattle.refusal.specs.declared.Refusal.TheVariants as R
use Rattle.reader.specs.State.{stops_by, is_stopped, refusal_at}
use Rattle.reader.specs.Table.{answer_by}
use Rattle.reader_sound.specs.Mark.{stop_mark, going_answer}

-- no mark: the reader is not stopped
unmarked : (m : Option RefusedAt) → stop_mark m ≡ None → is_stopped m ≡ false
unfolding stop_mark
unmarked None e = refl
unmarked (Some a) e = by_bool (stops_by a.refusal) (λ t. let z : Some a ≡ None = rw t at e in no (cc)) (λ t. t)

-- a mark: it is the reader's stop, and stops it
marked : (m : Option RefusedAt) (r : Refusal) (n : ℕ) → stop_mark m ≡ Some (refusal_at r n) → (m ≡ Some (refusal_at r n)) × (stops_by r ≡ true)
unfolding stop_mark
marked None r n e = no (cc)
marked (Some a) r n e =
    by_bool (stops_by a.refusal) (λ t. let z : Some a ≡ Some (refusal_at r n) = rw t at e in (z, cc)) (λ t. let z : None ≡ Some (refusal_at r n) = rw t at e in no (cc))

-- ---- what is answered before a step

-- nothing: the state is sound, and the reader is not stopped
pub going_on : (sound : Bool) (m : Option RefusedAt) → going_answer sound m ≡ Ok tt → (sound ≡ true) × (is_stopped m ≡ false)
unfolding going_answer
going_on false m e = no (cc)
going_on true m e = (refl, by_mark (stop_mark m) refl e)
  where
    by_mark : (x : Option RefusedAt) → stop_mark m ≡ x → answer_by x ≡ Ok tt → is_stopped m ≡ false
    by_mark None f g = unmarked m f
    by_mark (Some a) f g = no (cc)

-- a refusal: 22, or the mark that stops the reader
pub by_refused : {C : Type 0} (sound : Bool) (m : Option RefusedAt) (a : RefusedAt) → going_answer sound m ≡ Err a
    → (sound ≡ false → a ≡ refusal_at R.Unsound 0 → C)
    → (sound ≡ true → m ≡ Some a → stops_by a.refusal ≡ true → C)
    → C
unfolding going_answer
by_refused false m a e f g = f refl (cc)
by_refused {C} true m a e f g = by_mark (stop_mark m) refl e
  where
    by_mark : (x : Option RefusedAt) → stop_mark m ≡ x → answer_by x ≡ Err a → C
    by_mark None h k = no (cc)
    by_mark (Some b) h k =
        let z : b ≡ a = cc in
        let w = marked m a.refusal a.line (rw z at h) in
        g refl w.0 w.1
