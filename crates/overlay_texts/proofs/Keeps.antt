-- What a text leaves of a sound overlay: it is sound, its bytes are bytes, and chains for its texts are chains for those after it.
use Rattle.std.specs.Prelude.{Ok, Err}
use Prim.Native.Nat.{ℕ}
use mathlib.Core.Path.{◌≡◌, sym, ◌∙◌, ap}
use mathlib.Core.Bool.{true}
use mathlib.Core.List.{List, [], ◌∷◌}
use Rattle.base.specs.Bytes.{Bytes, all}
use Rattle.base.proofs.Split.{both_left, both_right, clash, no}
use Rattle.base.proofs.Lists.{all_head, all_tail}
use Rattle.little.specs.Little.{is_byte}
use Rattle.interner.specs.Sound.{texts_of, sound_strings}
use Rattle.interner.proofs.Held.{grown}
use Rattle.text_index.specs.Chained.{HandleChains, StoreChained}
use Rattle.text_index.proofs.Laws.{chained_more}
use Rattle.overlay.specs.Overlay.{Overlay}
use Rattle.overlay.specs.Given.{InBytes}
use Rattle.overlay.specs.Sound.{Sound, is_sound}
use Rattle.overlay.proofs.Decides.{decides}
use Rattle.overlay_store.proofs.Answers.{by_handle}
use Rattle.overlay_direct.specs.Calls.{intern_on}
use Rattle.overlay_direct.proofs.Keeps.{intern_sound, intern_bytes, intern_kept}
use Rattle.refusal.specs.declared.Refusal.TheVariants as R
use Rattle.overlay_direct.proofs.Answers.{intern_22_only}
use Rattle.overlay_texts.specs.Calls.{TextsTaken, interns_on}
use Rattle.overlay_texts.specs.Given.{TextsGiven}
use Rattle.overlay_texts.proofs.Answers.{interns_none, interns_more, interns_off}

pub texts_sound : (o : Overlay) → is_sound o ≡ true → sound_strings o.texts ≡ true
unfolding is_sound
texts_sound o s = both_left _ _ (both_right _ _ s)

-- ---- a text

module _ (t : Bytes) (o : Overlay) where
  pub tested_after : all is_byte t ≡ true → InBytes o → is_sound o ≡ true → is_sound (intern_on t o).overlay ≡ true
  tested_after b w s = (decides (intern_on t o).overlay (intern_bytes t o b w)).1 (intern_sound t o ((decides o w).0 s))

  pub chained_after : (c : HandleChains) (h : ℕ) → (intern_on t o).answer ≡ Ok h → is_sound (intern_on t o).overlay ≡ true → StoreChained c o.texts
      → StoreChained c (intern_on t o).overlay.texts
  chained_after c h e s i =
      let k = intern_kept t o h e in
      let g = grown (texts_of o.texts) t in
      let q = ap (λ (z : Overlay). texts_of z.texts) k.left ∙ (k.texts ∙ g.1) in
      record { sound = texts_sound (intern_on t o).overlay s; chains = rw q (chained_more c (texts_of o.texts) g.0 i.chains) }

-- ---- texts

-- one text less
pub given_on : (t : Bytes) (ts : List Bytes) (o : Overlay) → TextsGiven (t ∷ ts) o → TextsGiven ts (intern_on t o).overlay
given_on t ts o w =
    let b = all_head (all is_byte) t ts w.texts in
    record {
      sound = tested_after t o b w.overlay w.sound;
      overlay = intern_bytes t o b w.overlay;
      texts = all_tail (all is_byte) t ts w.texts;
    }

-- all of them leave a sound overlay sound, accepted or refused
pub interns_sound : (ts : List Bytes) (o : Overlay) → Sound o → Sound (interns_on ts o).overlay
interns_sound [] o w = rw (interns_none o) w
interns_sound (t ∷ ts) o w =
    by_handle (intern_on t o).answer
    (λ h a. rw (interns_more t ts o h a) (interns_sound ts (intern_on t o).overlay (intern_sound t o w)))
    (λ r a. rw (interns_off t ts o r a) (intern_sound t o w))

-- and bytes bytes
pub interns_bytes : (ts : List Bytes) (o : Overlay) → all (all is_byte) ts ≡ true → InBytes o → InBytes (interns_on ts o).overlay
interns_bytes [] o b w = rw (interns_none o) w
interns_bytes (t ∷ ts) o b w =
    let i = intern_bytes t o (all_head (all is_byte) t ts b) w in
    by_handle (intern_on t o).answer
    (λ h a. rw (interns_more t ts o h a) (interns_bytes ts (intern_on t o).overlay (all_tail (all is_byte) t ts b) i))
    (λ r a. rw (interns_off t ts o r a) i)

-- so 22 is told before the first text or not at all
pub interns_tested : (ts : List Bytes) (o : Overlay) → TextsGiven ts o → is_sound (interns_on ts o).overlay ≡ true
interns_tested ts o w =
    let b = interns_bytes ts o w.texts w.overlay in
    (decides (interns_on ts o).overlay b).1 (interns_sound ts o ((decides o w.overlay).0 w.sound))

pub interns_22_not : (ts : List Bytes) (o : Overlay) → TextsGiven ts o → (interns_on ts o).answer ≡ Err R.Unsound → ⊥
interns_22_not [] o w e = let z = sym (ap (λ (z : TextsTaken). z.answer) (interns_none o)) ∙ e in no (cc)
interns_22_not (t ∷ ts) o w e =
    by_handle (intern_on t o).answer
    (λ h a. interns_22_not ts (intern_on t o).overlay (given_on t ts o w) (sym (ap (λ (z : TextsTaken). z.answer) (interns_more t ts o h a)) ∙ e))
    (λ r a. let z : r ≡ R.Unsound = let y = sym (ap (λ (z : TextsTaken). z.answer) (interns_off t ts o r a)) ∙ e in cc in
    clash w.sound (intern_22_only t o (a ∙ ap Err z)))
