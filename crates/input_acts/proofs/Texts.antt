-- What a call of many texts leaves is what `intern` leaves of those that were taken in, one call each, so each theorem over lists of calls speaks of such a call too.
use Rattle.std.specs.Prelude.{Ok, Err, Result}
use Prim.Native.Nat.{ℕ}
use mathlib.Core.Path.{◌≡◌, refl, ap}
use mathlib.Core.List.{List, [], ◌∷◌, map}
use lib.ListN.{length, take}
use Rattle.base.specs.Bytes.{Bytes}
use Rattle.refusal.specs.declared.Refusal.{Refusal}
use Rattle.overlay.specs.Overlay.{Overlay}
use Rattle.overlay_store.proofs.Answers.{by_handle}
use Rattle.overlay_direct.specs.Calls.{intern_on}
use Rattle.overlay_direct.proofs.Answers.{intern_refused}
use Rattle.overlay_texts.specs.Texts.{cut_texts}
use Rattle.overlay_texts.specs.Calls.{interns_on, TextsAfter, given_answer, if_given, intern_texts_on}
use Rattle.overlay_texts.proofs.Answers.{interns_none, interns_more, interns_off}
use Rattle.calls.specs.Ask.{interns, Storage, with_overlay, after}

-- the texts that are taken in
abbrev taken : List Bytes → Overlay → List Bytes
taken ts o = take (length (interns_on ts o).handles) ts

pub interns_after : (ts : List Bytes) (l : Storage) → with_overlay (interns_on ts l.overlay).overlay l ≡ after l (map interns (taken ts l.overlay))
unfolding after
interns_after [] l = rw (interns_none l.overlay) refl
interns_after (t ∷ ts) l =
    by_handle (intern_on t l.overlay).answer
    (λ h a. rw (interns_more t ts l.overlay h a) (interns_after ts (with_overlay (intern_on t l.overlay).overlay l)))
    (λ r a. rw (interns_off t ts l.overlay r a) (ap (λ (o : Overlay). with_overlay o l) (intern_refused t l.overlay r a)))

module _ (lengths : List ℕ) (bytes : Bytes) (handles : List ℕ) (l : Storage) where
  abbrev called : Result Unit Refusal → TextsAfter
  called a = if_given a (cut_texts lengths bytes) handles l.overlay

  by_given : (a : Result Unit Refusal) → with_overlay (called a).overlay l ≡ after l (map interns (take (called a).taken (cut_texts lengths bytes)))
  unfolding after
  by_given (Ok tt) = interns_after (cut_texts lengths bytes) l
  by_given (Err r) = refl

  pub call_after : let x = intern_texts_on lengths bytes handles l.overlay in with_overlay x.overlay l ≡ after l (map interns (take x.taken (cut_texts lengths bytes)))
  unfolding intern_texts_on
  call_after = by_given (given_answer lengths bytes (length handles) l.overlay)
