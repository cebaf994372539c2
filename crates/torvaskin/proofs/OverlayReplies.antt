-- What an entry leaves and replies, from what a call of the overlay leaves and answers; and where a number means no kind.
use Rattle.std.specs.Prelude.{Err, List, None, Ok, Option, Result, Some, ℕ}
use Rattle.refusal.specs.declared.Refusal.{Refusal}
use mathlib.Core.Path.{◌≡◌, refl}
use mathlib.Core.Bool.{Bool, true, false, cond}
use Rattle.refusal.specs.declared.Reply.{Reply}
use Rattle.refusal.specs.declared.Refusal.TheVariants as R
use Rattle.overlay.specs.Overlay.{Overlay}
use Rattle.overlay.specs.Sound.{is_sound}
use Rattle.overlay.specs.Calls.{OverlayAfter, overlay_refused}
use Rattle.overlay_store.specs.Calls.{Interning}
use Rattle.base.proofs.Split.{no}
use Rattle.kind.specs.declared.Kind.{Kind}
use Rattle.overlay_texts.specs.Calls.{TextsAfter}
use Rattle.c_replies.specs.Overlays.{kept_reply, sound_reply, unknown_reply, handle_text, texts_reply}
use Rattle.c_replies.specs.Readings.{unknown_kind}
use Rattle.c_replies.specs.declared.Text.{Text}
use Rattle.c_replies.specs.declared.TextsReply.{TextsReply}
use Rattle.torvaskin.specs.Overlays.{kind_answer, replied, unknown, interned, all_interned}

pub replied_is : {x : Overlay} {a : Result Unit Refusal} {r : Reply} {y : OverlayAfter} → r ≡ kept_reply a → record { overlay = x; answer = a } ≡ y → record { overlay = x; reply = r } ≡ replied y
replied_is told e = rw (told, ← e)

pub interned_is : {x : Overlay} {a : Result ℕ Refusal} {r : Text} {y : Interning} → r ≡ handle_text a → record { overlay = x; answer = a } ≡ y → record { overlay = x; reply = r } ≡ interned y
interned_is told e = rw (told, ← e)

pub all_interned_is : {x : Overlay} {hs : List ℕ} {a : Result Unit Refusal} {n : ℕ} {r : TextsReply} {y : TextsAfter} → r ≡ texts_reply a n
    → record { overlay = x; handles = hs; answer = a; taken = n } ≡ y → record { overlay = x; handles = hs; reply = r } ≡ all_interned y
all_interned_is told e = rw (told, ← e)

-- 22, else 17, and nothing lent changes
no_kind : (o : Overlay) (b : Bool) → record { overlay = o; reply = unknown_reply b } ≡ replied (cond b (overlay_refused o R.BadRecord) (overlay_refused o R.Unsound))
no_kind o true = refl
no_kind o false = refl

pub unknown_is : {o : Overlay} {r : Reply} → r ≡ unknown_reply (is_sound o) → record { overlay = o; reply = r } ≡ replied (unknown o)
unknown_is {o} told = rw told (no_kind o (is_sound o))

-- the kind that was told, or that none is meant
pub kind_told : (x : Option Kind) (o : Overlay) {k : Kind} → Ok k ≡ kind_answer x o → x ≡ Some k
kind_told (Some j) o e = cc
kind_told None o e = no (cc)

pub kind_untold : (x : Option Kind) (o : Overlay) {r : Refusal} → Err r ≡ kind_answer x o → (x ≡ None) × (r ≡ unknown_kind (is_sound o))
kind_untold (Some j) o e = no (cc)
kind_untold None o e = (refl, cc)

-- the reply of the test of soundness
pub sound_told : (b : Bool) → kept_reply (cond b (Ok tt) (Err R.Unsound)) ≡ sound_reply b
sound_told true = refl
sound_told false = refl
