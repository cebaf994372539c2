-- Many texts in one call: 22 first, then 17 and 19 for what is handed in; then each text by `intern`, one call each, up to the first that is refused.
use Rattle.std.specs.Prelude.{ℕ, cond, List, [], ◌∷◌, leb, length, Err, Ok, Result}
use Rattle.base.specs.Bytes.{Bytes}
use Rattle.little.specs.Little.{over}
use Rattle.refusal.specs.declared.Refusal.{Refusal}
use Rattle.refusal.specs.declared.Refusal.TheVariants as R
use Rattle.overlay.specs.Overlay.{Overlay}
use Rattle.overlay.specs.Sound.{is_sound}
use Rattle.overlay_direct.specs.Calls.{intern_on}
use Rattle.overlay_texts.specs.Texts.{cut_texts, lengths_fit}

-- ---- texts, one call each

-- what they leave, the handles of those that were taken in, and how the last call was answered
pub record TextsTaken : Type 0 where
  pub overlay : Overlay
  pub handles : List ℕ
  pub answer : Result Unit Refusal

-- the handle of a text before those of the texts after it
abbrev pub onto_handles : ℕ → TextsTaken → TextsTaken
onto_handles h x = record { overlay = x.overlay; handles = h ∷ x.handles; answer = x.answer }

-- a text, and what comes after it where it was taken in
abbrev pub interns_onward : (Overlay → TextsTaken) → Result ℕ Refusal → Overlay → TextsTaken
interns_onward next (Ok h) o = onto_handles h (next o)
interns_onward next (Err r) o = record { overlay = o; handles = []; answer = Err r }

-- texts, `intern` by `intern`, up to the first that is refused
unfoldable pub interns_on : List Bytes → Overlay → TextsTaken
interns_on [] o = record { overlay = o; handles = []; answer = Ok tt }
interns_on (t ∷ ts) o = interns_onward (interns_on ts) (intern_on t o).answer (intern_on t o).overlay

-- ---- the call

-- the overlay and the lent list of handles, the answer, and how many texts were taken in
pub record TextsAfter : Type 0 where
  pub overlay : Overlay
  pub handles : List ℕ
  pub answer : Result Unit Refusal
  pub taken : ℕ

-- the handles over the first words of the list; the others stay
abbrev pub handles_over : List ℕ → TextsTaken → TextsAfter
handles_over handles x = record { overlay = x.overlay; handles = over handles 0 x.handles; answer = x.answer; taken = length x.handles }

abbrev pub none_interned : List ℕ → Overlay → Refusal → TextsAfter
none_interned handles o r = record { overlay = o; handles = handles; answer = Err r; taken = 0 }

-- what is tested before any text: 22; 17 where the lengths do not add up to the bytes; 19 where the list is shorter than the texts are many
unfoldable pub given_answer : List ℕ → Bytes → ℕ → Overlay → Result Unit Refusal
given_answer lengths bytes room o =
    cond (is_sound o) (cond (lengths_fit lengths bytes) (cond (leb (length lengths) room) (Ok tt) (Err R.ShortOutput)) (Err R.BadRecord)) (Err R.Unsound)

abbrev pub if_given : Result Unit Refusal → List Bytes → List ℕ → Overlay → TextsAfter
if_given (Ok tt) ts handles o = handles_over handles (interns_on ts o)
if_given (Err r) ts handles o = none_interned handles o r

unfoldable pub intern_texts_on : List ℕ → Bytes → List ℕ → Overlay → TextsAfter
intern_texts_on lengths bytes handles o = if_given (given_answer lengths bytes (length handles) o) (cut_texts lengths bytes) handles o
