-- What a piece and an end answer first: 22, the stop mark.
use Rattle.reader.specs.declared.RefusedAt.{RefusedAt}
use Rattle.std.specs.Prelude.{Ok, Err, Option, Some, None}
use mathlib.Core.Path.{◌≡◌, refl, sym, ◌∙◌, ap}
use mathlib.Core.Bool.{true, false}
use Rattle.base.specs.Bytes.{Bytes}
use Rattle.base.proofs.Split.{both_left, both_right}
use Rattle.refusal.specs.declared.Refusal.TheVariants as R
use Rattle.reader.specs.State.{is_stopped, state_sound}
use Rattle.reader.specs.Given.{StateGiven}
use Rattle.reader_sound.specs.Mark.{going_answer}
use Rattle.reader_sound.proofs.Mark.{going_on, by_refused}
use Rattle.reader_events.specs.Runs.{RunGiven}
use Rattle.reader_events.proofs.Runs.{sound_given}
use Rattle.file_reader.specs.File.{FileState, FileResult, file_bytes}
use Prim.Native.Nat.{◌+◌, ◌<◌}
use native.Mathlib.Omega.{arith}
use borrow.Author.Tests.{leb-true}
use Rattle.markup.specs.MarkupBytes.{BytesState}
use Rattle.file_lexer.specs.declared.Before.{Before}
use Rattle.file_lexer.specs.Lexing.{Where, between, within}
use Rattle.file_lexer.specs.Held.{where_of}
use Rattle.reader.specs.declared.ReaderView.{ReaderView}
use Rattle.reader.specs.declared.ReaderState.{ReaderState}
use Rattle.reader.specs.Lent.{state_seen, state_held}
use Rattle.reader.specs.Event.{EventResult, end_at, end_on}
use Rattle.reader.proofs.Answers.{end_going}
use Rattle.reader_sound.proofs.Sound.{sound_lines}
use Rattle.file_reader.specs.declared.FileView.{FileView}
use Rattle.file_reader.specs.declared.FileReader.{FileReader}
use Rattle.file_reader.specs.Held.{file_seen, file_held}
use Rattle.file_reader.specs.Calls.{file_refused, place_sound, file_sound, unless_file_stopped, unless_file_unsound, piece_on, ends_at, file_end_on}

module _ (f : FileState) where
  pub file_state_sound : file_sound f ≡ true → state_sound f.state ≡ true
  unfolding file_sound
  file_state_sound e = both_left _ _ e

  pub file_given : file_sound f ≡ true → StateGiven f.state → RunGiven f.state
  file_given e g = sound_given f.state (file_state_sound e) g

  -- ---- 22 and the stop mark, before anything else

  going : (a : FileResult) (m : Option RefusedAt) → is_stopped m ≡ false → unless_file_stopped m f a ≡ a
  going a None e = refl
  going a (Some x) e = rw e

  abbrev asked : FileResult → FileResult
  asked a = unless_file_unsound f (unless_file_stopped f.state.reader.stop f a)

  asked_first : (a : FileResult) {x : RefusedAt} → going_answer (file_sound f) f.state.reader.stop ≡ Err x → record { file = f; answer = Err x } ≡ asked a
  asked_first a {x} e =
      by_refused (file_sound f) f.state.reader.stop x e
      (λ u k. rw (u, k))
      (λ u m t. rw (u, m, t))

  asked_on : (a : FileResult) → going_answer (file_sound f) f.state.reader.stop ≡ Ok tt → asked a ≡ a
  asked_on a e = let g = going_on (file_sound f) f.state.reader.stop e in rw g.0 (going a f.state.reader.stop g.1)

  -- ---- a piece

  module _ (piece : Bytes) where
    pub piece_first : {x : RefusedAt} → going_answer (file_sound f) f.state.reader.stop ≡ Err x → record { file = f; answer = Err x } ≡ piece_on piece f
    unfolding piece_on
    piece_first e = asked_first (file_bytes piece f) e

    pub piece_goes : going_answer (file_sound f) f.state.reader.stop ≡ Ok tt → {x : FileResult} → x ≡ file_bytes piece f → x ≡ piece_on piece f
    unfolding piece_on
    piece_goes e h = h ∙ sym (asked_on (file_bytes piece f) e)

  -- ---- the end

  pub end_asked : {x : RefusedAt} → going_answer (file_sound f) f.state.reader.stop ≡ Err x → record { file = f; answer = Err x } ≡ file_end_on f
  unfolding file_end_on
  end_asked e = asked_first (ends_at f.place f) e

  pub end_goes : going_answer (file_sound f) f.state.reader.stop ≡ Ok tt → {x : FileResult} → x ≡ ends_at f.place f → x ≡ file_end_on f
  unfolding file_end_on
  end_goes e h = h ∙ sym (asked_on (ends_at f.place f) e)

  between_ends : (w : Where) (b : Before) → w ≡ between b → {x : EventResult} → x ≡ end_at f.state.reader.place.level f.state → record { file = f; answer = x.answer } ≡ ends_at w f
  between_ends w b p e = rw p (ap (λ (z : EventResult). record { file = f; answer = z.answer }) e)

  -- between markups it is that of a reader of events
  pub end_between : going_answer (file_sound f) f.state.reader.stop ≡ Ok tt → (b : Before) → f.place ≡ between b → {a : EventResult} → a ≡ end_on f.state
      → record { file = f; answer = a.answer } ≡ file_end_on f
  end_between e b p x =
      let g = going_on (file_sound f) f.state.reader.stop e in
      end_goes e (between_ends f.place b p (x ∙ end_going f.state (file_state_sound g.0) g.1))

  -- within one it is 25
  pub end_within : going_answer (file_sound f) f.state.reader.stop ≡ Ok tt → (s : BytesState) → f.place ≡ within s → file_refused f R.NotMarkup (f.feeds + 1) ≡ file_end_on f
  end_within e s p = end_goes e (rw p)

  -- and the markup's line has a number
  pub feeds_count : going_answer (file_sound f) f.state.reader.stop ≡ Ok tt → (s : BytesState) → f.place ≡ within s → f.feeds < 18446744073709551615
  unfolding file_sound
  feeds_count e s p =
      let u = (going_on (file_sound f) f.state.reader.stop e).0 in
      let q : place_sound (within s) f ≡ true = rw p at (both_left _ _ (both_right _ _ u)) in
      let l = leb-true _ _ (both_left _ _ q) in
      omega (arith, l, sound_lines f.state (file_state_sound u))

-- a reader of files as it is seen
pub seen_held : (v : ReaderView) (w : FileView) (s : ReaderState) (r : FileReader) → state_seen v ≡ state_held s → w.bytes.now ≡ r.bytes.now → w.lexer ≡ r.lexer → w.named ≡ r.named
    → file_seen v w ≡ file_held s r
seen_held v w s r e b l n = λ i. record { state = e i; place = where_of (l i).place; feeds = (l i).feeds; bytes = b i; used = (l i).used; named = n i }
