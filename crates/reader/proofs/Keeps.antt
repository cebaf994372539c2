-- What lists of calls need, in two parts: the overlay is sound, and of each reader what is staged is sound and its numbers fit. An event keeps both, accepted or refused,
-- whatever the count of lines; other calls keep a reader too, since no text is lost; and "readers begin fresh".
use Prim.Native.Nat.{ℕ, ◌+◌, ◌<◌, ◌≤◌}
use mathlib.Core.Path.{◌≡◌, refl}
use mathlib.Core.Bool.{true}
use lib.ListN.{length}
use borrow.Author.Tests.{lt-ltb}
use Rattle.base.specs.Bytes.{Bytes, all}
use Rattle.base.proofs.Split.{both_of}
use Rattle.little.specs.Little.{is_byte}
use Rattle.nesting.specs.Nesting.{start}
use Rattle.interner.specs.Texts.{text_of}
use Rattle.interner.specs.Sound.{texts_of}
use Rattle.overlay.specs.Overlay.{Overlay}
use Rattle.overlay.specs.Sound.{is_sound}
use Rattle.acts.specs.Turn.{fresh}
use Rattle.reader.specs.declared.EventReader.{EventReader}
use Rattle.reader.specs.State.{State, fresh_reader, pending_sound, reader_sound, state_sound}
use Rattle.reader.specs.Given.{ReaderGiven, StateGiven}
use Rattle.reader.specs.Event.{event_on}
use Rattle.reader.specs.Means.{reader_of}
use Rattle.reader.proofs.Answers.{by_answer, event_counts}
use Rattle.reader.proofs.Acts.{Fine}
use Rattle.reader.proofs.Held.{Held, held_of, held_sound, held_more, held_same}
use Rattle.reader.proofs.Legals.{nothing_held, nothing_means}
use Rattle.reader.proofs.Steps.{empty_text}
use Rattle.reader.proofs.Events.{event_accepted, by_refused}

-- a reader's part, where so many strings are held
pub record Ready (strings : ℕ) (r : EventReader) (parts : Bytes) : Type 0 where
  pub given : ReaderGiven r parts
  pub sound : pending_sound strings r.place.kind parts r.pending ≡ true

abbrev pub ReadyIn : State → Type 0
ReadyIn s = Ready s.overlay.texts.strings s.reader s.parts

-- ---- an event

module _ (line : Bytes) (s : State) (w : Fine s.overlay) (v : ReadyIn s) where
  given : StateGiven s
  given = record { overlay = w.bytes; reader = v.given }

  pub event_fine : Fine (event_on line s).state.overlay
  event_fine =
      by_answer (event_on line s).answer
      (λ a. let x = event_accepted line s given a in record { sound = x.sound; bytes = x.given.overlay })
      (λ r n a. by_refused line s r n a (λ u k j e. rw e w) (λ u t e. rw e w))

  pub event_ready : ReadyIn (event_on line s).state
  event_ready =
      by_answer (event_on line s).answer
      (λ a. let x = event_accepted line s given a in record { given = x.given.reader; sound = x.pending })
      (λ r n a. by_refused line s r n a (λ u k j e. rw e v) (λ u t e. rw e (record { given = record { head = v.given.head; meta = v.given.meta; bytes = v.given.bytes; room = v.given.room }; sound = v.sound })))

-- an event keeps its state sound, unless it brings the count of lines to its largest
pub event_sound : (line : Bytes) (s : State) → StateGiven s → state_sound s ≡ true → s.reader.lines + 1 < 18446744073709551615 → state_sound (event_on line s).state ≡ true
unfolding state_sound reader_sound
event_sound line s g e n =
    by_answer (event_on line s).answer
    (λ a. let x = event_accepted line s g a in both_of x.sound (both_of x.pending (rw (event_counts line s a).0 (lt-ltb (s.reader.lines + 1) 18446744073709551615 n))))
    (λ r m a. by_refused line s r m a (λ u k j w. rw w e) (λ u t w. rw w e))

-- a reader whose part is sound, in a sound overlay, is a sound state while its count is below its largest
pub ready_sound : (s : State) → Fine s.overlay → ReadyIn s → s.reader.lines < 18446744073709551615 → state_sound s ≡ true
unfolding state_sound reader_sound
ready_sound s w v n = both_of w.sound (both_of v.sound (lt-ltb s.reader.lines 18446744073709551615 n))

-- ---- the overlay changes between two events: strings are added, and none is lost

module _ (n : ℕ) (r : EventReader) (parts : Bytes) (v : Ready n r parts) where
  held : Held n r.place.kind parts r.pending
  held = held_of n r.place.kind parts r.pending v.given.head v.given.meta v.given.bytes v.sound

  pub ready_more : (m : ℕ) → n ≤ m → Ready m r parts
  ready_more m l = record { given = v.given; sound = held_sound m _ _ _ (held_more n _ _ _ held m l) }

  -- and the reader stands for the same
  pub ready_means : (o q : Overlay) → ((h : ℕ) → h < n → text_of (texts_of q.texts) h ≡ text_of (texts_of o.texts) h)
      → reader_of (record { overlay = q; reader = r; parts = parts }) ≡ reader_of (record { overlay = o; reader = r; parts = parts })
  unfolding reader_of
  ready_means o q same = λ i. record { place = r.place; staged = held_same n _ parts r.pending held (texts_of o.texts) (texts_of q.texts) same i }

-- ---- "readers begin fresh"

abbrev pub fresh_in : Overlay → Bytes → State
fresh_in o parts = record { overlay = o; reader = fresh_reader; parts = parts }

module _ (o : Overlay) (e : is_sound o ≡ true) (parts : Bytes) where
  pub fresh_means : reader_of (fresh_in o parts) ≡ fresh
  unfolding reader_of
  fresh_means =
      let z = empty_text o e in
      λ i. record { place = start; staged = nothing_means o.texts.strings parts z.1 start.kind (texts_of o.texts) z.0 i }

  nothing : Held o.texts.strings start.kind parts fresh_reader.pending
  nothing = nothing_held o.texts.strings parts (empty_text o e).1 start.kind

  pub fresh_ready : all is_byte parts ≡ true → length parts ≡ 44432 → ReadyIn (fresh_in o parts)
  fresh_ready b l = record { given = record { head = nothing.head; meta = nothing.meta; bytes = b; room = l }; sound = held_sound _ _ _ _ nothing }

  pub fresh_sound : state_sound (fresh_in o parts) ≡ true
  unfolding state_sound reader_sound
  fresh_sound = both_of e (both_of (held_sound _ _ _ _ nothing) refl)
