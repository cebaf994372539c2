-- T16, of a fresh reader that is heard alone: as far as nesting goes, its events and its end accept the documents of the grammar and nothing else.
use Rattle.reader.specs.declared.RefusedAt.{RefusedAt}
use Rattle.std.specs.Prelude.{None, Some, Ok, Err, Result}
use Prim.Native.Nat.{ℕ}
use mathlib.Core.Path.{◌≡◌, refl, sym, ◌∙◌, ap}
use mathlib.Core.Bool.{true, false}
use mathlib.Core.Logic.{◌↔◌}
use mathlib.Core.List.{List, [], ◌∷◌, ◌++◌, append-nil}
use lib.ListN.{length}
use Rattle.base.specs.Bytes.{Bytes, all}
use Rattle.base.proofs.Split.{by_bool, no, clash}
use Rattle.base.proofs.Lists.{all_nil, all_cons, all_head, all_tail}
use Rattle.little.specs.Little.{is_byte}
use Rattle.refusal.specs.declared.Refusal.TheVariants as R
use Rattle.nesting.specs.Marks.{Mark, run}
use Rattle.nesting.specs.Grammar.{each_gives}
use Rattle.nesting.specs.declared.Level.TheVariants as L
use Rattle.nesting.specs.declared.Place.{Place}
use Rattle.nesting.proofs.Documents.{documents}
use Rattle.acts.specs.Turn.{Reader}
use Rattle.acts.specs.Lines.{line_marks}
use Rattle.acts.proofs.Turns.{KindAgrees, fresh_agrees, turn_agrees}
use Rattle.acts.proofs.Changes.{done, more, lines_lead}
use Rattle.overlay.specs.Overlay.{Overlay}
use Rattle.overlay.specs.Given.{InBytes}
use Rattle.overlay.specs.Sound.{is_sound}
use Rattle.reader.specs.State.{State, next_line, stops_by, is_stopped, state_sound, refusal_at}
use Rattle.reader.specs.Given.{StateGiven}
use Rattle.reader.specs.Means.{reader_of}
use Rattle.reader.specs.Event.{EventResult, event_on, end_on}
use Rattle.reader.proofs.Answers.{event_22, event_counts, end_22, end_done, same_refusal}
use Rattle.reader.proofs.Events.{event_accepted, event_stops, by_refused}
use Rattle.reader.proofs.Keeps.{fresh_ready, fresh_means}
use Rattle.calls.specs.Ask.{event_taken}
use Rattle.condition.specs.Nesting.{answers_to, ByNesting, is_accepted, is_misnested, is_unfinished, AllByNesting, fresh_state, AcceptsDocuments, NestingRefused, misplaced, outside}
use Rattle.condition.proofs.Nesting.{run_stops, run_after, nowhere_exactly}

taken_is : (a : Result Unit RefusedAt) → event_taken a ≡ true → a ≡ Ok tt
taken_is (Ok tt) e = refl
taken_is (Err a) e = no cc

not_22 : {a : Result Unit RefusedAt} → ByNesting a → a ≡ Err (refusal_at R.Unsound 0) → ⊥
not_22 (is_accepted e) u = no cc
not_22 (is_misnested m (misplaced e)) u = let z : R.Misplaced ≡ R.Unsound = (same_refusal (sym e ∙ u)).0 in no cc
not_22 (is_misnested m (outside e)) u = let z : R.OutsideSection ≡ R.Unsound = (same_refusal (sym e ∙ u)).0 in no cc
not_22 (is_unfinished m e) u = let z : R.Unfinished ≡ R.Unsound = (same_refusal (sym e ∙ u)).0 in no cc

abbrev RunsToEnd : Place → List Mark → Type 0
RunsToEnd p ms = (q : Place) × (run p ms ≡ Some q) × (q.level ≡ L.Done)

module _ (s : State) (given : StateGiven s) (kind : KindAgrees (reader_of s)) (going : is_stopped s.reader.stop ≡ false) where
  -- an event, and the marks of what follows
  line_taken : (line : Bytes) (rest : List Mark) → (event_on line s).answer ≡ Ok tt → run s.reader.place (line_marks line ++ rest) ≡ run (event_on line s).state.reader.place rest
  unfolding reader_of each_gives
  line_taken line rest a =
      let x = event_accepted line s given a in
      let r : run s.reader.place (line_marks line) ≡ Some x.comes.reader.place = rw append-nil at (lines_lead kind (more x.comes x.is done)).runs in
      run_after s.reader.place (event_on line s).state.reader.place (line_marks line) rest (r ∙ ap (λ (z : Reader). Some z.place) (sym x.reader))

  line_refused : (line : Bytes) (rest : List Mark) (m : ℕ) → NestingRefused (event_on line s).answer m → run s.reader.place (line_marks line ++ rest) ≡ None
  line_refused line rest m a =
      let u = event_sound line (is_misnested m a) in
      run_stops s.reader.place (line_marks line) rest ((nowhere_exactly line s u going).0 (at_line line u a))
    where
      event_sound : (line : Bytes) → ByNesting (event_on line s).answer → state_sound s ≡ true
      event_sound line n = by_bool (state_sound s) (λ u. u) (λ u. absurd (not_22 n (ap (λ (z : EventResult). z.answer) (event_22 line s u))))

      at_line : (line : Bytes) → state_sound s ≡ true → {m : ℕ} → NestingRefused (event_on line s).answer m → NestingRefused (event_on line s).answer (next_line s)
      at_line line u {m} (misplaced e) = misplaced (rw (event_stops line s u going R.Misplaced m e).1 at e)
      at_line line u {m} (outside e) = outside (rw (event_stops line s u going R.OutsideSection m e).1 at e)

  -- the end
  end_exactly : ByNesting (end_on s).answer → ((end_on s).answer ≡ Ok tt) ↔ (s.reader.place.level ≡ L.Done)
  end_exactly n = end_done s (by_bool (state_sound s) (λ u. u) (λ u. absurd (not_22 n (ap (λ (z : EventResult). z.answer) (end_22 s u))))) going

abbrev Exactly : State → List (Result Unit RefusedAt) → List Mark → Type 0
Exactly t xs ms = (all event_taken xs ≡ true) ↔ RunsToEnd t.reader.place ms

pub lines_exactly : (lines : List Bytes) (s : State) → StateGiven s → KindAgrees (reader_of s) → is_stopped s.reader.stop ≡ false → AllByNesting (answers_to s lines)
    → Exactly s (answers_to s lines) (each_gives line_marks lines)
unfolding answers_to AllByNesting each_gives run stops_by
lines_exactly [] s given kind going h =
    let x = end_exactly s given kind going h.0 in (
      λ t. (s.reader.place, refl, x.0 (taken_is _ (all_head event_taken _ [] t))),
      λ y. let z : s.reader.place ≡ y.0 = cc y.1 in let a = x.1 (ap (λ (q : Place). q.level) z ∙ y.2) in all_cons event_taken _ [] (rw a) (all_nil event_taken),
    )
lines_exactly (line ∷ lines) s given kind going h = go h.0 (λ g k i. lines_exactly lines (event_on line s).state g k i h.1)
  where
    -- refused, it is not all accepted, and its mark leads nowhere
    stopped : (m : ℕ) → NestingRefused (event_on line s).answer m → (event_on line s).answer ≡ Ok tt → ⊥
    stopped m (misplaced e) a = no cc
    stopped m (outside e) a = no cc

    go : ByNesting (event_on line s).answer
        → (StateGiven (event_on line s).state → KindAgrees (reader_of (event_on line s).state) → is_stopped (event_on line s).state.reader.stop ≡ false
        → Exactly (event_on line s).state (answers_to (event_on line s).state lines) (each_gives line_marks lines))
        → Exactly s ((event_on line s).answer ∷ answers_to (event_on line s).state lines) (line_marks line ++ each_gives line_marks lines)
    go (is_accepted a) f =
        let x = event_accepted line s given a in
        let i = f x.given (rw x.reader (turn_agrees line (reader_of s) kind x.is)) (rw (event_counts line s a).1) in
        let e = line_taken s given kind going line (each_gives line_marks lines) a in (
          λ t. let y = i.0 (all_tail event_taken _ _ t) in (y.0, e ∙ y.1, y.2),
          λ y. all_cons event_taken _ _ (rw a) (i.1 (y.0, sym e ∙ y.1, y.2)),
        )
    go (is_misnested m a) f = (
      λ t. absurd (stopped m a (taken_is _ (all_head event_taken _ _ t))),
      λ y. let z : None ≡ Some y.0 = sym (line_refused s given kind going line (each_gives line_marks lines) m a) ∙ y.1 in no cc,
    )
    -- no event is refused 18
    go (is_unfinished m a) f = by_refused line s R.Unfinished m a (λ u k j w. no cc) (λ u t w. clash t refl)

-- a document of the grammar, in a sound overlay with the bytes that a reader is lent
pub document_lines : (o : Overlay) → InBytes o → is_sound o ≡ true → (parts : Bytes) → all is_byte parts ≡ true → length parts ≡ 44432 → AcceptsDocuments o parts
document_lines o b u parts c room lines h =
    let g : StateGiven (fresh_state o parts) = record { overlay = b; reader = (fresh_ready o u parts c room).given } in
    let x = lines_exactly lines (fresh_state o parts) g (rw (fresh_means o u parts) fresh_agrees) refl h in
    let y = documents (each_gives line_marks lines) in
    (λ t. y.0 (x.0 t), λ d. x.1 (y.1 d))
