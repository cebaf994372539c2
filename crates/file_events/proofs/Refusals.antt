-- In a file of legal markups 25 is given exactly at an attribute twice, and 26 exactly at an end tag whose name is not the open one's.
use Rattle.std.specs.Prelude.{Ok, Err, Result, None, Some}
use Prim.Native.Nat.{ℕ, ◌+◌, ◌<◌, ◌≤◌}
use mathlib.Core.Path.{◌≡◌, refl, sym, ◌∙◌, ap, subst}
use mathlib.Core.Bool.{Bool, true, false, cond, not}
use mathlib.Core.List.{List, [], ◌∷◌, ◌++◌, append-nil}
use mathlib.Core.Logic.{◌↔◌, ◌⊎◌, inl, inr, ⊎_elim}
use native.Mathlib.Omega.{arith}
use lib.Dec.{ltb, eqb}
use lib.ListN.{length, take, drop, length-append}
use borrow.Author.Tests.{le-ltb, ltb-false}
use Rattle.base.specs.Bytes.{Bytes, both, either, all}
use Rattle.base.proofs.Split.{by_bool, both_left, both_right, both_of, clash, no}
use Rattle.refusal.specs.Refusal.{number_of}
use Rattle.refusal.specs.declared.Refusal.{Refusal}
use Rattle.refusal.specs.declared.Refusal.TheVariants as R
use Rattle.reader.specs.declared.RefusedAt.{RefusedAt}
use Rattle.nesting.specs.declared.Place.{Place}
use Rattle.line.specs.Line.{tabbed}
use Rattle.event.specs.Event.{Attr, Event, starts, closes, others, Reading, reads, refused, none_twice, event_of, event_fields, line_of}
use Rattle.event_fields.specs.Field.{got, bad}
use Rattle.event_decision.specs.Decision.{Decision, refuses, moves, begins, deletes, tags, refers, joins, ends, decide, decide_reading}
use Rattle.event_decision.proofs.Refusals as Decided
use Rattle.acts.specs.Turn.{Reader, turn_of, turn}
use Rattle.text.specs.Text.{encoded}
use Rattle.markup.specs.Markup.{attrs_meant, Markup, start_tag, end_tag, comment, instruction, declaration, may_stand, legal_markup, legal_markup_at, written_markup, Meaning}
use Rattle.markup.specs.Markup.{means_event, no_event, meaning_of}
use Rattle.markup.proofs.Lines.{each_once, line_reading, line_judged}
use Rattle.markup_tags.specs.Meanings.{meaning_kept}
use Rattle.markup_steps.specs.Held.{meant_line}
use Rattle.file_lexer.specs.declared.Before.{Before}
use Rattle.file_lexer.specs.declared.Before.TheVariants as B
use Rattle.file_lexer.specs.Lexing.{between, is_first}
use Rattle.overlay.specs.Sound.{is_sound}
use Rattle.reader.specs.State.{State, is_stopped, pending_sound, state_sound, refusal_at, next_line}
use Rattle.reader.specs.Given.{StateGiven}
use Rattle.reader.specs.Step.{stops}
use Rattle.reader.specs.Event.{EventResult, event_on}
use Rattle.reader.specs.Means.{reader_of}
use Rattle.reader.proofs.Answers.{by_answer, by_event, event_counts}
use Rattle.reader.proofs.Events.{event_number, step_number, event_accepted, event_stops, event_decided}
use Rattle.file_reader.specs.File.{FileState, FileResult, with_lines, at_markup, kept_line, open_at, is_open, open_name, close_line, closed_behind, end_tag_ends, skipped}
use Rattle.file_reader.specs.File.{markup_ended, bytes_onward, file_byte, file_bytes}
use Rattle.file_events.specs.Parts.{FilePart, text_between, markup_part, written_part, written_file, before_text, before_behind, legal_at, legal_file}
use Rattle.file_events.specs.Unlined.{unlined, unlined_answer, Outcome, event_outcome, file_outcome, told_refusal, told_answer, told_outcome}
use Rattle.file_events.specs.Passing.{counted_on, text_passed, markup_passed}
use Rattle.file_events.specs.Refusals.{AtPart, MeansTwice, IsTwice, IsUnmatched}
use Rattle.file_events.proofs.Unlined.{sound_so_far, sound_same}
use Rattle.file_events.proofs.Texts.{counted_most, text_told}
use Rattle.file_events.proofs.Markups.{MarkupTold, markup_told}
use Rattle.file_events.proofs.Files.{Stands, start_named, text_stands, skip_stands, event_stands, markup_behind, start_is, event_is, no_other, Unmatched}

-- ---- which refusals an event leaves

-- a reader that is not stopped gives 22 and the refusals of an event alone
never_left : (l : Bytes) (s : State) (r : Refusal) → s.reader.stop ≡ None → event_number (number_of r) ≡ false → (R.Unsound ≡ r → ⊥)
    → unlined_answer (event_on l s).answer ≡ Err r → ⊥
never_left l s r g k other e =
    by_event l s
    (λ u w. let z : Err R.Unsound ≡ Err r = sym (ap (λ (x : EventResult). unlined_answer x.answer) w) ∙ e in other (cc z))
    (λ x n u q t w. let z = sym g ∙ q in no (cc z))
    (λ x u q f w. let z : Err x ≡ Err r = sym (ap (λ (y : EventResult). unlined_answer y.answer) w) ∙ e in
    let y : x ≡ r = cc z in
    clash (ap (λ c. event_number (number_of c)) (sym y) ∙ step_number l s u x f) k)
    (λ x u q f w. let z : ◌≡◌ {A = Result Unit Refusal} (Ok tt) (Err r) = sym (ap (λ (y : EventResult). unlined_answer y.answer) w) ∙ e in no (cc z))

never_25 : (l : Bytes) (s : State) → s.reader.stop ≡ None → unlined_answer (event_on l s).answer ≡ Err R.NotMarkup → ⊥
unfolding either both
never_25 l s g e = never_left l s R.NotMarkup g refl (λ z. no (cc z)) e

never_26 : (l : Bytes) (s : State) → s.reader.stop ≡ None → unlined_answer (event_on l s).answer ≡ Err R.UnmatchedEndTag → ⊥
unfolding either both
never_26 l s g e = never_left l s R.UnmatchedEndTag g refl (λ z. no (cc z)) e

-- 25 is told of 4, if not of itself; 26 is not told of another
told_malformed : (r : Refusal) → told_refusal r ≡ R.NotMarkup → (r ≡ R.NotEventLine) ⊎ (r ≡ R.NotMarkup)
unfolding told_refusal
told_malformed R.NotEventLine e = inl refl
told_malformed R.NotMarkup e = inr refl
told_malformed r e = no (cc e)

told_unmatched : (r : Refusal) → told_refusal r ≡ R.UnmatchedEndTag → r ≡ R.UnmatchedEndTag
unfolding told_refusal
told_unmatched R.UnmatchedEndTag e = refl
told_unmatched r e = no (cc e)

answer_malformed : (a : Result Unit Refusal) → told_answer a ≡ Err R.NotMarkup → (a ≡ Err R.NotEventLine) ⊎ (a ≡ Err R.NotMarkup)
answer_malformed (Ok u) e = no (cc e)
answer_malformed (Err r) e = let z : told_refusal r ≡ R.NotMarkup = cc e in ⊎_elim (λ y. inl (ap (λ c. Err c) y)) (λ y. inr (ap (λ c. Err c) y)) (told_malformed r z)

answer_unmatched : (a : Result Unit Refusal) → told_answer a ≡ Err R.UnmatchedEndTag → a ≡ Err R.UnmatchedEndTag
answer_unmatched (Ok u) e = no (cc e)
answer_unmatched (Err r) e = let z : told_refusal r ≡ R.UnmatchedEndTag = cc e in ap (λ c. Err c) (told_unmatched r z)

-- ---- 4 is given exactly where the line reads so

turn_refuses : (d : Decision) (r : Reader) (x : Refusal) → turn_of d r ≡ bad x → d ≡ refuses x
unfolding turn_of
turn_refuses (refuses y) r x e = let z : y ≡ x = cc e in ap refuses z
turn_refuses (moves p) r x e = no (cc e)
turn_refuses (begins true p id m b) r x e = no (cc e)
turn_refuses (begins false p id m b) r x e = no (cc e)
turn_refuses (deletes k p id m) r x e = no (cc e)
turn_refuses (tags p t) r x e = no (cc e)
turn_refuses (refers p z) r x e = no (cc e)
turn_refuses (joins p m) r x e = no (cc e)
turn_refuses (ends p) r x e = no (cc e)

fourth : (l : Bytes) (p : Place) (r : Refusal) → Decided.RefusedAt l p r → number_of r ≡ 4 → event_of l ≡ refused r
unfolding both either
fourth l p r (Decided.at_line e a b) q = e
fourth l p r (Decided.misplaced o) q = absurd (omega arith)
fourth l p r (Decided.outside o) q = absurd (omega arith)
fourth l p r (Decided.at_field f) q = clash (rw q at f) refl

module _ (l : Bytes) (s : State) (u : state_sound s ≡ true) (g : s.reader.stop ≡ None) where
  not_line_so : unlined_answer (event_on l s).answer ≡ Err R.NotEventLine → event_of l ≡ refused R.NotEventLine
  unfolding both either turn reader_of
  not_line_so e =
      by_answer (event_on l s).answer
      (λ a. let z : ◌≡◌ {A = Result Unit Refusal} (Ok tt) (Err R.NotEventLine) = sym (ap unlined_answer a) ∙ e in no (cc z))
      (λ r n a. let z : Err r ≡ Err R.NotEventLine = sym (ap unlined_answer a) ∙ e in
      let y : r ≡ R.NotEventLine = cc z in
      let i : is_stopped s.reader.stop ≡ false = ap is_stopped g in
      let b : (event_on l s).answer ≡ Err (refusal_at R.NotEventLine n) = a ∙ ap (λ c. Err (refusal_at c n)) y in
      let m : n ≡ next_line s = (event_stops l s u i R.NotEventLine n b).1 in
      let t : turn l (reader_of s) ≡ bad R.NotEventLine = (event_decided l s u i R.NotEventLine refl).0 (b ∙ ap (λ c. Err (refusal_at R.NotEventLine c)) m) in
      fourth l s.reader.place R.NotEventLine (Decided.refused_at l s.reader.place R.NotEventLine (turn_refuses (decide l s.reader.place) (reader_of s) R.NotEventLine t)) refl)

  not_line_given : event_of l ≡ refused R.NotEventLine → unlined_answer (event_on l s).answer ≡ Err R.NotEventLine
  unfolding both either turn turn_of reader_of decide
  not_line_given e =
      let t : turn l (reader_of s) ≡ bad R.NotEventLine = ap (λ x. turn_of x (reader_of s)) (ap (λ x. decide_reading x s.reader.place) e) in
      ap unlined_answer ((event_decided l s u (ap is_stopped g) R.NotEventLine refl).1 t)

-- "4 only for an attribute twice"
twice_read : (m : Markup) (empty : Bool) (n a : Bytes) (attrs : List Attr) → legal_markup m ≡ true → meaning_of m ≡ means_event (starts empty n attrs) a
    → (event_of (line_of (starts empty n attrs)) ≡ refused R.NotEventLine) ↔ ((length (tabbed (event_fields (starts empty n attrs))) ≤ 16384) × (none_twice attrs ≡ false))
twice_read m empty n a attrs l q =
    let e = starts empty n attrs in
    let j : event_of (line_of e) ≡ line_reading e = line_judged m e a l q in (
      λ x. let y : line_reading e ≡ refused R.NotEventLine = sym j ∙ x in
          by_bool (ltb 16384 (length (tabbed (event_fields e))))
          (λ t. let z : refused R.LongLine ≡ refused R.NotEventLine = rw t at y in no (cc z))
          (λ t. by_bool (none_twice attrs)
          (λ o. let z : reads e ≡ refused R.NotEventLine = rw (t, o) at y in no (cc z))
          (λ o. (ltb-false 16384 (length (tabbed (event_fields e))) t, o))),
      λ x. j ∙ rw (le-ltb 16384 (length (tabbed (event_fields e))) x.0, x.1),
    )

-- ---- a file's reader between two parts, sound

pub record StandsSound (before : Before) (f : FileState) : Type 0 where
  pub place : f.place ≡ between before
  pub room : length f.bytes ≡ 32771
  pub goes : f.state.reader.stop ≡ None
  pub given : StateGiven (unlined f.state)
  pub sound : sound_so_far f.state ≡ true

pub alike : (before : Before) (f : FileState) → StandsSound before f → Stands before f f.state
alike before f w = record { place = w.place; room = w.room; same = refl; file_goes = w.goes; goes = w.goes }

pub relined : (s : State) → StateGiven (unlined s) → StateGiven s
relined s v = record { overlay = v.overlay; reader = record { head = v.reader.head; meta = v.reader.meta; bytes = v.reader.bytes; room = v.reader.room } }

unlined_given : (s : State) → StateGiven s → StateGiven (unlined s)
unlined_given s v = record { overlay = v.overlay; reader = record { head = v.reader.head; meta = v.reader.meta; bytes = v.reader.bytes; room = v.reader.room } }

text_sound : (t : Bytes) (before : Before) (f : FileState) → StandsSound before f → StandsSound (before_text before t) (text_passed before t f)
text_sound t before f w = record { place = refl; room = w.room; goes = w.goes; given = w.given; sound = w.sound }

-- an accepted event keeps it so
event_keeps : (l : Bytes) (s : State) (g : FileState) → StateGiven s → (event_on l s).answer ≡ Ok tt → Stands B.Text g (event_on l s).state → StandsSound B.Text g
event_keeps l s g v a w =
    let x = event_accepted l s v a in
    let t = (event_on l s).state in
    let k : sound_so_far t ≡ true = both_of x.sound (both_of x.pending refl) in
    record { place = w.place; room = w.room; goes = w.file_goes; given = subst StateGiven (sym w.same) (unlined_given t x.given); sound = ap sound_so_far w.same ∙ k }

line_told : told_answer (Err R.NotEventLine) ≡ Err R.NotMarkup
unfolding told_refusal
line_told = refl

pub told_ok : (a : Result Unit RefusedAt) → told_answer (unlined_answer a) ≡ Ok tt → a ≡ Ok tt
told_ok (Ok u) e = refl
told_ok (Err a) e = no (cc e)

pub by_part : {C : Type 0} (a : Result Unit RefusedAt) → (a ≡ Ok tt → C) → ((x : RefusedAt) → a ≡ Err x → C) → C
by_part (Ok u) f g = f refl
by_part (Err x) f g = g x refl

-- ---- an end tag

closed_answer : (g : FileState) (e : EventResult) (a : Result Unit RefusedAt) → (closed_behind g e a).answer ≡ e.answer
closed_answer g e (Ok u) = refl
closed_answer g e (Err a) = refl

end_closes : (g : FileState) → is_open (kept_line g) (open_name g) ≡ true → (end_tag_ends g).answer ≡ (event_on close_line (at_markup g)).answer
unfolding end_tag_ends
end_closes g t = rw t (closed_answer g (event_on close_line (at_markup g)) (event_on close_line (at_markup g)).answer)

end_refused : (g : FileState) → is_open (kept_line g) (open_name g) ≡ false → state_sound (at_markup g) ≡ true → Unmatched (end_tag_ends g)
unfolding end_tag_ends
end_refused g t u = rw (t, u) refl

-- ---- a markup by itself

none_behind : (f : FileState) (a : Result Unit RefusedAt) → bytes_onward (file_bytes []) a f ≡ record { file = f; answer = a }
unfolding file_bytes
none_behind f (Ok u) = refl
none_behind f (Err a) = refl

module _ (m : Markup) (before : Before) (f : FileState) (w : StandsSound before f) (l : legal_markup_at (is_first before) m
    ≡ true) (h : f.state.reader.lines < 18446744073709551615) where
  abbrev k : MarkupTold m [] f
  k = markup_told m [] before f w.place w.room l

  abbrev r : FileResult
  r = markup_ended (meaning_kept (meaning_of m)) (markup_passed m k.bytes k.used f)

  pub alone_is : file_bytes (encoded (written_markup m)) f ≡ r
  alone_is = ap (λ t. file_bytes t f) (sym (append-nil (encoded (written_markup m)))) ∙ (k.told ∙ none_behind r.file r.answer)

  sound_here : state_sound f.state ≡ true
  sound_here = sound_same f.state f.state.reader.lines h ∙ w.sound

  pub start_alone : (empty : Bool) (n a : Bytes) (attrs : List Attr) → meaning_of m ≡ means_event (starts empty n attrs) a
      → file_outcome r ≡ told_outcome (event_outcome (event_on (line_of (starts empty n attrs)) f.state))
  unfolding markup_ended
  start_alone empty n a attrs q =
      let z : meaning_of m ≡ means_event (starts empty n attrs) n = q ∙ ap (means_event (starts empty n attrs)) (sym (start_named m empty n a attrs q)) in
      ap (λ x. file_outcome (markup_ended (meaning_kept x) (markup_passed m k.bytes k.used f))) q ∙ start_is m [] before f f.state (alike before f w) k h h empty n attrs z

  start_answer : (empty : Bool) (n a : Bytes) (attrs : List Attr) → meaning_of m ≡ means_event (starts empty n attrs) a
      → unlined_answer r.answer ≡ told_answer (unlined_answer (event_on (line_of (starts empty n attrs)) f.state).answer)
  start_answer empty n a attrs q = ap (λ (x : Outcome). x.answer) (start_alone empty n a attrs q)

  -- an end tag is 26 exactly where its name is not the open one's
  end_unmatched : (n : Bytes) → meaning_of m ≡ means_event closes n → Unmatched r ↔ (is_open (take 16380 n) (open_name f) ≡ false)
  unfolding markup_ended open_name
  end_unmatched n q =
      let g = markup_passed m k.bytes k.used f in
      let e : r ≡ end_tag_ends g = ap (λ x. markup_ended (meaning_kept x) g) q in
      let line : kept_line g ≡ take 16380 n = k.line ∙ ap (λ x. take 16380 (meant_line x)) q in
      let name : open_name g ≡ open_name f = ap (λ x. open_at f.state.reader.place.level f.state.reader.place (take f.named x)) k.name in
      let opened : is_open (kept_line g) (open_name g) ≡ is_open (take 16380 n) (open_name f) = λ i. is_open (line i) (name i) in (
        λ u. by_bool (is_open (kept_line g) (open_name g))
            (λ t. absurd (never_26 close_line (at_markup g) w.goes (ap unlined_answer (sym (end_closes g t)) ∙ (ap (λ (x : FileResult). unlined_answer x.answer) (sym e) ∙ u))))
            (λ t. sym opened ∙ t),
        λ t. ap (λ (x : FileResult). unlined_answer x.answer) e ∙ end_refused g (opened ∙ t) sound_here,
      )

  malformed_by : (x : Meaning) → meaning_of m ≡ x → (unlined_answer r.answer ≡ Err R.NotMarkup) ↔ MeansTwice x
  unfolding markup_ended
  malformed_by (means_event (starts empty n attrs) a) q =
      let t = twice_read m empty n a attrs (both_right (may_stand (is_first before) m) _ l) q in
      let s = line_of (starts empty n attrs) in
      let c = start_answer empty n a attrs q in (
        λ e. ⊎_elim (λ y. t.0 (not_line_so s f.state sound_here w.goes y)) (λ y. absurd (never_25 s f.state w.goes y))
            (answer_malformed (unlined_answer (event_on s f.state).answer) (sym c ∙ e)),
        λ y. c ∙ (ap told_answer (not_line_given s f.state sound_here w.goes (t.1 y)) ∙ line_told),
      )
  malformed_by (means_event closes a) q =
      let g = markup_passed m k.bytes k.used f in
      let e : r ≡ end_tag_ends g = ap (λ x. markup_ended (meaning_kept x) g) q in (
        λ u. by_bool (is_open (kept_line g) (open_name g))
            (λ t. never_25 close_line (at_markup g) w.goes (ap unlined_answer (sym (end_closes g t)) ∙ (ap (λ (x : FileResult). unlined_answer x.answer) (sym e) ∙ u)))
            (λ t. let z : ◌≡◌ {A = Result Unit Refusal} (Err R.UnmatchedEndTag) (Err R.NotMarkup) = sym (end_refused g t sound_here)
            ∙ (ap (λ (x : FileResult). unlined_answer x.answer) (sym e) ∙ u) in no (cc z)),
        λ x. absurd x,
      )
  malformed_by (means_event others a) q = absurd (no_other m a q)
  malformed_by no_event q = (
    λ u. let z : ◌≡◌ {A = Result Unit Refusal} (Ok tt) (Err R.NotMarkup) = ap (λ x. unlined_answer (markup_ended (meaning_kept x) (markup_passed m k.bytes k.used f)).answer)
        (sym q) ∙ u in no (cc z),
    λ x. absurd x,
  )

  skipped_never : (x : Refusal) → meaning_of m ≡ no_event → unlined_answer r.answer ≡ Err x → ⊥
  unfolding markup_ended
  skipped_never x q u =
      let z : ◌≡◌ {A = Result Unit Refusal} (Ok tt) (Err x) = ap (λ y. unlined_answer (markup_ended (meaning_kept y) (markup_passed m k.bytes k.used f)).answer) (sym q) ∙ u in
      no (cc z)

  start_never : (empty : Bool) (n a : Bytes) (attrs : List Attr) → meaning_of m ≡ means_event (starts empty n attrs) a → Unmatched r → ⊥
  start_never empty n a attrs q u =
      never_26 (line_of (starts empty n attrs)) f.state w.goes
      (answer_unmatched (unlined_answer (event_on (line_of (starts empty n attrs)) f.state).answer) (sym (start_answer empty n a attrs q) ∙ u))

  -- behind it, where it is accepted
  markup_keeps : (x : Meaning) → meaning_of m ≡ x → r.answer ≡ Ok tt → StandsSound B.Text r.file
  unfolding markup_ended written_file
  markup_keeps (means_event e a) q o =
      let g = markup_passed m k.bytes k.used f in
      let i = event_is m [] before f f.state (alike before f w) k e a q h h
      (λ u. let z : ◌≡◌ {A = Result Unit Refusal} (Ok tt) (Err R.UnmatchedEndTag) = sym (ap unlined_answer o) ∙ u in no (cc z)) in
      let c : (event_on (line_of e) f.state).answer ≡ Ok tt = told_ok (event_on (line_of e) f.state).answer (sym (ap (λ (x : Outcome). x.answer) i) ∙ ap unlined_answer o) in
      event_keeps (line_of e) f.state r.file (relined f.state w.given) c (event_stands (line_of e) (meaning_kept (meaning_of m)) g f.state k.room i c)
  markup_keeps no_event q o =
      let g = markup_passed m k.bytes k.used f in
      let e : r ≡ skipped g = ap (λ x. markup_ended (meaning_kept x) g) q in
      subst (λ (x : FileResult). StandsSound B.Text x.file) (sym e) (record { place = refl; room = k.room; goes = w.goes; given = w.given; sound = w.sound })

-- ---- a part by itself

pub text_alone : (t : Bytes) (before : Before) (f : FileState) → f.place ≡ between before → all (λ b. not (eqb b 60)) t ≡ true
    → file_bytes t f ≡ record { file = text_passed before t f; answer = Ok tt }
unfolding file_bytes
text_alone t before f p l = ap (λ x. file_bytes x f) (sym (append-nil t)) ∙ text_told t [] before f p l

abbrev limit : ℕ
limit = 18446744073709551615

text_never : (t : Bytes) (before : Before) (f : FileState) (x : Refusal) → f.place ≡ between before → all (λ b. not (eqb b 60)) t ≡ true
    → unlined_answer (file_bytes t f).answer ≡ Err x → ⊥
text_never t before f x p l e =
    let z : ◌≡◌ {A = Result Unit Refusal} (Ok tt) (Err x) = ap (λ (y : FileResult). unlined_answer y.answer) (sym (text_alone t before f p l)) ∙ e in
    no (cc z)

part_malformed : (p : FilePart) (before : Before) (f : FileState) → StandsSound before f → legal_at before p ≡ true → f.state.reader.lines < limit
    → (unlined_answer (file_bytes (written_part p) f).answer ≡ Err R.NotMarkup) ↔ IsTwice p f
unfolding legal_at
part_malformed (text_between t) before f w l h = (text_never t before f R.NotMarkup w.place l, λ x. absurd x)
part_malformed (markup_part m) before f w l h =
    let e = ap (λ (x : FileResult). unlined_answer x.answer) (alone_is m before f w l h) in
    let i = malformed_by m before f w l h (meaning_of m) refl in
    (λ u. i.0 (sym e ∙ u), λ x. e ∙ i.1 x)

part_unmatched : (p : FilePart) (before : Before) (f : FileState) → StandsSound before f → legal_at before p ≡ true → f.state.reader.lines < limit
    → (unlined_answer (file_bytes (written_part p) f).answer ≡ Err R.UnmatchedEndTag) ↔ IsUnmatched p f
unfolding legal_at meaning_of
part_unmatched (text_between t) before f w l h = (text_never t before f R.UnmatchedEndTag w.place l, λ x. absurd x)
part_unmatched (markup_part (start_tag empty n xs gap)) before f w l h =
    let m = start_tag empty n xs gap in
    let e = ap (λ (x : FileResult). unlined_answer x.answer) (alone_is m before f w l h) in
    (λ u. start_never m before f w l h empty (encoded n) (encoded n) (attrs_meant xs) refl (sym e ∙ u), λ x. absurd x)
part_unmatched (markup_part (end_tag n gap)) before f w l h =
    let m = end_tag n gap in
    let e = ap (λ (x : FileResult). unlined_answer x.answer) (alone_is m before f w l h) in
    let i = end_unmatched m before f w l h (encoded n) refl in
    (λ u. i.0 (sym e ∙ u), λ x. e ∙ i.1 x)
part_unmatched (markup_part (comment ps)) before f w l h = (
  λ u. skipped_never (comment ps) before f w l h R.UnmatchedEndTag refl (ap (λ (x : FileResult). unlined_answer x.answer) (sym (alone_is (comment ps) before f w l h))
      ∙ u),
  λ x. absurd x,
)
part_unmatched (markup_part (instruction t gap cs)) before f w l h =
    let m = instruction t gap cs in
    (λ u. skipped_never m before f w l h R.UnmatchedEndTag refl (ap (λ (x : FileResult). unlined_answer x.answer) (sym (alone_is m before f w l h)) ∙ u), λ x. absurd x)
part_unmatched (markup_part (declaration d)) before f w l h = (
  λ u. skipped_never (declaration d) before f w l h R.UnmatchedEndTag refl (ap (λ (x : FileResult). unlined_answer x.answer) (sym (alone_is (declaration d) before f w l h))
      ∙ u),
  λ x. absurd x,
)

pub part_keeps : (p : FilePart) (before : Before) (f : FileState) → StandsSound before f → legal_at before p ≡ true → f.state.reader.lines < limit
    → (file_bytes (written_part p) f).answer ≡ Ok tt
    → StandsSound (before_behind before p) (file_bytes (written_part p) f).file ×
    ((file_bytes (written_part p) f).file.state.reader.lines ≤ f.state.reader.lines + length (written_part p))
unfolding legal_at before_behind
part_keeps (text_between t) before f w l h o =
    let e = text_alone t before f w.place l in (
      subst (λ (x : FileResult). StandsSound (before_text before t) x.file) (sym e) (text_sound t before f w),
      subst (λ (x : FileResult). x.file.state.reader.lines ≤ f.state.reader.lines + length t) (sym e) (counted_most t f.state.reader.lines),
    )
part_keeps (markup_part m) before f w l h o =
    let e = alone_is m before f w l h in
    let k = markup_told m [] before f w.place w.room l in
    let b = (markup_behind (meaning_kept (meaning_of m)) (markup_passed m k.bytes k.used f)).lines in
    let n = counted_most (encoded (written_markup m)) f.state.reader.lines in (
      subst (λ (x : FileResult). StandsSound B.Text x.file) (sym e) (markup_keeps m before f w l h (meaning_of m) refl (ap (λ (x : FileResult). x.answer) (sym e) ∙ o)),
      subst (λ (x : FileResult). x.file.state.reader.lines ≤ f.state.reader.lines + length (encoded (written_markup m))) (sym e) (omega (arith, b, n)),
    )

-- ---- a file

pub bytes_pieces : (s t : Bytes) (f : FileState) → file_bytes (s ++ t) f ≡ bytes_onward (file_bytes t) (file_bytes s f).answer (file_bytes s f).file
unfolding file_bytes
bytes_pieces [] t f = refl
bytes_pieces (b ∷ s) t f = go (λ g. bytes_pieces s t g) (file_byte b f).answer (file_byte b f).file
  where
    go : ((g : FileState) → file_bytes (s ++ t) g ≡ bytes_onward (file_bytes t) (file_bytes s g).answer (file_bytes s g).file) → (a : Result Unit RefusedAt) (g : FileState)
        → bytes_onward (file_bytes (s ++ t)) a g ≡ bytes_onward (file_bytes t) (bytes_onward (file_bytes s) a g).answer (bytes_onward (file_bytes s) a g).file
    go ih (Ok u) g = ih g
    go ih (Err a) g = refl

onward_refused : (next : FileState → FileResult) (f : FileState) (a : Result Unit RefusedAt) (r : Refusal) → unlined_answer a ≡ Err r
    → unlined_answer (bytes_onward next a f).answer ≡ Err r
onward_refused next f (Ok u) r e = no (cc e)
onward_refused next f (Err a) r e = e

module _ (r : Refusal) (Is : FilePart → FileState → Type 0)
    (each : (p : FilePart) (before : Before) (f : FileState) → StandsSound before f → legal_at before p ≡ true → f.state.reader.lines < limit →
    (unlined_answer (file_bytes (written_part p) f).answer ≡ Err r) ↔ Is p f) where
  given_exactly : (ps : List FilePart) (before : Before) (f : FileState) → legal_file before ps ≡ true → StandsSound before f
      → f.state.reader.lines + length (written_file ps) < limit
      → (unlined_answer (file_bytes (written_file ps) f).answer ≡ Err r) ↔ AtPart Is ps f
  unfolding legal_file written_file file_bytes
  given_exactly [] before f l w h = (λ e. no (cc e), λ x. absurd x)
  given_exactly (p ∷ ps) before f l w h =
      let lp = both_left (legal_at before p) (legal_file (before_behind before p) ps) l in
      let n = length-append (written_part p) (written_file ps) in
      let x = each p before f w lp (omega arith) in
      let whole = bytes_pieces (written_part p) (written_file ps) f in
      let onward : (file_bytes (written_part p) f).answer ≡ Ok tt → file_bytes (written_part p ++ written_file ps) f ≡ file_bytes (written_file ps)
      (file_bytes (written_part p) f).file =
      λ o. whole ∙ ap (λ a. bytes_onward (file_bytes (written_file ps)) a (file_bytes (written_part p) f).file) o in
      let ih : (file_bytes (written_part p) f).answer ≡ Ok tt
      → (unlined_answer (file_bytes (written_file ps) (file_bytes (written_part p) f).file).answer ≡ Err r) ↔ AtPart Is ps (file_bytes (written_part p) f).file =
      λ o. let v = part_keeps p before f w lp (omega arith) o in
      given_exactly ps (before_behind before p) (file_bytes (written_part p) f).file (both_right (legal_at before p) _ l) v.0 (omega (arith, v.1)) in (
        λ e. by_part (file_bytes (written_part p) f).answer
            (λ o. inr (o, (ih o).0 (ap (λ (y : FileResult). unlined_answer y.answer) (sym (onward o)) ∙ e)))
            (λ a o. inl (x.0 (ap unlined_answer o ∙ (ap (λ b. unlined_answer (bytes_onward (file_bytes (written_file ps)) b (file_bytes (written_part p) f).file).answer) (sym o)
            ∙ (ap (λ (y : FileResult). unlined_answer y.answer) (sym whole) ∙ e))))),
        λ i. ⊎_elim
            (λ y. ap (λ (z : FileResult). unlined_answer z.answer) whole
            ∙ onward_refused (file_bytes (written_file ps)) (file_bytes (written_part p) f).file (file_bytes (written_part p) f).answer r (x.1 y))
            (λ y. ap (λ (z : FileResult). unlined_answer z.answer) (onward y.0) ∙ (ih y.0).1 y.1) i,
      )

module _ (ps : List FilePart) (before : Before) (f : FileState) (l : legal_file before ps
    ≡ true) (w : StandsSound before f) (h : f.state.reader.lines + length (written_file ps) < 18446744073709551615) where
  -- 25 exactly at an attribute twice
  pub malformed_in_file : (unlined_answer (file_bytes (written_file ps) f).answer ≡ Err R.NotMarkup) ↔ AtPart IsTwice ps f
  malformed_in_file = given_exactly R.NotMarkup IsTwice part_malformed ps before f l w h

  -- 26 exactly at an end tag whose name is not the open one's
  pub unmatched_in_file : (unlined_answer (file_bytes (written_file ps) f).answer ≡ Err R.UnmatchedEndTag) ↔ AtPart IsUnmatched ps f
  unmatched_in_file = given_exactly R.UnmatchedEndTag IsUnmatched part_unmatched ps before f l w h
