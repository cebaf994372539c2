-- The acts of a document are what the document changes: of each object in `create` and `modify` a push of its kind, in `delete` a deletion of its kind.
use Rattle.std.specs.Prelude.{None, Option, Some}
use mathlib.Core.Path.{◌≡◌, refl, sym, ◌∙◌, ap}
use mathlib.Core.Bool.{Bool, true, false}
use mathlib.Core.List.{List, [], ◌∷◌, ◌++◌, append-nil, map}
use Rattle.base.specs.Bytes.{Bytes}
use Rattle.kind.specs.declared.Kind.{Kind}
use Rattle.nesting.specs.Name.{name_of}
use Rattle.nesting.specs.Nesting.{start, opened}
use Rattle.nesting.specs.Marks.{Mark, place_taken, mark_step, Change, pushes, deletes, made_at_opening, made_at_end, opened_makes, closed_makes, makes, changes_from}
use Rattle.nesting.specs.Grammar.{Document, each_gives, events, changes}
use Rattle.nesting.proofs.Reading.{Leads, stays, goes, joins, making}
use Rattle.nesting.proofs.Documents.{documents, document_changes}
use Rattle.nesting.specs.declared.Name.{Name}
use Rattle.nesting.specs.declared.Action.{Action}
use Rattle.nesting.specs.declared.Action.TheVariants as A
use Rattle.nesting.specs.declared.Level.{Level}
use Rattle.nesting.specs.declared.Level.TheVariants as L
use Rattle.nesting.specs.declared.Place.{Place}
use Rattle.nesting.specs.Opened.{Opened}
use lib.IntN.{ℤ}
use Rattle.model.specs.Record.{Meta, Body, kind_of}
use Rattle.model.specs.Act.{Act, push, delete}
use Rattle.event.specs.Event.{Attr, Reading, event_of}
use Rattle.event_fields.specs.Field.{Field, got, bad}
use Rattle.event_decision.specs.Decision.{Decision, begins, decide}
use Rattle.event_decision.proofs.Lawful.{body_first}
use Rattle.event_decision.proofs.Decided.{Starts, Decides, decided}
use Rattle.event_decision.proofs.Decided as D
use Rattle.acts.specs.Turn.{Reader, fresh, Turn, turn_of, turn}
use Rattle.acts.specs.Call.{acts_before}
use Rattle.acts.specs.Lines.{mark_of, marks_in, line_marks}
use Rattle.acts.proofs.Turns.{OfTurn, of_turn, KindAgrees, fresh_agrees, turn_agrees}

-- what an act does
abbrev pub change_of : Act Bytes → Change
change_of (push id r) = pushes (kind_of r.body)
change_of (delete k id claim) = deletes k

abbrev pub changes_by : Option (Act Bytes) → List Change
changes_by None = []
changes_by (Some a) = change_of a ∷ []

-- ---- one line

mark_step_lem : (e : Bool) (n : Name) (p : Place) → mark_step p (mark_of e n) ≡ place_taken (opened e n p)
unfolding mark_step
mark_step_lem true n p = refl
mark_step_lem false n p = refl

mark_makes : (e : Bool) (n : Name) (p : Place) → makes p (mark_of e n) ≡ opened_makes e p.section (opened e n p)
unfolding makes
mark_makes true n p = refl
mark_makes false n p = refl

-- one mark, by where it leads and what it makes
one_mark : {p q : Place} {m : Mark} {cs : List Change} → mark_step p m ≡ Some q → makes p m ≡ cs → Leads p (m ∷ []) cs q
one_mark {q = q} e h = making (goes e (stays q)) (append-nil _ ∙ h)

-- a line leads where its mark does, and its act is what the mark makes
module _ (r : Reader) where
  abbrev Led : List Mark → Field Turn → Type 0
  Led ms = OfTurn (λ t. Leads r.place ms (changes_by t.act) t.reader.place)

  -- what an element makes at its opening, and at its end, in a `create` or `modify` section
  begun_makes : (e : Bool) (k : Kind) (q : Place) (id : ℤ) (m : Meta Bytes) (b : Body Bytes) (a : Action) → (a ≡ A.Delete → ⊥) → kind_of b ≡ k
      → OfTurn (λ t. (Some q ≡ Some t.reader.place) × (made_at_opening e a k ≡ changes_by t.act)) (turn_of (begins e q id m b) r)
  unfolding turn_of made_at_opening
  begun_makes true k q id m b A.Create s h = (refl, rw h)
  begun_makes true k q id m b A.Modify s h = (refl, rw h)
  begun_makes false k q id m b A.Create s h = (refl, refl)
  begun_makes false k q id m b A.Modify s h = (refl, refl)
  begun_makes e k q id m b A.Delete s h = absurd (s refl)

  ended_makes : (a : Action) {k l : Kind} → (a ≡ A.Delete → ⊥) → l ≡ k → made_at_end a k ≡ pushes l ∷ []
  unfolding made_at_end
  ended_makes A.Create s h = rw h
  ended_makes A.Modify s h = rw h
  ended_makes A.Delete s h = absurd (s refl)

  closed_makes_lem : (l : Level) (a : Action) (k : Kind) → (l ≡ L.Element → a ≡ A.Delete) → closed_makes l a k ≡ []
  unfolding closed_makes made_at_end
  closed_makes_lem L.Element a k h = rw (h refl)
  closed_makes_lem L.Doc a k h = refl
  closed_makes_lem L.Root a k h = refl
  closed_makes_lem L.Section a k h = refl
  closed_makes_lem L.Leaf a k h = refl
  closed_makes_lem L.Other a k h = refl
  closed_makes_lem L.Done a k h = refl

  -- where an open or an empty element leads, and what it makes
  start_makes : (e : Bool) (attrs : List Attr) {o : Opened} {d : Decision} → Starts r.place e attrs o d
      → OfTurn (λ t. (place_taken o ≡ Some t.reader.place) × (opened_makes e r.place.section o ≡ changes_by t.act)) (turn_of d r)
  unfolding turn_of place_taken opened_makes made_at_opening
  start_makes e attrs (D.refuse x) = tt
  start_makes e attrs D.goes = (refl, refl)
  start_makes e attrs (D.begin {k = k} {q = q} {id = id} {m = m} {b = b} s i j x) = begun_makes e k q id m b r.place.section s (body_first attrs k x).1
  start_makes e attrs (D.delete s i j) = (refl, rw s)
  start_makes e attrs (D.tag s f) = (refl, refl)
  start_makes e attrs (D.ref s f) = (refl, refl)
  start_makes e attrs (D.member s f) = (refl, refl)
  start_makes e attrs (D.drop s c) = (refl, refl)

  led_by : {ms : List Mark} (f : Field Turn) (P : Turn → Type 0) → OfTurn P f → ((t : Turn) → P t → Leads r.place ms (changes_by t.act) t.reader.place) → Led ms f
  led_by (got t) P h g = g t h
  led_by (bad x) P h g = tt

  line_leads : {x : Reading} {d : Decision} → KindAgrees r → Decides r.place x d → Led (marks_in x) (turn_of d r)
  unfolding turn_of mark_step makes closed_makes
  line_leads h D.bad_line = tt
  line_leads h (D.start {e = e} {n = n} {attrs = attrs} {d = d} s) =
      led_by (turn_of d r) _ (start_makes e attrs s) (λ t g. one_mark (mark_step_lem e (name_of n) r.place ∙ g.0) (mark_makes e (name_of n) r.place ∙ g.1))
  line_leads h (D.end l s) = one_mark refl (rw l (ended_makes r.place.section s h))
  line_leads h (D.close c) = one_mark refl (closed_makes_lem r.place.level r.place.section r.place.kind c)
  line_leads h D.other = stays r.place

-- ---- a list of lines

-- a reader takes all of them, and makes acts
pub data Takes : Reader → List Bytes → List (Act Bytes) → Reader → Type 0 where
  done : {r : Reader} → Takes r [] [] r
  more : {r q : Reader} {line : Bytes} {lines : List Bytes} {acts : List (Act Bytes)} (t : Turn) → turn line r ≡ got t → Takes t.reader lines acts q
      → Takes r (line ∷ lines) (acts_before t.act acts) q

changes_before : (o : Option (Act Bytes)) (acts : List (Act Bytes)) → map change_of (acts_before o acts) ≡ changes_by o ++ map change_of acts
changes_before None acts = refl
changes_before (Some a) acts = refl

pub lines_lead : {r q : Reader} {lines : List Bytes} {acts : List (Act Bytes)} → KindAgrees r → Takes r lines acts q → Leads r.place (each_gives line_marks lines) (map change_of acts) q.place
unfolding each_gives turn decide
lines_lead {r} h done = stays r.place
lines_lead {r} {lines = line ∷ lines} h (more {acts = acts} t e k) =
    let l : Leads r.place (line_marks line) (changes_by t.act) t.reader.place = of_turn _ (line_leads r h (decided r.place (event_of line))) e in
    making (joins l (lines_lead (turn_agrees line r h e) k)) (sym (changes_before t.act acts))

-- a fresh reader that takes the lines of a document makes the acts that the document says, of the kinds that it says, in its order
pub document_acts : (d : Document) {lines : List Bytes} {acts : List (Act Bytes)} {q : Reader} → each_gives line_marks lines ≡ events d → Takes fresh lines acts q → map change_of acts ≡ changes d
document_acts d e k = sym (lines_lead fresh_agrees k).does ∙ (ap (changes_from start) e ∙ document_changes d)

-- and whatever a fresh reader takes up to an accepted end is the lines of a document
pub taken_document : {lines : List Bytes} {acts : List (Act Bytes)} {q : Reader} → Takes fresh lines acts q → q.place.level ≡ L.Done
    → (d : Document) × ((events d ≡ each_gives line_marks lines) × (map change_of acts ≡ changes d))
taken_document {lines} {q = q} k l =
    let x = (documents (each_gives line_marks lines)).0 (q.place, (lines_lead fresh_agrees k).runs, l) in
    (x.0, (x.1, document_acts x.0 (sym x.1) k))
