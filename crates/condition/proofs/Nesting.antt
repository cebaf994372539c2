-- T16 over lists of calls: what a reader's events and its end answer, as far as nesting goes, by the documents of the grammar.
use Rattle.std.specs.Prelude.{None, Option, Some, Err}
use Rattle.base.specs.Options.{bind}
use Prim.Native.Nat.{ℕ, ◌<◌, ◌≤◌}
use mathlib.Core.Path.{◌≡◌, refl, sym, ◌∙◌, ap}
use mathlib.Core.Bool.{Bool, true, false, cond}
use mathlib.Core.Logic.{◌↔◌}
use mathlib.Core.List.{List, [], ◌∷◌, ◌++◌}
use native.Mathlib.Omega.{arith}
use lib.IntN.{ℤ}
use lib.ListN.{length}
use mir.Syntax.{w64}
use mir.Val.{to_z}
use borrow.Author.Tests.{eq-eqb, ne_eqb}
use Rattle.base.specs.Bytes.{Bytes, both, either, all}
use Rattle.base.proofs.Split.{by_eq, no, clash}
use Rattle.base.proofs.Lists.{all_head, all_tail}
use Rattle.kind.specs.declared.Kind.{Kind}
use Rattle.refusal.specs.Refusal.{number_of}
use Rattle.refusal.specs.declared.Refusal.{Refusal}
use Rattle.refusal.specs.declared.Refusal.TheVariants as R
use Rattle.nesting.specs.Name.{name_of}
use Rattle.nesting.specs.Nesting.{start, opened, opened_at, in_doc, closed, closed_to}
use Rattle.nesting.specs.Marks.{Mark, empties, closes, place_taken, mark_step, run}
use Rattle.nesting.specs.declared.Name.{Name}
use Rattle.nesting.specs.declared.Name.TheVariants as N
use Rattle.nesting.specs.declared.Action.{Action}
use Rattle.nesting.specs.declared.Level.{Level}
use Rattle.nesting.specs.declared.Level.TheVariants as L
use Rattle.nesting.specs.declared.Place.{Place}
use Rattle.nesting.specs.Opened.{Opened}
use Rattle.nesting.specs.Opened as O
use Rattle.nesting.proofs.Documents.{documents}
use Rattle.model.specs.Record.{Record}
use Rattle.model.specs.Act.{Act}
use Rattle.compact.specs.Cut.{pushed_record}
use Rattle.compact.specs.Held.{meta_of, head_in}
use Rattle.event.specs.Event as Event
use Rattle.event.specs.Event.{Attr, Reading, reads, refused, event_of}
use Rattle.event_fields.specs.Field.{got, bad}
use Rattle.event_decision.specs.Decision.{Decision, refuses, moves, begins, deletes, tags, refers, joins, ends, decide}
use Rattle.event_decision.proofs.Refusals.{decision_number, Opens, misplaced_exactly, outside_exactly}
use Rattle.acts.specs.Turn.{Reader, turn, turn_of}
use Rattle.acts.specs.Lines.{mark_of, marks_in, line_marks}
use Rattle.acts.specs.Call.{Call, World, begin, outcome, acts_before, world_after, acts_from, acts_of, line_read, lines_read}
use Rattle.acts.proofs.Calls.{world_append, own_reader, other_reader}
use Rattle.acts.proofs.Turns.{fresh_agrees}
use Rattle.acts.proofs.Changes.{Takes, done, more, lines_lead}
use Rattle.overlay.specs.Overlay.{Overlay}
use Rattle.reader.specs.State.{State, next_line, is_stopped, state_sound, refusal_at}
use Rattle.reader.specs.Means.{reader_of}
use Rattle.reader.specs.Event.{event_on}
use Rattle.reader.proofs.Answers.{by_answer, end_done, end_18}
use Rattle.reader.proofs.Events.{event_accepted, event_decided}
use Rattle.reader.proofs.Keeps.{ready_sound}
use Rattle.calls.specs.Ask.{Ask, interns, pushes, reads, call_of, Storage, started, state_of, leaves, accepts, answered, ask_fits, refused_throughout, storage_after, replies, stopped_in}
use Rattle.calls.proofs.Lists.{Agrees, agrees_fine, answer_of, agrees_call}
use Rattle.calls.proofs.Theorems.{agrees_started, agrees_after, lines_after, stopped_after}
use Rattle.condition.specs.Condition3.{Start}
use Rattle.condition.specs.Nesting.{IsDocument, BeginsDocument, NestingRefused, misplaced, outside, reader_state, marks_read, NestsAsDocument}

-- ---- marks: the levels take a list of them exactly when a document begins with it

-- what is refused stays refused
pub run_stops : (p : Place) (xs ys : List Mark) → run p xs ≡ None → run p (xs ++ ys) ≡ None
unfolding run bind
run_stops p [] ys h = no cc
run_stops p (m ∷ xs) ys h = go (mark_step p m) (λ q. run_stops q xs ys) h
  where
    go : (o : Option Place) → ((q : Place) → run q xs ≡ None → run q (xs ++ ys) ≡ None) → bind o (λ q. run q xs) ≡ None → bind o (λ q. run q (xs ++ ys)) ≡ None
    go None f e = refl
    go (Some q) f e = f q e

-- what is taken goes on from where it led
pub run_after : (p q : Place) (xs ys : List Mark) → run p xs ≡ Some q → run p (xs ++ ys) ≡ run q ys
unfolding run bind
run_after p q [] ys e = let z : p ≡ q = cc in rw z
run_after p q (m ∷ xs) ys e = go (mark_step p m) (λ r. run_after r q xs ys) e
  where
    go : (o : Option Place) → ((r : Place) → run r xs ≡ Some q → run r (xs ++ ys) ≡ run q ys) → bind o (λ r. run r xs) ≡ Some q → bind o (λ r. run r (xs ++ ys)) ≡ run q ys
    go None g h = no cc
    go (Some r) g h = g r h

-- from each place some marks lead to the end
pub record Ends (p : Place) : Type 0 where
  pub rest : List Mark
  pub place : Place
  pub runs : run p rest ≡ Some place
  pub level : place.level ≡ L.Done

ends_from : (l : Level) (a : Action) (k : Kind) → Ends (record { level = l; section = a; kind = k })
unfolding run bind mark_step closed closed_to place_taken opened opened_at in_doc
ends_from L.Doc a k = record { rest = empties N.OsmChange ∷ []; place = record { level = L.Done; section = a; kind = k }; runs = refl; level = refl }
ends_from L.Root a k = record { rest = closes ∷ []; place = record { level = L.Done; section = a; kind = k }; runs = refl; level = refl }
ends_from L.Section a k = record { rest = closes ∷ closes ∷ []; place = record { level = L.Done; section = a; kind = k }; runs = refl; level = refl }
ends_from L.Element a k = record { rest = closes ∷ closes ∷ closes ∷ []; place = record { level = L.Done; section = a; kind = k }; runs = refl; level = refl }
ends_from L.Leaf a k = record { rest = closes ∷ closes ∷ closes ∷ closes ∷ []; place = record { level = L.Done; section = a; kind = k }; runs = refl; level = refl }
ends_from L.Other a k = record { rest = closes ∷ closes ∷ []; place = record { level = L.Done; section = a; kind = k }; runs = refl; level = refl }
ends_from L.Done a k = record { rest = []; place = record { level = L.Done; section = a; kind = k }; runs = refl; level = refl }

begins_by : (ms : List Mark) (p : Place) → run start ms ≡ Some p → BeginsDocument ms
begins_by ms p e = let x = ends_from p.level p.section p.kind in (x.rest, (documents (ms ++ x.rest)).0 (x.place, run_after start p ms x.rest e ∙ x.runs, x.level))

begins_not : (ms : List Mark) → run start ms ≡ None → BeginsDocument ms → ⊥
begins_not ms e (rest, d) = let x = (documents (ms ++ rest)).1 d in let z : None ≡ Some x.0 = sym (run_stops start ms rest e) ∙ x.1 in no cc

document_by : (ms : List Mark) (p : Place) → run start ms ≡ Some p → (p.level ≡ L.Done) ↔ IsDocument ms
document_by ms p e = (
  λ h. (documents ms).0 (p, e, h),
  λ d. let x = (documents ms).1 d in let z : Some p ≡ Some x.0 = sym e ∙ x.1 in let q : x.0 ≡ p = cc in ap (λ (y : Place). y.level) (sym q) ∙ x.2,
)

-- ---- one line at a place

bind_some : (o : Option Place) → bind o Some ≡ o
unfolding bind
bind_some None = refl
bind_some (Some q) = refl

module _ (line : Bytes) (p : Place) where
  mark_run : (e : Bool) (n : Name) → run p (mark_of e n ∷ []) ≡ place_taken (opened e n p)
  unfolding run mark_step
  mark_run true n = bind_some (place_taken (opened true n p))
  mark_run false n = bind_some (place_taken (opened false n p))

  -- a line that leads nowhere
  opens_nowhere : (o : Opened) → place_taken o ≡ None → Opens line p o → run p (line_marks line) ≡ None
  opens_nowhere o e x = rw x.reading (mark_run x.empty (name_of x.name) ∙ (ap place_taken x.leads_to ∙ e))

  by_nowhere : {C : Type 0} → run p (line_marks line) ≡ None → (Opens line p O.Misplaced → C) → (Opens line p O.OutsideSection → C) → C
  unfolding place_taken run mark_step bind
  by_nowhere {C} h f g = go (event_of line) refl h
    where
      leads : (e : Bool) (n : Bytes) (attrs : List Attr) → event_of line ≡ reads (Event.starts e n attrs) → (o : Opened) → opened e (name_of n) p ≡ o → place_taken o ≡ None → C
      leads e n attrs r O.Misplaced l t = f (record { empty = e; name = n; attrs = attrs; reading = r; leads_to = l })
      leads e n attrs r O.OutsideSection l t = g (record { empty = e; name = n; attrs = attrs; reading = r; leads_to = l })
      leads e n attrs r (O.Goes q) l t = no cc
      leads e n attrs r (O.Begins k q) l t = no cc
      leads e n attrs r (O.Holds c q) l t = no cc

      go : (x : Reading) → event_of line ≡ x → run p (marks_in x) ≡ None → C
      go (reads (Event.starts e n attrs)) r t = leads e n attrs r (opened e (name_of n) p) refl (sym (mark_run e (name_of n)) ∙ t)
      go (reads Event.closes) r t = no cc
      go (reads Event.others) r t = no cc
      go (refused x) r t = no cc

-- the turn refuses what is decided to be refused
turn_refuses : (line : Bytes) (r : Reader) (x : Refusal) → turn line r ≡ bad x → decide line r.place ≡ refuses x
unfolding turn turn_of
turn_refuses line r x h = go (decide line r.place) h
  where
    go : (d : Decision) → turn_of d r ≡ bad x → d ≡ refuses x
    go (refuses y) e = cc
    go (moves p) e = no cc
    go (begins true p id m b) e = no cc
    go (begins false p id m b) e = no cc
    go (deletes k p id m) e = no cc
    go (tags p t) e = no cc
    go (refers p z) e = no cc
    go (joins p m) e = no cc
    go (ends p) e = no cc

-- an event of a reader that is not stopped is refused 5 or 6 exactly where its mark leads nowhere
module _ (line : Bytes) (s : State) (sound : state_sound s ≡ true) (going : is_stopped s.reader.stop ≡ false) where
  refuses_event : (r : Refusal) → decision_number (number_of r) ≡ true → ((event_on line s).answer ≡ Err (refusal_at r (next_line s))) ↔ (decide line s.reader.place ≡ refuses r)
  unfolding reader_of turn turn_of
  refuses_event r l = let x = event_decided line s sound going r l in (λ a. turn_refuses line (reader_of s) r (x.0 a), λ e. x.1 (rw e))

  pub nowhere_exactly : NestingRefused (event_on line s).answer (next_line s) ↔ (run s.reader.place (line_marks line) ≡ None)
  unfolding place_taken both either
  nowhere_exactly = (to, from)
    where
      to : NestingRefused (event_on line s).answer (next_line s) → run s.reader.place (line_marks line) ≡ None
      to (misplaced a) = opens_nowhere line s.reader.place O.Misplaced refl ((misplaced_exactly line s.reader.place).0 ((refuses_event R.Misplaced refl).0 a))
      to (outside a) = opens_nowhere line s.reader.place O.OutsideSection refl ((outside_exactly line s.reader.place).0 ((refuses_event R.OutsideSection refl).0 a))

      from : run s.reader.place (line_marks line) ≡ None → NestingRefused (event_on line s).answer (next_line s)
      from e =
          by_nowhere line s.reader.place e
          (λ q. misplaced ((refuses_event R.Misplaced refl).1 ((misplaced_exactly line s.reader.place).1 q)))
          (λ q. outside ((refuses_event R.OutsideSection refl).1 ((outside_exactly line s.reader.place).1 q)))

-- ---- the lines that a reader has taken are taken one after the other

module _ (n : ℕ) where
  -- a call that is no event of the reader
  quiet_takes : (w : World) (c : Call) (b : Bool) {ls : List Bytes} {xs : List (Act Bytes)} {q : Reader} → (outcome w c).world.readers n ≡ w.readers n → line_read n c ls ≡ ls
      → Takes ((world_after w (record { call = c; accepted = b } ∷ [])).readers n) ls xs q → (bs : List (Act Bytes)) × Takes (w.readers n) (cond b (line_read n c ls) ls) bs q
  unfolding world_after
  quiet_takes w c true {ls} {xs} {q} e h k = (xs, rw (h, ← e) k)
  quiet_takes w c false {xs = xs} e h k = (xs, k)

  push_quiet : (w : World) (id : ℤ) (x : Option (Record ℕ)) → (outcome w (Call.pushes id x)).world.readers n ≡ w.readers n
  unfolding outcome
  push_quiet w id None = refl
  push_quiet w id (Some r) = refl

  module _ (l : Storage) (w : World) (acts : List (Act Bytes)) (g : Agrees false l w acts) {ls : List Bytes} {xs : List (Act Bytes)} {q : Reader} where
    own : (m : ℕ) (line : Bytes) → n ≡ m → Takes ((world_after w (answer_of (reads m line) l ∷ [])).readers n) ls xs q
        → (bs : List (Act Bytes)) × Takes (w.readers n) (cond (accepts (reads m line) l) (line_read n (call_of (reads m line)) ls) ls) bs q
    unfolding world_after
    own m line z k =
        let s = state_of n l in
        by_answer (event_on line s).answer
        (λ a.
        let x = event_accepted line s (record { overlay = g.overlay.bytes; reader = (g.ready n).given }) a in
        let t : turn line (w.readers n) ≡ got x.comes = ap (turn line) (sym (g.readers n)) ∙ x.is in
        let j : Takes ((outcome w (Call.reads n line)).world.readers n) ls xs q = rw (← z, a) at k in
        (acts_before x.comes.act xs, rw (← z, a, eq-eqb n n refl) (more x.comes t (rw (own_reader w n line x.comes t) at j))))
        (λ r i a. (xs, rw (← z, a) (rw (← z, a) at k)))

    call_takes : (c : Ask) → Takes ((world_after w (answer_of c l ∷ [])).readers n) ls xs q → (bs : List (Act Bytes)) × Takes (w.readers n) (cond (accepts c l) (line_read n (call_of c) ls) ls) bs q
    unfolding outcome
    call_takes (interns t) k = quiet_takes w (call_of (interns t)) _ refl refl k
    call_takes (pushes j h m parts) k = quiet_takes w (call_of (pushes j h m parts)) _ (push_quiet w (to_z w64 h.id) (pushed_record j (head_in j h) (meta_of m) parts)) refl k
    call_takes (Ask.deletes j id m) k = quiet_takes w (call_of (Ask.deletes j id m)) _ refl refl k
    call_takes (reads m line) k =
        by_eq n m
        (λ z. own m line z k)
        (λ z. quiet_takes w (call_of (reads m line)) _ (other_reader w m n line z) (rw (ne_eqb n m z)) k)
    call_takes (Ask.ends m) k = quiet_takes w (call_of (Ask.ends m)) _ refl refl k
    call_takes (Ask.allows setting) k = quiet_takes w (call_of (Ask.allows setting)) _ refl refl k

  -- whatever the settings
  pub takes_calls : (cs : List Ask) (l : Storage) (w : World) (acts : List (Act Bytes)) → all ask_fits cs ≡ true → Agrees false l w acts
      → (bs : List (Act Bytes)) × Takes (w.readers n) (lines_read n (answered l cs)) bs ((world_after w (answered l cs)).readers n)
  unfolding answered lines_read world_after
  takes_calls [] l w acts f g = ([], done)
  takes_calls (c ∷ cs) l w acts f g =
      let a = answer_of c l in
      let u = world_after w (a ∷ []) in
      let k = agrees_call false l w acts g c (all_head ask_fits c cs f) (λ z. clash z refl) in
      let i = takes_calls cs (leaves c l) u (acts ++ acts_from w (a ∷ [])) (all_tail ask_fits c cs f) k in
      rw (world_append w (a ∷ []) (answered (leaves c l) cs)) (call_takes l w acts g c i.1)

-- ---- the reader after a list of calls

module _ (setting : ℕ) (o : Overlay) (ps : ℕ → Bytes) (given : Start o ps) (cs : List Ask) (fits : all ask_fits cs ≡ true) (n : ℕ) where
  agrees : Agrees (refused_throughout setting cs) (storage_after setting o ps cs) (world_after begin (replies setting o ps cs)) (acts_of (replies setting o ps cs))
  agrees = agrees_after setting o given.sizes given.bytes ps given.parts cs fits

  abbrev state : State
  state = reader_state setting o ps cs n

  -- it stands where its marks lead
  marks_lead : run start (marks_read setting o ps cs n) ≡ Some state.reader.place
  unfolding reader_of
  marks_lead =
      let t = takes_calls n cs (started setting o ps) begin [] fits (agrees_started setting o given.sizes given.bytes ps given.parts false (λ z. clash z refl)) in
      (lines_lead fresh_agrees t.1).runs ∙ ap (λ (r : Reader). Some r.place) (sym (agrees.readers n))

  module _ (never : stopped_in n (replies setting o ps cs) ≡ false) (below : length (lines_read n (replies setting o ps cs)) < 18446744073709551615) where
    counted : state.reader.lines ≡ length (lines_read n (replies setting o ps cs))
    counted = lines_after setting o given.sizes given.bytes ps given.parts cs fits n

    sound : state_sound state ≡ true
    sound = ready_sound state (agrees_fine agrees) (agrees.ready n) (omega (arith, counted))

    going : is_stopped state.reader.stop ≡ false
    going = stopped_after setting o given.sizes given.bytes ps given.parts cs fits n below ∙ never

    pub nests_as_document : NestsAsDocument setting o ps cs n
    nests_as_document =
        let ms = marks_read setting o ps cs n in
        let p = state.reader.place in
        let d = document_by ms p marks_lead in
        record {
          begun = begins_by ms p marks_lead;
          event = λ line. let x = rw counted at (nowhere_exactly line state sound going) in (λ a. begins_not _ (goes_on line ∙ x.0 a), λ h. x.1 (nowhere line h (run p (line_marks line)) refl));
          end = let x = end_done state sound going in (λ a. d.0 (x.0 a), λ h. x.1 (d.1 h));
          unfinished = let x = rw counted at (end_18 state sound going) in (λ a h. x.0 a (d.1 h), λ h. x.1 (λ e. h (d.0 e)));
        }
      where
        goes_on : (line : Bytes) → run start (marks_read setting o ps cs n ++ line_marks line) ≡ run state.reader.place (line_marks line)
        goes_on line = run_after start state.reader.place (marks_read setting o ps cs n) (line_marks line) marks_lead

        nowhere : (line : Bytes) → (BeginsDocument (marks_read setting o ps cs n ++ line_marks line) → ⊥) → (x : Option Place) → run state.reader.place (line_marks line) ≡ x
            → run state.reader.place (line_marks line) ≡ None
        nowhere line h None e = e
        nowhere line h (Some q) e = absurd (h (begins_by _ q (goes_on line ∙ e)))
