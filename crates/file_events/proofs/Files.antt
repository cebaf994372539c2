-- The state after a file of legal markups is the state after its event lines but for line numbers, and each answer is the same but for its LINE.
use Rattle.reader.specs.declared.RefusedAt.{RefusedAt}
use Rattle.std.specs.Prelude.{Ok, Err, Result, None, Option, Some}
use Prim.Native.Nat.{ℕ, ◌+◌, ◌<◌, ◌≤◌, min}
use mathlib.Core.Path.{◌≡◌, refl, sym, ◌∙◌, ap}
use mathlib.Core.Bool.{Bool, true, false}
use mathlib.Core.List.{List, [], ◌∷◌, ◌++◌}
use native.Mathlib.Omega.{arith}
use lib.ListN.{length, take, drop, length-append}
use Rattle.base.specs.Bytes.{Bytes, both, either}
use Rattle.base.proofs.Split.{by_bool, both_left, both_right, no}
use Rattle.little.proofs.Overs.{length_over}
use Rattle.refusal.specs.declared.Refusal.{Refusal}
use Rattle.refusal.specs.declared.Refusal.TheVariants as R
use Rattle.nesting.specs.declared.Action.{Action}
use Rattle.nesting.specs.declared.Action.TheVariants as A
use Rattle.nesting.specs.declared.Level.{Level}
use Rattle.nesting.specs.declared.Level.TheVariants as L
use Rattle.nesting.specs.declared.Place.{Place}
use Rattle.nesting.specs.Nesting.{closed}
use Rattle.line.specs.Line.{line, tabbed}
use Rattle.event.specs.Event.{Attr, Event, starts, closes, others, start_word, line_of, event_of, reads}
use Rattle.event.specs.Legal.{legal_event, legal_parts}
use Rattle.event.proofs.Events.{reads_back}
use Rattle.event_fields.specs.Field.{got, bad}
use Rattle.event_decision.specs.Decision.{Decision, moves, ends, decide, decide_reading, decide_event, decide_closed}
use Rattle.acts.specs.Turn.{Turn, Reader, turn_of, turn}
use Rattle.text.specs.Char.{utf8}
use Rattle.text.specs.Text.{encoded}
use Rattle.markup.specs.Markup.{Markup, start_tag, end_tag, comment, instruction, declaration, legal_markup_at, written_markup, Meaning, means_event, no_event, meaning_of}
use Rattle.markup_tags.specs.Meanings.{meaning_kept}
use Rattle.markup_tags.specs.StartTags.{attrs_line}
use Rattle.markup_tags.proofs.Kept.{start_line}
use Rattle.markup_steps.specs.Held.{meant_line}
use Rattle.markup_steps.proofs.Runs.{behind_written}
use Rattle.file_lexer.specs.declared.Before.{Before}
use Rattle.file_lexer.specs.declared.Before.TheVariants as B
use Rattle.file_lexer.specs.Lexing.{Where, between, is_first}
use Rattle.reader.specs.State.{State, is_stopped, state_sound, refusal_at}
use Rattle.reader.specs.Step.{stops}
use Rattle.reader.specs.Event.{EventResult, refused_at, stepped, event_on}
use Rattle.reader.specs.Means.{reader_of}
use Rattle.reader.proofs.Answers.{by_answer, by_event, event_22, event_counts}
use Rattle.reader.proofs.Events.{event_decided, by_refused}
use Rattle.reader_events.specs.Events.{events_onward, events_on}
use Rattle.reader_events.proofs.Onward.{events_none, events_on_lem, events_off}
use Rattle.file_reader.specs.File.{FileState, FileResult, with_lines, at_markup, keeps_name, open_name, is_open, kept_line, line_start, line_written, tag_line, before_tab}
use Rattle.file_reader.specs.File.{unless_twice, markup_event, markup_refused, behind_markup, named_behind, started, start_tag_ends, closed_behind, close_line, end_tag_ends}
use Rattle.file_reader.specs.File.{skipped, markup_ended, bytes_onward, file_bytes}
use Rattle.file_events.specs.Parts.{FilePart, text_between, markup_part, written_part, written_file, before_text, before_behind, legal_at, legal_file, lines_meant, part_lines}
use Rattle.file_events.specs.Parts.{file_lines}
use Rattle.file_events.specs.Unlined.{unlined_stop, unlined, unlined_answer, Outcome, event_outcome, file_outcome, told_refusal, told_stop, told_answer, told_outcome}
use Rattle.file_events.specs.Passing.{counted_on, text_passed, markup_passed}
use Rattle.file_events.proofs.Unlined.{event_unlined}
use Rattle.file_events.proofs.Tags.{tag_judged}
use Rattle.file_events.proofs.Texts.{counted_most, text_told}
use Rattle.file_events.proofs.Markups.{MarkupTold, markup_told}

-- ---- an event of a markup

-- an event depends on its line by what that reads as alone
pub event_read : (l k : Bytes) (s : State) → event_of l ≡ event_of k → event_on l s ≡ event_on k s
unfolding event_on decide
event_read l k s e = rw e

-- "25 markup not well formed by itself": 4 of an event, and no other refusal
refused_told : (s : State) (r : Refusal) → event_outcome (unless_twice (stepped s (stops r)) (stepped s (stops r)).answer) ≡ told_outcome (event_outcome (stepped s (stops r)))
unfolding told_refusal
refused_told s R.NotEventLine = refl
refused_told s r = refl

-- 22 changes nothing, so it leaves no stop mark where none was
unsound_told : (s : State) → s.reader.stop ≡ None → event_outcome (refused_at s R.Unsound 0) ≡ told_outcome (event_outcome (refused_at s R.Unsound 0))
unfolding told_refusal
unsound_told s g = rw g

tag_told : (l : Bytes) (s : State) → s.reader.stop ≡ None → event_outcome (markup_event l s) ≡ told_outcome (event_outcome (event_on l s))
tag_told l s g =
    by_event l s
    (λ u w. ap (λ (r : EventResult). event_outcome (unless_twice r r.answer)) w ∙ (unsound_told s g ∙ sym (ap (λ r. told_outcome (event_outcome r)) w)))
    (λ r n u q t w. let z = sym g ∙ q in no (cc z))
    (λ r u q f w. ap (λ (e : EventResult). event_outcome (unless_twice e e.answer)) w ∙ (refused_told s r ∙ sym (ap (λ e. told_outcome (event_outcome e)) w)))
    (λ a u q f w. ap (λ (e : EventResult). event_outcome (unless_twice e e.answer)) w ∙ sym (ap (λ e. told_outcome (event_outcome e)) w))

-- ---- a close is never 4

pub told_other : (r : Refusal) → (r ≡ R.NotEventLine → ⊥) → told_refusal r ≡ r
unfolding told_refusal
told_other R.NotEventLine n = absurd (n refl)
told_other r n = refl

pub close_reads : event_of (line_of closes) ≡ reads closes
unfolding legal_event legal_parts both tabbed
close_reads = reads_back closes refl

turn_closes : (l : Level) (a : Action) (p : Place) (r : Reader) (x : Refusal) → turn_of (decide_closed l a p) r ≡ bad x → ⊥
unfolding turn_of
turn_closes L.Element A.Create p r x e = no (cc e)
turn_closes L.Element A.Modify p r x e = no (cc e)
turn_closes L.Element A.Delete p r x e = no (cc e)
turn_closes L.Doc a p r x e = no (cc e)
turn_closes L.Root a p r x e = no (cc e)
turn_closes L.Section a p r x e = no (cc e)
turn_closes L.Leaf a p r x e = no (cc e)
turn_closes L.Other a p r x e = no (cc e)
turn_closes L.Done a p r x e = no (cc e)

close_turns : (r : Reader) (x : Refusal) → turn (line_of closes) r ≡ bad x → ⊥
unfolding turn decide decide_event
close_turns r x e = turn_closes r.place.level r.place.section (closed r.place) r x (rw close_reads at e)

stopped_told : (s : State) (r : Refusal) → told_refusal r ≡ r → event_outcome (stepped s (stops r)) ≡ told_outcome (event_outcome (stepped s (stops r)))
stopped_told s r e = rw e

close_told : (s : State) → s.reader.stop ≡ None → event_outcome (event_on (line_of closes) s) ≡ told_outcome (event_outcome (event_on (line_of closes) s))
unfolding both either
close_told s g =
    by_event (line_of closes) s
    (λ u w. ap event_outcome w ∙ (unsound_told s g ∙ sym (ap (λ r. told_outcome (event_outcome r)) w)))
    (λ r n u q t w. let z = sym g ∙ q in no (cc z))
    (λ r u q f w. ap event_outcome w ∙ (stopped_told s r (told_other r (λ e. close_turns (reader_of s) R.NotEventLine ((event_decided (line_of closes) s u q R.NotEventLine refl).0
    (ap (λ (z : EventResult). z.answer) w ∙ ap (λ x. (stepped s (stops x)).answer) e))))
    ∙ sym (ap (λ e. told_outcome (event_outcome e)) w)))
    (λ a u q f w. ap event_outcome w ∙ sym (ap (λ e. told_outcome (event_outcome e)) w))

-- ---- what a markup does

-- a file's reader behind a markup: between markups, its count of line feeds and the length of its lent bytes as they were
pub record Behind (g : FileState) (r : FileResult) : Type 0 where
  pub place : r.file.place ≡ between B.Text
  pub room : length r.file.bytes ≡ length g.bytes
  pub lines : r.file.state.reader.lines ≡ g.state.reader.lines

pub line_room : (empty : Bool) (g : FileState) → length (line_written empty g) ≡ length g.bytes
line_room empty g = length_over _ (6 + g.used) (10 ∷ []) ∙ length_over g.bytes (line_start empty) _

started_behind : (g : FileState) (bytes : Bytes) (r : EventResult) (a : Result Unit RefusedAt) → length bytes ≡ length g.bytes → Behind g (started g bytes r a)
started_behind g bytes r (Err a) l = record { place = refl; room = l; lines = refl }
started_behind g bytes r (Ok tt) l = go (keeps_name r.state.reader.place.level)
  where
    go : (b : Bool) → Behind g (named_behind g bytes r b)
    go false = record { place = refl; room = l; lines = refl }
    go true = record { place = refl; room = length_over bytes 16387 (before_tab (kept_line g)) ∙ l; lines = refl }

started_outcome : (g : FileState) (bytes : Bytes) (r : EventResult) (a : Result Unit RefusedAt) → file_outcome (started g bytes r a) ≡ event_outcome r
started_outcome g bytes r (Err a) = refl
started_outcome g bytes r (Ok tt) = go (keeps_name r.state.reader.place.level)
  where
    go : (b : Bool) → file_outcome (named_behind g bytes r b) ≡ event_outcome r
    go false = refl
    go true = refl

closed_behind_lem : (g : FileState) (r : EventResult) (a : Result Unit RefusedAt) → Behind g (closed_behind g r a)
closed_behind_lem g r (Ok tt) = record { place = refl; room = refl; lines = refl }
closed_behind_lem g r (Err a) = record { place = refl; room = refl; lines = refl }

closed_outcome : (g : FileState) (r : EventResult) (a : Result Unit RefusedAt) → file_outcome (closed_behind g r a) ≡ event_outcome r
closed_outcome g r (Ok tt) = refl
closed_outcome g r (Err a) = refl

pub markup_behind : (m : Meaning) (g : FileState) → Behind g (markup_ended m g)
unfolding markup_ended start_tag_ends end_tag_ends
markup_behind (means_event (starts empty n attrs) m) g = started_behind g (line_written empty g) (markup_event (tag_line empty g) (at_markup g))
    (markup_event (tag_line empty g) (at_markup g)).answer (line_room empty g)
markup_behind (means_event closes m) g =
    by_bool (is_open (kept_line g) (open_name g))
    (λ t. rw t (closed_behind_lem g (event_on close_line (at_markup g)) (event_on close_line (at_markup g)).answer))
    (λ t. rw t (record { place = refl; room = refl; lines = refl }))
markup_behind (means_event others m) g = record { place = refl; room = refl; lines = refl }
markup_behind no_event g = record { place = refl; room = refl; lines = refl }

-- a call is refused 26
abbrev pub Unmatched : FileResult → Type 0
Unmatched r = unlined_answer r.answer ≡ Err R.UnmatchedEndTag

-- an end tag of the open element is a close; else it is 26, or 22 where the close is
end_outcome : (g : FileState) → (Unmatched (end_tag_ends g) → ⊥) → file_outcome (end_tag_ends g) ≡ event_outcome (event_on (line_of closes) (at_markup g))
unfolding end_tag_ends line_of line tabbed
end_outcome g n =
    by_bool (is_open (kept_line g) (open_name g))
    (λ t. rw t (closed_outcome g (event_on close_line (at_markup g)) (event_on close_line (at_markup g)).answer))
    (λ t. by_bool (state_sound (at_markup g))
    (λ u. absurd (n (rw (t, u) refl)))
    (λ u. rw (t, u) (sym (ap event_outcome (event_22 close_line (at_markup g) u)))))

-- ---- between two parts of a file

-- a file's reader and a reader of event lines: the same but for line numbers, and neither is stopped
pub record Stands (before : Before) (f : FileState) (s : State) : Type 0 where
  pub place : f.place ≡ between before
  pub room : length f.bytes ≡ 32771
  pub same : unlined f.state ≡ unlined s
  pub file_goes : f.state.reader.stop ≡ None
  pub goes : s.reader.stop ≡ None

with_same : (n : ℕ) (a b : State) → unlined a ≡ unlined b → a.reader.stop ≡ None → b.reader.stop ≡ None → with_lines n a ≡ with_lines n b
with_same n a b e g h =
    let f : State → State = λ z. record { overlay = z.overlay; reader = record { place = z.reader.place; pending = z.reader.pending; lines = n; stop = None }; parts = z.parts } in
    let q : f a ≡ f b = ap f e in
    (λ i. record { overlay = a.overlay; reader = record { place = a.reader.place; pending = a.reader.pending; lines = n; stop = g i }; parts = a.parts })
    ∙ (q ∙ sym (λ i. record { overlay = b.overlay; reader = record { place = b.reader.place; pending = b.reader.pending; lines = n; stop = h i }; parts = b.parts }))

event_same : (l : Bytes) (before : Before) (f : FileState) (s : State) (n : ℕ) → Stands before f s → n < 18446744073709551615 → s.reader.lines < 18446744073709551615
    → event_outcome (event_on l (with_lines n f.state)) ≡ event_outcome (event_on l s)
event_same l before f s n w h k = event_unlined l f.state n s.reader.lines w.file_goes h k
    ∙ ap (λ z. event_outcome (event_on l z)) (with_same s.reader.lines f.state s w.same w.file_goes w.goes)

-- ---- a markup of an event, and its line

module _ (m : Markup) (rest : Bytes) (before : Before) (f : FileState) (s : State) (w : Stands before f s) (k : MarkupTold m rest f)
    (h : f.state.reader.lines < 18446744073709551615)
    (j : s.reader.lines < 18446744073709551615) where
  abbrev ended : FileState
  ended = markup_passed m k.bytes k.used f

  pub start_is : (empty : Bool) (n : Bytes) (attrs : List Attr) → meaning_of m ≡ means_event (starts empty n attrs) n
      → file_outcome (start_tag_ends empty ended) ≡ told_outcome (event_outcome (event_on (line_of (starts empty n attrs)) s))
  unfolding start_tag_ends
  start_is empty n attrs q =
      let x : meant_line (meaning_of m) ≡ n ++ attrs_line attrs = ap meant_line q in
      let t : event_of (tag_line empty ended) ≡ event_of (line_of (starts empty n attrs)) =
      tag_judged empty ended (n ++ attrs_line attrs) k.room (k.used_is ∙ ap (λ y. min 16380 (length y)) x) (k.line ∙ ap (take 16380) x)
      ∙ ap event_of (sym (start_line empty n attrs)) in
      started_outcome ended (line_written empty ended) (markup_event (tag_line empty ended) (at_markup ended)) (markup_event (tag_line empty ended) (at_markup ended)).answer
      ∙ (tag_told (tag_line empty ended) (at_markup ended) w.file_goes
      ∙ (ap (λ e. told_outcome (event_outcome e)) (event_read (tag_line empty ended) (line_of (starts empty n attrs)) (at_markup ended) t)
      ∙ ap told_outcome (event_same (line_of (starts empty n attrs)) before f s f.state.reader.lines w h j)))

  end_is : (Unmatched (end_tag_ends ended) → ⊥) → file_outcome (end_tag_ends ended) ≡ told_outcome (event_outcome (event_on (line_of closes) s))
  end_is n =
      end_outcome ended n
      ∙ (event_same (line_of closes) before f s f.state.reader.lines w h j ∙ close_told s w.goes)

-- ---- a file

-- what comes behind a part
onward : (next : FileState → FileResult) (ls : List Bytes) (f : FileState) (s : State) (a b : Result Unit RefusedAt)
    → file_outcome (record { file = f; answer = a }) ≡ told_outcome (event_outcome (record { state = s; answer = b }))
    → (a ≡ Ok tt → b ≡ Ok tt → file_outcome (next f) ≡ told_outcome (event_outcome (events_on ls s)))
    → file_outcome (bytes_onward next a f) ≡ told_outcome (event_outcome (events_onward (events_on ls) b s))
onward next ls f s (Ok u) (Ok v) e ih = ih refl refl
onward next ls f s (Err a) (Err b) e ih = e
onward next ls f s (Ok u) (Err b) e ih = let z = ap (λ (x : Outcome). x.answer) e in no (cc z)
onward next ls f s (Err a) (Ok v) e ih = let z = ap (λ (x : Outcome). x.answer) e in no (cc z)

-- where all is not refused 26, its first part is not, and what follows it is not
first_matched : (next : FileState → FileResult) (f : FileState) (a : Result Unit RefusedAt) → (Unmatched (bytes_onward next a f) → ⊥)
    → Unmatched (record { file = f; answer = a }) → ⊥
first_matched next f (Ok tt) n u = no (cc u)
first_matched next f (Err a) n u = n u

no_stop : (o : Option RefusedAt) → unlined_stop o ≡ None → o ≡ None
no_stop None e = refl
no_stop (Some a) e = no (cc e)

-- ---- what a part leaves

pub text_stands : (t : Bytes) (before : Before) (f : FileState) (s : State) → Stands before f s → Stands (before_text before t) (text_passed before t f) s
text_stands t before f s w = record { place = refl; room = w.room; same = w.same; file_goes = w.file_goes; goes = w.goes }

-- an accepted event leaves both so
pub event_stands : (l : Bytes) (m : Meaning) (g : FileState) (s : State) → length g.bytes ≡ 32771 → file_outcome (markup_ended m g) ≡ told_outcome (event_outcome (event_on l s))
    → (event_on l s).answer ≡ Ok tt → Stands B.Text (markup_ended m g).file (event_on l s).state
event_stands l m g s r e a =
    let b = markup_behind m g in
    let n : (event_on l s).state.reader.stop ≡ None = (event_counts l s a).1 in
    let q : unlined (markup_ended m g).file.state ≡ (told_outcome (event_outcome (event_on l s))).state = ap (λ (x : Outcome). x.state) e in
    let k : unlined_stop (markup_ended m g).file.state.reader.stop ≡ None = ap (λ (x : State). x.reader.stop) q ∙ ap (λ o. told_stop (unlined_stop o)) n in
    record { place = b.place; room = b.room ∙ r; same = q ∙ untold (event_on l s).state n; file_goes = no_stop _ k; goes = n }
  where
    untold : (t : State) → t.reader.stop ≡ None → (told_outcome (record { state = unlined t; answer = Ok tt })).state ≡ unlined t
    untold t n = rw n

pub skip_stands : (m : Markup) (rest : Bytes) (before : Before) (f : FileState) (s : State) (k : MarkupTold m rest f) → Stands before f s
    → Stands B.Text (skipped (markup_passed m k.bytes k.used f)).file s
skip_stands m rest before f s k w = record { place = refl; room = k.room; same = w.same; file_goes = w.file_goes; goes = w.goes }

-- no markup means an `other`
pub no_other : (m : Markup) (n : Bytes) → meaning_of m ≡ means_event others n → ⊥
unfolding meaning_of
no_other (start_tag empty a xs gap) n e = no (cc e)
no_other (end_tag a gap) n e = no (cc e)
no_other (comment ps) n e = no (cc e)
no_other (instruction t gap cs) n e = no (cc e)
no_other (declaration d) n e = no (cc e)

-- the name that a start tag's meaning has is its element's
pub start_named : (m : Markup) (empty : Bool) (n a : Bytes) (attrs : List Attr) → meaning_of m ≡ means_event (starts empty n attrs) a → n ≡ a
unfolding meaning_of
start_named (start_tag b x xs gap) empty n a attrs e =
    let y : encoded x ≡ n = cc e in
    let z : encoded x ≡ a = cc e in
    sym y ∙ z
start_named (end_tag x gap) empty n a attrs e = no (cc e)
start_named (comment ps) empty n a attrs e = no (cc e)
start_named (instruction t gap cs) empty n a attrs e = no (cc e)
start_named (declaration d) empty n a attrs e = no (cc e)

abbrev limit : ℕ
limit = 18446744073709551615

-- what a file comes to, as its lines do
abbrev Comes : List FilePart → FileState → State → Type 0
Comes ps f s = file_outcome (file_bytes (written_file ps) f) ≡ told_outcome (event_outcome (events_on (file_lines ps) s))

-- behind an event, as behind its line
module _ (m : Markup) (ps : List FilePart) (before : Before) (f : FileState) (s : State) (w : Stands before f s) (k : MarkupTold m (written_file ps) f) where
  abbrev g : FileState
  g = markup_passed m k.bytes k.used f

  unmatched_here : (Unmatched (file_bytes (encoded (written_markup m) ++ written_file ps) f) → ⊥) → Unmatched (markup_ended (meaning_kept (meaning_of m)) g) → ⊥
  unmatched_here n u =
      let r = markup_ended (meaning_kept (meaning_of m)) g in
      first_matched (file_bytes (written_file ps)) r.file r.answer (λ v. n (ap (λ (x : FileResult). unlined_answer x.answer) k.told ∙ v)) u

  unmatched_behind : (Unmatched (file_bytes (encoded (written_markup m) ++ written_file ps) f) → ⊥) → (markup_ended (meaning_kept (meaning_of m)) g).answer ≡ Ok tt
      → Unmatched (file_bytes (written_file ps) (markup_ended (meaning_kept (meaning_of m)) g).file) → ⊥
  unmatched_behind n a u =
      let r = markup_ended (meaning_kept (meaning_of m)) g in
      n (ap (λ (x : FileResult). unlined_answer x.answer) (k.told ∙ ap (λ x. bytes_onward (file_bytes (written_file ps)) x r.file) a) ∙ u)

  event_onward : (e : Event) (n : Bytes) → meaning_of m ≡ means_event e n
      → file_outcome (markup_ended (meaning_kept (meaning_of m)) g) ≡ told_outcome (event_outcome (event_on (line_of e) s))
      → (Unmatched (file_bytes (encoded (written_markup m) ++ written_file ps) f) → ⊥)
      → ((h : FileState) (t : State) → Stands B.Text h t → h.state.reader.lines ≡ g.state.reader.lines → t.reader.lines ≡ s.reader.lines + 1
      → (Unmatched (file_bytes (written_file ps) h) → ⊥) → Comes ps h t)
      → file_outcome (file_bytes (encoded (written_markup m) ++ written_file ps) f) ≡ told_outcome (event_outcome (events_on (lines_meant (meaning_of m) ++ file_lines ps) s))
  unfolding events_on
  event_onward e n q o u ih =
      let r = markup_ended (meaning_kept (meaning_of m)) g in
      let lines : events_on (lines_meant (meaning_of m) ++ file_lines ps) s ≡ events_onward (events_on (file_lines ps)) (event_on (line_of e) s).answer
      (event_on (line_of e) s).state =
      ap (λ x. events_on (lines_meant x ++ file_lines ps) s) q in
      ap file_outcome k.told
      ∙ (onward (file_bytes (written_file ps)) (file_lines ps) r.file (event_on (line_of e) s).state r.answer (event_on (line_of e) s).answer o
      (λ a b. ih r.file (event_on (line_of e) s).state (event_stands (line_of e) (meaning_kept (meaning_of m)) g s k.room o b) (markup_behind (meaning_kept (meaning_of m)) g).lines
      (event_counts (line_of e) s b).0 (unmatched_behind u a))
      ∙ sym (ap (λ x. told_outcome (event_outcome x)) lines))

  skip_onward : meaning_of m ≡ no_event → (Unmatched (file_bytes (encoded (written_markup m) ++ written_file ps) f) → ⊥)
      → ((Unmatched (file_bytes (written_file ps) (skipped g).file) → ⊥) → Comes ps (skipped g).file s)
      → file_outcome (file_bytes (encoded (written_markup m) ++ written_file ps) f) ≡ told_outcome (event_outcome (events_on (lines_meant (meaning_of m) ++ file_lines ps) s))
  unfolding markup_ended
  skip_onward q u ih =
      let e : markup_ended (meaning_kept (meaning_of m)) g ≡ skipped g = ap (λ x. markup_ended (meaning_kept x) g) q in
      let t : file_bytes (encoded (written_markup m) ++ written_file ps) f ≡ file_bytes (written_file ps) (skipped g).file =
      k.told ∙ ap (λ (x : FileResult). bytes_onward (file_bytes (written_file ps)) x.answer x.file) e in
      ap file_outcome t
      ∙ (ih (λ v. u (ap (λ (x : FileResult). unlined_answer x.answer) t ∙ v)) ∙ sym (ap (λ x. told_outcome (event_outcome (events_on (lines_meant x ++ file_lines ps) s))) q))

  -- what the event of a markup comes to, by its meaning
  pub event_is : (e : Event) (n : Bytes) → meaning_of m ≡ means_event e n → f.state.reader.lines < limit → s.reader.lines < limit
      → (Unmatched (markup_ended (meaning_kept (meaning_of m)) g) → ⊥)
      → file_outcome (markup_ended (meaning_kept (meaning_of m)) g) ≡ told_outcome (event_outcome (event_on (line_of e) s))
  unfolding markup_ended
  event_is (starts empty a attrs) n q h j u =
      let z : meaning_of m ≡ means_event (starts empty a attrs) a = q ∙ ap (means_event (starts empty a attrs)) (sym (start_named m empty a n attrs q)) in
      ap (λ x. file_outcome (markup_ended (meaning_kept x) g)) q ∙ start_is m (written_file ps) before f s w k h j empty a attrs z
  event_is closes n q h j u =
      let e : markup_ended (meaning_kept (meaning_of m)) g ≡ end_tag_ends g = ap (λ x. markup_ended (meaning_kept x) g) q in
      ap file_outcome e ∙ end_is m (written_file ps) before f s w k h j (λ v. u (ap (λ (x : FileResult). unlined_answer x.answer) e ∙ v))
  event_is others n q h j u = absurd (no_other m n q)

written_some : (m : Markup) → 0 < length (encoded (written_markup m))
unfolding encoded utf8
written_some m = let w = behind_written m in rw (ap encoded w.1) (first_some w.0)
  where
    first_some : (s : List ℕ) → 0 < length (encoded (60 ∷ s))
    first_some s = omega arith

file_comes : (ps : List FilePart) (before : Before) (f : FileState) (s : State) → legal_file before ps ≡ true → Stands before f s
    → f.state.reader.lines + length (written_file ps) < limit → s.reader.lines + length (written_file ps) < limit
    → (Unmatched (file_bytes (written_file ps) f) → ⊥) → Comes ps f s
unfolding written_file legal_file legal_at before_behind file_lines file_bytes events_on
file_comes [] before f s l w h j u = ap (λ t. record { state = t; answer = Ok tt }) (w.same ∙ untold s w.goes)
  where
    untold : (t : State) → t.reader.stop ≡ None → unlined t ≡ (told_outcome (record { state = unlined t; answer = Ok tt })).state
    untold t n = rw n
file_comes (text_between t ∷ ps) before f s l w h j u =
    let e = text_told t (written_file ps) before f w.place (both_left _ _ l) in
    let c = counted_most t f.state.reader.lines in
    let n = length-append t (written_file ps) in
    ap file_outcome e
    ∙ file_comes ps (before_text before t) (text_passed before t f) s (both_right _ _ l) (text_stands t before f s w) (omega arith) (omega arith)
    (λ v. u (ap (λ (x : FileResult). unlined_answer x.answer) e ∙ v))
file_comes (markup_part m ∷ ps) before f s l w h j u =
    let k = markup_told m (written_file ps) before f w.place w.room (both_left _ _ l) in
    let c = counted_most (encoded (written_markup m)) f.state.reader.lines in
    let n = length-append (encoded (written_markup m)) (written_file ps) in
    let o = written_some m in
    by_meaning m ps before f s w k (omega arith) (omega arith) u
    (λ g t v p q x. file_comes ps B.Text g t (both_right _ _ l) v (omega arith) (omega arith) x)
    (λ x. file_comes ps B.Text (skipped (markup_passed m k.bytes k.used f)).file s (both_right _ _ l) (skip_stands m (written_file ps) before f s k w) (omega arith)
    (omega arith) x)
    (meaning_of m) refl
  where
    by_meaning : (m : Markup) (ps : List FilePart) (before : Before) (f : FileState) (s : State) (w : Stands before f s) (k : MarkupTold m (written_file ps) f)
        → f.state.reader.lines < limit → s.reader.lines < limit → (Unmatched (file_bytes (encoded (written_markup m) ++ written_file ps) f) → ⊥)
        → ((h : FileState) (t : State) → Stands B.Text h t → h.state.reader.lines ≡ counted_on (encoded (written_markup m)) f.state.reader.lines
        → t.reader.lines ≡ s.reader.lines + 1
        → (Unmatched (file_bytes (written_file ps) h) → ⊥) → Comes ps h t)
        → ((Unmatched (file_bytes (written_file ps) (skipped (markup_passed m k.bytes k.used f)).file) → ⊥) → Comes ps (skipped (markup_passed m k.bytes k.used f)).file s)
        → (e : Meaning) → meaning_of m ≡ e
        → file_outcome (file_bytes (encoded (written_markup m) ++ written_file ps) f) ≡ told_outcome (event_outcome (events_on (lines_meant (meaning_of m) ++ file_lines ps) s))
    by_meaning m ps before f s w k h j u ih jh (means_event e n) q =
        event_onward m ps before f s w k e n q (event_is m ps before f s w k e n q h j (unmatched_here m ps before f s w k u)) u ih
    by_meaning m ps before f s w k h j u ih jh no_event q = skip_onward m ps before f s w k q u jh

-- "the state after a file is the state after its event lines but for line numbers, and each answer is the same but for its LINE": where no end tag is 26, and 4 is told as 25
pub file_told : (ps : List FilePart) (before : Before) (f : FileState) → legal_file before ps ≡ true → f.place ≡ between before → length f.bytes ≡ 32771
    → f.state.reader.stop ≡ None
    → f.state.reader.lines + length (written_file ps) < 18446744073709551615 → (unlined_answer (file_bytes (written_file ps) f).answer ≡ Err R.UnmatchedEndTag → ⊥)
    → file_outcome (file_bytes (written_file ps) f) ≡ told_outcome (event_outcome (events_on (file_lines ps) f.state))
file_told ps before f l p r g h u = file_comes ps before f f.state l (record { place = p; room = r; same = refl; file_goes = g; goes = g }) h h u

-- ---- where neither 25 nor 26 is given

settled : (t : State) (r : Refusal) → told_stop (unlined_stop t.reader.stop) ≡ unlined_stop t.reader.stop → told_refusal r ≡ r
    → told_outcome (record { state = unlined t; answer = Err r }) ≡ record { state = unlined t; answer = Err r }
settled t r p q = λ i. record {
  state = record { overlay = t.overlay; reader = record { place = t.reader.place; pending = t.reader.pending; lines = 0; stop = p i }; parts = t.parts };
  answer = Err (q i);
}

stop_settled : (o : Option RefusedAt) (r : Refusal) → unlined_stop o ≡ Some (refusal_at r 0) → told_refusal r ≡ r → told_stop (unlined_stop o) ≡ unlined_stop o
stop_settled o r e q = ap told_stop e ∙ (ap (λ x. Some (refusal_at x 0)) q ∙ sym e)

-- event lines that are not refused 4 come to what a file does
lines_settled : (ls : List Bytes) (s : State) → s.reader.stop ≡ None → (unlined_answer (events_on ls s).answer ≡ Err R.NotEventLine → ⊥)
    → told_outcome (event_outcome (events_on ls s)) ≡ event_outcome (events_on ls s)
lines_settled [] s g u = ap (λ x. told_outcome (event_outcome x)) (events_none s) ∙ (empty s g ∙ sym (ap event_outcome (events_none s)))
  where
    empty : (t : State) → t.reader.stop ≡ None → told_outcome (record { state = unlined t; answer = Ok tt }) ≡ record { state = unlined t; answer = Ok tt }
    empty t g = rw g
lines_settled (l ∷ ls) s g u = by_answer (event_on l s).answer (λ a. accepted a (lines_settled ls (event_on l s).state (event_counts l s a).1)) (λ r n a. refused r n a)
  where
    accepted : (event_on l s).answer ≡ Ok tt
        → ((unlined_answer (events_on ls (event_on l s).state).answer ≡ Err R.NotEventLine → ⊥)
        → told_outcome (event_outcome (events_on ls (event_on l s).state)) ≡ event_outcome (events_on ls (event_on l s).state))
        → told_outcome (event_outcome (events_on (l ∷ ls) s)) ≡ event_outcome (events_on (l ∷ ls) s)
    accepted a ih =
        let w = events_on_lem l ls s a in
        ap (λ x. told_outcome (event_outcome x)) w
        ∙ (ih (λ v. u (ap (λ (x : EventResult). unlined_answer x.answer) w ∙ v)) ∙ sym (ap event_outcome w))

    refused : (r : Refusal) (n : ℕ) → (event_on l s).answer ≡ Err (refusal_at r n) → told_outcome (event_outcome (events_on (l ∷ ls) s)) ≡ event_outcome (events_on (l ∷ ls) s)
    refused r n a =
        let w = events_off l ls s r n a in
        let q = told_other r (λ e. u (ap (λ (x : EventResult). unlined_answer x.answer) w ∙ ap (λ x. Err x) e)) in
        let t = (event_on l s).state in
        let o : told_stop (unlined_stop t.reader.stop) ≡ unlined_stop t.reader.stop =
        by_refused l s r n a
        (λ x y z v. let p : unlined_stop t.reader.stop ≡ None = ap (λ (c : State). unlined_stop c.reader.stop) v ∙ ap unlined_stop g in ap told_stop p ∙ sym p)
        (λ x y v. stop_settled t.reader.stop r (ap (λ (c : State). unlined_stop c.reader.stop) v) q) in
        ap (λ x. told_outcome (event_outcome x)) w ∙ (settled t r o q ∙ sym (ap event_outcome w))

module _ (ps : List FilePart) (before : Before) (f : FileState) (l : legal_file before ps ≡ true) (p : f.place ≡ between before) (r : length f.bytes
    ≡ 32771) (g : f.state.reader.stop ≡ None)
    (h : f.state.reader.lines + length (written_file ps) < 18446744073709551615) where
  -- 4 of a line is told as 25
  malformed_of : (unlined_answer (file_bytes (written_file ps) f).answer ≡ Err R.UnmatchedEndTag → ⊥)
      → unlined_answer (events_on (file_lines ps) f.state).answer ≡ Err R.NotEventLine
      → unlined_answer (file_bytes (written_file ps) f).answer ≡ Err R.NotMarkup
  unfolding told_refusal
  malformed_of u e = ap (λ (x : Outcome). x.answer) (file_told ps before f l p r g h u) ∙ ap told_answer e

  -- "the state after a file is the state after its event lines but for line numbers, and each answer is the same but for its LINE": where it is neither 25 nor 26
  pub file_is_events : (unlined_answer (file_bytes (written_file ps) f).answer ≡ Err R.NotMarkup → ⊥)
      → (unlined_answer (file_bytes (written_file ps) f).answer ≡ Err R.UnmatchedEndTag → ⊥)
      → file_outcome (file_bytes (written_file ps) f) ≡ event_outcome (events_on (file_lines ps) f.state)
  file_is_events n u = file_told ps before f l p r g h u ∙ lines_settled (file_lines ps) f.state g (λ e. n (malformed_of u e))
