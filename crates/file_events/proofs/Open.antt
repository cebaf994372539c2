-- The name that an end tag must have is that of the innermost element that is open: XML 1.0, 3, Element Type Match.
use Rattle.std.specs.Prelude.{Ok, Err, Result, None, Option, Some}
use Prim.Native.Nat.{ℕ, suc, ◌+◌, ◌-◌, ◌<◌, ◌≤◌}
use mathlib.Core.Path.{◌≡◌, refl, sym, ◌∙◌, ap, subst}
use mathlib.Core.Bool.{Bool, true, false, not}
use mathlib.Core.List.{List, [], ◌∷◌, ◌++◌, append-nil}
use mathlib.Core.Logic.{◌↔◌}
use native.Mathlib.Omega.{arith}
use lib.Dec.{ltb, eqb}
use lib.ListN.{length, take, drop, length-append}
use lib.Seq.{take_all, take-append-add}
use borrow.Author.Tests.{ltb-false, not-true}
use Rattle.std.proofs.lemmas.List.{length-take}
use Rattle.base.specs.Bytes.{Bytes, both, either, all, same}
use Rattle.base.proofs.Split.{by_bool, by_le, both_left, both_right, clash, no}
use Rattle.base.proofs.Lists.{all_head, all_tail, same_yes}
use Rattle.little.specs.Little.{over}
use Rattle.little.proofs.Overs.{read_back}
use Rattle.refusal.specs.declared.Refusal.{Refusal}
use Rattle.refusal.specs.declared.Refusal.TheVariants as R
use Rattle.reader.specs.declared.RefusedAt.{RefusedAt}
use Rattle.nesting.specs.Nesting.{closed}
use Rattle.nesting.specs.declared.Level.{Level}
use Rattle.nesting.specs.declared.Level.TheVariants as L
use Rattle.nesting.specs.declared.Place.{Place}
use Rattle.text.specs.Escape.{breaks}
use Rattle.line.specs.Line.{plain_field, tabbed}
use Rattle.event.specs.Event.{Attr, Event, starts, closes, Reading, reads, refused, none_twice, event_of, event_fields, line_of, start_word, attr_fields}
use Rattle.event.proofs.Events.{name_plain}
use Rattle.event_decision.specs.Decision.{decide, decide_reading}
use Rattle.text.specs.Text.{encoded}
use Rattle.markup.specs.Markup.{attrs_meant, Markup, start_tag, end_tag, comment, instruction, declaration, may_stand, legal_markup, legal_markup_at, written_markup, Meaning}
use Rattle.markup.specs.Markup.{means_event, no_event, meaning_of}
use Rattle.markup.proofs.Lines.{line_reading, line_judged}
use Rattle.markup_tags.specs.Meanings.{meaning_kept}
use Rattle.markup_tags.specs.StartTags.{attrs_line}
use Rattle.markup_steps.specs.Held.{meant_line}
use Rattle.file_lexer.specs.declared.Before.{Before}
use Rattle.file_lexer.specs.declared.Before.TheVariants as B
use Rattle.file_lexer.specs.Lexing.{between, is_first}
use Rattle.reader.specs.State.{State}
use Rattle.reader.specs.Step.{goes, step_of}
use Rattle.reader.specs.Event.{EventResult, event_on}
use Rattle.reader.proofs.Answers.{event_goes}
use Rattle.file_reader.specs.File.{FileState, FileResult, at_markup, keeps_name, open_at, open_name, is_open, kept_line, line_written, tag_line, before_tab, markup_event}
use Rattle.file_reader.specs.File.{named_behind, started, start_tag_ends, skipped, markup_ended, bytes_onward, file_bytes}
use Rattle.file_events.specs.Parts.{FilePart, text_between, markup_part, written_part, written_file, before_behind, legal_at, legal_file}
use Rattle.file_events.specs.Passing.{text_passed, markup_passed}
use Rattle.file_events.specs.Open.{behind_innermost, with_start, part_opens, open_names, innermost}
use Rattle.file_events.specs.Unlined.{unlined_answer, Outcome}
use Rattle.file_events.proofs.Markups.{MarkupTold, markup_told}
use Rattle.file_events.proofs.Files.{close_reads, line_room, event_stands, event_is}
use Rattle.file_events.proofs.Refusals.{StandsSound, alike, relined, told_ok, by_part, start_alone, alone_is, text_alone, part_keeps, bytes_pieces}
use Rattle.file_events.proofs.Places.{StandOpen, stands_innermost, close_stands, unkept_stands, start_stands, start_leads, close_leads}

-- ---- the name that is kept

not_tab : (x y : Bool) → either x y ≡ false → x ≡ false
unfolding either
not_tab true y k = k
not_tab false y k = refl

no_tab : (n t : Bytes) → all (λ b. not (breaks b)) n ≡ true → before_tab (n ++ (9 ∷ t)) ≡ n
unfolding before_tab breaks
no_tab [] t l = refl
no_tab (b ∷ n) t l =
    let h = not-true (breaks b) (all_head (λ b. not (breaks b)) b n l) in
    let e : eqb b 9 ≡ false = not_tab (eqb b 9) _ h in
    rw e (ap (λ s. b ∷ s) (no_tab n t (all_tail (λ b. not (breaks b)) b n l)))

no_tab_alone : (n : Bytes) → all (λ b. not (breaks b)) n ≡ true → before_tab n ≡ n
unfolding before_tab breaks
no_tab_alone [] l = refl
no_tab_alone (b ∷ n) l =
    let h = not-true (breaks b) (all_head (λ b. not (breaks b)) b n l) in
    let e : eqb b 9 ≡ false = not_tab (eqb b 9) _ h in
    rw e (ap (λ s. b ∷ s) (no_tab_alone n (all_tail (λ b. not (breaks b)) b n l)))

-- the first bytes of one run behind another that has fewer
take_behind : (n : ℕ) (xs ys : Bytes) → length xs ≤ n → take n (xs ++ ys) ≡ xs ++ take (n - length xs) ys
take_behind n xs ys h = let e : n ≡ length xs + (n - length xs) = omega arith in ap (λ k. take k (xs ++ ys)) e ∙ take-append-add xs ys (n - length xs)

-- of a tag's line that is kept the name is whole, where it is a name of an event line
name_kept : (n : Bytes) (attrs : List Attr) → plain_field n ≡ true → length n ≤ 16379 → before_tab (take 16380 (n ++ attrs_line attrs)) ≡ n
unfolding plain_field attrs_line
name_kept n [] l h = ap (λ s. before_tab (take 16380 s)) (append-nil n) ∙ (ap before_tab (take_all 16380 n (omega arith)) ∙ no_tab_alone n l)
name_kept n (a ∷ attrs) l h =
    let e : 16380 - length n ≡ suc (16379 - length n) = omega arith in
    ap before_tab (take_behind 16380 n (attrs_line (a ∷ attrs)) (omega arith))
    ∙ (ap (λ k. before_tab (n ++ take k (attrs_line (a ∷ attrs)))) e ∙ no_tab n _ l)

started_kept : (g : FileState) (bytes : Bytes) (r : EventResult) (a : Result Unit RefusedAt) → a ≡ Ok tt → 16387 + length (before_tab (kept_line g)) ≤ length bytes
    → keeps_name r.state.reader.place.level ≡ true → take (started g bytes r a).file.named (drop 16387 (started g bytes r a).file.bytes) ≡ before_tab (kept_line g)
started_kept g bytes r (Err x) e h k = no (cc e)
started_kept g bytes r (Ok u) e h k = go (keeps_name r.state.reader.place.level) k
  where
    go : (b : Bool) → b ≡ true → take (named_behind g bytes r b).file.named (drop 16387 (named_behind g bytes r b).file.bytes) ≡ before_tab (kept_line g)
    go true q = read_back bytes 16387 (before_tab (kept_line g)) h
    go false q = clash q refl

started_place : (g : FileState) (bytes : Bytes) (r : EventResult) (a : Result Unit RefusedAt) → (started g bytes r a).file.state.reader.place ≡ r.state.reader.place
started_place g bytes r (Err x) = refl
started_place g bytes r (Ok u) = go (keeps_name r.state.reader.place.level)
  where
    go : (b : Bool) → (named_behind g bytes r b).file.state.reader.place ≡ r.state.reader.place
    go true = refl
    go false = refl

started_answer : (g : FileState) (bytes : Bytes) (r : EventResult) (a : Result Unit RefusedAt) → (started g bytes r a).answer ≡ r.answer
started_answer g bytes r (Err x) = refl
started_answer g bytes r (Ok u) = go (keeps_name r.state.reader.place.level)
  where
    go : (b : Bool) → (named_behind g bytes r b).answer ≡ r.answer
    go true = refl
    go false = refl

-- where an element that begins is one whose name is kept, it is
start_kept : (empty : Bool) (g : FileState) (n : Bytes) → (start_tag_ends empty g).answer ≡ Ok tt → length g.bytes ≡ 32771 → before_tab (kept_line g) ≡ n → length n ≤ 16379
    → keeps_name (start_tag_ends empty g).file.state.reader.place.level ≡ true → take (start_tag_ends empty g).file.named (drop 16387 (start_tag_ends empty g).file.bytes) ≡ n
unfolding start_tag_ends
start_kept empty g n o l e h k =
    let r = markup_event (tag_line empty g) (at_markup g) in
    let bytes = line_written empty g in
    let room = line_room empty g in
    let a = sym (started_answer g bytes r r.answer) ∙ o in
    started_kept g bytes r r.answer a (omega (arith, room, ap length e)) (ap (λ (p : Place). keeps_name p.level) (sym (started_place g bytes r r.answer)) ∙ k) ∙ e

-- ---- an accepted event's line reads as its event

read_accepted : (l : Bytes) (s : State) (r : Refusal) → (event_on l s).answer ≡ Ok tt → event_of l ≡ refused r → ⊥
unfolding step_of decide
read_accepted l s r a e =
    let w = event_goes l s a in
    let f : step_of (decide_reading (event_of l) s.reader.place) s ≡ goes w.1.0 = w.1.1.0 in
    let z = ap (λ x. step_of (decide_reading x s.reader.place) s) (sym e) ∙ f in
    no (cc z)

record ReadSo (empty : Bool) (n : Bytes) (attrs : List Attr) : Type 0 where
  reading : event_of (line_of (starts empty n attrs)) ≡ reads (starts empty n attrs)
  short : length (tabbed (event_fields (starts empty n attrs))) ≤ 16384

accepted_so : (m : Markup) (empty : Bool) (n a : Bytes) (attrs : List Attr) (s : State) → legal_markup m ≡ true → meaning_of m ≡ means_event (starts empty n attrs) a
    → (event_on (line_of (starts empty n attrs)) s).answer ≡ Ok tt → ReadSo empty n attrs
accepted_so m empty n a attrs s l q o =
    let e = starts empty n attrs in
    let j : event_of (line_of e) ≡ line_reading e = line_judged m e a l q in
    by_bool (ltb 16384 (length (tabbed (event_fields e))))
    (λ t. absurd (read_accepted (line_of e) s R.LongLine o (j ∙ rw t refl)))
    (λ t. by_bool (none_twice attrs)
    (λ x. record { reading = j ∙ rw (t, x) refl; short = ltb-false 16384 (length (tabbed (event_fields e))) t })
    (λ x. absurd (read_accepted (line_of e) s R.NotEventLine o (j ∙ rw (t, x) refl))))

first_short : (n : Bytes) (fs : List Bytes) → length n ≤ length (tabbed (n ∷ fs))
unfolding tabbed
first_short n [] = omega arith
first_short n (f ∷ fs) = omega (arith, length-append n (9 ∷ tabbed (f ∷ fs)))

name_short : (empty : Bool) (n : Bytes) (attrs : List Attr) → length (tabbed (event_fields (starts empty n attrs))) ≤ 16384 → length n ≤ 16379
unfolding tabbed
name_short false n attrs h = let k = first_short n (attr_fields attrs) in omega arith
name_short true n attrs h = let k = first_short n (attr_fields attrs) in omega arith

-- ---- what stands open behind a part

abbrev pub kept_name : FileState → Bytes
kept_name f = take f.named (drop 16387 f.bytes)

-- the names of the elements that are open are those that the place of the reader has, with the name that is kept
abbrev pub Named : FileState → List Bytes → Type 0
Named f names = StandOpen f.state.reader.place.level f.state.reader.place (kept_name f) names

pub name_is_innermost : (f : FileState) (names : List Bytes) → Named f names → open_name f ≡ innermost names
unfolding open_name
name_is_innermost f names w = stands_innermost f.state.reader.place.level f.state.reader.place (kept_name f) names w

-- kept or not, it is the name of the element that begins
kept_so : (f : FileState) (n : Bytes) (names : List Bytes) → (keeps_name f.state.reader.place.level ≡ true → kept_name f ≡ n)
    → StandOpen f.state.reader.place.level f.state.reader.place n names → Named f names
kept_so f n names h w =
    by_bool (keeps_name f.state.reader.place.level)
    (λ t. subst (λ x. StandOpen f.state.reader.place.level f.state.reader.place x names) (sym (h t)) w)
    (λ t. unkept_stands f.state.reader.place.level f.state.reader.place n (kept_name f) names t w)

-- a start tag that is accepted has a name that is kept whole
pub start_short : (m : Markup) (before : Before) (f : FileState) (w : StandsSound before f) (l : legal_markup_at (is_first before) m
    ≡ true) (h : f.state.reader.lines < 18446744073709551615)
    (empty : Bool) (n : Bytes) (attrs : List Attr) → meaning_of m ≡ means_event (starts empty n attrs) n →
    (file_bytes (encoded (written_markup m)) f).answer ≡ Ok tt → length n ≤ 16379
start_short m before f w l h empty n attrs q o =
    let s = line_of (starts empty n attrs) in
    let i = start_alone m before f w l h empty n n attrs q in
    let e = alone_is m before f w l h in
    let c : (event_on s f.state).answer ≡ Ok tt = told_ok (event_on s f.state).answer
    (sym (ap (λ (x : Outcome). x.answer) i) ∙ (ap (λ (x : FileResult). unlined_answer x.answer) (sym e) ∙ ap unlined_answer o)) in
    name_short empty n attrs (accepted_so m empty n n attrs f.state (both_right (may_stand (is_first before) m) _ l) q c).short

module _ (m : Markup) (before : Before) (f : FileState) (w : StandsSound before f) (l : legal_markup_at (is_first before) m
    ≡ true) (h : f.state.reader.lines < 18446744073709551615)
    (names : List Bytes) (u : Named f names) where
  abbrev k : MarkupTold m [] f
  k = markup_told m [] before f w.place w.room l

  abbrev g : FileState
  g = markup_passed m k.bytes k.used f

  abbrev r : FileResult
  r = markup_ended (meaning_kept (meaning_of m)) g

  start_names : (empty : Bool) (n : Bytes) (attrs : List Attr) → meaning_of m ≡ means_event (starts empty n attrs) n → r.answer ≡ Ok tt → Named r.file (with_start empty n names)
  unfolding markup_ended
  start_names empty n attrs q o =
      let s = line_of (starts empty n attrs) in
      let i = start_alone m before f w l h empty n n attrs q in
      let c : (event_on s f.state).answer ≡ Ok tt = told_ok (event_on s f.state).answer (sym (ap (λ (x : Outcome). x.answer) i) ∙ ap unlined_answer o) in
      let v = event_stands s (meaning_kept (meaning_of m)) g f.state k.room i c in
      let p : r.file.state.reader.place ≡ (event_on s f.state).state.reader.place = ap (λ (x : State). x.reader.place) v.same in
      let x = accepted_so m empty n n attrs f.state (both_right (may_stand (is_first before) m) _ l) q c in
      let t = start_leads s f.state (relined f.state w.given) c empty n attrs x.reading in
      let e = start_stands n (kept_name f) f.state.reader.place (event_on s f.state).state.reader.place names empty u t in
      let z : r ≡ start_tag_ends empty g = ap (λ y. markup_ended (meaning_kept y) g) q in
      let short = name_short empty n attrs x.short in
      let kept : before_tab (kept_line g) ≡ n = ap before_tab (k.line ∙ ap (λ y. take 16380 (meant_line y)) q) ∙ name_kept n attrs (name_plain s empty n attrs x.reading) short in
      kept_so r.file n (with_start empty n names)
      (λ y. ap (λ (a : FileResult). kept_name a.file) z
      ∙ start_kept empty g n (ap (λ (a : FileResult). a.answer) (sym z) ∙ o) k.room kept short (ap (λ (a : FileResult). keeps_name a.file.state.reader.place.level) (sym z)
      ∙ y))
      (subst (λ (y : Place). StandOpen y.level y n (with_start empty n names)) (sym p) e)

  end_names : (n : Bytes) → meaning_of m ≡ means_event closes n → r.answer ≡ Ok tt → Named r.file (behind_innermost names)
  unfolding written_file
  end_names n q o =
      let s = line_of closes in
      let i = event_is m [] before f f.state (alike before f w) k closes n q h h
      (λ z. let y : ◌≡◌ {A = Result Unit Refusal} (Ok tt) (Err R.UnmatchedEndTag) = sym (ap unlined_answer o) ∙ z in no (cc y)) in
      let c : (event_on s f.state).answer ≡ Ok tt = told_ok (event_on s f.state).answer (sym (ap (λ (x : Outcome). x.answer) i) ∙ ap unlined_answer o) in
      let v = event_stands s (meaning_kept (meaning_of m)) g f.state k.room i c in
      let p : closed f.state.reader.place ≡ r.file.state.reader.place = close_leads s f.state (relined f.state w.given) c close_reads
      ∙ sym (ap (λ (x : State). x.reader.place) v.same) in
      let e = close_stands f.state.reader.place (kept_name f) (kept_name r.file) names u in
      subst (λ (y : Place). StandOpen y.level y (kept_name r.file) (behind_innermost names)) p e

  skip_names : meaning_of m ≡ no_event → Named r.file names
  unfolding markup_ended
  skip_names q =
      let z : r ≡ skipped g = ap (λ y. markup_ended (meaning_kept y) g) q in
      let e : kept_name (skipped g).file ≡ kept_name f = ap (take f.named) k.name in
      subst (λ (y : FileResult). Named y.file names) (sym z) (subst (λ x. StandOpen f.state.reader.place.level f.state.reader.place x names) (sym e) u)

pub part_names : (p : FilePart) (before : Before) (f : FileState) (names : List Bytes) → StandsSound before f → legal_at before p ≡ true
    → f.state.reader.lines < 18446744073709551615 → Named f names
    → (file_bytes (written_part p) f).answer ≡ Ok tt → Named (file_bytes (written_part p) f).file (part_opens p names)
unfolding legal_at meaning_of
part_names (text_between t) before f names w l h u o = subst (λ (y : FileResult). Named y.file names) (sym (text_alone t before f w.place l)) u
part_names (markup_part (start_tag empty n xs gap)) before f names w l h u o =
    let m = start_tag empty n xs gap in
    let e = alone_is m before f w l h in
    subst (λ (y : FileResult). Named y.file (with_start empty (encoded n) names)) (sym e)
    (start_names m before f w l h names u empty (encoded n) (attrs_meant xs) refl (ap (λ (x : FileResult). x.answer) (sym e) ∙ o))
part_names (markup_part (end_tag n gap)) before f names w l h u o =
    let m = end_tag n gap in
    let e = alone_is m before f w l h in
    subst (λ (y : FileResult). Named y.file (behind_innermost names)) (sym e) (end_names m before f w l h names u (encoded n) refl (ap (λ (x : FileResult). x.answer) (sym e) ∙ o))
part_names (markup_part (comment ps)) before f names w l h u o =
    let m = comment ps in
    subst (λ (y : FileResult). Named y.file names) (sym (alone_is m before f w l h)) (skip_names m before f w l h names u refl)
part_names (markup_part (instruction t gap cs)) before f names w l h u o =
    let m = instruction t gap cs in
    subst (λ (y : FileResult). Named y.file names) (sym (alone_is m before f w l h)) (skip_names m before f w l h names u refl)
part_names (markup_part (declaration d)) before f names w l h u o =
    let m = declaration d in
    subst (λ (y : FileResult). Named y.file names) (sym (alone_is m before f w l h)) (skip_names m before f w l h names u refl)

-- where a file is accepted, the name that the next end tag must have is that of the innermost element that is open: none before the root and behind it
pub names_in_file : (ps : List FilePart) (before : Before) (f : FileState) (names : List Bytes) → legal_file before ps ≡ true → StandsSound before f
    → f.state.reader.lines + length (written_file ps) < 18446744073709551615 → Named f names → (file_bytes (written_file ps) f).answer ≡ Ok tt
    → Named (file_bytes (written_file ps) f).file (open_names ps names)
unfolding legal_file written_file file_bytes open_names
names_in_file [] before f names l w h u o = u
names_in_file (p ∷ ps) before f names l w h u o =
    let lp = both_left (legal_at before p) (legal_file (before_behind before p) ps) l in
    let n = length-append (written_part p) (written_file ps) in
    let whole = bytes_pieces (written_part p) (written_file ps) f in
    by_part (file_bytes (written_part p) f).answer
    (λ a. let e : file_bytes (written_part p ++ written_file ps) f ≡ file_bytes (written_file ps) (file_bytes (written_part p) f).file =
    whole ∙ ap (λ x. bytes_onward (file_bytes (written_file ps)) x (file_bytes (written_part p) f).file) a in
    let v = part_keeps p before f w lp (omega arith) a in
    subst (λ (y : FileResult). Named y.file (open_names ps (part_opens p names))) (sym e)
    (names_in_file ps (before_behind before p) (file_bytes (written_part p) f).file (part_opens p names) (both_right (legal_at before p) _ l) v.0 (omega (arith, v.1))
    (part_names p before f names w lp (omega arith) u a) (ap (λ (x : FileResult). x.answer) (sym e) ∙ o)))
    (λ x a. let z : ◌≡◌ {A = Result Unit RefusedAt} (Err x) (Ok tt) =
    ap (λ b. (bytes_onward (file_bytes (written_file ps)) b (file_bytes (written_part p) f).file).answer) (sym a) ∙ (ap (λ (y : FileResult). y.answer) (sym whole) ∙ o) in
    no (cc z))

-- before the root no element is open
pub none_named : (f : FileState) → f.state.reader.place.level ≡ L.Doc → Named f []
none_named f d = subst (λ x. StandOpen x f.state.reader.place (kept_name f) []) (sym d) refl

-- so the open name of a file that was accepted so far is the innermost one
pub open_name_in_file : (ps : List FilePart) (before : Before) (f : FileState) → legal_file before ps ≡ true → StandsSound before f
    → f.state.reader.lines + length (written_file ps) < 18446744073709551615 → f.state.reader.place.level ≡ L.Doc → (file_bytes (written_file ps) f).answer ≡ Ok tt
    → open_name (file_bytes (written_file ps) f).file ≡ innermost (open_names ps [])
open_name_in_file ps before f l w h d o = name_is_innermost (file_bytes (written_file ps) f).file (open_names ps []) (names_in_file ps before f [] l w h (none_named f d) o)
