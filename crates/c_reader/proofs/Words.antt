-- A reader is what its words stand for, and words that are a reader's are its words: each code names one, and each is named by one.
use Rattle.reader.specs.declared.RefusedAt.{RefusedAt}
use Rattle.std.specs.Prelude.{Err, Some, Option, None}
use Prim.Native.Nat.{ℕ, zero, suc, ◌+◌, ◌<◌, ◌≤◌}
use mathlib.Core.Path.{◌≡◌, refl, sym, ◌∙◌, ap}
use mathlib.Core.Bool.{true, false, not}
use mathlib.Core.Logic.{◌↔◌}
use mathlib.Core.List.{List, [], ◌∷◌}
use native.Mathlib.Omega.{arith}
use lib.Dec.{leb, eqb}
use lib.IntN.{ℤ, pos}
use lib.ListN.{length, take, drop}
use lib.Seq.{drop-cons, drop-length}
use mir.Syntax.{w32}
use mir.Val.{of_z, SFits}
use mir.Facts.{to_z-of_z, of_z-to_z, Fits-of_z, sfits_lit, sfits_to_z}
use borrow.Author.Tests.{leb-true, eqb-true, lt-ltb, ne_eqb}
use Rattle.base.specs.Bytes.{Bytes, both, either}
use Rattle.base.proofs.Split.{both_left, both_right, both_of, by_bool, by_eq, by_either, clash}
use Rattle.refusal.specs.Refusal.{number_of, held_of}
use Rattle.refusal.specs.declared.Refusal.{Refusal}
use Rattle.refusal.specs.declared.Refusal.TheVariants as R
use Rattle.kind.specs.Kind.{kind_number as kind_word}
use Rattle.kind.specs.declared.Kind.{Kind}
use Rattle.kind.specs.declared.Kind.TheVariants.{Node, Way, Relation}
use Rattle.nesting.specs.declared.Action.{Action}
use Rattle.nesting.specs.declared.Action.TheVariants.{Create, Modify, Delete}
use Rattle.nesting.specs.declared.Level.{Level}
use Rattle.nesting.specs.declared.Level.TheVariants.{Doc, Root, Section, Element, Leaf, Other, Done}
use Rattle.overlay.specs.Given.{head_fits, meta_fits}
use Rattle.reader.specs.State.{State, fresh_reader, refusal_at, stops_by, is_stopped}
use Rattle.reader.specs.Event.{stopped_at, event_on}
use Rattle.reader.proofs.Events.{by_refused}
use Rattle.reader.specs.declared.EventReader.{EventReader}
use Rattle.c_reader.specs.Words.{level_word, section_word, mark_number, mark_line, mark_held, words_of_reader, word_at, level_in, section_in, kind_in, refusal_numbered, stop_in, reader_in, place_coded, head_coded, meta_coded, stop_coded, is_reader, reader_of_words}
use Rattle.c_reader.proofs.Codes.{below, numbers_stop, stopping_most}
use Rattle.c_reader.proofs.Fits.{place_of, stop_of, held_within}

-- 19 zeros are a fresh reader
pub fresh_words : reader_of_words (0 ∷ 0 ∷ 0 ∷ 0 ∷ 0 ∷ 0 ∷ 0 ∷ 0 ∷ 0 ∷ 0 ∷ 0 ∷ 0 ∷ 0 ∷ 0 ∷ 0 ∷ 0 ∷ 0 ∷ 0 ∷ 0 ∷ []) ≡ Some fresh_reader
unfolding reader_of_words is_reader place_coded head_coded meta_coded stop_coded stop_in refusal_numbered both either
fresh_words = refl

-- a refused event changes the three words of its stop mark alone
pub stopped_words : (r : EventReader) (x : Refusal) (line : ℕ) → take 16 (words_of_reader (stopped_at r x line)) ≡ take 16 (words_of_reader r)
unfolding words_of_reader
stopped_words r x line = refl

-- ---- words that are codes

level_code : (n : ℕ) → n ≤ 6 → level_word (level_in n) ≡ n
level_code n h = below (λ (i : ℕ). level_word (level_in i) ≡ i) 7 n (omega arith) (refl, (refl, (refl, (refl, (refl, (refl, (refl, tt)))))))

section_code : (n : ℕ) → n ≤ 2 → section_word (section_in n) ≡ n
section_code n h = below (λ (i : ℕ). section_word (section_in i) ≡ i) 3 n (omega arith) (refl, (refl, (refl, tt)))

kind_code : (n : ℕ) → n ≤ 2 → kind_word (kind_in n) ≡ n
kind_code n h = below (λ (i : ℕ). kind_word (kind_in i) ≡ i) 3 n (omega arith) (refl, (refl, (refl, tt)))

module _ (held : ℕ) where
  refusal_code : (n : ℕ) → n < 26 → number_of (refusal_numbered (suc n) held) ≡ suc n
  unfolding refusal_numbered
  refusal_code n h = below (λ (i : ℕ). number_of (refusal_numbered (suc i) held) ≡ suc i) 26 n h (refl, (refl, (refl, (refl, (refl, (refl, (refl, (refl, (refl, (refl, (refl, (refl, (refl, (refl, (refl, (refl, (refl, (refl, (refl, (refl, (refl, (refl, (refl, (refl, (refl, (refl, tt))))))))))))))))))))))))))

  number_named : (n : ℕ) → (n ≡ 0 → ⊥) → n ≤ 26 → number_of (refusal_numbered n held) ≡ n
  number_named zero d h = absurd (d refl)
  number_named (suc n) d h = refusal_code n (omega arith)

  held_none : (n : ℕ) → n < 26 → (n ≡ 11 → ⊥) → held_of (refusal_numbered (suc n) held) ≡ pos 0
  unfolding refusal_numbered
  held_none n h = below (λ (i : ℕ). (i ≡ 11 → ⊥) → held_of (refusal_numbered (suc i) held) ≡ pos 0) 26 n h (λ d. refl, (λ d. refl, (λ d. refl, (λ d. refl, (λ d. refl, (λ d. refl, (λ d. refl, (λ d. refl, (λ d. refl, (λ d. refl, (λ d. refl, (λ d. refl, (λ d. refl, (λ d. refl, (λ d. absurd (d refl), (λ d. refl, (λ d. refl, (λ d. refl, (λ d. refl, (λ d. refl, (λ d. refl, (λ d. refl, (λ d. refl, (λ d. refl, (λ d. refl, (λ d. refl, tt))))))))))))))))))))))))))

-- ---- a mark's words

-- a mark is a refusal that an event leaves, and its HELD a number of 32 bits
abbrev pub MarkFits : Option RefusedAt → Type 0
MarkFits None = Unit {0}
MarkFits (Some a) = (stops_by a.refusal ≡ true) × SFits w32 (held_of a.refusal)

-- the mark of three words has those words
pub record MarkBack (number line held : ℕ) : Type 0 where
  pub number_is : mark_number (stop_in number line held) ≡ number
  pub line_is : mark_line (stop_in number line held) ≡ line
  pub held_is : mark_held (stop_in number line held) ≡ held

module _ (number line held : ℕ) (e : stop_coded number line held ≡ true) where
  number_most : number ≤ 26
  unfolding stop_coded
  number_most =
      by_either _ _ (both_left _ _ e)
      (λ z. let y = eqb-true number 0 z in omega arith)
      (λ t. stopping_most number (sym (numbers_stop number held) ∙ t))

  line_none : number ≡ 0 → line ≡ 0
  unfolding stop_coded either
  line_none z = eqb-true _ _ (rw z at (both_left _ _ (both_right _ _ e)))

  held_zero : (number ≡ 12 → ⊥) → held ≡ 0
  unfolding stop_coded either
  held_zero d = eqb-true _ _ (rw (ne_eqb number 12 d) at (both_right _ _ (both_right _ _ (both_right _ _ e))))

  held_twelve : (n : ℕ) → n ≡ 11 → of_z w32 (held_of (refusal_numbered (suc n) held)) ≡ held
  unfolding refusal_numbered
  held_twelve n g = rw g (of_z-to_z {w = w32} (record { fits = held_within number line held e }))

  held_fits : (n : ℕ) → number ≡ suc n → SFits w32 (held_of (refusal_numbered number held))
  unfolding refusal_numbered
  held_fits n f =
      rw f (by_eq n 11
      (λ g. rw g (sfits_to_z (record { fits = held_within number line held e })))
      (λ d. rw (held_none held n (omega (arith, number_most)) d) (sfits_lit tt)))

  mark_stops : (number ≡ 0 → ⊥) → stops_by (refusal_numbered number held) ≡ true
  unfolding stop_coded
  mark_stops d = by_either _ _ (both_left _ _ e) (λ z. absurd (d (eqb-true number 0 z))) (λ t. t)

  held_word : (n : ℕ) → number ≡ suc n → of_z w32 (held_of (refusal_numbered (suc n) held)) ≡ held
  held_word n f =
      by_eq n 11 (λ g. held_twelve n g) (λ d. rw (held_none held n (omega (arith, number_most)) d) (sym (held_zero (λ g. d (omega arith)))))

  marked : (n : ℕ) → number ≡ suc n → MarkBack number line held
  unfolding stop_in
  marked n f =
      let d = ne_eqb number 0 (λ z. let y : ◌≡◌ {A = ℕ} 0 (suc n) = sym z ∙ f in omega arith) in
      record {
        number_is = rw (d, f) (refusal_code held n (omega (arith, number_most)));
        line_is = rw d;
        held_is = rw (d, f) (held_word n f);
      }

  unmarked : number ≡ 0 → MarkBack number line held
  unfolding stop_in
  unmarked z =
      record {
        number_is = rw z;
        line_is = rw z (sym (line_none z));
        held_is = rw z (sym (held_zero (λ g. let y : ◌≡◌ {A = ℕ} 0 12 = sym z ∙ g in omega arith)));
      }

pub mark_back : (number line held : ℕ) → stop_coded number line held ≡ true → MarkBack number line held
mark_back zero line held e = unmarked zero line held e refl
mark_back (suc n) line held e = marked (suc n) line held e n refl

-- and it is one that an event leaves, or none
pub mark_fits : (number line held : ℕ) → stop_coded number line held ≡ true → MarkFits (stop_in number line held)
unfolding stop_in
mark_fits zero line held e = tt
mark_fits (suc n) line held e = rw (ne_eqb (suc n) 0 (λ z. omega (arith, z))) (mark_stops (suc n) line held e (λ z. omega (arith, z)), held_fits (suc n) line held e n refl)

-- ---- all words

-- words from a place on, one by one
words_from : List ℕ → ℕ → ℕ → List ℕ
words_from w zero i = []
words_from w (suc n) i = word_at w i ∷ words_from w n (suc i)

words_are : (w : List ℕ) (n i : ℕ) → length w ≡ i + n → words_from w n i ≡ drop i w
unfolding words_from
words_are w zero i e =
    let l : length w ≡ i = omega (arith, e) in
    sym (rw l at (drop-length w))
words_are w (suc n) i e = rw (words_are w n (suc i) (omega (arith, e))) (sym (drop-cons w i 0 (omega (arith, e))))

-- words that are a reader's are its words
pub words_back : (w : List ℕ) → length w ≡ 19 → is_reader w ≡ true → words_of_reader (reader_in w) ≡ w
unfolding words_of_reader place_coded words_from
words_back w l e =
    let p = place_of w e in
    let m = mark_back (word_at w 16) (word_at w 17) (word_at w 18) (stop_of w e) in
    rw (
      level_code (word_at w 0) (leb-true _ _ (both_left _ _ p)),
      section_code (word_at w 1) (leb-true _ _ (both_left _ _ (both_right _ _ p))),
      kind_code (word_at w 2) (leb-true _ _ (both_right _ _ (both_right _ _ p))),
      m.number_is,
      m.line_is,
      m.held_is,
    ) (words_are w 19 0 l)

-- a reader of words with a number is stopped: of no mark it has to be decided whether it stops
pub stopped_by_number : (w : List ℕ) → is_reader w ≡ true → is_stopped (reader_in w).stop ≡ not (eqb (word_at w 16) 0)
unfolding stop_in
stopped_by_number w e =
    by_eq (word_at w 16) 0
    (λ z. rw z)
    (λ d. rw (ne_eqb (word_at w 16) 0 d, mark_stops (word_at w 16) (word_at w 17) (word_at w 18) (stop_of w e) d))

-- words with a number that no event leaves are no reader's
pub number_left : (w : List ℕ) → (word_at w 16 ≡ 0 → ⊥) → ((r : Refusal) → number_of r ≡ word_at w 16 → stops_by r ≡ false) → reader_of_words w ≡ None
unfolding reader_of_words
number_left w d f =
    by_bool (is_reader w)
    (λ e.
    let m = stop_of w e in
    clash (mark_stops (word_at w 16) (word_at w 17) (word_at w 18) m d)
    (f (refusal_numbered (word_at w 16) (word_at w 18)) (number_named (word_at w 18) (word_at w 16) d (number_most (word_at w 16) (word_at w 17) (word_at w 18) m))))
    (λ e. rw e)

-- ---- a reader read back

levels_coded : (l : Level) → (leb (level_word l) 6 ≡ true) × (level_in (level_word l) ≡ l)
levels_coded Doc = (refl, refl)
levels_coded Root = (refl, refl)
levels_coded Section = (refl, refl)
levels_coded Element = (refl, refl)
levels_coded Leaf = (refl, refl)
levels_coded Other = (refl, refl)
levels_coded Done = (refl, refl)

sections_coded : (a : Action) → (leb (section_word a) 2 ≡ true) × (section_in (section_word a) ≡ a)
sections_coded Create = (refl, refl)
sections_coded Modify = (refl, refl)
sections_coded Delete = (refl, refl)

kinds_coded : (k : Kind) → (leb (kind_word k) 2 ≡ true) × (kind_in (kind_word k) ≡ k)
kinds_coded Node = (refl, refl)
kinds_coded Way = (refl, refl)
kinds_coded Relation = (refl, refl)

refusals_coded : (r : Refusal) (line : ℕ) → stops_by r ≡ true → SFits w32 (held_of r)
    → (stop_coded (number_of r) line (of_z w32 (held_of r)) ≡ true) × (stop_in (number_of r) line (of_z w32 (held_of r)) ≡ Some (refusal_at r line))
unfolding stops_by stop_coded stop_in refusal_numbered both either
refusals_coded R.Size line t f = clash t refl
refusals_coded R.LongLine line t f = (refl, refl)
refusals_coded R.NotText line t f = (refl, refl)
refusals_coded R.NotEventLine line t f = (refl, refl)
refusals_coded R.Misplaced line t f = (refl, refl)
refusals_coded R.OutsideSection line t f = (refl, refl)
refusals_coded R.Missing line t f = (refl, refl)
refusals_coded R.NotInteger line t f = (refl, refl)
refusals_coded R.NotTimestamp line t f = (refl, refl)
refusals_coded R.CoordinateRange line t f = (refl, refl)
refusals_coded R.MemberType line t f = (refl, refl)
refusals_coded (R.Regression v) line t f = (rw (lt-ltb (of_z w32 v) 4294967296 (Fits-of_z f).fits), ap (λ (z : ℤ). Some (refusal_at (R.Regression z) line)) (to_z-of_z f))
refusals_coded R.StringsFull line t f = (refl, refl)
refusals_coded R.IdsFull line t f = (refl, refl)
refusals_coded R.ArenaFull line t f = (refl, refl)
refusals_coded R.TooManyParts line t f = (refl, refl)
refusals_coded R.BadRecord line t f = clash t refl
refusals_coded R.Unfinished line t f = clash t refl
refusals_coded R.ShortOutput line t f = clash t refl
refusals_coded R.NotInOrder line t f = clash t refl
refusals_coded R.NoSuchNumber line t f = clash t refl
refusals_coded R.Unsound line t f = clash t refl
refusals_coded R.NotDegrees line t f = (refl, refl)
refusals_coded R.BothForms line t f = (refl, refl)
refusals_coded R.NotMarkup line t f = (refl, refl)
refusals_coded R.UnmatchedEndTag line t f = (refl, refl)

marks_coded : (m : Option RefusedAt) → MarkFits m → (stop_coded (mark_number m) (mark_line m) (mark_held m) ≡ true) × (stop_in (mark_number m) (mark_line m) (mark_held m) ≡ m)
unfolding stop_coded stop_in both either
marks_coded None f = (refl, refl)
marks_coded (Some a) f = refusals_coded a.refusal a.line f.0 f.1

-- three words are those of no mark, or of a mark that an event leaves
pub record IsMark (number line held : ℕ) : Type 0 where
  pub mark : Option RefusedAt
  pub fits : MarkFits mark
  pub number_is : mark_number mark ≡ number
  pub line_is : mark_line mark ≡ line
  pub held_is : mark_held mark ≡ held

pub marks_exactly : (number line held : ℕ) → (stop_coded number line held ≡ true) ↔ IsMark number line held
marks_exactly number line held = (
  λ e. let m = mark_back number line held e in record {
    mark = stop_in number line held;
    fits = mark_fits number line held e;
    number_is = m.number_is;
    line_is = m.line_is;
    held_is = m.held_is;
  },
  λ m. rw (← m.number_is, ← m.line_is, ← m.held_is) (marks_coded m.mark m.fits).0,
)

-- each number of a reader within its type
pub record ReaderFits (r : EventReader) : Type 0 where
  pub head : head_fits r.pending.head ≡ true
  pub meta : meta_fits r.pending.meta ≡ true
  pub mark : MarkFits r.stop

module _ (r : EventReader) (f : ReaderFits r) where
  place_coded_lem : place_coded (words_of_reader r) ≡ true
  unfolding words_of_reader place_coded
  place_coded_lem = both_of (levels_coded r.place.level).0 (both_of (sections_coded r.place.section).0 (kinds_coded r.place.kind).0)

  head_coded_lem : head_coded (words_of_reader r) ≡ true
  unfolding words_of_reader head_coded head_fits
  head_coded_lem = both_right _ _ f.head

  meta_coded_lem : meta_coded (words_of_reader r) ≡ true
  unfolding words_of_reader meta_coded meta_fits
  meta_coded_lem =
      let a = f.meta in
      let b = both_right _ _ a in
      both_of (both_left _ _ a) (both_of (both_left _ _ b) (both_right _ _ (both_right _ _ (both_right _ _ b))))

  is_reader_lem : is_reader (words_of_reader r) ≡ true
  unfolding is_reader words_of_reader
  is_reader_lem = both_of place_coded_lem (both_of head_coded_lem (both_of meta_coded_lem (marks_coded r.stop f.mark).0))

  reader_in_lem : reader_in (words_of_reader r) ≡ r
  unfolding words_of_reader
  reader_in_lem =
      rw ((levels_coded r.place.level).1, (sections_coded r.place.section).1, (kinds_coded r.place.kind).1, (marks_coded r.stop f.mark).1)

  -- a reader's words stand for it
  pub reader_back : reader_of_words (words_of_reader r) ≡ Some r
  unfolding reader_of_words
  reader_back = rw (is_reader_lem, reader_in_lem)

-- a reader that a refusal stopped is read back as it was left
pub stopped_back : (r : EventReader) → ReaderFits r → (x : Refusal) (line : ℕ) → stops_by x ≡ true → SFits w32 (held_of x)
    → reader_of_words (words_of_reader (stopped_at r x line)) ≡ Some (stopped_at r x line)
stopped_back r f x line t h = reader_back (stopped_at r x line) (record { head = f.head; meta = f.meta; mark = (t, h) })

-- so is that of each refused event
pub event_back : (line : Bytes) (s : State) → ReaderFits s.reader → (r : Refusal) (n : ℕ) → (event_on line s).answer ≡ Err (refusal_at r n) → SFits w32 (held_of r)
    → reader_of_words (words_of_reader (event_on line s).state.reader) ≡ Some (event_on line s).state.reader
event_back line s f r n a h = by_refused line s r n a (λ u k j w. rw w (reader_back s.reader f)) (λ u t w. rw w (stopped_back s.reader f r n t h))
