-- The automaton reads exactly the legal start tags and empty-element tags, as the events that they mean.
use Rattle.markup.specs.Automaton.{Moved, continues, completes, malformed, finished, lexed, inner_step, ValueState, in_value, value_step, ElementParts, StartTagState, in_name, behind_part, in_attribute_name, behind_attribute_name, behind_equals_sign, in_attribute_value, behind_slash, with_attr, start_meant, part_ended, attribute_name_ended, start_tag_step}
use Rattle.markup.specs.Names.{white_space, name_start_char, name_char, is_name, no_chars, some_space}
use Rattle.markup.specs.Markup.{each_written, QuoteMark, double_mark, single_mark, mark_char, ValuePart, legal_part, written_part, value_chars, XmlAttribute, legal_attribute, written_attribute, attr_meant, attrs_meant, start_tag, legal_markup, may_stand, written_markup, Meaning, meaning_of}
use Rattle.markup.proofs.Lexing.{Kept, moved_char, inner_lexed}
use Rattle.markup.proofs.Parts.{all_more, name_more, written_more, some_more, some_space_of}
use Rattle.markup.proofs.Names.{apart, start_named, named_black, slash_unnamed, end_unnamed, slash_black, end_black, equals_unnamed, equals_black, double_black, single_black, name_first, name_rest, name_of, Unnamed, space_unnamed, some_unnamed}
use Rattle.markup.proofs.Readings.{MarkupRead}
use Rattle.markup.proofs.Values.{ValueRead, ValueReading, value_begins, value_kept, parts_read}
use Prim.Native.Nat.{ℕ}
use mathlib.Core.Path.{◌≡◌, refl, sym, ◌∙◌, ap}
use mathlib.Core.Bool.{Bool, true, false, cond, not}
use mathlib.Core.List.{List, [], ◌∷◌, ◌++◌, append_assoc, append-nil}
use lib.Dec.{eqb}
use borrow.Author.Tests.{eqb-true}
use Rattle.base.specs.Bytes.{both, all}
use Rattle.base.proofs.Split.{clash, by_bool, both_left, both_right, both_of}
use Rattle.base.proofs.Lists.{all_nil, all_head, all_tail}
use Rattle.event.specs.Event.{Attr}
use Rattle.text.specs.Text.{encoded}

-- ---- what is read

-- `<`, an element's name and legal attributes with the meaning so far
pub record ElementReading (before : List ℕ → List ℕ) (e : ElementParts) : Type 0 where
  pub attributes : List XmlAttribute
  pub named : is_name e.name ≡ true
  pub legal : all legal_attribute attributes ≡ true
  pub meaning : e.attrs ≡ attrs_meant attributes
  pub text : (s : List ℕ) → before s ≡ 60 ∷ (e.name ++ (each_written written_attribute attributes ++ s))

-- and white space
pub record TagGapReading (before : List ℕ → List ℕ) (e : ElementParts) (spaced : Bool) : Type 0 where
  pub outer : List ℕ → List ℕ
  pub element : ElementReading outer e
  pub gap : List ℕ
  pub legal : all white_space gap ≡ true
  pub some : spaced ≡ not (no_chars gap)
  pub text : (s : List ℕ) → before s ≡ outer (gap ++ s)

-- and the beginning of an attribute's name
pub record AttributeNameReading (before : List ℕ → List ℕ) (e : ElementParts) (a : List ℕ) : Type 0 where
  pub outer : List ℕ → List ℕ
  pub element : ElementReading outer e
  pub gap : List ℕ
  pub legal : some_space gap ≡ true
  pub named : is_name a ≡ true
  pub text : (s : List ℕ) → before s ≡ outer (gap ++ (a ++ s))

-- and white space before the equals sign
pub record TagBeforeReading (before : List ℕ → List ℕ) (e : ElementParts) (a : List ℕ) : Type 0 where
  pub outer : List ℕ → List ℕ
  pub name : AttributeNameReading outer e a
  pub gap : List ℕ
  pub legal : all white_space gap ≡ true
  pub text : (s : List ℕ) → before s ≡ outer (gap ++ s)

-- and the equals sign and white space behind it
pub record TagEqualsReading (before : List ℕ → List ℕ) (e : ElementParts) (a : List ℕ) : Type 0 where
  pub outer : List ℕ → List ℕ
  pub head : TagBeforeReading outer e a
  pub gap : List ℕ
  pub legal : all white_space gap ≡ true
  pub text : (s : List ℕ) → before s ≡ outer (61 ∷ (gap ++ s))

-- and a quote mark and the beginning of a value
pub record AttributeReading (before : List ℕ → List ℕ) (e : ElementParts) (a : List ℕ) (q : QuoteMark) (v : ValueState) : Type 0 where
  pub outer : List ℕ → List ℕ
  pub head : TagEqualsReading outer e a
  pub inner : List ℕ → List ℕ
  pub value : ValueReading q inner v
  pub text : (s : List ℕ) → before s ≡ outer (mark_char q ∷ inner s)

-- or white space and the slash
pub record SlashReading (before : List ℕ → List ℕ) (e : ElementParts) : Type 0 where
  pub outer : List ℕ → List ℕ
  pub spaced : Bool
  pub gap : TagGapReading outer e spaced
  pub text : (s : List ℕ) → before s ≡ outer (47 ∷ s)

unfoldable pub StartTagReading : (List ℕ → List ℕ) → StartTagState → Type 0
StartTagReading before (in_name n) = (is_name n ≡ true) × ((s : List ℕ) → before s ≡ 60 ∷ (n ++ s))
StartTagReading before (behind_part e spaced) = TagGapReading before e spaced
StartTagReading before (in_attribute_name e a) = AttributeNameReading before e a
StartTagReading before (behind_attribute_name e a) = TagBeforeReading before e a
StartTagReading before (behind_equals_sign e a) = TagEqualsReading before e a
StartTagReading before (in_attribute_value e a q v) = AttributeReading before e a q v
StartTagReading before (behind_slash e) = SlashReading before e

abbrev pub StartTagKept : (List ℕ → List ℕ) → Moved StartTagState Meaning → Type 0
StartTagKept = Kept start_tag_step StartTagReading (MarkupRead false)

-- ---- texts and meanings that grow

attribute_text : (a : XmlAttribute) (s : List ℕ)
    → written_attribute a ++ s
    ≡ a.gap ++ (a.name ++ (a.eq.before ++ (61 ∷ (a.eq.behind ++ (mark_char a.quote ∷ (each_written written_part a.value ++ (mark_char a.quote ∷ s)))))))
unfolding written_attribute
attribute_text a s = simp append_assoc

pub start_tag_text : (empty : Bool) (n : List ℕ) (xs : List XmlAttribute) (gap s : List ℕ)
    → written_markup (start_tag empty n xs gap) ++ s ≡ 60 ∷ (n ++ (each_written written_attribute xs ++ (gap ++ (cond empty (47 ∷ (62 ∷ s)) (62 ∷ s)))))
unfolding written_markup
start_tag_text false n xs gap s = simp append_assoc
start_tag_text true n xs gap s = simp append_assoc

meant_more : (xs : List XmlAttribute) (x : XmlAttribute) → attrs_meant (xs ++ (x ∷ [])) ≡ attrs_meant xs ++ (attr_meant x ∷ [])
unfolding attrs_meant
meant_more [] x = refl
meant_more (y ∷ xs) x = ap (λ t. attr_meant y ∷ t) (meant_more xs x)

-- ---- a step keeps what is read so

element_begun : (before : List ℕ → List ℕ) (n : List ℕ) → is_name n ≡ true → ((s : List ℕ) → before s ≡ 60 ∷ (n ++ s))
    → TagGapReading before (record { name = n; attrs = [] }) false
unfolding each_written attrs_meant
element_begun before n l t = record {
  outer = before;
  element = record { attributes = []; named = l; legal = all_nil legal_attribute; meaning = refl; text = t };
  gap = [];
  legal = all_nil white_space;
  some = refl;
  text = λ s. refl;
}

tag_read : (empty spaced : Bool) (before : List ℕ → List ℕ) (e : ElementParts) → TagGapReading before e spaced
    → (after : List ℕ → List ℕ) → ((s : List ℕ) → after s ≡ before (cond empty (47 ∷ (62 ∷ s)) (62 ∷ s))) → MarkupRead false after (start_meant empty e)
unfolding legal_markup may_stand meaning_of
tag_read empty spaced before e r after t =
    let x = r.element in
    record {
      markup = start_tag empty e.name x.attributes r.gap;
      place = refl;
      legal = both_of x.named (both_of x.legal r.legal);
      meaning = ap (λ m. start_meant empty (record { name = e.name; attrs = m })) x.meaning;
      text = λ s. t s ∙ (r.text _ ∙ (x.text _ ∙ sym (start_tag_text empty e.name x.attributes r.gap s)));
    }

part_kept : (before : List ℕ → List ℕ) (e : ElementParts) (spaced : Bool) (c : ℕ) → TagGapReading before e spaced → StartTagKept (λ s. before (c ∷ s)) (part_ended e spaced c)
unfolding part_ended StartTagReading
part_kept before e spaced c r =
    by_bool (white_space c)
    (λ t. rw t (record {
      outer = r.outer;
      element = r.element;
      gap = r.gap ++ (c ∷ []);
      legal = all_more white_space r.gap c r.legal t;
      some = sym (both_left _ _ (some_more white_space r.gap c r.legal t));
      text = λ s. r.text (c ∷ s) ∙ ap r.outer (moved_char r.gap c s);
    }))
    (λ w. by_bool (eqb c 47)
    (λ t. let k = eqb-true c 47 t in rw (w, t) (record { outer = before; spaced = spaced; gap = r; text = λ s. ap (λ d. before (d ∷ s)) k }))
    (λ p. by_bool (eqb c 62)
    (λ t. let k = eqb-true c 62 t in rw (w, p, t) (tag_read false spaced before e r (λ s. before (c ∷ s)) (λ s. ap (λ d. before (d ∷ s)) k)))
    (λ q. by_bool (both spaced (name_start_char c))
    (λ t. rw (w, p, q, t) (record {
      outer = r.outer;
      element = r.element;
      gap = r.gap;
      legal = some_space_of r.gap r.legal (sym r.some ∙ both_left _ _ t);
      named = name_of c (both_right spaced _ t);
      text = λ s. r.text (c ∷ s);
    }))
    (λ t. rw (w, p, q, t) tt))))

attribute_name_kept : (before : List ℕ → List ℕ) (e : ElementParts) (a : List ℕ) (c : ℕ) → TagBeforeReading before e a
    → StartTagKept (λ s. before (c ∷ s)) (attribute_name_ended e a c)
unfolding attribute_name_ended StartTagReading
attribute_name_kept before e a c r =
    by_bool (white_space c)
    (λ t. rw t (record { outer = r.outer; name = r.name; gap = r.gap ++ (c ∷ []); legal = all_more white_space r.gap c r.legal t; text = λ s. r.text (c ∷ s) ∙ ap r.outer (moved_char r.gap c s) }))
    (λ w. by_bool (eqb c 61)
    (λ t. let k = eqb-true c 61 t in
    rw (w, t) (record { outer = before; head = r; gap = []; legal = all_nil white_space; text = λ s. ap (λ d. before (d ∷ s)) k }))
    (λ t. rw (w, t) tt))

equals_kept : (before : List ℕ → List ℕ) (e : ElementParts) (a : List ℕ) (c : ℕ) → TagEqualsReading before e a → StartTagKept (λ s. before (c ∷ s)) (start_tag_step (behind_equals_sign e a) c)
unfolding start_tag_step StartTagReading
equals_kept before e a c r =
    by_bool (white_space c)
    (λ t. rw t (record { outer = r.outer; head = r.head; gap = r.gap ++ (c ∷ []); legal = all_more white_space r.gap c r.legal t; text = λ s. r.text (c ∷ s) ∙ ap (λ w. r.outer (61 ∷ w)) (moved_char r.gap c s) }))
    (λ w. by_bool (eqb c 34)
    (λ t. let k = eqb-true c 34 t in
    rw (w, t) (record { outer = before; head = r; inner = λ s. s; value = value_begins double_mark; text = λ s. ap (λ d. before (d ∷ s)) k }))
    (λ p. by_bool (eqb c 39)
    (λ t. let k = eqb-true c 39 t in
    rw (w, p, t) (record { outer = before; head = r; inner = λ s. s; value = value_begins single_mark; text = λ s. ap (λ d. before (d ∷ s)) k }))
    (λ t. rw (w, p, t) tt)))

-- an attribute whose value has ended
attribute_read : (before : List ℕ → List ℕ) (e : ElementParts) (a : List ℕ) (q : QuoteMark) (w : List ℕ) (inner : List ℕ → List ℕ)
    → TagEqualsReading before e a → ValueRead q inner w → (after : List ℕ → List ℕ) → ((s : List ℕ) → after s ≡ before (mark_char q ∷ inner s)) → TagGapReading after (with_attr e a w) false
unfolding legal_attribute
attribute_read before e a q w inner r z after t =
    let b = r.head in
    let n = b.name in
    let x = n.element in
    let y : XmlAttribute = record { gap = n.gap; name = a; eq = record { before = b.gap; behind = r.gap }; quote = q; value = z.parts } in
    record {
      outer = after;
      element = record {
        attributes = x.attributes ++ (y ∷ []);
        named = x.named;
        legal = all_more legal_attribute x.attributes y x.legal (both_of (both_of n.legal n.named) (both_of (both_of b.legal r.legal) z.legal));
        meaning = ap (λ m. m ++ (record { name = encoded a; value = encoded w } ∷ [])) x.meaning
            ∙ (ap (λ u. attrs_meant x.attributes ++ (record { name = encoded a; value = encoded u } ∷ [])) z.value ∙ sym (meant_more x.attributes y));
        text = λ s. t s ∙ (r.text _ ∙ (b.text _ ∙ (n.text _ ∙ (x.text _ ∙ ap (λ u. 60 ∷ (e.name ++ u))
            (ap (λ u. each_written written_attribute x.attributes ++ (n.gap ++ (a ++ (b.gap ++ (61 ∷ (r.gap ++ (mark_char q ∷ u))))))) (z.text s)
            ∙ (ap (λ u. each_written written_attribute x.attributes ++ u) (sym (attribute_text y s)) ∙ sym (written_more written_attribute x.attributes y s)))))));
      };
      gap = [];
      legal = all_nil white_space;
      some = refl;
      text = λ s. refl;
    }

value_more : (before : List ℕ → List ℕ) (e : ElementParts) (a : List ℕ) (q : QuoteMark) (v : ValueState) (c : ℕ) (r : AttributeReading before e a q v) (m : Moved ValueState (List ℕ))
    → Kept (value_step q) (ValueReading q) (ValueRead q) (λ s. r.inner (c ∷ s)) m
    → StartTagKept (λ s. before (c ∷ s)) (inner_step (in_attribute_value e a q) (λ w. behind_part (with_attr e a w) false) m)
unfolding StartTagReading
value_more before e a q v c r (continues p) k = record { outer = r.outer; head = r.head; inner = λ s. r.inner (c ∷ s); value = k; text = λ s. r.text (c ∷ s) }
value_more before e a q v c r (completes w) k = attribute_read r.outer e a q w (λ s. r.inner (c ∷ s)) r.head k (λ s. before (c ∷ s)) (λ s. r.text (c ∷ s))
value_more before e a q v c r malformed k = tt

pub start_tag_kept : (before : List ℕ → List ℕ) (q : StartTagState) (c : ℕ) → StartTagReading before q → StartTagKept (λ s. before (c ∷ s)) (start_tag_step q c)
unfolding start_tag_step StartTagReading
start_tag_kept before (in_name n) c (l, t) =
    by_bool (name_char c)
    (λ k. rw k (name_more n c l k, λ s. t (c ∷ s) ∙ ap (λ w. 60 ∷ w) (moved_char n c s)))
    (λ k. rw k (part_kept before (record { name = n; attrs = [] }) false c (element_begun before n l t)))
start_tag_kept before (behind_part e spaced) c r = part_kept before e spaced c r
start_tag_kept before (in_attribute_name e a) c r =
    by_bool (name_char c)
    (λ k. rw k (record { outer = r.outer; element = r.element; gap = r.gap; legal = r.legal; named = name_more a c r.named k; text = λ s. r.text (c ∷ s) ∙ ap (λ w. r.outer (r.gap ++ w)) (moved_char a c s) }))
    (λ k. rw k (attribute_name_kept before e a c (record { outer = before; name = r; gap = []; legal = all_nil white_space; text = λ s. refl })))
start_tag_kept before (behind_attribute_name e a) c r = attribute_name_kept before e a c r
start_tag_kept before (behind_equals_sign e a) c r = equals_kept before e a c r
start_tag_kept before (in_attribute_value e a q v) c r = value_more before e a q v c r (value_step q v c) (value_kept q r.inner v c r.value)
start_tag_kept before (behind_slash e) c r =
    by_bool (eqb c 62)
    (λ t. let k = eqb-true c 62 t in rw t (tag_read true r.spaced r.outer e r.gap (λ s. before (c ∷ s)) (λ s. r.text (c ∷ s) ∙ ap (λ d. r.outer (47 ∷ (d ∷ s))) k)))
    (λ t. rw t tt)

-- ---- and each legal tag is read

name_walk : (cs : List ℕ) (n s : List ℕ) → all name_char cs ≡ true → lexed start_tag_step (in_name n) (cs ++ s) ≡ lexed start_tag_step (in_name (n ++ cs)) s
unfolding lexed start_tag_step
name_walk [] n s l = rw (append-nil n)
name_walk (c ∷ cs) n s l = rw (all_head name_char c cs l, moved_char n c cs) (name_walk cs (n ++ (c ∷ [])) s (all_tail name_char c cs l))

pub name_ends : (n s : List ℕ) → Unnamed s → lexed start_tag_step (in_name n) s ≡ lexed start_tag_step (behind_part (record { name = n; attrs = [] }) false) s
unfolding lexed start_tag_step
name_ends n [] u = absurd u
name_ends n (c ∷ s) u = rw u

attribute_name_walk : (cs : List ℕ) (e : ElementParts) (a s : List ℕ) → all name_char cs ≡ true
    → lexed start_tag_step (in_attribute_name e a) (cs ++ s) ≡ lexed start_tag_step (in_attribute_name e (a ++ cs)) s
unfolding lexed start_tag_step
attribute_name_walk [] e a s l = rw (append-nil a)
attribute_name_walk (c ∷ cs) e a s l = rw (all_head name_char c cs l, moved_char a c cs) (attribute_name_walk cs e (a ++ (c ∷ [])) s (all_tail name_char c cs l))

pub attribute_name_ends : (e : ElementParts) (a s : List ℕ) → Unnamed s → lexed start_tag_step (in_attribute_name e a) s ≡ lexed start_tag_step (behind_attribute_name e a) s
unfolding lexed start_tag_step
attribute_name_ends e a [] u = absurd u
attribute_name_ends e a (c ∷ s) u = rw u

spaces_walk : (gap : List ℕ) (e : ElementParts) (s : List ℕ) → all white_space gap ≡ true → lexed start_tag_step (behind_part e true) (gap ++ s) ≡ lexed start_tag_step (behind_part e true) s
unfolding lexed start_tag_step part_ended
spaces_walk [] e s l = refl
spaces_walk (c ∷ gap) e s l = rw (all_head white_space c gap l) (spaces_walk gap e s (all_tail white_space c gap l))

gap_walk : (gap : List ℕ) (e : ElementParts) (spaced : Bool) (s : List ℕ) → some_space gap ≡ true
    → lexed start_tag_step (behind_part e spaced) (gap ++ s) ≡ lexed start_tag_step (behind_part e true) s
unfolding lexed start_tag_step part_ended some_space
gap_walk [] e spaced s l = clash (both_left _ _ l) refl
gap_walk (c ∷ gap) e spaced s l =
    let h = both_right (not (no_chars (c ∷ gap))) (all white_space (c ∷ gap)) l in
    rw (all_head white_space c gap h) (spaces_walk gap e s (all_tail white_space c gap h))

before_walk : (gap : List ℕ) (e : ElementParts) (a s : List ℕ) → all white_space gap ≡ true
    → lexed start_tag_step (behind_attribute_name e a) (gap ++ s) ≡ lexed start_tag_step (behind_attribute_name e a) s
unfolding lexed start_tag_step attribute_name_ended
before_walk [] e a s l = refl
before_walk (c ∷ gap) e a s l = rw (all_head white_space c gap l) (before_walk gap e a s (all_tail white_space c gap l))

behind_walk : (gap : List ℕ) (e : ElementParts) (a s : List ℕ) → all white_space gap ≡ true
    → lexed start_tag_step (behind_equals_sign e a) (gap ++ s) ≡ lexed start_tag_step (behind_equals_sign e a) s
unfolding lexed start_tag_step
behind_walk [] e a s l = refl
behind_walk (c ∷ gap) e a s l = rw (all_head white_space c gap l) (behind_walk gap e a s (all_tail white_space c gap l))

pub equals_walk : (e : ElementParts) (a s : List ℕ) → lexed start_tag_step (behind_attribute_name e a) (61 ∷ s) ≡ lexed start_tag_step (behind_equals_sign e a) s
unfolding lexed start_tag_step attribute_name_ended
equals_walk e a s = rw equals_black

pub mark_walk : (q : QuoteMark) (e : ElementParts) (a s : List ℕ) → lexed start_tag_step (behind_equals_sign e a) (mark_char q ∷ s) ≡ lexed start_tag_step (in_attribute_value e a q (in_value false [])) s
unfolding lexed start_tag_step
mark_walk double_mark e a s = rw double_black
mark_walk single_mark e a s = rw single_black

name_begins : (e : ElementParts) (c : ℕ) (s : List ℕ) → name_start_char c ≡ true → lexed start_tag_step (behind_part e true) (c ∷ s) ≡ lexed start_tag_step (in_attribute_name e (c ∷ [])) s
unfolding lexed start_tag_step part_ended both
name_begins e c s l =
    let k = start_named c l in
    rw (named_black c k, apart name_char 47 c slash_unnamed k, apart name_char 62 c end_unnamed k, l)

attribute_name_read : (e : ElementParts) (a s : List ℕ) → is_name a ≡ true → Unnamed s → lexed start_tag_step (behind_part e true) (a ++ s) ≡ lexed start_tag_step (behind_attribute_name e a) s
unfolding is_name
attribute_name_read e [] s l u = clash l refl
attribute_name_read e (c ∷ cs) s l u =
    name_begins e c (cs ++ s) (name_first c cs l) ∙ (attribute_name_walk cs e (c ∷ []) s (name_rest c cs l) ∙ attribute_name_ends e (c ∷ cs) s u)

pub value_walk : (e : ElementParts) (a : List ℕ) (q : QuoteMark) (ps : List ValuePart) (s : List ℕ) → all (legal_part q) ps ≡ true
    → lexed start_tag_step (in_attribute_value e a q (in_value false [])) (each_written written_part ps ++ (mark_char q ∷ s)) ≡ lexed start_tag_step (behind_part (with_attr e a (value_chars ps)) false) s
unfolding start_tag_step
value_walk e a q ps s l =
    inner_lexed (value_step q) start_tag_step (in_attribute_value e a q) (λ w. behind_part (with_attr e a w) false) (λ v c. refl)
    (each_written written_part ps ++ (mark_char q ∷ s)) (in_value false []) s (value_chars ps) (parts_read q ps false [] s l)

attribute_walk : (e : ElementParts) (spaced : Bool) (x : XmlAttribute) (s : List ℕ) → legal_attribute x ≡ true
    → lexed start_tag_step (behind_part e spaced) (written_attribute x ++ s) ≡ lexed start_tag_step (behind_part (with_attr e x.name (value_chars x.value)) false) s
unfolding legal_attribute
attribute_walk e spaced x s l =
    let names = both_left _ _ l in
    let values = both_right (both (some_space x.gap) (is_name x.name)) _ l in
    let gaps = both_left _ _ values in
    let before = both_left (all white_space x.eq.before) (all white_space x.eq.behind) gaps in
    let behind = both_right (all white_space x.eq.before) (all white_space x.eq.behind) gaps in
    let tail = 61 ∷ (x.eq.behind ++ (mark_char x.quote ∷ (each_written written_part x.value ++ (mark_char x.quote ∷ s)))) in
    rw (attribute_text x s)
    (gap_walk x.gap e spaced (x.name ++ (x.eq.before ++ tail)) (both_left _ _ names)
    ∙ (attribute_name_read e x.name (x.eq.before ++ tail) (both_right (some_space x.gap) _ names) (space_unnamed x.eq.before tail before equals_unnamed)
    ∙ (before_walk x.eq.before e x.name tail before
    ∙ (equals_walk e x.name _
    ∙ (behind_walk x.eq.behind e x.name _ behind
    ∙ (mark_walk x.quote e x.name _
    ∙ value_walk e x.name x.quote x.value s (both_right (both (all white_space x.eq.before) (all white_space x.eq.behind)) _ values)))))))

-- an element with attributes more
abbrev with_attrs : ElementParts → List Attr → ElementParts
with_attrs e attrs = record { name = e.name; attrs = e.attrs ++ attrs }

attributes_walk : (xs : List XmlAttribute) (e : ElementParts) (s : List ℕ) → all legal_attribute xs ≡ true
    → lexed start_tag_step (behind_part e false) (each_written written_attribute xs ++ s) ≡ lexed start_tag_step (behind_part (with_attrs e (attrs_meant xs)) false) s
unfolding each_written attrs_meant
attributes_walk [] e s l = rw (append-nil e.attrs)
attributes_walk (x ∷ xs) e s l =
    rw (append_assoc (written_attribute x) (each_written written_attribute xs) s, moved_char e.attrs (attr_meant x) (attrs_meant xs))
    (attribute_walk e false x (each_written written_attribute xs ++ s) (all_head legal_attribute x xs l)
    ∙ attributes_walk xs (with_attr e x.name (value_chars x.value)) s (all_tail legal_attribute x xs l))

pub tag_ends : (empty spaced : Bool) (e : ElementParts) (s : List ℕ) → lexed start_tag_step (behind_part e spaced) (cond empty (47 ∷ (62 ∷ s)) (62 ∷ s)) ≡ finished (start_meant empty e) s
unfolding lexed start_tag_step part_ended
tag_ends false spaced e s = rw end_black
tag_ends true spaced e s = rw slash_black

last_gap_walk : (gap : List ℕ) (empty : Bool) (e : ElementParts) (s : List ℕ) → all white_space gap ≡ true
    → lexed start_tag_step (behind_part e false) (gap ++ (cond empty (47 ∷ (62 ∷ s)) (62 ∷ s))) ≡ finished (start_meant empty e) s
last_gap_walk [] empty e s l = tag_ends empty false e s
last_gap_walk (c ∷ gap) empty e s l = gap_walk (c ∷ gap) e false _ (some_space_of (c ∷ gap) l refl) ∙ tag_ends empty true e s

end_unnamed_tag : (empty : Bool) (s : List ℕ) → Unnamed (cond empty (47 ∷ (62 ∷ s)) (62 ∷ s))
end_unnamed_tag false s = end_unnamed
end_unnamed_tag true s = slash_unnamed

attributes_unnamed : (xs : List XmlAttribute) (s : List ℕ) → all legal_attribute xs ≡ true → Unnamed s → Unnamed (each_written written_attribute xs ++ s)
unfolding each_written legal_attribute
attributes_unnamed [] s l u = u
attributes_unnamed (x ∷ xs) s l u =
    let h = all_head legal_attribute x xs l in
    rw (append_assoc (written_attribute x) (each_written written_attribute xs) s, attribute_text x (each_written written_attribute xs ++ s))
    (some_unnamed x.gap _ (both_left _ _ (both_left _ _ h)))

-- a start tag or an empty-element tag, behind the first character of its name
pub start_tag_read : (empty : Bool) (c : ℕ) (cs : List ℕ) (xs : List XmlAttribute) (gap s : List ℕ) → legal_markup (start_tag empty (c ∷ cs) xs gap) ≡ true
    → lexed start_tag_step (in_name (c ∷ [])) (cs ++ (each_written written_attribute xs ++ (gap ++ (cond empty (47 ∷ (62 ∷ s)) (62 ∷ s)))))
    ≡ finished (meaning_of (start_tag empty (c ∷ cs) xs gap)) s
unfolding legal_markup meaning_of
start_tag_read empty c cs xs gap s l =
    let named = both_left (is_name (c ∷ cs)) _ l in
    let more = both_right (is_name (c ∷ cs)) _ l in
    let attributes = both_left (all legal_attribute xs) _ more in
    let space = both_right (all legal_attribute xs) _ more in
    let tail = gap ++ (cond empty (47 ∷ (62 ∷ s)) (62 ∷ s)) in
    let u = attributes_unnamed xs tail attributes (space_unnamed gap _ space (end_unnamed_tag empty s)) in
    name_walk cs (c ∷ []) _ (name_rest c cs named)
    ∙ (name_ends (c ∷ cs) _ u
    ∙ (attributes_walk xs (record { name = c ∷ cs; attrs = [] }) tail attributes
    ∙ last_gap_walk gap empty (record { name = c ∷ cs; attrs = attrs_meant xs }) s space))
