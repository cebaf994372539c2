-- The line of a legal markup's event is text and an event's: 2 where it is too long, 4 only where an attribute stands twice, and never 3.
use Rattle.markup.specs.Names.{white_space, name_start_char, name_char, is_name, some_space}
use Rattle.markup.specs.References.{Reference, ampersand, less_than, greater_than, apostrophe, quotation_mark, entity_ref, decimal_ref, hex_ref, some_digits, digits_value, hex_digit, legal_reference, referred}
use Rattle.markup.specs.Markup.{QuoteMark, ValuePart, raw_char, reference, legal_part, normal_ends, normal_chars, value_chars, legal_eq, XmlAttribute, legal_attribute, attr_meant, attrs_meant, start_tag, end_tag, comment, instruction, declaration, Markup, legal_markup, means_event, meaning_of}
use Rattle.markup.proofs.Names.{apart, equals_unnamed, start_named}
use Rattle.std.specs.Prelude.{Some}
use Rattle.base.specs.Ascii.{ascii}
use Prim.Native.Nat.{ℕ, ◌<◌, ◌≤◌}
use mathlib.Core.Path.{◌≡◌, refl, sym, ◌∙◌}
use mathlib.Core.Bool.{Bool, true, false, cond, not}
use mathlib.Core.List.{List, [], ◌∷◌, ◌++◌}
use native.Mathlib.Omega.{arith}
use lib.Dec.{eqb, leb, ltb}
use lib.ListN.{length}
use borrow.Author.Tests.{eqb-true, ne_eqb, le-leb, leb-true, lt-ltb, le-ltb, not-true}
use Rattle.base.specs.Bytes.{Bytes, both, either, all, same, is_digit}
use Rattle.base.proofs.Split.{no, clash, by_bool, by_either, by_lt, both_left, both_right, both_of, either_left, either_right}
use Rattle.base.proofs.Lists.{all_append, all_nil, all_cons, all_head, all_tail}
use Rattle.text.specs.Char.{from_to, xml_char, utf8}
use Rattle.text.specs.Check.{is_text}
use Rattle.text.specs.Escape.{breaks}
use Rattle.text.specs.Text.{encoded}
use Rattle.text.proofs.Chars.{utf8_high, utf8_some}
use Rattle.text.proofs.Texts.{all_imp}
use Rattle.text.proofs.Theorem.{complete}
use Rattle.line.specs.Line.{plain_field, fields, tabbed}
use Rattle.line.specs.Line.{line}
use Rattle.line.proofs.Lines.{fields_line}
use Rattle.refusal.specs.declared.Refusal.TheVariants.{LongLine, NotText, NotEventLine}
use Rattle.event.specs.Event.{Attr, Event, starts, closes, others, Reading, reads, refused, unended, body, legal_line, is_empty, none_twice, starts_from, event_from, event_of, attr_fields, start_word, event_fields, line_of}
use Rattle.event.specs.Legal.{legal_field, legal_name, legal_attr, legal_parts}
use Rattle.event.proofs.Parts.{unended_line, unbroken, tabbed_legal}
use Rattle.event.proofs.Attrs.{attrs_legal, attrs_read}
use Rattle.event.proofs.Fields.{event_legal}
use Rattle.event.proofs.Events.{judged_long, judged_legal}

-- ---- characters of names and values are XML's

pub low_char : (lo hi c : ℕ) → 32 ≤ lo → hi ≤ 0xd7ff → from_to lo hi c ≡ true → xml_char c ≡ true
unfolding xml_char from_to
low_char lo hi c l h t =
    let a = leb-true lo c (both_left _ _ t) in
    let b = leb-true c hi (both_right (leb lo c) _ t) in
    either_right _ (either_left _ _ (both_of (le-leb 32 c (omega arith)) (le-leb c 0xd7ff (omega arith))))

middle_char : (lo hi c : ℕ) → 0xe000 ≤ lo → hi ≤ 0xfffd → from_to lo hi c ≡ true → xml_char c ≡ true
unfolding xml_char from_to
middle_char lo hi c l h t =
    let a = leb-true lo c (both_left _ _ t) in
    let b = leb-true c hi (both_right (leb lo c) _ t) in
    either_right _ (either_right _ (either_left _ _ (both_of (le-leb 0xe000 c (omega arith)) (le-leb c 0xfffd (omega arith)))))

high_char : (lo hi c : ℕ) → 0x10000 ≤ lo → hi ≤ 0x10ffff → from_to lo hi c ≡ true → xml_char c ≡ true
unfolding xml_char from_to
high_char lo hi c l h t =
    let a = leb-true lo c (both_left _ _ t) in
    let b = leb-true c hi (both_right (leb lo c) _ t) in
    either_right _ (either_right _ (either_right _ (both_of (le-leb 0x10000 c (omega arith)) (le-leb c 0x10ffff (omega arith)))))

one_char : (k c : ℕ) → xml_char k ≡ true → eqb c k ≡ true → xml_char c ≡ true
one_char k c x t = let e = eqb-true c k t in rw e x

colon_char : xml_char 0x3a ≡ true
unfolding xml_char from_to both either
colon_char = refl

underscore_char : xml_char 0x5f ≡ true
unfolding xml_char from_to both either
underscore_char = refl

hyphen_char : xml_char 0x2d ≡ true
unfolding xml_char from_to both either
hyphen_char = refl

point_char : xml_char 0x2e ≡ true
unfolding xml_char from_to both either
point_char = refl

middle_dot_char : xml_char 0xb7 ≡ true
unfolding xml_char from_to both either
middle_dot_char = refl

space_char : xml_char 0x20 ≡ true
unfolding xml_char from_to both either
space_char = refl

feed_char : xml_char 0xa ≡ true
unfolding xml_char from_to both either
feed_char = refl

start_xml : (c : ℕ) → name_start_char c ≡ true → xml_char c ≡ true
unfolding name_start_char
start_xml c t =
    by_either _ _ t
    (λ a. by_either _ _ a (λ h. one_char 0x3a c colon_char h)
    (λ b. by_either _ _ b (λ h. low_char 0x41 0x5a c (omega arith) (omega arith) h)
    (λ d. by_either _ _ d (λ h. one_char 0x5f c underscore_char h) (λ h. low_char 0x61 0x7a c (omega arith) (omega arith) h))))
    (λ a. by_either _ _ a
    (λ b. by_either _ _ b (λ h. low_char 0xc0 0xd6 c (omega arith) (omega arith) h)
    (λ d. by_either _ _ d (λ h. low_char 0xd8 0xf6 c (omega arith) (omega arith) h) (λ h. low_char 0xf8 0x2ff c (omega arith) (omega arith) h)))
    (λ b. by_either _ _ b
    (λ d. by_either _ _ d (λ h. low_char 0x370 0x37d c (omega arith) (omega arith) h)
    (λ f. by_either _ _ f (λ h. low_char 0x37f 0x1fff c (omega arith) (omega arith) h) (λ h. low_char 0x200c 0x200d c (omega arith) (omega arith) h)))
    (λ d. by_either _ _ d
    (λ f. by_either _ _ f (λ h. low_char 0x2070 0x218f c (omega arith) (omega arith) h)
    (λ g. by_either _ _ g (λ h. low_char 0x2c00 0x2fef c (omega arith) (omega arith) h) (λ h. low_char 0x3001 0xd7ff c (omega arith) (omega arith) h)))
    (λ f. by_either _ _ f (λ h. middle_char 0xf900 0xfdcf c (omega arith) (omega arith) h)
    (λ g. by_either _ _ g (λ h. middle_char 0xfdf0 0xfffd c (omega arith) (omega arith) h) (λ h. high_char 0x10000 0xeffff c (omega arith) (omega arith) h))))))

pub named_xml : (c : ℕ) → name_char c ≡ true → xml_char c ≡ true
unfolding name_char
named_xml c t =
    by_either _ _ t (start_xml c)
    (λ a. by_either _ _ a
    (λ b. by_either _ _ b (λ h. one_char 0x2d c hyphen_char h)
    (λ d. by_either _ _ d (λ h. one_char 0x2e c point_char h) (λ h. low_char 0x30 0x39 c (omega arith) (omega arith) h)))
    (λ b. by_either _ _ b (λ h. one_char 0xb7 c middle_dot_char h)
    (λ d. by_either _ _ d (λ h. low_char 0x300 0x36f c (omega arith) (omega arith) h) (λ h. low_char 0x203f 0x2040 c (omega arith) (omega arith) h))))

pub name_all : (n : List ℕ) → is_name n ≡ true → all name_char n ≡ true
unfolding is_name
name_all [] l = clash l refl
name_all (c ∷ cs) l = all_cons name_char c cs (start_named c (both_left _ _ l)) (both_right (name_start_char c) _ l)

referred_xml : (r : Reference) → legal_reference r ≡ true → xml_char (referred r) ≡ true
unfolding legal_reference referred xml_char from_to both either
referred_xml (entity_ref ampersand) l = refl
referred_xml (entity_ref less_than) l = refl
referred_xml (entity_ref greater_than) l = refl
referred_xml (entity_ref apostrophe) l = refl
referred_xml (entity_ref quotation_mark) l = refl
referred_xml (decimal_ref ds) l = both_right (some_digits is_digit ds) (xml_char (digits_value 10 0 ds)) l
referred_xml (hex_ref ds) l = both_right (some_digits hex_digit ds) (xml_char (digits_value 16 0 ds)) l

blank_xml : (c : ℕ) → xml_char c ≡ true → xml_char (cond (white_space c) 0x20 c) ≡ true
blank_xml c x = by_bool (white_space c) (λ t. rw t space_char) (λ t. rw t x)

value_xml : (q : QuoteMark) (ps : List ValuePart) (cr : Bool) → all (legal_part q) ps ≡ true → all xml_char (normal_chars (normal_ends cr ps)) ≡ true
unfolding normal_ends normal_chars legal_part
value_xml q [] cr l = all_nil xml_char
value_xml q (raw_char c ∷ ps) cr l =
    let h = both_left (xml_char c) _ (all_head (legal_part q) (raw_char c) ps l) in
    let k : (b : Bool) → all xml_char (normal_chars (normal_ends b ps)) ≡ true = λ b. value_xml q ps b (all_tail (legal_part q) (raw_char c) ps l) in
    by_bool (both cr (eqb c 10))
    (λ t. rw t (k false))
    (λ f. by_bool (eqb c 13)
    (λ t. rw (f, t) (all_cons xml_char _ _ (blank_xml 10 feed_char) (k true)))
    (λ t. rw (f, t) (all_cons xml_char _ _ (blank_xml c h) (k false))))
value_xml q (reference r ∷ ps) cr l =
    all_cons xml_char _ _ (referred_xml r (all_head (legal_part q) (reference r) ps l)) (value_xml q ps false (all_tail (legal_part q) (reference r) ps l))

encoded_text : (cs : List ℕ) → all xml_char cs ≡ true → is_text (encoded cs) ≡ true
encoded_text cs l = complete (encoded cs) (record { chars = cs; legal = l; same = refl })

-- ---- bytes of names

utf8_one : (c : ℕ) → c < 0x80 → utf8 c ≡ c ∷ []
unfolding utf8
utf8_one c h = rw (lt-ltb c 0x80 h)

-- a test that ASCII characters of a kind pass, and all bytes beyond ASCII
encoded_all : (p q : ℕ → Bool) → ((c : ℕ) → q c ≡ true → p c ≡ true) → ((b : ℕ) → leb 0x80 b ≡ true → p b ≡ true) → (cs : List ℕ) → all q cs ≡ true → all p (encoded cs) ≡ true
unfolding encoded
encoded_all p q f g [] l = all_nil p
encoded_all p q f g (c ∷ cs) l =
    all_append p (utf8 c) (encoded cs)
    (by_lt c 0x80
    (λ h. rw (utf8_one c h) (all_cons p c [] (f c (all_head q c cs l)) (all_nil p)))
    (λ h. all_imp (leb 0x80) p g (utf8 c) (utf8_high c h)))
    (encoded_all p q f g cs (all_tail q c cs l))

tab_unnamed : name_char 9 ≡ false
unfolding name_char name_start_char from_to either both
tab_unnamed = refl

feed_unnamed : name_char 10 ≡ false
unfolding name_char name_start_char from_to either both
feed_unnamed = refl

return_unnamed : name_char 13 ≡ false
unfolding name_char name_start_char from_to either both
return_unnamed = refl

named_unbroken : (c : ℕ) → name_char c ≡ true → not (breaks c) ≡ true
unfolding breaks either
named_unbroken c t = rw (apart name_char 9 c tab_unnamed t, apart name_char 10 c feed_unnamed t, apart name_char 13 c return_unnamed t)

high_unbroken : (b : ℕ) → leb 0x80 b ≡ true → not (breaks b) ≡ true
unfolding breaks either
high_unbroken b t = let h = leb-true 0x80 b t in rw (ne_eqb b 9 (λ e. omega arith), ne_eqb b 10 (λ e. omega arith), ne_eqb b 13 (λ e. omega arith))

named_unequal : (c : ℕ) → name_char c ≡ true → not (eqb c 61) ≡ true
named_unequal c t = rw (apart name_char 61 c equals_unnamed t)

high_unequal : (b : ℕ) → leb 0x80 b ≡ true → not (eqb b 61) ≡ true
high_unequal b t = let h = leb-true 0x80 b t in rw (ne_eqb b 61 (λ e. omega arith))

encoded_some : (n : List ℕ) → is_name n ≡ true → not (is_empty (encoded n)) ≡ true
unfolding is_name encoded
encoded_some [] l = clash l refl
encoded_some (c ∷ cs) l = some_first (utf8 c) (encoded cs) (utf8_some c)
  where
    some_first : (s t : Bytes) → 0 < length s → not (is_empty (s ++ t)) ≡ true
    some_first [] t h = absurd (omega (arith, h))
    some_first (b ∷ s) t h = refl

-- a name is one of an event line, and holds no equals sign
name_legal : (n : List ℕ) → is_name n ≡ true → legal_name (encoded n) ≡ true
unfolding legal_name legal_field plain_field
name_legal n l =
    let a = name_all n l in
    both_of (encoded_some n l)
    (both_of (encoded_all (λ b. not (breaks b)) name_char named_unbroken high_unbroken n a) (encoded_text n (all_imp name_char xml_char named_xml n a)))

attr_legal : (x : XmlAttribute) → legal_attribute x ≡ true → legal_attr (attr_meant x) ≡ true
unfolding legal_attribute legal_attr
attr_legal x l =
    let names = both_left _ _ l in
    let n = both_right (some_space x.gap) (is_name x.name) names in
    let v = both_right (legal_eq x.eq) (all (legal_part x.quote) x.value) (both_right (both (some_space x.gap) (is_name x.name)) _ l) in
    both_of (name_legal x.name n)
    (both_of (encoded_all (λ b. not (eqb b 61)) name_char named_unequal high_unequal x.name (name_all x.name n)) (encoded_text (value_chars x.value) (value_xml x.quote x.value false v)))

attrs_legal_meant : (xs : List XmlAttribute) → all legal_attribute xs ≡ true → all legal_attr (attrs_meant xs) ≡ true
unfolding attrs_meant
attrs_legal_meant [] l = all_nil legal_attr
attrs_legal_meant (x ∷ xs) l = all_cons legal_attr (attr_meant x) (attrs_meant xs) (attr_legal x (all_head legal_attribute x xs l)) (attrs_legal_meant xs (all_tail legal_attribute x xs l))

-- ---- the line

-- an event whose names and values are legal
legal_but_twice : Event → Bool
legal_but_twice (starts empty n attrs) = both (legal_name n) (all legal_attr attrs)
legal_but_twice closes = true
legal_but_twice others = true

-- no attribute stands twice
abbrev pub each_once : Event → Bool
each_once (starts empty n attrs) = none_twice attrs
each_once closes = true
each_once others = true

-- what the line of an event reads as, where its names and values are legal: 2 before 4, and 4 for an attribute that stands twice
abbrev pub line_reading : Event → Reading
line_reading e = cond (ltb 16384 (length (tabbed (event_fields e)))) (refused LongLine) (cond (each_once e) (reads e) (refused NotEventLine))

markup_legal : (m : Markup) (e : Event) (n : Bytes) → legal_markup m ≡ true → meaning_of m ≡ means_event e n → legal_but_twice e ≡ true
unfolding legal_markup meaning_of legal_but_twice
markup_legal (start_tag empty n xs gap) e name l q =
    let d : starts empty (encoded n) (attrs_meant xs) ≡ e = cc q in
    rw (← d) (both_of (name_legal n (both_left _ _ l)) (attrs_legal_meant xs (both_left _ _ (both_right (is_name n) _ l))))
markup_legal (end_tag n gap) e name l q = let d : closes ≡ e = cc q in rw (← d)
markup_legal (comment ps) e name l q = no (cc q)
markup_legal (instruction t gap cs) e name l q = no (cc q)
markup_legal (declaration d) e name l q = no (cc q)

fields_legal_so : (e : Event) → legal_but_twice e ≡ true → all legal_field (event_fields e) ≡ true
unfolding legal_but_twice legal_parts legal_name none_twice
fields_legal_so (starts empty n attrs) l =
    let w = event_legal (starts empty n []) (both_of (both_left _ _ l) (both_of (all_nil legal_attr) refl)) in
    all_cons legal_field (start_word empty) (n ∷ attr_fields attrs) (all_head legal_field (start_word empty) _ w)
    (all_cons legal_field n (attr_fields attrs) (both_right _ _ (both_left _ _ l)) (attrs_legal attrs (both_right (legal_name n) _ l)))
fields_legal_so closes l = event_legal closes refl
fields_legal_so others l = event_legal others refl

starts_judged : (empty : Bool) (n : Bytes) (attrs : List Attr) → legal_but_twice (starts empty n attrs) ≡ true
    → starts_from empty (n ∷ attr_fields attrs) ≡ cond (none_twice attrs) (reads (starts empty n attrs)) (refused NotEventLine)
unfolding legal_but_twice legal_name
starts_judged empty n attrs l = rw (not-true (is_empty n) (both_left _ _ (both_left _ _ l)), attrs_read attrs (both_right _ _ l))

fields_judged : (e : Event) → legal_but_twice e ≡ true → event_from (event_fields e) ≡ cond (each_once e) (reads e) (refused NotEventLine)
unfolding same both
fields_judged (starts false n attrs) l = starts_judged false n attrs l
fields_judged (starts true n attrs) l = starts_judged true n attrs l
fields_judged closes l = refl
fields_judged others l = refl

fields_parted : (e : Event) → all plain_field (event_fields e) ≡ true → fields (tabbed (event_fields e)) ≡ event_fields e
fields_parted (starts empty n attrs) h = fields_line (start_word empty) (n ∷ attr_fields attrs) h
fields_parted closes h = fields_line (ascii "close") [] h
fields_parted others h = fields_line (ascii "other") [] h

plain_of_legal : (f : Bytes) → legal_field f ≡ true → plain_field f ≡ true
unfolding legal_field
plain_of_legal f h = both_left _ _ h

event_judged : (e : Event) → legal_but_twice e ≡ true → event_of (line_of e) ≡ line_reading e
unfolding line_of line unbroken
event_judged e l =
    let t = tabbed (event_fields e) in
    let u : unended (t ++ (10 ∷ [])) ≡ Some t = unended_line t in
    let b : body (t ++ (10 ∷ [])) ≡ t = rw u in
    let f = fields_legal_so e l in
    let k = tabbed_legal (event_fields e) f in
    by_lt 16384 (length t)
    (λ h. judged_long (t ++ (10 ∷ [])) (rw b h) ∙ rw (lt-ltb 16384 (length t) h))
    (λ h. judged_legal (t ++ (10 ∷ [])) (rw b h) (rw b (both_left _ _ k))
    ∙ rw (u, both_right (legal_line t) _ k, fields_parted e (all_imp legal_field plain_field plain_of_legal (event_fields e) f), le-ltb 16384 (length t) h) (fields_judged e l))

-- of a legal markup's event the line is judged so
pub line_judged : (m : Markup) (e : Event) (n : Bytes) → legal_markup m ≡ true → meaning_of m ≡ means_event e n → event_of (line_of e) ≡ line_reading e
line_judged m e n l q = event_judged e (markup_legal m e n l q)

-- "3 not text" does not occur
pub line_text : (m : Markup) (e : Event) (n : Bytes) → legal_markup m ≡ true → meaning_of m ≡ means_event e n → event_of (line_of e) ≡ refused NotText → ⊥
line_text m e n l q r =
    let j = sym (line_judged m e n l q) ∙ r in
    by_bool (ltb 16384 (length (tabbed (event_fields e))))
    (λ t. let x : refused LongLine ≡ refused NotText = rw t at j in no (cc))
    (λ t. by_bool (each_once e)
    (λ o. let x : reads e ≡ refused NotText = rw (t, o) at j in no (cc))
    (λ o. let x : refused NotEventLine ≡ refused NotText = rw (t, o) at j in no (cc)))
