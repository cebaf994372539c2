-- What a legal markup writes are legal characters.
use Rattle.std.specs.Prelude.{None, Option, Some}
use Rattle.base.specs.Ascii.{ascii}
use Rattle.markup.specs.Names.{white_space, name_char, is_name, no_chars, some_space}
use Rattle.markup.specs.References.{Entity, ampersand, less_than, greater_than, apostrophe, quotation_mark, entity_name, Reference, entity_ref, decimal_ref, hex_ref, hex_digit, digits_value, some_digits, legal_reference, written_reference}
use Rattle.markup.specs.Markup.{each_written, QuoteMark, double_mark, single_mark, mark_char, ValuePart, raw_char, reference, legal_part, written_part, XmlEq, legal_eq, written_eq, XmlAttribute, legal_attribute, written_attribute, CommentPart, unhyphened, hyphened, legal_comment_part, written_comment_part, is_target, unended_data, legal_data, DeclarationKey, version_key, encoding_key, standalone_key, keyword, version_num, upper_case, key_value, DeclarationItem, legal_item, written_item, XmlDeclaration, legal_optional, written_optional, legal_declaration, written_declaration, Markup, start_tag, end_tag, comment, instruction, declaration, start_tag_end, legal_markup, written_markup}
use Rattle.markup.proofs.Instructions.{white_char}
use Rattle.markup.proofs.Lines.{low_char, name_all, named_xml}
use Prim.Native.Nat.{ℕ}
use mathlib.Core.Path.{◌≡◌, refl}
use mathlib.Core.Bool.{Bool, true, false, not}
use mathlib.Core.List.{List, [], ◌∷◌, ◌++◌, map}
use native.Mathlib.Omega.{arith}
use lib.Dec.{eqb}
use borrow.Author.Tests.{eqb-true}
use Rattle.base.specs.Bytes.{both, either, all, same, is_digit}
use Rattle.base.proofs.Split.{clash, by_bool, by_either, both_left, both_right}
use Rattle.base.proofs.Lists.{all_append, all_nil, all_cons, all_head, all_tail, same_yes}
use Rattle.text.specs.Char.{from_to, xml_char}
use Rattle.text.proofs.Texts.{all_imp}

abbrev Xml : List ℕ → Type 0
Xml s = all xml_char s ≡ true

joined : (s t : List ℕ) → Xml s → Xml t → Xml (s ++ t)
joined s t a b = all_append xml_char s t a b

one : (c : ℕ) → xml_char c ≡ true → Xml (c ∷ [])
one c x = all_cons xml_char c [] x (all_nil xml_char)

each_xml : {A : Type 0} (f : A → List ℕ) (p : A → Bool) → ((x : A) → p x ≡ true → Xml (f x)) → (xs : List A) → all p xs ≡ true → Xml (each_written f xs)
unfolding each_written
each_xml f p h [] l = all_nil xml_char
each_xml f p h (x ∷ xs) l = joined _ _ (h x (all_head p x xs l)) (each_xml f p h xs (all_tail p x xs l))

space_xml : (s : List ℕ) → all white_space s ≡ true → Xml s
space_xml s l = all_imp white_space xml_char (λ c t. (white_char c t).0) s l

some_space_xml : (s : List ℕ) → some_space s ≡ true → Xml s
unfolding some_space
some_space_xml s l = space_xml s (both_right (not (no_chars s)) _ l)

name_xml : (n : List ℕ) → is_name n ≡ true → Xml n
name_xml n l = all_imp name_char xml_char named_xml n (name_all n l)

digit_xml : (c : ℕ) → is_digit c ≡ true → xml_char c ≡ true
unfolding is_digit from_to
digit_xml c t = low_char 48 57 c (omega arith) (omega arith) t

hex_xml : (c : ℕ) → hex_digit c ≡ true → xml_char c ≡ true
unfolding hex_digit
hex_xml c t =
    by_either _ _ t (digit_xml c)
    (λ r. by_either _ _ r (λ h. low_char 65 70 c (omega arith) (omega arith) h) (λ h. low_char 97 102 c (omega arith) (omega arith) h))

-- ---- words and signs

amp_xml : Xml (ascii "&")
unfolding xml_char from_to both either all
amp_xml = refl

semicolon_xml : Xml (ascii ";")
unfolding xml_char from_to both either all
semicolon_xml = refl

decimal_xml : Xml (ascii "&#")
unfolding xml_char from_to both either all
decimal_xml = refl

hex_begin_xml : Xml (ascii "&#x")
unfolding xml_char from_to both either all
hex_begin_xml = refl

entity_xml : (e : Entity) → Xml (entity_name e)
unfolding xml_char from_to both either all
entity_xml ampersand = refl
entity_xml less_than = refl
entity_xml greater_than = refl
entity_xml apostrophe = refl
entity_xml quotation_mark = refl

mark_xml : (q : QuoteMark) → xml_char (mark_char q) ≡ true
unfolding xml_char from_to both either
mark_xml double_mark = refl
mark_xml single_mark = refl

equals_xml : Xml (ascii "=")
unfolding xml_char from_to both either all
equals_xml = refl

keyword_xml : (key : DeclarationKey) → Xml (keyword key)
unfolding xml_char from_to both either all
keyword_xml version_key = refl
keyword_xml encoding_key = refl
keyword_xml standalone_key = refl

ends_xml : (empty : Bool) → Xml (start_tag_end empty)
unfolding xml_char from_to both either all
ends_xml false = refl
ends_xml true = refl

begin_xml : Xml (ascii "<") × Xml (ascii "</") × Xml (ascii ">") × Xml (ascii "<!--") × Xml (ascii "-->") × Xml (ascii "<?") × Xml (ascii "?>") × Xml (ascii "<?xml") × Xml (ascii "-")
unfolding xml_char from_to both either all
begin_xml = (refl, refl, refl, refl, refl, refl, refl, refl, refl)

-- ---- parts

reference_xml : (r : Reference) → legal_reference r ≡ true → Xml (written_reference r)
unfolding legal_reference written_reference
reference_xml (entity_ref e) l = joined _ _ (joined _ _ amp_xml (entity_xml e)) semicolon_xml
reference_xml (decimal_ref ds) l =
    joined _ _ (joined _ _ decimal_xml (all_imp is_digit xml_char digit_xml ds (both_right (not (no_chars ds)) (all is_digit ds) (both_left (some_digits is_digit ds) (xml_char (digits_value 10 0 ds)) l)))) semicolon_xml
reference_xml (hex_ref ds) l =
    joined _ _ (joined _ _ hex_begin_xml (all_imp hex_digit xml_char hex_xml ds (both_right (not (no_chars ds)) (all hex_digit ds) (both_left (some_digits hex_digit ds) (xml_char (digits_value 16 0 ds)) l)))) semicolon_xml

part_xml : (q : QuoteMark) (p : ValuePart) → legal_part q p ≡ true → Xml (written_part p)
unfolding legal_part written_part
part_xml q (raw_char c) l = one _ (both_left (xml_char c) _ l)
part_xml q (reference r) l = reference_xml r l

eq_xml : (e : XmlEq) → legal_eq e ≡ true → Xml (written_eq e)
eq_xml e l = joined _ _ (joined _ _ (space_xml e.before (both_left _ _ l)) equals_xml) (space_xml e.behind (both_right (all white_space e.before) _ l))

attribute_xml : (a : XmlAttribute) → legal_attribute a ≡ true → Xml (written_attribute a)
unfolding legal_attribute written_attribute
attribute_xml a l =
    let names = both_left _ _ l in
    let values = both_right (both (some_space a.gap) (is_name a.name)) _ l in
    joined _ _
    (joined _ _
    (joined _ _ (joined _ _ (joined _ _ (some_space_xml a.gap (both_left _ _ names)) (name_xml a.name (both_right (some_space a.gap) _ names))) (eq_xml a.eq (both_left (legal_eq a.eq) _ values))) (one _ (mark_xml a.quote)))
    (each_xml written_part (legal_part a.quote) (part_xml a.quote) a.value (both_right (legal_eq a.eq) _ values)))
    (one _ (mark_xml a.quote))

comment_part_xml : (p : CommentPart) → legal_comment_part p ≡ true → Xml (written_comment_part p)
unfolding legal_comment_part written_comment_part
comment_part_xml (unhyphened c) l = one _ (both_right (not (eqb c 45)) _ l)
comment_part_xml (hyphened c) l = joined _ _ begin_xml.8 (one _ (both_right (not (eqb c 45)) _ l))

data_xml : (cs : List ℕ) (question : Bool) → unended_data question cs ≡ true → Xml cs
unfolding unended_data
data_xml [] question l = all_nil xml_char
data_xml (c ∷ cs) question l =
    let r = both_right (not (both question (eqb c 62))) _ l in
    all_cons xml_char c cs (both_left (xml_char c) _ r) (data_xml cs (eqb c 63) (both_right (xml_char c) _ r))

none_xml : (s : List ℕ) → no_chars s ≡ true → Xml s
none_xml [] l = all_nil xml_char
none_xml (c ∷ cs) l = clash l refl

legal_data_xml : (gap cs : List ℕ) → legal_data gap cs ≡ true → Xml gap × Xml cs
unfolding legal_data
legal_data_xml gap cs l =
    by_either _ _ l
    (λ n. (none_xml gap (both_left _ _ n), none_xml cs (both_right (no_chars gap) _ n)))
    (λ d. (some_space_xml gap (both_left _ _ d), data_xml cs false (both_right (some_space gap) _ d)))

upper_xml : (c y : ℕ) → eqb (upper_case c) y ≡ true → xml_char y ≡ true → xml_char c ≡ true
upper_xml c y e x =
    by_bool (from_to 97 122 c)
    (λ t. low_char 97 122 c (omega arith) (omega arith) t)
    (λ f. let k : eqb c y ≡ true = rw f at e in let z = eqb-true c y k in rw z x)

uppers_xml : (v x : List ℕ) → same (map upper_case v) x ≡ true → Xml x → Xml v
unfolding same
uppers_xml [] x e l = all_nil xml_char
uppers_xml (c ∷ v) [] e l = clash e refl
uppers_xml (c ∷ v) (y ∷ x) e l =
    all_cons xml_char c v (upper_xml c y (both_left _ _ e) (all_head xml_char y x l)) (uppers_xml v x (both_right (eqb (upper_case c) y) _ e) (all_tail xml_char y x l))

words_xml : Xml (ascii "UTF-8") × Xml (ascii "yes") × Xml (ascii "no") × Xml (ascii "1.")
unfolding xml_char from_to both either all
words_xml = (refl, refl, refl, refl)

version_xml : (v : List ℕ) → version_num v ≡ true → Xml v
unfolding version_num
version_xml [] l = clash l refl
version_xml (c ∷ []) l = clash l refl
version_xml (c ∷ d ∷ ds) l =
    let heads = both_left (both (eqb c 49) (eqb d 46)) _ l in
    let e = eqb-true c 49 (both_left _ _ heads) in
    let f = eqb-true d 46 (both_right (eqb c 49) _ heads) in
    let digits = all_imp is_digit xml_char digit_xml ds (both_right (not (no_chars ds)) (all is_digit ds) (both_right (both (eqb c 49) (eqb d 46)) _ l)) in
    rw (e, f) (joined _ _ words_xml.3 digits)

key_value_xml : (key : DeclarationKey) (v : List ℕ) → key_value key v ≡ true → Xml v
unfolding key_value
key_value_xml version_key v l = version_xml v l
key_value_xml encoding_key v l = uppers_xml v (ascii "UTF-8") l words_xml.0
key_value_xml standalone_key v l =
    by_either _ _ l
    (λ y. rw (same_yes v (ascii "yes") y) words_xml.1)
    (λ n. rw (same_yes v (ascii "no") n) words_xml.2)

item_xml : (key : DeclarationKey) (i : DeclarationItem) → legal_item key i ≡ true → Xml (written_item key i)
unfolding legal_item written_item
item_xml key i l =
    let more = both_right (some_space i.gap) _ l in
    joined _ _
    (joined _ _ (joined _ _ (joined _ _ (joined _ _ (some_space_xml i.gap (both_left _ _ l)) (keyword_xml key)) (eq_xml i.eq (both_left (legal_eq i.eq) _ more))) (one _ (mark_xml i.quote))) (key_value_xml key i.value (both_right (legal_eq i.eq) _ more)))
    (one _ (mark_xml i.quote))

optional_xml : (key : DeclarationKey) (o : Option DeclarationItem) → legal_optional key o ≡ true → Xml (written_optional key o)
optional_xml key None l = all_nil xml_char
optional_xml key (Some i) l = item_xml key i l

declaration_xml : (d : XmlDeclaration) → legal_declaration d ≡ true → Xml (written_declaration d)
unfolding legal_declaration written_declaration
declaration_xml d l =
    let a = both_left _ _ l in
    let b = both_right (both (legal_item version_key d.version) (legal_optional encoding_key d.encoding)) _ l in
    joined _ _
    (joined _ _
    (joined _ _ (joined _ _ (joined _ _ begin_xml.7 (item_xml version_key d.version (both_left _ _ a))) (optional_xml encoding_key d.encoding (both_right (legal_item version_key d.version) _ a))) (optional_xml standalone_key d.standalone (both_left _ _ b)))
    (space_xml d.gap (both_right (legal_optional standalone_key d.standalone) _ b)))
    begin_xml.6

pub written_xml : (m : Markup) → legal_markup m ≡ true → all xml_char (written_markup m) ≡ true
unfolding legal_markup written_markup is_target
written_xml (start_tag empty n xs gap) l =
    let more = both_right (is_name n) _ l in
    joined _ _
    (joined _ _ (joined _ _ (joined _ _ begin_xml.0 (name_xml n (both_left _ _ l))) (each_xml written_attribute legal_attribute attribute_xml xs (both_left _ _ more))) (space_xml gap (both_right (all legal_attribute xs) _ more)))
    (ends_xml empty)
written_xml (end_tag n gap) l = joined _ _ (joined _ _ (joined _ _ begin_xml.1 (name_xml n (both_left _ _ l))) (space_xml gap (both_right (is_name n) _ l))) begin_xml.2
written_xml (comment ps) l = joined _ _ (joined _ _ begin_xml.3 (each_xml written_comment_part legal_comment_part comment_part_xml ps l)) begin_xml.4
written_xml (instruction t gap cs) l =
    let d = legal_data_xml gap cs (both_right (is_target t) _ l) in
    joined _ _ (joined _ _ (joined _ _ (joined _ _ begin_xml.5 (name_xml t (both_left _ _ (both_left (is_target t) _ l)))) d.0) d.1) begin_xml.6
written_xml (declaration d) l = declaration_xml d l
