-- A start tag that is printed from names of XML and values of legal characters is a legal one, and it means what was printed.
use Rattle.markup.specs.Names.{white_space, is_name, some_space}
use Rattle.markup.specs.References.{digits_value, digit_value, legal_reference, referred}
use Rattle.markup.specs.Markup.{double_mark, ValuePart, raw_char, legal_part, normal_ends, normal_chars, value_chars, legal_attribute, attrs_meant, legal_markup, may_stand, written_markup, means_event, meaning_of}
use Rattle.markup.specs.Printed.{printed_char, CharAttr, encoded_attr, printed_attribute, printed_tag}
use Rattle.markup.specs.Automaton.{finished}
use Rattle.markup.specs.MarkupBytes.{markup_of_bytes}
use Rattle.markup.proofs.MarkupBytes.{complete_bytes}
use Prim.Native.Nat.{ℕ}
use mathlib.Core.Path.{◌≡◌, refl, sym, ◌∙◌, ap}
use mathlib.Core.Bool.{Bool, true, false}
use mathlib.Core.List.{List, [], ◌∷◌, ◌++◌, map}
use lib.Dec.{eqb}
use borrow.Author.Tests.{eqb-true}
use Rattle.base.specs.Bytes.{Bytes, both, either, all, is_digit}
use Rattle.base.proofs.Split.{by_bool, both_left, both_right, both_of}
use Rattle.base.proofs.Lists.{all_nil, all_cons, all_head, all_tail}
use Rattle.event.specs.Event.{starts}
use Rattle.text.specs.Char.{xml_char, from_to}
use Rattle.text.specs.Text.{encoded}

-- a character printed is a legal part that stands for it, whatever stands before and behind it
abbrev PrintsBack : ℕ → ValuePart → Type 0
PrintsBack c p = (legal_part double_mark p ≡ true) × ((ps : List ValuePart) → normal_chars (normal_ends false (p ∷ ps)) ≡ c ∷ normal_chars (normal_ends false ps))

raw_back : (c : ℕ) → xml_char c ≡ true → eqb c 38 ≡ false → eqb c 60 ≡ false → eqb c 34 ≡ false → eqb c 9 ≡ false → eqb c 10 ≡ false → eqb c 13 ≡ false → PrintsBack c (raw_char c)
unfolding legal_part normal_ends normal_chars white_space either both
raw_back c x a l q t n r = (
  rw (x, l, a, q) refl,
  λ ps. by_bool (eqb c 32)
      (λ s. let e = eqb-true c 32 s in rw (r, s, sym e))
      (λ s. rw (r, s, t, r, n)),
)

char_back : (c : ℕ) → xml_char c ≡ true → PrintsBack c (printed_char c)
unfolding printed_char legal_part legal_reference normal_ends normal_chars referred digits_value digit_value is_digit xml_char from_to either both all
char_back c x =
    by_bool (eqb c 38) (λ a. let e = eqb-true c 38 a in rw (a, e) (refl, λ ps. refl))
    (λ a. by_bool (eqb c 60) (λ l. let e = eqb-true c 60 l in rw (a, l, e) (refl, λ ps. refl))
    (λ l. by_bool (eqb c 34) (λ q. let e = eqb-true c 34 q in rw (a, l, q, e) (refl, λ ps. refl))
    (λ q. by_bool (eqb c 9) (λ t. let e = eqb-true c 9 t in rw (a, l, q, t, e) (refl, λ ps. refl))
    (λ t. by_bool (eqb c 10) (λ n. let e = eqb-true c 10 n in rw (a, l, q, t, n, e) (refl, λ ps. refl))
    (λ n. by_bool (eqb c 13) (λ r. let e = eqb-true c 13 r in rw (a, l, q, t, n, r, e) (refl, λ ps. refl))
    (λ r. rw (a, l, q, t, n, r) (raw_back c x a l q t n r)))))))

value_back : (v : List ℕ) → all xml_char v ≡ true → (all (legal_part double_mark) (map printed_char v) ≡ true) × (value_chars (map printed_char v) ≡ v)
unfolding normal_ends normal_chars
value_back [] l = (all_nil (legal_part double_mark), refl)
value_back (c ∷ v) l =
    let b = char_back c (all_head xml_char c v l) in
    let r = value_back v (all_tail xml_char c v l) in
    (all_cons (legal_part double_mark) (printed_char c) (map printed_char v) b.0 r.0, b.1 (map printed_char v) ∙ ap (λ w. c ∷ w) r.1)

unfoldable pub xml_attr : CharAttr → Bool
xml_attr a = both (is_name a.name) (all xml_char a.value)

attribute_back : (a : CharAttr) → xml_attr a ≡ true → legal_attribute (printed_attribute a) ≡ true
unfolding xml_attr legal_attribute some_space white_space either both all
attribute_back a l =
    let n = both_left (is_name a.name) (all xml_char a.value) l in
    let v = value_back a.value (both_right (is_name a.name) _ l) in
    rw (n, v.0)

attributes_back : (attrs : List CharAttr) → all xml_attr attrs ≡ true
    → (all legal_attribute (map printed_attribute attrs) ≡ true) × (attrs_meant (map printed_attribute attrs) ≡ map encoded_attr attrs)
unfolding attrs_meant xml_attr
attributes_back [] l = (all_nil legal_attribute, refl)
attributes_back (a ∷ attrs) l =
    let h = all_head xml_attr a attrs l in
    let r = attributes_back attrs (all_tail xml_attr a attrs l) in
    let v = value_back a.value (both_right (is_name a.name) _ h) in
    (all_cons legal_attribute (printed_attribute a) (map printed_attribute attrs) (attribute_back a h) r.0, rw (v.1, r.1))

-- what is printed is legal, and means what was printed
pub printed_back : (empty : Bool) (n : List ℕ) (attrs : List CharAttr) → is_name n ≡ true → all xml_attr attrs ≡ true
    → (legal_markup (printed_tag empty n attrs) ≡ true) × (meaning_of (printed_tag empty n attrs) ≡ means_event (starts empty (encoded n) (map encoded_attr attrs)) (encoded n))
unfolding legal_markup meaning_of
printed_back empty n attrs l h =
    let r = attributes_back attrs h in
    (both_of l (both_of r.0 (all_nil white_space)), rw r.1)

-- so its bytes are read back as that event
pub printed_read : (first empty : Bool) (n : List ℕ) (attrs : List CharAttr) (rest : Bytes) → is_name n ≡ true → all xml_attr attrs ≡ true
    → markup_of_bytes first (encoded (written_markup (printed_tag empty n attrs)) ++ rest) ≡ finished (means_event (starts empty (encoded n) (map encoded_attr attrs)) (encoded n)) rest
unfolding may_stand
printed_read first empty n attrs rest l h =
    let b = printed_back empty n attrs l h in
    complete_bytes first (printed_tag empty n attrs) rest (both_of refl b.0) ∙ ap (λ m. finished m rest) b.1
