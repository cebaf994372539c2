-- A legal event is read back from its fields, and legal fields that read as an event are its fields.
use Rattle.std.specs.Prelude.{None, Option, Some}
use mathlib.Core.Path.{◌≡◌, refl, ap}
use mathlib.Core.Bool.{Bool, true, false, not}
use mathlib.Core.List.{List, [], ◌∷◌}
use borrow.Author.Tests.{not-true}
use Rattle.base.specs.Ascii.{ascii}
use Rattle.base.specs.Bytes.{Bytes, both, either, all, same}
use Rattle.base.proofs.Split.{by_bool, no, both_left, both_right, both_of}
use Rattle.base.proofs.Lists.{all_nil, all_cons, all_head, all_tail, same_yes}
use Rattle.refusal.specs.declared.Refusal.TheVariants.{NotEventLine}
use Rattle.text.specs.Char.{from_to, xml_char}
use Rattle.text.specs.Check as Check
use Rattle.text.specs.Escape.{breaks}
use Rattle.text.proofs.Texts.{text_plain}
use Rattle.line.specs.Line.{plain_field}
use Rattle.event.specs.Event.{Attr, Event, starts, closes, others, reads, refused, is_empty, attrs_of, attr_fields, none_twice, starts_with, starts_from, alone, event_from, start_word, event_fields}
use Rattle.event.specs.Legal.{legal_field, legal_name, legal_attr, legal_parts}
use Rattle.event.proofs.Attrs.{attrs_legal, attrs_read, attrs_back}

-- ---- words

word_legal : (w : Bytes) → plain_field w ≡ true → all Check.plain_ascii w ≡ true → legal_field w ≡ true
unfolding legal_field
word_legal w p t = both_of p (text_plain w t)

start_legal : (empty : Bool) → legal_field (start_word empty) ≡ true
unfolding plain_field all both either breaks Check.plain_ascii xml_char from_to
start_legal false = word_legal (ascii "open") refl refl
start_legal true = word_legal (ascii "empty") refl refl

close_legal : legal_field (ascii "close") ≡ true
unfolding plain_field all both either breaks Check.plain_ascii xml_char from_to
close_legal = word_legal (ascii "close") refl refl

other_legal : legal_field (ascii "other") ≡ true
unfolding plain_field all both either breaks Check.plain_ascii xml_char from_to
other_legal = word_legal (ascii "other") refl refl

-- ---- from an event to its fields and back

pub event_legal : (e : Event) → legal_parts e ≡ true → all legal_field (event_fields e) ≡ true
unfolding legal_parts legal_name
event_legal (starts empty n attrs) h =
    all_cons legal_field (start_word empty) (n ∷ attr_fields attrs) (start_legal empty)
    (all_cons legal_field n (attr_fields attrs) (both_right _ _ (both_left _ _ h)) (attrs_legal attrs (both_left _ _ (both_right _ _ h))))
event_legal closes h = all_cons legal_field (ascii "close") [] close_legal (all_nil legal_field)
event_legal others h = all_cons legal_field (ascii "other") [] other_legal (all_nil legal_field)

starts_read : (empty : Bool) (n : Bytes) (attrs : List Attr) → legal_parts (starts empty n attrs) ≡ true
    → starts_from empty (n ∷ attr_fields attrs) ≡ reads (starts empty n attrs)
unfolding legal_parts legal_name
starts_read empty n attrs h =
    rw (not-true (is_empty n) (both_left _ _ (both_left _ _ h)), attrs_read attrs (both_left _ _ (both_right _ _ h)), both_right _ _ (both_right _ _ h))

pub fields_read : (e : Event) → legal_parts e ≡ true → event_from (event_fields e) ≡ reads e
unfolding same both
fields_read (starts false n attrs) h = starts_read false n attrs h
fields_read (starts true n attrs) h = starts_read true n attrs h
fields_read closes h = refl
fields_read others h = refl

-- ---- from fields to their event and back

-- fields that are legal and read as an event
Back : List Bytes → Event → Type 0
Back fs e = (event_fields e ≡ fs) × (legal_parts e ≡ true)

starts_with_back : (empty : Bool) (n : Bytes) (fs : List Bytes) (o : Option (List Attr)) (e : Event) → legal_name n ≡ true
    → ((attrs : List Attr) → o ≡ Some attrs → (attr_fields attrs ≡ fs) × (all legal_attr attrs ≡ true))
    → starts_with empty n o ≡ reads e → Back (start_word empty ∷ n ∷ fs) e
unfolding Back legal_parts
starts_with_back empty n fs None e h k q = no (cc)
starts_with_back empty n fs (Some attrs) e h k q =
    by_bool (none_twice attrs)
    (λ t. let z : reads (starts empty n attrs) ≡ reads e = rw t at q in
    let i : e ≡ starts empty n attrs = cc in
    let w = k attrs refl in
    rw i (ap (λ (x : List Bytes). start_word empty ∷ n ∷ x) w.0, both_of h (both_of w.1 t)))
    (λ t. let z : refused NotEventLine ≡ reads e = rw t at q in no (cc))

starts_from_back : (empty : Bool) (fs : List Bytes) (e : Event) → all legal_field fs ≡ true → starts_from empty fs ≡ reads e → Back (start_word empty ∷ fs) e
unfolding legal_name
starts_from_back empty [] e h q = no (cc)
starts_from_back empty (n ∷ fs) e h q =
    by_bool (is_empty n)
    (λ t. let z : refused NotEventLine ≡ reads e = rw t at q in no (cc))
    (λ t. starts_with_back empty n fs (attrs_of fs) e
    (both_of (ap not t) (all_head legal_field n fs h))
    (λ attrs p. attrs_back fs attrs (all_tail legal_field n fs h) p)
    (rw t at q))

alone_back : (d : Event) (fs : List Bytes) (e : Event) → legal_parts d ≡ true → alone d fs ≡ reads e → (fs ≡ []) × ((e ≡ d) × (legal_parts e ≡ true))
alone_back d [] e h q = let i : e ≡ d = cc in (refl, (i, rw i h))
alone_back d (f ∷ fs) e h q = no (cc)

pub fields_back : (fs : List Bytes) (e : Event) → all legal_field fs ≡ true → event_from fs ≡ reads e → (event_fields e ≡ fs) × (legal_parts e ≡ true)
unfolding Back legal_parts
fields_back [] e h q = no (cc)
fields_back (w ∷ fs) e h q =
    let k = all_tail legal_field w fs h in
    by_bool (same w (ascii "open"))
    (λ t. rw (same_yes w (ascii "open") t) (starts_from_back false fs e k (rw t at q)))
    (λ f1. by_bool (same w (ascii "empty"))
    (λ t. rw (same_yes w (ascii "empty") t) (starts_from_back true fs e k (rw (f1, t) at q)))
    (λ f2. by_bool (same w (ascii "close"))
    (λ t. let r = alone_back closes fs e refl (rw (f1, f2, t) at q) in
    (rw (r.1.0, r.0, same_yes w (ascii "close") t), r.1.1))
    (λ f3. by_bool (same w (ascii "other"))
    (λ t. let r = alone_back others fs e refl (rw (f1, f2, f3, t) at q) in
    (rw (r.1.0, r.0, same_yes w (ascii "other") t), r.1.1))
    (λ f4. let z : refused NotEventLine ≡ reads e = rw (f1, f2, f3, f4) at q in no (cc)))))
