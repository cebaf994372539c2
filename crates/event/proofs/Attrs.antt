-- Attributes: a legal one is read back from its field, and a legal field that reads as one is its field.
use Rattle.std.specs.Prelude.{None, Option, Some}
use Prim.Native.Nat.{ℕ}
use mathlib.Core.Path.{◌≡◌, refl, sym, ◌∙◌, ap}
use mathlib.Core.Bool.{true, false, not}
use mathlib.Core.List.{List, [], ◌∷◌, ◌++◌}
use native.Mathlib.Omega.{arith}
use borrow.Author.Tests.{eq-eqb, ne_eqb, not-true}
use Rattle.base.specs.Bytes.{Bytes, both, either, all, same}
use Rattle.base.proofs.Split.{by_bool, by_eq, no, clash, both_left, both_right, both_of}
use Rattle.base.proofs.Lists.{all_append, all_left, all_right, all_nil, all_cons, all_head, all_tail, same_yes, same_refl}
use Rattle.text.specs.Check.{is_text}
use Rattle.text.specs.Escape.{escape, unescape, breaks}
use Rattle.text.proofs.Escapes.{escape_clean, escape_text, escape_unescape, unescape_escape, unescape_text}
use Rattle.text.proofs.Texts.{text_append, text_ascii, cut_left, cut_right}
use Rattle.text.proofs.Xml.{legal_low}
use Rattle.line.specs.Line.{plain_field}
use Rattle.line.proofs.Lines.{lacks, lacks_cons, lacks_head, lacks_nil, lacks_tail}
use Rattle.event.specs.Event.{Attr, Parted, onto_left, parted, is_empty, attr_from, attr_with, attr_of, beside, attrs_of, attr_field, attr_fields, named, none_twice}
use Rattle.event.specs.Legal.{legal_field, legal_name, legal_attr}

-- ---- the first `=`

pub parted_at : (n v : Bytes) → lacks 61 n ≡ true → parted (n ++ (61 ∷ v)) ≡ Some (record { left = n; right = v })
unfolding parted
parted_at [] v h = refl
parted_at (b ∷ n) v h = rw (ne_eqb b 61 (lacks_head 61 b n h), parted_at n v (lacks_tail 61 b n h))

-- a field is a name without `=`, the `=` and what follows it
pub record Field (f n v : Bytes) : Type 0 where
  pub whole : f ≡ n ++ (61 ∷ v)
  pub first : lacks 61 n ≡ true

onto_field : (b : ℕ) (f : Bytes) (o : Option Parted) (p : Parted) → (b ≡ 61 → ⊥)
    → ((q : Parted) → o ≡ Some q → Field f q.left q.right) → onto_left b o ≡ Some p → Field (b ∷ f) p.left p.right
onto_field b f None p n ih e = no (cc)
onto_field b f (Some q) p n ih e =
    let w = ih q refl in
    let l : p.left ≡ b ∷ q.left = cc in
    let r : p.right ≡ q.right = cc in
    rw (l, r) (record { whole = ap (b ∷◌) w.whole; first = lacks_cons 61 b q.left n w.first })

pub parted_some : (f : Bytes) (p : Parted) → parted f ≡ Some p → Field f p.left p.right
unfolding parted
parted_some [] p e = no (cc)
parted_some (b ∷ f) p e =
    by_eq b 61
    (λ q. let z : Some (record { left = []; right = f }) ≡ Some p = rw (eq-eqb b 61 q) at e in
    let l : p.left ≡ [] = cc in
    let r : p.right ≡ f = cc in
    rw (l, r, q) (record { whole = refl; first = lacks_nil 61 }))
    (λ n. onto_field b f (parted f) p n (parted_some f) (rw (ne_eqb b 61 n) at e))

-- ---- legal fields

equals_text : (v : Bytes) → is_text (61 ∷ v) ≡ is_text v
unfolding both
equals_text v = text_ascii 61 v (omega arith) ∙ rw (legal_low 61 (omega arith) (omega arith))

equals_plain : breaks 61 ≡ false
unfolding breaks either
equals_plain = refl

-- a field with an `=` in it is legal exactly when both sides are
pub field_join : (n v : Bytes) → legal_field n ≡ true → legal_field v ≡ true → legal_field (n ++ (61 ∷ v)) ≡ true
unfolding legal_field plain_field
field_join n v h k =
    both_of (all_append _ n (61 ∷ v) (both_left _ _ h) (all_cons _ 61 v (ap not equals_plain) (both_left _ _ k)))
    (text_append n (61 ∷ v) (both_right _ _ h) (equals_text v ∙ both_right _ _ k))

pub field_left : (n v : Bytes) → legal_field (n ++ (61 ∷ v)) ≡ true → legal_field n ≡ true
unfolding legal_field plain_field
field_left n v h = both_of (all_left _ n (61 ∷ v) (both_left _ _ h)) (cut_left n v 61 (omega arith) (both_right _ _ h))

pub field_right : (n v : Bytes) → legal_field (n ++ (61 ∷ v)) ≡ true → legal_field v ≡ true
unfolding legal_field plain_field
field_right n v h = both_of (all_tail _ 61 v (all_right _ n (61 ∷ v) (both_left _ _ h))) (cut_right n v 61 (omega arith) (both_right _ _ h))

-- ---- one attribute

module _ (a : Attr) (h : legal_attr a ≡ true) where
  name_legal : legal_name a.name ≡ true
  unfolding legal_attr
  name_legal = both_left _ _ h

  name_lacks : lacks 61 a.name ≡ true
  unfolding legal_attr lacks
  name_lacks = both_left _ _ (both_right _ _ h)

  value_text : is_text a.value ≡ true
  unfolding legal_attr
  value_text = both_right _ _ (both_right _ _ h)

  pub attr_legal : legal_field (attr_field a) ≡ true
  unfolding legal_name legal_field plain_field
  attr_legal =
      field_join a.name (escape a.value) (both_right _ _ name_legal)
      (both_of (escape_clean a.value) (escape_text a.value value_text))

  pub attr_reads : attr_of (attr_field a) ≡ Some a
  unfolding attr_of legal_name
  attr_reads =
      rw (parted_at a.name (escape a.value) name_lacks, not-true (is_empty a.name) (both_left _ _ name_legal))
      (ap (attr_with a.name) (unescape_escape a.value))

-- a value read with a name that is not empty
pub record Named (n : Bytes) (o : Option Bytes) (a : Attr) : Type 0 where
  pub name : a.name ≡ n
  pub value : o ≡ Some a.value

pub attr_with_some : (n : Bytes) (o : Option Bytes) (a : Attr) → attr_with n o ≡ Some a → Named n o a
attr_with_some n None a e = no (cc)
attr_with_some n (Some v) a e = record { name = cc; value = cc }

attr_from_back : (f : Bytes) (p : Parted) (a : Attr) → legal_field f ≡ true → Field f p.left p.right → attr_from (Some p) ≡ Some a
    → (attr_field a ≡ f) × (legal_attr a ≡ true)
unfolding legal_attr legal_name legal_field plain_field lacks
attr_from_back f p a h w e =
    by_bool (is_empty p.left)
    (λ t. let z : None ≡ Some a = rw t at e in no (cc))
    (λ t. let d = attr_with_some p.left (unescape p.right) a (rw t at e) in
    let k : legal_field (p.left ++ (61 ∷ p.right)) ≡ true = rw w.whole at h in
    let l = field_left p.left p.right k in
    let r = field_right p.left p.right k in (
      rw (d.name, escape_unescape p.right a.value d.value (both_left _ _ r)) (sym w.whole),
      rw d.name (both_of (both_of (ap not t) l) (both_of w.first (unescape_text p.right a.value (both_right _ _ r) d.value))),
    ))

pub attr_back : (f : Bytes) (a : Attr) → legal_field f ≡ true → attr_of f ≡ Some a → (attr_field a ≡ f) × (legal_attr a ≡ true)
unfolding attr_of
attr_back f a h e = go (parted f) refl e
  where
    go : (o : Option Parted) → parted f ≡ o → attr_from o ≡ Some a → (attr_field a ≡ f) × (legal_attr a ≡ true)
    go None p q = no (cc)
    go (Some x) p q = attr_from_back f x a h (parted_some f x p) q

-- ---- the attributes of a line, in order

pub attrs_legal : (attrs : List Attr) → all legal_attr attrs ≡ true → all legal_field (attr_fields attrs) ≡ true
unfolding attr_fields
attrs_legal [] h = all_nil legal_field
attrs_legal (a ∷ attrs) h =
    all_cons legal_field (attr_field a) (attr_fields attrs) (attr_legal a (all_head legal_attr a attrs h)) (attrs_legal attrs (all_tail legal_attr a attrs h))

pub attrs_read : (attrs : List Attr) → all legal_attr attrs ≡ true → attrs_of (attr_fields attrs) ≡ Some attrs
unfolding attrs_of attr_fields
attrs_read [] h = refl
attrs_read (a ∷ attrs) h = rw (attr_reads a (all_head legal_attr a attrs h), attrs_read attrs (all_tail legal_attr a attrs h))

-- an attribute that is read, and those after it
pub record Listed (o : Option Attr) (x : Option (List Attr)) (attrs : List Attr) : Type 0 where
  pub head : Attr
  pub tail : List Attr
  pub first : o ≡ Some head
  pub then : x ≡ Some tail
  pub whole : attrs ≡ head ∷ tail

pub listed : (o : Option Attr) (x : Option (List Attr)) (attrs : List Attr) → beside o x ≡ Some attrs → Listed o x attrs
listed None x attrs e = no (cc)
listed (Some a) None attrs e = no (cc)
listed (Some a) (Some t) attrs e = record { head = a; tail = t; first = refl; then = refl; whole = cc }

pub attrs_back : (fs : List Bytes) (attrs : List Attr) → all legal_field fs ≡ true → attrs_of fs ≡ Some attrs
    → (attr_fields attrs ≡ fs) × (all legal_attr attrs ≡ true)
unfolding attrs_of attr_fields
attrs_back [] attrs h e = let q : attrs ≡ [] = cc in (rw q, rw q (all_nil legal_attr))
attrs_back (f ∷ fs) attrs h e =
    let w = listed (attr_of f) (attrs_of fs) attrs e in
    let x = attr_back f w.head (all_head legal_field f fs h) w.first in
    let y = attrs_back fs w.tail (all_tail legal_field f fs h) w.then in
    (rw (w.whole, x.0, y.0), rw w.whole (all_cons legal_attr w.head w.tail x.1 y.1))

-- ---- no attribute twice

named_in : (n : Bytes) (xs ys : List Attr) (b : Attr) → n ≡ b.name → named n (xs ++ (b ∷ ys)) ≡ true
unfolding named
named_in n [] ys b e = rw (e, same_refl b.name)
named_in n (x ∷ xs) ys b e =
    by_bool (same n x.name)
    (λ t. rw t)
    (λ t. rw t (named_in n xs ys b e))

-- two attributes at two places of a list have two names
pub once : (xs ys zs : List Attr) (a b : Attr) → none_twice (xs ++ (a ∷ (ys ++ (b ∷ zs)))) ≡ true → a.name ≡ b.name → ⊥
unfolding none_twice
once [] ys zs a b h e = clash (named_in a.name ys zs b e) (not-true _ (both_left _ _ h))
once (x ∷ xs) ys zs a b h e = once xs ys zs a b (both_right _ _ h) e

-- where a name stands among attributes
record Found (n : Bytes) (attrs : List Attr) : Type 0 where
  left : List Attr
  it : Attr
  right : List Attr
  whole : attrs ≡ left ++ (it ∷ right)
  is : n ≡ it.name

found : (n : Bytes) (attrs : List Attr) → named n attrs ≡ true → Found n attrs
unfolding named
found n [] h = clash h refl
found n (a ∷ attrs) h =
    by_bool (same n a.name)
    (λ t. record { left = []; it = a; right = attrs; whole = refl; is = same_yes n a.name t })
    (λ t. let w = found n attrs (rw t at h) in
    record { left = a ∷ w.left; it = w.it; right = w.right; whole = ap (a ∷◌) w.whole; is = w.is })

-- two places of a list with one name
pub record Twice (attrs : List Attr) : Type 0 where
  pub left : List Attr
  pub first : Attr
  pub middle : List Attr
  pub second : Attr
  pub right : List Attr
  pub whole : attrs ≡ left ++ (first ∷ (middle ++ (second ∷ right)))
  pub is : first.name ≡ second.name

-- a list that is not distinct has two
pub twice : (attrs : List Attr) → none_twice attrs ≡ false → Twice attrs
unfolding none_twice both
twice [] h = clash refl h
twice (a ∷ attrs) h =
    by_bool (named a.name attrs)
    (λ t. let w = found a.name attrs t in
    record { left = []; first = a; middle = w.left; second = w.it; right = w.right; whole = ap (a ∷◌) w.whole; is = w.is })
    (λ t. let w = twice attrs (rw t at h) in
    record { left = a ∷ w.left; first = w.first; middle = w.middle; second = w.second; right = w.right; whole = ap (a ∷◌) w.whole; is = w.is })
