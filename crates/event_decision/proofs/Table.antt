-- A line is refused before the store by the first condition of its table that holds, and where none holds it is not refused.
use Rattle.std.specs.Prelude.{None, Option, Some, is_some}
use Prim.Native.Nat.{ℕ}
use mathlib.Core.Path.{◌≡◌, refl, sym, ◌∙◌}
use mathlib.Core.Bool.{Bool, true, false, not}
use mathlib.Core.List.{List, [], ◌∷◌, ◌++◌}
use lib.IntN.{ℤ, nat_abs}
use lib.ListN.{length}
use mir.Syntax.{Width, w32, w64}
use borrow.Author.Tests.{lt-ltb, le-ltb, le-leb, lt-leb}
use Rattle.base.specs.Ascii.{ascii}
use Rattle.base.specs.Bytes.{Bytes, both, either, all, same}
use Rattle.base.proofs.Split.{by_bool, by_le, clash, no}
use Rattle.base.proofs.Lists.{same_yes}
use Rattle.refusal.specs.First.{ConditionRow, row, first_of}
use Rattle.refusal.proofs.First.{first_more}
use Rattle.refusal.specs.declared.Refusal.{Refusal}
use Rattle.refusal.specs.declared.Refusal.TheVariants as R
use Rattle.integer.specs.Integer.{integer, of_width, integer_of}
use Rattle.degrees.specs.declared.Axis.{Axis}
use Rattle.degrees.specs.declared.Axis.TheVariants.{Latitude, Longitude}
use Rattle.degrees.specs.Degrees.{legal_degrees, parts_behind, parts_of, exact_degrees}
use Rattle.degrees.specs.Nearest.{most_degrees}
use Rattle.kind.specs.declared.Kind.{Kind}
use Rattle.kind.specs.declared.Kind.TheVariants as K
use Rattle.nesting.specs.Name.{name_of}
use Rattle.nesting.specs.Nesting.{opened}
use Rattle.nesting.specs.declared.Action.{Action}
use Rattle.nesting.specs.declared.Action.TheVariants as A
use Rattle.nesting.specs.declared.Place.{Place}
use Rattle.nesting.specs.declared.Child.{Child}
use Rattle.nesting.specs.declared.Child.TheVariants as C
use Rattle.nesting.specs.Opened.{Opened}
use Rattle.nesting.specs.Opened as O
use Rattle.model.specs.Record.{Meta}
use Rattle.event.specs.Event.{Attr, named, value_of, Event, starts, closes, others, reads, body}
use Rattle.event.proofs.Refusals.{by_line}
use Rattle.event.proofs.Events.{judged_legal}
use Rattle.event_fields.specs.Field.{Field, got, bad, and_then, or_else, text_field, integer_field, whole_name, degrees_name, most_whole, coordinate, latitude, longitude, id_field, meta_with, meta_from, metadata_of, no_meta, body_for, tag_of, ref_of, type_named, member_of}
use Rattle.event_fields.proofs.Fields.{value_none, by_field, text_got, CoordinateRead, both_forms, neither_form, not_integer, whole_beyond, whole_within, not_degrees, degrees_beyond, degrees_within, coordinate_exactly, type_got, type_bad, word_of}
use Rattle.event_fields.proofs.Metadata.{Took, Fault, present, sets, with_got, with_bad}
use Rattle.event_fields.proofs.Metadata as M
use Rattle.event_decision.specs.Decision.{Decision, on_field, push_begins, element_begins, unless_delete, child_of, decide_opened, decide_event, decide}
use Rattle.event_decision.specs.Table.{refusal_in, is_none, value_or_empty, missing_row, integer_rows, exceeds, coordinate_rows, bad_integer, bad_stamp, meta_rows, place_rows, element_rows, is_kind_word, child_rows, start_rows, event_rows, decide_table}
use Rattle.event_decision.proofs.Decided.{Decides, decided}
use Rattle.event_decision.proofs.Decided as D

-- ---- one field after the other

-- the refusal of a field, if it is one
abbrev pub refusal_of : {A : Type 0} → Field A → Option Refusal
refusal_of (got a) = None
refusal_of (bad r) = Some r

-- "each field is checked whole before the next"
then_first : {A B : Type 0} (f : Field A) (g : A → Field B) (xs ys : List (ConditionRow Refusal)) → refusal_of f ≡ first_of xs → ((a : A) → f ≡ got a → refusal_of (g a) ≡ first_of ys)
    → refusal_of (and_then f g) ≡ first_of (xs ++ ys)
then_first (got a) g xs ys h k = rw (first_more xs ys, ← h) (k a refl)
then_first (bad r) g xs ys h k = rw (first_more xs ys, ← h)

on_first : {A : Type 0} (f : Field A) (g : A → Decision) (xs ys : List (ConditionRow Refusal)) → refusal_of f ≡ first_of xs → ((a : A) → f ≡ got a → refusal_in (g a) ≡ first_of ys)
    → refusal_in (on_field f g) ≡ first_of (xs ++ ys)
on_first (got a) g xs ys h k = rw (first_more xs ys, ← h) (k a refl)
on_first (bad r) g xs ys h k = rw (first_more xs ys, ← h)

-- a last step that refuses nothing
last_first : {A B : Type 0} (f : Field A) (g : A → B) → refusal_of (and_then f (λ a. got (g a))) ≡ refusal_of f
last_first (got a) g = refl
last_first (bad r) g = refl

or_first : {A : Type 0} (r : Refusal) (o : Option A) → refusal_of (or_else r o) ≡ first_of (row r (is_none o) ∷ [])
unfolding first_of
or_first r None = refl
or_first r (Some a) = refl

-- ---- the fields

module _ (n : Bytes) (attrs : List Attr) where
  text_first : refusal_of (text_field n attrs) ≡ first_of (missing_row n attrs ∷ [])
  unfolding text_field first_of
  text_first = go (value_of n attrs) refl
    where
      go : (o : Option Bytes) → value_of n attrs ≡ o → refusal_of (text_field n attrs) ≡ first_of (missing_row n attrs ∷ [])
      go None e = rw (e, (value_none n attrs).0 e)
      go (Some v) e = by_bool (named n attrs) (λ t. rw (e, t)) (λ t. no (cc ((value_none n attrs).1 t)))

  integer_first : (w : Width) → refusal_of (integer_field w n attrs) ≡ first_of (integer_rows n attrs w)
  unfolding integer_field first_of
  integer_first w =
      then_first (text_field n attrs) _ (missing_row n attrs ∷ []) (row R.NotInteger (is_none (integer_of w (value_or_empty n attrs))) ∷ []) text_first
      (λ v e. rw ((text_got n attrs v).0 e) (or_first R.NotInteger (integer_of w v)))

-- the empty text is no integer and no degrees
no_integer : integer_of w32 [] ≡ None
unfolding integer_of integer of_width
no_integer = refl

no_degrees : exact_degrees [] ≡ None
unfolding exact_degrees parts_of parts_behind legal_degrees both all
no_degrees = refl

-- whether a name is there, by its value
named_by : (n : Bytes) (attrs : List Attr) {o : Option Bytes} → value_of n attrs ≡ o → named n attrs ≡ is_some o
named_by n attrs {o = None} e = (value_none n attrs).0 e
named_by n attrs {o = Some v} e = by_bool (named n attrs) (λ t. t) (λ t. no (cc ((value_none n attrs).1 t)))

-- a coordinate in its place
module _ (a : Axis) (attrs : List Attr) where
  read_first : {o p : Option Bytes} {f : Field ℤ} → value_of (whole_name a) attrs ≡ o → value_of (degrees_name a) attrs ≡ p → CoordinateRead a o p f
      → refusal_of f ≡ first_of (coordinate_rows a attrs)
  unfolding first_of both either
  read_first i j both_forms = rw (named_by _ attrs i, named_by _ attrs j)
  read_first i j neither_form = rw (named_by _ attrs i, named_by _ attrs j)
  read_first i j (not_integer e) = rw (named_by _ attrs i, named_by _ attrs j, i, e)
  read_first i j (whole_beyond {z = z} e h) = rw (named_by _ attrs i, named_by _ attrs j, i, e, lt-ltb (most_whole a) (nat_abs z) h)
  read_first i j (whole_within {z = z} e h) = rw (named_by _ attrs i, named_by _ attrs j, i, j, e, le-ltb (most_whole a) (nat_abs z) h, no_degrees)
  read_first i j (not_degrees e) = rw (named_by _ attrs i, named_by _ attrs j, j, e)
  read_first i j (degrees_beyond {x = x} e h) = rw (named_by _ attrs i, named_by _ attrs j, i, j, e, no_integer, lt-ltb (most_degrees a) (nat_abs x) h)
  read_first i j (degrees_within {x = x} e h) = rw (named_by _ attrs i, named_by _ attrs j, i, j, e, no_integer, le-ltb (most_degrees a) (nat_abs x) h)

  coordinate_first : refusal_of (coordinate a attrs) ≡ first_of (coordinate_rows a attrs)
  coordinate_first = read_first refl refl ((coordinate_exactly a attrs (coordinate a attrs)).0 refl)

-- an attribute of metadata: 8 or 9
no_either : (x y : Bool) → either x y ≡ false → (x ≡ false) × (y ≡ false)
unfolding either
no_either true y e = clash refl e
no_either false y e = (refl, e)

-- no name of the four that have a condition
unnamed : (a : Attr) → sets present a ≡ false → ((same a.name (ascii "version") ≡ false) × (same a.name (ascii "timestamp") ≡ false))
    × ((same a.name (ascii "changeset") ≡ false) × (same a.name (ascii "uid") ≡ false))
unnamed a h =
    let v = no_either _ _ h in
    let t = no_either _ _ v.1 in
    let c = no_either _ _ t.1 in
    ((v.0, t.0), (c.0, (no_either _ _ c.1).0))

took_first : {m n : Meta Bytes} {a : Attr} → Took m a n → first_of (row R.NotInteger (bad_integer a) ∷ row R.NotTimestamp (bad_stamp a) ∷ []) ≡ None
unfolding first_of same both either
took_first (M.version e) = rw e
took_first (M.timestamp e) = rw e
took_first (M.changeset e) = rw e
took_first (M.uid e) = rw e
took_first M.user = refl
took_first M.visible = refl
took_first {a = a} (M.other h) = let x = unnamed a (h present) in rw (x.0.0, x.1.0, x.1.1, x.0.1)

fault_first : {a : Attr} {r : Refusal} → Fault a r → first_of (row R.NotInteger (bad_integer a) ∷ row R.NotTimestamp (bad_stamp a) ∷ []) ≡ Some r
unfolding first_of same both either
fault_first (M.version e) = rw e
fault_first (M.timestamp e) = rw e
fault_first (M.changeset e) = rw e
fault_first (M.uid e) = rw e

from_first : (m : Meta Bytes) (attrs : List Attr) → refusal_of (meta_from m attrs) ≡ first_of (meta_rows attrs)
unfolding meta_from meta_rows first_of
from_first m [] = refl
from_first m (a ∷ attrs) =
    then_first (meta_with m a) _ (row R.NotInteger (bad_integer a) ∷ row R.NotTimestamp (bad_stamp a) ∷ []) (meta_rows attrs)
    (by_field (meta_with m a) (λ n e. rw e (sym (took_first (with_got m a e)))) (λ r e. rw e (sym (fault_first ((with_bad m a r).0 e)))))
    (λ n e. from_first n attrs)

-- a member's type
is_word : (k : Kind) → is_kind_word (word_of k) ≡ true
unfolding same both either
is_word K.Node = refl
is_word K.Way = refl
is_word K.Relation = refl

no_word : (v : Bytes) → ((k : Kind) → v ≡ word_of k → ⊥) → is_kind_word v ≡ false
unfolding either
no_word v h = rw (not_word K.Node, not_word K.Way, not_word K.Relation)
  where
    not_word : (k : Kind) → same v (word_of k) ≡ false
    not_word k = by_bool (same v (word_of k)) (λ t. absurd (h k (same_yes v (word_of k) t))) (λ t. t)

type_first : (v : Bytes) → refusal_of (type_named (name_of v)) ≡ first_of (row R.MemberType (not (is_kind_word v)) ∷ [])
unfolding first_of
type_first v =
    by_field (type_named (name_of v))
    (λ k e. rw (e, (type_got v k).0 e, is_word k))
    (λ r e. let b = (type_bad v r).0 e in rw (e, no_word v b.0, b.1))

-- what an element holds at first
place_first : (k : Kind) (attrs : List Attr) → refusal_of (body_for k attrs) ≡ first_of (place_rows k attrs)
unfolding first_of
place_first K.Node attrs =
    then_first (latitude attrs) _ (coordinate_rows Latitude attrs) (coordinate_rows Longitude attrs)
    (coordinate_first Latitude attrs) (λ z e. last_first (longitude attrs) _ ∙ coordinate_first Longitude attrs)
place_first K.Way attrs = refl
place_first K.Relation attrs = refl

-- ---- what is decided

-- a field, then what is not refused
field_first : {A : Type 0} (f : Field A) (g : A → Decision) → ((a : A) → refusal_in (g a) ≡ None) → refusal_in (on_field f g) ≡ refusal_of f
field_first (got a) g k = k a
field_first (bad r) g k = refl

unless_taken : (a : Action) (p : Place) (d : Decision) → refusal_in d ≡ None → refusal_in (unless_delete a p d) ≡ None
unless_taken A.Create p d h = h
unless_taken A.Modify p d h = h
unless_taken A.Delete p d h = refl

module _ (attrs : List Attr) where
  id_first : refusal_of (id_field attrs) ≡ first_of (integer_rows (ascii "id") attrs w64)
  unfolding id_field
  id_first = integer_first (ascii "id") attrs w64

  meta_first : refusal_of (metadata_of attrs) ≡ first_of (meta_rows attrs)
  unfolding metadata_of
  meta_first = from_first no_meta attrs

  push_first : (e : Bool) (k : Kind) (p : Place) → refusal_in (push_begins e k p attrs) ≡ first_of (element_rows A.Create k attrs)
  push_first e k p =
      on_first (id_field attrs) _ (integer_rows (ascii "id") attrs w64) (meta_rows attrs ++ place_rows k attrs) id_first
      (λ id i. on_first (metadata_of attrs) _ (meta_rows attrs) (place_rows k attrs) meta_first (λ m j. field_first (body_for k attrs) _ (λ b. refl) ∙ place_first k attrs))

  element_first : (a : Action) (e : Bool) (k : Kind) (p : Place) → refusal_in (element_begins a e k p attrs) ≡ first_of (element_rows a k attrs)
  unfolding first_of
  element_first A.Create e k p = push_first e k p
  element_first A.Modify e k p = push_first e k p
  element_first A.Delete e k p =
      on_first (id_field attrs) _ (integer_rows (ascii "id") attrs w64) (meta_rows attrs ++ []) id_first
      (λ id i. on_first (metadata_of attrs) _ (meta_rows attrs) [] meta_first (λ m j. refl))

  child_first : (c : Child) (a : Action) (p : Place) → refusal_in (child_of c a p attrs) ≡ first_of (child_rows c attrs)
  unfolding tag_of ref_of member_of first_of
  child_first C.Tag a p =
      field_first (tag_of attrs) _ (λ t. unless_taken a p _ refl)
      ∙ then_first (text_field (ascii "k") attrs) _ (missing_row (ascii "k") attrs ∷ []) (missing_row (ascii "v") attrs ∷ []) (text_first _ attrs)
      (λ k e. last_first (text_field (ascii "v") attrs) _ ∙ text_first _ attrs)
  child_first C.Nd a p = field_first (ref_of attrs) _ (λ z. unless_taken a p _ refl) ∙ integer_first _ attrs w64
  child_first C.Member a p =
      let typed : ConditionRow Refusal = row R.MemberType (not (is_kind_word (value_or_empty (ascii "type") attrs))) in
      field_first (member_of attrs) _ (λ m. unless_taken a p _ refl)
      ∙ then_first (text_field (ascii "type") attrs) _ (missing_row (ascii "type") attrs ∷ []) (typed ∷ integer_rows (ascii "ref") attrs w64) (text_first _ attrs)
      (λ t e. then_first (type_named (name_of t)) _ (typed ∷ []) (integer_rows (ascii "ref") attrs w64) (rw ((text_got _ attrs t).0 e) (type_first t))
      (λ k f. last_first (integer_field w64 (ascii "ref") attrs) _ ∙ integer_first _ attrs w64))

  pub start_first : (o : Opened) (e : Bool) (a : Action) → refusal_in (decide_opened o e a attrs) ≡ first_of (start_rows o a attrs)
  unfolding first_of
  start_first O.Misplaced e a = refl
  start_first O.OutsideSection e a = refl
  start_first (O.Goes p) e a = refl
  start_first (O.Begins k p) e a = element_first a e k p
  start_first (O.Holds c p) e a = child_first c a p

pub close_taken : (p : Place) {d : Decision} → Decides p (reads closes) d → refusal_in d ≡ None
close_taken p (D.end l s) = refl
close_taken p (D.close h) = refl

event_first : (e : Event) (p : Place) → refusal_in (decide_event e p) ≡ first_of (event_rows (reads e) p)
unfolding decide_event first_of
event_first (starts e n attrs) p = start_first attrs (opened e (name_of n) p) e p.section
event_first closes p = close_taken p (decided p (reads closes))
event_first others p = refl

-- which refusal a line gives at a place, and whether it gives one
pub decide_first : (line : Bytes) (p : Place) → refusal_in (decide line p) ≡ first_of (decide_table line p)
unfolding decide decide_table first_of
decide_first line p =
    by_line line
    (λ h x. rw (x, lt-ltb 16384 (length (body line)) h))
    (λ h l x. rw (x, le-ltb 16384 (length (body line)) h, l))
    (λ h l x. let e = sym (judged_legal line h l) ∙ x in rw (x, le-ltb 16384 (length (body line)) h, l, e))
    (λ e h l x. let k = sym (judged_legal line h l) ∙ x in rw (x, le-ltb 16384 (length (body line)) h, l, k) (event_first e p))
