-- What the fields of an event give: each refusal exactly when its condition holds, and numbers that fit their widths.
use Rattle.std.specs.Prelude.{None, Option, Some, Result}
use Prim.Native.Nat.{ℕ, ◌<◌, ◌≤◌}
use mathlib.Core.Path.{◌≡◌, refl, sym, ◌∙◌, ap}
use mathlib.Core.Bool.{Bool, true, false, cond}
use mathlib.Core.Logic.{◌↔◌, ◌⊎◌, inl, inr, ⊎_elim}
use mathlib.Core.List.{List, [], ◌∷◌, Memᴰ}
use lib.Dec.{leb}
use lib.IntN.{ℤ, pos, negsuc, nat_abs}
use native.Mathlib.Omega.{arith}
use mir.Syntax.{Width, w32, w64}
use mir.Val.{SFits}
use borrow.Author.Tests.{leb-true, leb-false, le-leb, lt-leb}
use Rattle.base.specs.Ascii.{ascii}
use Rattle.base.specs.Bytes.{Bytes, both, all, same}
use Rattle.base.proofs.Split.{by_bool, by_le, clash, no}
use Rattle.base.proofs.Lists.{same_yes, all_head, all_tail}
use Rattle.refusal.specs.declared.Refusal.{Refusal}
use Rattle.refusal.specs.declared.Refusal.TheVariants.{Missing, NotInteger, CoordinateRange, MemberType, NotDegrees, BothForms}
use Rattle.integer.specs.Integer.{integer_of}
use Rattle.integer.proofs.Integers.{integer_of_is}
use Rattle.degrees.specs.declared.Axis.{Axis}
use Rattle.degrees.specs.declared.Axis.TheVariants.{Latitude, Longitude}
use Rattle.degrees.specs.declared.DegreesError.{DegreesError}
use Rattle.degrees.specs.Degrees.{exact_degrees}
use Rattle.degrees.specs.Nearest.{nearest, most_degrees, read_degrees}
use Rattle.degrees.proofs.Rounding.{nearest_within}
use Rattle.degrees.proofs.Reading.{DegreesRead, degrees_read}
use Rattle.degrees.proofs.Reading
use Rattle.kind.specs.declared.Kind.{Kind}
use Rattle.kind.specs.declared.Kind.TheVariants.{Node, Way, Relation}
use Rattle.nesting.specs.declared.Name.{Name}
use Rattle.nesting.specs.declared.Name.TheVariants as N
use Rattle.nesting.specs.Name.{Spelling, spellings, name_in, name_of}
use Rattle.model.specs.Record.{Member, Tag}
use Rattle.event.specs.Event.{Attr, named, value_of, or_empty}
use Rattle.event_fields.specs.Field.{Field, got, bad, and_then, or_else, text_field, integer_field, an_integer, whole_name, degrees_name, most_whole, coordinate_within, whole_coordinate, degrees_answered, coordinate_by, coordinate, latitude, longitude, tag_of, ref_of, type_named, member_of}

-- ---- one field, then another

module _ {A B : Type 0} (g : A → Field B) where
  pub then_got : (f : Field A) {b : B} → and_then f g ≡ got b → (a : A) × ((f ≡ got a) × (g a ≡ got b))
  then_got (got a) e = (a, (refl, e))
  then_got (bad r) e = no (cc)

  -- "each field is checked whole before the next"
  pub then_bad : (f : Field A) (r : Refusal) → (and_then f g ≡ bad r) ↔ ((f ≡ bad r) ⊎ ((a : A) × ((f ≡ got a) × (g a ≡ bad r))))
  then_bad (got a) r = (λ e. inr (a, (refl, e)), λ s. ⊎_elim (λ e. no (cc)) (λ t. let q : a ≡ t.0 = cc in rw q t.1.1) s)
  then_bad (bad x) r = (λ e. inl (cc), λ s. ⊎_elim (λ e. cc) (λ t. no (cc t.1.0)) s)

-- a last step that refuses nothing
pub last_bad : {A B : Type 0} (g : A → B) (f : Field A) (r : Refusal) → (and_then f (λ a. got (g a)) ≡ bad r) ↔ (f ≡ bad r)
last_bad g (got a) r = (λ e. no (cc), λ e. no (cc))
last_bad g (bad x) r = (λ e. cc, λ e. cc)

module _ {A : Type 0} (x : Refusal) where
  pub or_got : (o : Option A) (a : A) → (or_else x o ≡ got a) ↔ (o ≡ Some a)
  or_got None a = (λ e. no (cc), λ e. no (cc))
  or_got (Some b) a = (λ e. cc, λ e. cc)

  pub or_bad : (o : Option A) (r : Refusal) → (or_else x o ≡ bad r) ↔ ((o ≡ None) × (r ≡ x))
  or_bad None r = (λ e. (refl, cc), λ e. ap bad (sym e.1))
  or_bad (Some b) r = (λ e. no (cc), λ e. no (cc e.0))

pub by_field : {A C : Type 0} (f : Field A) → ((a : A) → f ≡ got a → C) → ((r : Refusal) → f ≡ bad r → C) → C
by_field (got a) g h = g a refl
by_field (bad r) g h = h r refl

-- ---- attributes by name

-- a value and the attribute that has it
pub record Given (n : Bytes) (attrs : List Attr) (v : Bytes) : Type 0 where
  pub attr : Attr
  pub among : Memᴰ attr attrs
  pub name : n ≡ attr.name
  pub value : attr.value ≡ v

-- a name has no value exactly when no attribute has the name
pub value_none : (n : Bytes) (attrs : List Attr) → (value_of n attrs ≡ None) ↔ (named n attrs ≡ false)
unfolding value_of named
value_none n [] = (λ e. refl, λ e. refl)
value_none n (a ∷ attrs) =
    by_bool (same n a.name)
    (λ t. rw t (λ e. no (cc), λ e. clash refl e))
    (λ t. rw t (value_none n attrs))

-- what holds of every attribute's value holds of a name's value
pub value_all : (p : Bytes → Bool) (n : Bytes) (attrs : List Attr) {v : Bytes} → all (λ a. p a.value) attrs ≡ true → value_of n attrs ≡ Some v → p v ≡ true
unfolding value_of
value_all p n [] h e = no (cc)
value_all p n (a ∷ attrs) {v} h e =
    by_bool (same n a.name)
    (λ t. let q : Some a.value ≡ Some v = rw t at e in let r : a.value ≡ v = cc in rw r at (all_head _ a attrs h))
    (λ t. value_all p n attrs (all_tail _ a attrs h) (rw t at e))

-- ---- texts and integers

module _ (n : Bytes) (attrs : List Attr) where
  pub text_got : (v : Bytes) → (text_field n attrs ≡ got v) ↔ (value_of n attrs ≡ Some v)
  unfolding text_field
  text_got v = or_got Missing (value_of n attrs) v

  -- "7 missing"
  pub text_bad : (r : Refusal) → (text_field n attrs ≡ bad r) ↔ ((value_of n attrs ≡ None) × (r ≡ Missing))
  unfolding text_field
  text_bad r = or_bad Missing (value_of n attrs) r

  module _ (w : Width) where
    pub integer_got : (z : ℤ) → (integer_field w n attrs ≡ got z) ↔ ((v : Bytes) × ((value_of n attrs ≡ Some v) × (integer_of w v ≡ Some z)))
    unfolding integer_field
    integer_got z = (
      λ e. let t = then_got _ (text_field n attrs) e in (t.0, ((text_got _).0 t.1.0, (or_got _ _ z).0 t.1.1)),
      λ t. rw ((text_got t.0).1 t.1.0) ((or_got _ _ z).1 t.1.1),
    )

    -- "8 not an integer of its width"
    pub integer_bad : (r : Refusal) → (integer_field w n attrs ≡ bad r)
        ↔ (((value_of n attrs ≡ None) × (r ≡ Missing)) ⊎ ((v : Bytes) × ((value_of n attrs ≡ Some v) × ((integer_of w v ≡ None) × (r ≡ NotInteger)))))
    unfolding integer_field
    integer_bad r = (
      λ e. ⊎_elim (λ b. inl ((text_bad r).0 b)) (λ t. inr (t.0, ((text_got _).0 t.1.0, (or_bad _ _ r).0 t.1.1))) ((then_bad _ (text_field n attrs) r).0 e),
      λ s. (then_bad _ (text_field n attrs) r).1 (⊎_elim (λ b. inl ((text_bad r).1 b)) (λ t. inr (t.0, ((text_got _).1 t.1.0, (or_bad _ _ r).1 t.1.1))) s),
    )

    -- a number that is read is one of its width
    pub integer_fits : {z : ℤ} → integer_field w n attrs ≡ got z → SFits w z
    integer_fits {z} e = let t = (integer_got z).0 e in (integer_of_is w t.0 t.1.1).1

-- ---- coordinates

-- a coordinate, by the values of its two names: each answer with its condition
pub data CoordinateRead (a : Axis) : Option Bytes → Option Bytes → Field ℤ → Type 0 where
  -- "24 a pushed node's coordinate in both forms, first at that coordinate's place"; 7 in neither
  both_forms : {v d : Bytes} → CoordinateRead a (Some v) (Some d) (bad BothForms)
  neither_form : CoordinateRead a None None (bad Missing)
  -- a whole number of 1e-7 degree: 8, 10, or the number
  not_integer : {v : Bytes} → integer_of w32 v ≡ None → CoordinateRead a (Some v) None (bad NotInteger)
  whole_beyond : {v : Bytes} {z : ℤ} → integer_of w32 v ≡ Some z → most_whole a < nat_abs z → CoordinateRead a (Some v) None (bad CoordinateRange)
  whole_within : {v : Bytes} {z : ℤ} → integer_of w32 v ≡ Some z → nat_abs z ≤ most_whole a → CoordinateRead a (Some v) None (got z)
  -- degrees: 23; 10 by the exact degrees; or the nearest 1e-7 degree
  not_degrees : {d : Bytes} → exact_degrees d ≡ None → CoordinateRead a None (Some d) (bad NotDegrees)
  degrees_beyond : {d : Bytes} {x : ℤ} → exact_degrees d ≡ Some x → most_degrees a < nat_abs x → CoordinateRead a None (Some d) (bad CoordinateRange)
  degrees_within : {d : Bytes} {x : ℤ} → exact_degrees d ≡ Some x → nat_abs x ≤ most_degrees a → CoordinateRead a None (Some d) (got (nearest x))

module _ (a : Axis) where
  whole_read : (v : Bytes) → CoordinateRead a (Some v) None (whole_coordinate a v)
  whole_read v = go (integer_of w32 v) refl
    where
      go : (o : Option ℤ) → integer_of w32 v ≡ o → CoordinateRead a (Some v) None (and_then (an_integer o) (coordinate_within (most_whole a)))
      go None e = not_integer e
      go (Some z) e =
          by_le (nat_abs z) (most_whole a)
          (λ h. rw (le-leb (nat_abs z) (most_whole a) h) (whole_within e h))
          (λ h. rw (lt-leb (nat_abs z) (most_whole a) h) (whole_beyond e h))

  degrees_read_lem : (d : Bytes) → CoordinateRead a None (Some d) (degrees_answered (read_degrees a d))
  degrees_read_lem d = go refl (degrees_read a d)
    where
      go : {o : Option ℤ} {r : Result ℤ DegreesError} → exact_degrees d ≡ o → DegreesRead a o r → CoordinateRead a None (Some d) (degrees_answered r)
      go e Reading.not_degrees = not_degrees e
      go e (Reading.out_of_range h) = degrees_beyond e h
      go e (Reading.result h) = degrees_within e h

  read_by : (o p : Option Bytes) → CoordinateRead a o p (coordinate_by a o p)
  read_by (Some v) (Some d) = both_forms
  read_by None None = neither_form
  read_by (Some v) None = whole_read v
  read_by None (Some d) = degrees_read_lem d

  by_read : {o p : Option Bytes} {f : Field ℤ} → CoordinateRead a o p f → coordinate_by a o p ≡ f
  unfolding read_degrees
  by_read both_forms = refl
  by_read neither_form = refl
  by_read (not_integer e) = rw e
  by_read (whole_beyond {z = z} e h) = rw (e, lt-leb (nat_abs z) (most_whole a) h)
  by_read (whole_within {z = z} e h) = rw (e, le-leb (nat_abs z) (most_whole a) h)
  by_read (not_degrees e) = rw e
  by_read (degrees_beyond {x = x} e h) = rw (e, lt-leb (nat_abs x) (most_degrees a) h)
  by_read (degrees_within {x = x} e h) = rw (e, le-leb (nat_abs x) (most_degrees a) h)

  module _ (attrs : List Attr) where
    abbrev whole_text : Option Bytes
    whole_text = value_of (whole_name a) attrs

    abbrev degrees_text_of : Option Bytes
    degrees_text_of = value_of (degrees_name a) attrs

    -- each answer exactly when its condition holds
    pub coordinate_exactly : (f : Field ℤ) → (coordinate a attrs ≡ f) ↔ CoordinateRead a (value_of (whole_name a) attrs) (value_of (degrees_name a) attrs) f
    unfolding coordinate
    coordinate_exactly f = (λ e. rw e at (read_by whole_text degrees_text_of), λ r. by_read r)

whole_units : (a : Axis) (x : ℤ) → nat_abs x ≤ most_degrees a → nat_abs (nearest x) ≤ most_whole a
whole_units Latitude x h = nearest_within 900000000 x h
whole_units Longitude x h = nearest_within 1800000000 x h

most_fits : (a : Axis) (z : ℤ) → nat_abs z ≤ most_whole a → SFits w32 z
most_fits Latitude (pos n) h = record { sfits = omega (arith, h) }
most_fits Latitude (negsuc n) h = record { sfits = omega (arith, h) }
most_fits Longitude (pos n) h = record { sfits = omega (arith, h) }
most_fits Longitude (negsuc n) h = record { sfits = omega (arith, h) }

-- "at most 900,000,000 and 1,800,000,000 either side of 0", whatever form a coordinate is given in
pub coordinate_fits : (a : Axis) (attrs : List Attr) {z : ℤ} → coordinate a attrs ≡ got z → (nat_abs z ≤ most_whole a) × SFits w32 z
coordinate_fits a attrs {z} e = let h = small refl ((coordinate_exactly a attrs (got z)).0 e) in (h, most_fits a z h)
  where
    small : {o p : Option Bytes} {f : Field ℤ} → f ≡ got z → CoordinateRead a o p f → nat_abs z ≤ most_whole a
    small e both_forms = no (cc)
    small e neither_form = no (cc)
    small e (not_integer i) = no (cc)
    small e (whole_beyond i h) = no (cc)
    small e (whole_within {z = y} i h) = let q : y ≡ z = cc in rw q at h
    small e (not_degrees i) = no (cc)
    small e (degrees_beyond i h) = no (cc)
    small e (degrees_within {x = x} i h) = let q : nearest x ≡ z = cc in rw q at (whole_units a x h)

pub latitude_fits : (attrs : List Attr) {z : ℤ} → latitude attrs ≡ got z → (nat_abs z ≤ 900000000) × SFits w32 z
latitude_fits attrs e = coordinate_fits Latitude attrs e

pub longitude_fits : (attrs : List Attr) {z : ℤ} → longitude attrs ≡ got z → (nat_abs z ≤ 1800000000) × SFits w32 z
longitude_fits attrs e = coordinate_fits Longitude attrs e

-- ---- children

pub ref_fits : (attrs : List Attr) {z : ℤ} → ref_of attrs ≡ got z → SFits w64 z
unfolding ref_of
ref_fits attrs e = integer_fits (ascii "ref") attrs w64 e

module _ (attrs : List Attr) where
  pub tag_got : (t : Tag Bytes) → (tag_of attrs ≡ got t) ↔ ((value_of (ascii "k") attrs ≡ Some t.key) × (value_of (ascii "v") attrs ≡ Some t.value))
  unfolding tag_of
  tag_got t = (
    λ e.
        let k = then_got _ (text_field (ascii "k") attrs) e in
        let v = then_got _ (text_field (ascii "v") attrs) k.1.1 in
        let q : got (record { key = k.0; value = v.0 }) ≡ got t = v.1.1 in
        ((text_got _ attrs t.key).0 (k.1.0 ∙ cc), (text_got _ attrs t.value).0 (v.1.0 ∙ cc)),
    λ h. rw ((text_got _ attrs t.key).1 h.0, (text_got _ attrs t.value).1 h.1),
  )

  pub tag_bad : (r : Refusal) → (tag_of attrs ≡ bad r) ↔ (((value_of (ascii "k") attrs ≡ None) ⊎ (value_of (ascii "v") attrs ≡ None)) × (r ≡ Missing))
  unfolding tag_of
  tag_bad r = (
    λ e. ⊎_elim
        (λ k. let h = (text_bad _ attrs r).0 k in (inl h.0, h.1))
        (λ t. let h = (text_bad _ attrs r).0 ((last_bad _ (text_field (ascii "v") attrs) r).0 t.1.1) in (inr h.0, h.1))
        ((then_bad _ (text_field (ascii "k") attrs) r).0 e),
    λ h. by_field (text_field (ascii "k") attrs)
        (λ k e. ⊎_elim (λ a. no (cc ((text_bad _ attrs r).1 (a, h.1)))) (λ a. rw (e, (text_bad _ attrs r).1 (a, h.1))) h.0)
        (λ x e. rw e (ap bad (((text_bad _ attrs x).0 e).1 ∙ sym h.1))),
  )

-- the words for the kinds
abbrev pub word_of : Kind → Bytes
word_of Node = ascii "node"
word_of Way = ascii "way"
word_of Relation = ascii "relation"

-- a name that stands for a kind is spelled as its word
abbrev spelled : Field Kind → Bytes → Bool
spelled (got k) s = same s (word_of k)
spelled (bad r) s = true

in_spellings : (ps : List Spelling) → all (λ p. spelled (type_named p.name) p.bytes) ps ≡ true → (s : Bytes) (k : Kind) → type_named (name_in ps s) ≡ got k → s ≡ word_of k
unfolding name_in
in_spellings [] h s k e = no (cc)
in_spellings (p ∷ ps) h s k e =
    by_bool (same s p.bytes)
    (λ t. let q : type_named p.name ≡ got k = rw t at e in
    same_yes s p.bytes t ∙ same_yes p.bytes (word_of k) (rw q at (all_head _ p ps h)))
    (λ t. in_spellings ps (all_tail _ p ps h) s k (rw t at e))

pub type_got : (s : Bytes) (k : Kind) → (type_named (name_of s) ≡ got k) ↔ (s ≡ word_of k)
unfolding name_of spellings name_in all both same
type_got s k = (λ e. in_spellings spellings refl s k e, λ e. rw e (spelt k))
  where
    spelt : (k : Kind) → type_named (name_in spellings (word_of k)) ≡ got k
    spelt Node = refl
    spelt Way = refl
    spelt Relation = refl

-- "11 member type not `node`, `way`, `relation`"
type_only : (n : Name) {r : Refusal} → type_named n ≡ bad r → r ≡ MemberType
type_only N.Node e = no (cc)
type_only N.Way e = no (cc)
type_only N.Relation e = no (cc)
type_only N.OsmChange e = cc
type_only N.Create e = cc
type_only N.Modify e = cc
type_only N.Delete e = cc
type_only N.Tag e = cc
type_only N.Nd e = cc
type_only N.Member e = cc
type_only N.Bounds e = cc
type_only N.Unknown e = cc

pub type_bad : (s : Bytes) (r : Refusal) → (type_named (name_of s) ≡ bad r) ↔ (((k : Kind) → s ≡ word_of k → ⊥) × (r ≡ MemberType))
type_bad s r = (
  λ e. (λ k h. no (cc ((type_got s k).1 h)), type_only (name_of s) e),
  λ h. by_field (type_named (name_of s))
      (λ k e. absurd (h.0 k ((type_got s k).0 e)))
      (λ x e. e ∙ ap bad (type_only (name_of s) e ∙ sym h.1)),
)

module _ (attrs : List Attr) where
  -- "Member: type, ref, role (optional, else empty)."
  pub member_got : (m : Member Bytes) → (member_of attrs ≡ got m)
      ↔ ((value_of (ascii "type") attrs ≡ Some (word_of m.type)) × ((integer_field w64 (ascii "ref") attrs ≡ got m.ref) × (m.role ≡ or_empty (value_of (ascii "role") attrs))))
  unfolding member_of
  member_got m = (
    λ e.
        let t = then_got _ (text_field (ascii "type") attrs) e in
        let k = then_got _ (type_named (name_of t.0)) t.1.1 in
        let z = then_got _ (integer_field w64 (ascii "ref") attrs) k.1.1 in
        let q : got (record { ref = z.0; type = k.0; role = or_empty (value_of (ascii "role") attrs) }) ≡ got m = z.1.1 in
        ((text_got _ attrs _).0 (t.1.0 ∙ ap got ((type_got t.0 m.type).0 (k.1.0 ∙ cc))), (z.1.0 ∙ cc, cc)),
    λ h. rw ((text_got _ attrs _).1 h.0, (type_got (word_of m.type) m.type).1 refl, h.1.0)
        (λ i. got (record { ref = m.ref; type = m.type; role = sym h.1.1 i })),
  )

  pub member_bad : (r : Refusal) → (member_of attrs ≡ bad r)
      ↔ (((value_of (ascii "type") attrs ≡ None) × (r ≡ Missing))
      ⊎ ((s : Bytes) × ((value_of (ascii "type") attrs ≡ Some s)
      × ((((k : Kind) → s ≡ word_of k → ⊥) × (r ≡ MemberType)) ⊎ ((k : Kind) × ((s ≡ word_of k) × (integer_field w64 (ascii "ref") attrs ≡ bad r)))))))
  unfolding member_of
  member_bad r = (
    λ e. ⊎_elim
        (λ b. inl ((text_bad _ attrs r).0 b))
        (λ t. inr (
          t.0,
          (
            (text_got _ attrs _).0 t.1.0,
            ⊎_elim
                (λ b. inl ((type_bad t.0 r).0 b))
                (λ k. inr (k.0, ((type_got t.0 k.0).0 k.1.0, (last_bad _ (integer_field w64 (ascii "ref") attrs) r).0 k.1.1)))
                ((then_bad _ (type_named (name_of t.0)) r).0 t.1.1),
          ),
        ))
        ((then_bad _ (text_field (ascii "type") attrs) r).0 e),
    λ s. ⊎_elim
        (λ b. rw ((text_bad _ attrs r).1 b))
        (λ t. rw ((text_got _ attrs _).1 t.1.0) (⊎_elim
        (λ b. rw ((type_bad t.0 r).1 b))
        (λ k. rw ((type_got t.0 k.0).1 k.1.0, k.1.1))
        t.1.1))
        s,
  )

  pub member_fits : {m : Member Bytes} → member_of attrs ≡ got m → SFits w64 m.ref
  member_fits {m} e = integer_fits (ascii "ref") attrs w64 ((member_got m).0 e).1.0
