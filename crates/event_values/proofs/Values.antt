-- A value read where it lies: its integer, its timestamp, and the field of its name.
use Rattle.std.specs.Prelude.{None, Option, Some, Ok, Err, Result, option_map, ok_or, unwrap_or, IsErr, IsErrAnd, IfOk, IfSome}
use Rattle.std.proofs.lemmas.Result.{err_from_is_err_and}
use Prim.Native.Nat.{ℕ, ◌*◌, ◌<◌, ◌≤◌}
use mathlib.Core.Path.{◌≡◌, refl, sym, ◌∙◌, ap}
use mathlib.Core.Bool.{true, false}
use mathlib.Core.List.{List, [], map}
use native.Mathlib.Omega.{arith}
use lib.ListN.{length}
use lib.IntN.{ℤ, pos, negsuc, nat_abs}
use mir.Syntax.{Width, w32, w64}
use lib.Signed.{mag}
use mir.Val.{of_z, to_z, Fits, SFits}
use mir.Facts.{to_z-of_z}
use borrow.Author.Tests.{le-leb, lt-leb}
use Rattle.base.specs.Bytes.{Bytes, both, same}
use Rattle.base.proofs.Lists.{same_yes, same_swap}
use Rattle.refusal.specs.declared.Refusal.{Refusal}
use Rattle.refusal.specs.declared.Refusal.TheVariants.{Missing, NotInteger, CoordinateRange, MemberType}
use Rattle.kind.specs.declared.Kind.{Kind}
use Rattle.nesting.specs.Name.{kind_named}
use Rattle.nesting.specs.declared.Name.{Name}
use Rattle.nesting.specs.declared.Name.TheVariants.{OsmChange, Create, Modify, Delete, Node, Way, Relation, Tag, Nd, Member, Bounds, Unknown}
use Rattle.text.specs.Escape.{unescape_from}
use Rattle.integer.specs.Integer.{integer_of, read_of}
use Rattle.integer.proofs.Integers.{integer_of_is, read_is}
use Rattle.degrees.specs.declared.Axis.{Axis}
use Rattle.degrees.specs.declared.Axis.TheVariants.{Latitude, Longitude}
use Rattle.degrees.specs.declared.DegreesError.{DegreesError}
use Rattle.degrees.specs.Nearest.{most_degrees, read_degrees}
use Rattle.degrees.proofs.Reading.{result_within}
use Rattle.stamp.specs.Stamp as S
use Rattle.stamp.proofs.Bounds.{stamp_fits}
use Rattle.event.specs.Event.{Attr, value_of, or_empty}
use Rattle.event_scan.specs.Piece.{value_text}
use Rattle.event_scan.specs.Parts.{with_text}
use Rattle.event_scan.proofs.Parts.{value_text_of}
use Rattle.event_fields.specs.Field.{got, bad, or_else, an_integer, whole_name, degrees_name, coordinate_within, degrees_answered, coordinate_by, coordinate, text_field, integer_field, type_named}
use Rattle.event_scan.specs.declared.fields.Value.{Value}
use Rattle.event_scan.specs.Fields.{text_written}
use Rattle.event_values.specs.Values.{value_field}
use Rattle.event_values.specs.Value.{integer_in, stamp_in, field_in}
use Rattle.event_values.proofs.Raws.{integer_raw, degrees_raw, stamp_raw}

-- ---- answers in bits

read_number : (w : Width) (s : Bytes) → integer_in w (read_of w s) ≡ integer_of w s
unfolding read_of
read_number w s = go (integer_of w s) refl
  where
    go : (o : Option ℤ) → integer_of w s ≡ o → integer_in w (option_map (of_z w) o) ≡ o
    go None e = refl
    go (Some z) e = ap Some (to_z-of_z (integer_of_is w s e).1)

read_moment : (s : Bytes) → stamp_in (S.stamp_of s) ≡ S.stamp s
unfolding S.stamp_of
read_moment s = go (S.stamp s) refl
  where
    go : (o : Option ℤ) → S.stamp s ≡ o → stamp_in (option_map (of_z w64) o) ≡ o
    go None e = refl
    go (Some z) e = ap Some (to_z-of_z (stamp_fits s e))

-- ---- a value

pub number_text : (w : Width) (v : Bytes) {r : Option ℕ} → r ≡ read_of w v → integer_in w r ≡ integer_of w (value_text v)
number_text w v e = ap (integer_in w) e ∙ read_number w v ∙ integer_raw w v

pub moment_text : (v : Bytes) {r : Option ℕ} → r ≡ S.stamp_of v → stamp_in r ≡ S.stamp (value_text v)
moment_text v e = ap stamp_in e ∙ read_moment v ∙ stamp_raw v

-- the bits of a 32-bit integer are 32
pub narrow_fits : (s : Bytes) (b : ℕ) → read_of w32 s ≡ Some b → Fits w32 b
narrow_fits s b e = (read_is w32 s e).1

-- ---- fields

-- what the exit of a `?` hands on
pub handed_on : {A E : Type 0} {r : Result A E} {e : E} → IsErr r × IsErrAnd r (λ y. y ≡ e) → r ≡ Err e
handed_on {r = r} h = let p = err_from_is_err_and r h.1 in p.1 ∙ ap Err p.2

-- the value of a name, or 7 where it has none
pub field_written : {N : ℕ} (n : Bytes) (attrs : List Attr) (o : Option (Value N)) (r : Result (Value N) Refusal) → option_map text_written o ≡ value_of n attrs → r ≡ ok_or o Missing → value_field r ≡ text_field n attrs
unfolding text_field
field_written n attrs None r e q = rw (q, ← e)
field_written n attrs (Some v) r e q = rw (q, ← e)

-- what holds of a value that was found
pub found_kept : {A E : Type 0} (x : E) (o : Option A) (P : A → Type 0) {r : Result A E} → r ≡ ok_or o x → IfSome o P → IfOk r P
found_kept x None P e h = rw e tt
found_kept x (Some v) P e h = rw e h

-- a value that was found is the one that is written
pub found_written : {A : Type 0} (f : A → Bytes) (o : Option A) {x : Option Bytes} → option_map f o ≡ x → IfSome o (λ v. x ≡ Some (f v))
found_written f None e = tt
found_written f (Some v) e = sym e

-- a value that was found, or else the empty one, is the one that is written, or else empty
pub or_empty_is : {N : ℕ} (d : Value N) (o : Option (Value N)) {x : Option Bytes} → d.bytes.now ≡ [] → option_map (λ v. v.bytes.now) o ≡ x → (unwrap_or o d).bytes.now ≡ or_empty x
or_empty_is d None e q = rw (e, ← q)
or_empty_is d (Some v) e q = rw (← q)

-- a value that was found, or else the empty one, is no longer than those that can be found
pub or_empty_short : {N : ℕ} (n : ℕ) (d : Value N) (o : Option (Value N)) → d.bytes.now ≡ [] → IfSome o (λ v. length v.bytes.now ≤ n) → length (unwrap_or o d).bytes.now ≤ n
or_empty_short n d None e h = rw e (omega arith)
or_empty_short n d (Some v) e h = h

-- the value of a name, or else the empty one
pub or_empty_written : {N : ℕ} (d : Value N) (o : Option (Value N)) (x : Option Bytes) → d.bytes.now ≡ [] → option_map text_written o ≡ x → text_written (unwrap_or o d) ≡ or_empty x
unfolding value_text unescape_from
or_empty_written d None x e q = rw (e, ← q)
or_empty_written d (Some v) x e q = rw (← q)

-- a value that is read, or else a refusal
pub field_read : {A B : Type 0} (f : A → B) (r : Refusal) (o : Option A) → field_in f (ok_or o r) ≡ or_else r (option_map f o)
field_read f r None = refl
field_read f r (Some x) = refl

-- the kind of a member's type, or else 11
pub type_read : (n : Name) {o : Option Kind} → o ≡ kind_named n → field_in (λ k. k) (ok_or o MemberType) ≡ type_named n
type_read OsmChange e = rw e
type_read Create e = rw e
type_read Modify e = rw e
type_read Delete e = rw e
type_read Node e = rw e
type_read Way e = rw e
type_read Relation e = rw e
type_read Tag e = rw e
type_read Nd e = rw e
type_read Member e = rw e
type_read Bounds e = rw e
type_read Unknown e = rw e

module _ (n : Bytes) (attrs : List Attr) (w : Width) where
  pub integer_missing : {r : Refusal} → bad r ≡ text_field n attrs → bad r ≡ integer_field w n attrs
  unfolding integer_field
  integer_missing e = rw (← e)

  -- an integer of its text, or 8 where that is none
  pub integer_read : {x : Bytes} (o : Option ℕ) {r : Result ℕ Refusal} → got x ≡ text_field n attrs → integer_in w o ≡ integer_of w x
      → r ≡ ok_or o NotInteger → field_in (to_z w) r ≡ integer_field w n attrs
  unfolding integer_field
  integer_read o e q p = ap (field_in (to_z w)) p ∙ field_read (to_z w) NotInteger o ∙ rw (← e, q)

-- an integer, or 8
pub number_read : (w : Width) (o : Option ℕ) {z : Option ℤ} {r : Result ℕ Refusal} → integer_in w o ≡ z → r ≡ ok_or o NotInteger → field_in (to_z w) r ≡ an_integer z
number_read w o q p = ap (field_in (to_z w)) p ∙ field_read (to_z w) NotInteger o ∙ ap an_integer q

-- ---- "at most 900,000,000 and 1,800,000,000 either side of 0"

-- the size of a number that is read from its bits
pub size_is : {n : ℕ} {z : ℤ} (b : ℕ) → n ≡ nat_abs (to_z w32 (of_z w32 z)) → mag z < 2147483648 → z ≡ to_z w32 b → n ≡ nat_abs (to_z w32 b)
size_is {z = z} b e f g = e ∙ ap nat_abs (to_z-of_z {w = w32} {z = z} (record { sfits = f })) ∙ ap nat_abs g

pub within : {n limit : ℕ} (z : ℤ) → n ≡ nat_abs z → n ≤ limit → got z ≡ coordinate_within limit z
within {limit = limit} z e h = rw (le-leb (nat_abs z) limit (omega arith))

pub beyond : {n limit : ℕ} (z : ℤ) → n ≡ nat_abs z → limit < n → bad CoordinateRange ≡ coordinate_within limit z
beyond {limit = limit} z e h = rw (lt-leb (nat_abs z) limit (omega arith))

-- ---- a coordinate

-- the two names are two
names_apart : (a : Axis) → same (whole_name a) (degrees_name a) ≡ false
unfolding same both
names_apart Latitude = refl
names_apart Longitude = refl

-- what the attributes that are left give a name as it is written, they give it as a text
pub text_same : (n : Bytes) (xs ys : List Attr) → value_of n xs ≡ value_of n ys → value_of n (map with_text xs) ≡ value_of n (map with_text ys)
text_same n xs ys e = value_text_of n xs ∙ ap (option_map value_text) e ∙ sym (value_text_of n ys)

-- an attribute of one name is none of the other
module _ (a : Axis) {w d : Bytes} (p : w ≡ whole_name a) (q : d ≡ degrees_name a) (x : Bytes) where
  pub whole_alone : same w x ≡ true → same d x ≡ false
  whole_alone t = rw (← same_yes w x t, p, q, same_swap (degrees_name a) (whole_name a)) (names_apart a)

  pub degrees_alone : same d x ≡ true → same w x ≡ false
  degrees_alone t = rw (← same_yes d x t, p, q) (names_apart a)

-- by what its two names are given
pub coordinate_values : (a : Axis) (attrs : List Attr) {o p : Option Bytes} → value_of (whole_name a) attrs ≡ o → value_of (degrees_name a) attrs ≡ p
    → coordinate_by a o p ≡ coordinate a attrs
unfolding coordinate
coordinate_values a attrs e f = rw (e, f)

-- degrees, with their bits handed on
module _ (a : Axis) (v : Bytes) where
  result_fits : {z : ℤ} → read_degrees a v ≡ Ok z → SFits w32 z
  result_fits {z} e = by_axis a z (result_within a v e)
    where
      by_axis : (a : Axis) (z : ℤ) → 100000 * nat_abs z ≤ most_degrees a → SFits w32 z
      by_axis Latitude (pos n) h = record { sfits = omega arith }
      by_axis Latitude (negsuc n) h = record { sfits = omega arith }
      by_axis Longitude (pos n) h = record { sfits = omega arith }
      by_axis Longitude (negsuc n) h = record { sfits = omega arith }

  pub degrees_got : {z : ℤ} {n : ℕ} → Ok z ≡ read_degrees a v → n ≡ of_z w32 (to_z w32 (of_z w32 z)) → got (to_z w32 n) ≡ degrees_answered (read_degrees a (value_text v))
  degrees_got e q =
      let f = to_z-of_z (result_fits (sym e)) in
      rw (← degrees_raw a v, ← e) (ap got (ap (to_z w32) q ∙ rw (f, f)))

  pub degrees_not : {x : DegreesError} → Err x ≡ read_degrees a v → degrees_answered (Err x) ≡ degrees_answered (read_degrees a (value_text v))
  degrees_not e = rw (← degrees_raw a v, ← e)
