-- xml_parse.rs: integers, attributes, children and metadata, as the library's fields read them.
use Rattle.std.specs.Prelude.{None, Option, Some, option_map, Result, Ok, Err}
use Rattle.std.proofs.Common.{◌≡◌, ℕ, zero, suc, ◌+◌, ◌-◌, ◌*◌, ◌^◌, Bool, true, false, cond, eqb, ltb, leb, List, [], ◌∷◌, map, ℤ, pos, neg_ℤ, nat_abs, refl, ap, ◌∙◌, w32, w64, eqb-true}
use mir.Syntax.{Width}
use mir.Val.{hbits}
use Rattle.base.specs.Ascii.{ascii}
use Rattle.base.specs.Bytes.{Bytes, same, both, all, is_digit}
use Rattle.base.proofs.Lists.{same_swap}
use Rattle.base.proofs.Split.{by_bool}
use Rattle.integer.specs.Integer.{decimal, digits, integer, holds, of_width, integer_of}
use Rattle.model.specs.Record.{flagged}
use Rattle.degrees.specs.declared.Axis.{Axis}
use Rattle.degrees.specs.declared.DegreesError.{DegreesError}
use Rattle.degrees.specs.declared.DegreesError.TheVariants as E
use Rattle.degrees.specs.Nearest.{read_degrees}
use Rattle.stamp.specs.Stamp.{stamp}
use Rattle.event.specs.Event.{Attr, value_of}
use Rattle.event_fields.specs.Field.{Field, got, and_then, text_field, integer_field, mark, meta_with, meta_from, metadata_of}
use Rattle.published.specs.Std.{parse_int}
use Rattle.published.specs.Std as Rust
use Rattle.published.specs.XmlParse.{Error, find_attr, parse_i64_attr, parse_str_attr, MetaSoFar, scan_one, scan_meta_attrs, bit, given}
use Rattle.published.specs.Compact as C
use Rattle.published.specs.XmlParse as X
use Rattle.event_fields.specs.Field as F
use Rattle.refines.specs.Driving as Driving
use Rattle.refines.specs.Driving.{attribute, bytes_start, by_documents}
use Rattle.refines.proofs.Sinks.{field_of, meta_so_far, user_of}

-- ---- integers

same_digits : (acc : ℕ) (bs : Bytes) → Rust.digits acc bs ≡ cond (all is_digit bs) (Some (decimal acc bs)) None
unfolding Rust.digits all decimal both
same_digits acc [] = refl
same_digits acc (b ∷ bs) = by_bool (is_digit b) (λ t. rw (t, same_digits (acc * 10 + (b - 48)) bs)) (λ t. rw t)

module _ (w : Width) (positive : ltb 0 (2 ^ hbits w) ≡ true) where
  same_within : (negative : Bool) (o : Option ℕ) → Rust.within (hbits w) negative o ≡ of_width w (option_map (λ n. cond negative (neg_ℤ (pos n)) (pos n)) o)
  unfolding of_width holds
  same_within negative None = refl
  same_within true (Some zero) = rw positive
  same_within true (Some (suc n)) = refl
  same_within false (Some n) = refl

  same_unsigned : (negative : Bool) (bs : Bytes) → Rust.unsigned (hbits w) negative bs ≡ of_width w (option_map (λ n. cond negative (neg_ℤ (pos n)) (pos n)) (digits bs))
  unfolding of_width digits
  same_unsigned negative [] = refl
  same_unsigned negative (b ∷ bs) = rw (same_digits 0 (b ∷ bs)) (same_within negative (cond (all is_digit (b ∷ bs)) (Some (decimal 0 (b ∷ bs))) None))

  same_int : (bs : Bytes) → parse_int (hbits w) bs ≡ integer_of w bs
  unfolding parse_int integer_of integer of_width
  same_int [] = refl
  same_int (b ∷ bs) =
      by_bool (eqb b 45)
      (λ t. let z : eqb b 43 ≡ false = rw (eqb-true b 45 t) in rw (t, z) (same_unsigned true bs))
      (λ t. by_bool (eqb b 43) (λ u. rw (t, u) (same_unsigned false bs)) (λ u. rw (t, u) (same_unsigned false (b ∷ bs))))

pub same_i64 : (bs : Bytes) → parse_int 63 bs ≡ integer_of w64 bs
same_i64 bs = same_int w64 refl bs

pub same_i32 : (bs : Bytes) → parse_int 31 bs ≡ integer_of w32 bs
same_i32 bs = same_int w32 refl bs

-- ---- attributes

pub same_attr : (attrs : List Attr) (n : Bytes) → find_attr (map attribute attrs) n ≡ value_of n attrs
unfolding find_attr value_of
same_attr [] n = refl
same_attr (a ∷ attrs) n = rw (same_swap a.name n) (ap (cond (same n a.name) (Some a.value)) (same_attr attrs n))

plain : {A : Type 0} → A → A
plain a = a

abbrev field : {A : Type 0} → Result A Error → Field A
field x = field_of (λ a. a) x

module _ (name : Bytes) (attrs : List Attr) (n : Bytes) where
  pub same_text_field : field (parse_str_attr (bytes_start name attrs) n) ≡ text_field n attrs
  unfolding parse_str_attr text_field
  same_text_field = rw (same_attr attrs n) (go (value_of n attrs))
    where
      go : (o : Option Bytes) → field (X.ok_or X.missing_attr o) ≡ F.required o
      go None = refl
      go (Some v) = refl

  -- an integer, by its reader
  integer_as : (f : Bytes → Option ℤ) (o : Option Bytes) → field (X.then (X.ok_or X.missing_attr o) (λ v. X.ok_or X.not_integer (f v))) ≡ and_then (F.required o) (λ v. F.an_integer (f v))
  integer_as f None = refl
  integer_as f (Some v) = go (f v)
    where
      go : (z : Option ℤ) → field (X.ok_or X.not_integer z) ≡ F.an_integer z
      go None = refl
      go (Some z) = refl

  pub same_integer_field : field (parse_i64_attr (bytes_start name attrs) n) ≡ integer_field w64 n attrs
  unfolding parse_i64_attr integer_field text_field
  same_integer_field = rw (same_attr attrs n) (integer_as (parse_int 63) (value_of n attrs) ∙ reads (value_of n attrs))
    where
      reads : (o : Option Bytes) → and_then (F.required o) (λ v. F.an_integer (parse_int 63 v)) ≡ and_then (F.required o) (λ v. F.an_integer (integer_of w64 v))
      reads None = refl
      reads (Some v) = rw (same_i64 v)

-- a coordinate, in either form
module _ (name : Bytes) (attrs : List Attr) (a : Axis) where
  pub same_coordinate : field (Driving.coordinate_in a (bytes_start name attrs)) ≡ F.coordinate a attrs
  unfolding F.coordinate
  same_coordinate = rw (same_attr attrs (F.whole_name a), same_attr attrs (F.degrees_name a)) (go (value_of (F.whole_name a) attrs) (value_of (F.degrees_name a) attrs))
    where
      within : (z : ℤ) → field (Driving.limited (F.most_whole a) z) ≡ F.coordinate_within (F.most_whole a) z
      within z = by_bool (leb (nat_abs z) (F.most_whole a)) (λ t. rw t) (λ t. rw t)

      whole : (z : Option ℤ) → field (X.then (X.ok_or X.not_integer z) (Driving.limited (F.most_whole a))) ≡ and_then (F.an_integer z) (F.coordinate_within (F.most_whole a))
      whole None = refl
      whole (Some z) = within z

      degrees : (r : Result ℤ DegreesError) → field (Driving.degrees_told r) ≡ F.degrees_answered r
      degrees (Ok z) = refl
      degrees (Err E.NotDegrees) = refl
      degrees (Err E.OutOfRange) = refl

      go : (o p : Option Bytes) → field (Driving.coordinate_told a o p) ≡ F.coordinate_by a o p
      go (Some v) (Some d) = refl
      go None None = refl
      go (Some v) None = rw (same_i32 v) (whole (integer_of w32 v))
      go None (Some d) = degrees (read_degrees a d)

-- ---- metadata

-- a law of four tests, by cases
each4 : (P : Bool → Bool → Bool → Bool → Type 0)
    → P true true true true → P true true true false → P true true false true → P true true false false
    → P true false true true → P true false true false → P true false false true → P true false false false
    → P false true true true → P false true true false → P false true false true → P false true false false
    → P false false true true → P false false true false → P false false false true → P false false false false
    → (a b c d : Bool) → P a b c d
each4 P a0 a1 a2 a3 a4 a5 a6 a7 a8 a9 aa ab ac ad ae af true true true true = a0
each4 P a0 a1 a2 a3 a4 a5 a6 a7 a8 a9 aa ab ac ad ae af true true true false = a1
each4 P a0 a1 a2 a3 a4 a5 a6 a7 a8 a9 aa ab ac ad ae af true true false true = a2
each4 P a0 a1 a2 a3 a4 a5 a6 a7 a8 a9 aa ab ac ad ae af true true false false = a3
each4 P a0 a1 a2 a3 a4 a5 a6 a7 a8 a9 aa ab ac ad ae af true false true true = a4
each4 P a0 a1 a2 a3 a4 a5 a6 a7 a8 a9 aa ab ac ad ae af true false true false = a5
each4 P a0 a1 a2 a3 a4 a5 a6 a7 a8 a9 aa ab ac ad ae af true false false true = a6
each4 P a0 a1 a2 a3 a4 a5 a6 a7 a8 a9 aa ab ac ad ae af true false false false = a7
each4 P a0 a1 a2 a3 a4 a5 a6 a7 a8 a9 aa ab ac ad ae af false true true true = a8
each4 P a0 a1 a2 a3 a4 a5 a6 a7 a8 a9 aa ab ac ad ae af false true true false = a9
each4 P a0 a1 a2 a3 a4 a5 a6 a7 a8 a9 aa ab ac ad ae af false true false true = aa
each4 P a0 a1 a2 a3 a4 a5 a6 a7 a8 a9 aa ab ac ad ae af false true false false = ab
each4 P a0 a1 a2 a3 a4 a5 a6 a7 a8 a9 aa ab ac ad ae af false false true true = ac
each4 P a0 a1 a2 a3 a4 a5 a6 a7 a8 a9 aa ab ac ad ae af false false true false = ad
each4 P a0 a1 a2 a3 a4 a5 a6 a7 a8 a9 aa ab ac ad ae af false false false true = ae
each4 P a0 a1 a2 a3 a4 a5 a6 a7 a8 a9 aa ab ac ad ae af false false false false = af

-- flags by their bits: present, hidden, has user, has version
abbrev bits : Bool → Bool → Bool → Bool → ℕ
bits p h u v = bit p 1 + bit h 2 + bit u 4 + bit v 8

mark_1 : (p h u v : Bool) → mark 1 (bits p h u v) ≡ bits true h u v
unfolding mark flagged
mark_1 = each4 (λ p h u v. mark 1 (bits p h u v) ≡ bits true h u v) refl refl refl refl refl refl refl refl refl refl refl refl refl refl refl refl

mark_2 : (p h u v : Bool) → mark 2 (bits p h u v) ≡ bits p true u v
unfolding mark flagged
mark_2 = each4 (λ p h u v. mark 2 (bits p h u v) ≡ bits p true u v) refl refl refl refl refl refl refl refl refl refl refl refl refl refl refl refl

mark_4 : (p h u v : Bool) → mark 4 (bits p h u v) ≡ bits p h true v
unfolding mark flagged
mark_4 = each4 (λ p h u v. mark 4 (bits p h u v) ≡ bits p h true v) refl refl refl refl refl refl refl refl refl refl refl refl refl refl refl refl

mark_8 : (p h u v : Bool) → mark 8 (bits p h u v) ≡ bits p h u true
unfolding mark flagged
mark_8 = each4 (λ p h u v. mark 8 (bits p h u v) ≡ bits p h u true) refl refl refl refl refl refl refl refl refl refl refl refl refl refl refl refl

flag_4 : (p h u v : Bool) → flagged 4 (bits p h u v) ≡ u
unfolding flagged
flag_4 = each4 (λ p h u v. flagged 4 (bits p h u v) ≡ u) refl refl refl refl refl refl refl refl refl refl refl refl refl refl refl refl

-- the user's name, if it is given
pub same_user : (m : MetaSoFar) → user_of (meta_so_far m) ≡ m.user
same_user m = rw (flag_4 m.any m.hidden (given m.user) m.has_version) (go m.user)
  where
    go : (o : Option Bytes) → cond (given o) (Some (X.or_empty o)) None ≡ o
    go None = refl
    go (Some t) = refl

module _ (m : MetaSoFar) where
  abbrev p : Bool
  p = m.any

  abbrev h : Bool
  h = m.hidden

  abbrev u : Bool
  u = given m.user

  abbrev v : Bool
  v = m.has_version

  version_as : (o : Option ℤ) → field_of meta_so_far (X.then (X.ok_or X.not_integer o) (λ z. Ok (record { any = true; hidden = m.hidden; has_version = true; version = z; timestamp = m.timestamp; changeset = m.changeset; uid = m.uid; user = m.user })))
      ≡ and_then (F.an_integer o) (λ z. got (F.with_version (meta_so_far m) z))
  version_as None = refl
  version_as (Some z) = rw (mark_1 p h u v, mark_8 true h u v)

  stamp_as : (o : Option ℤ) → field_of meta_so_far (X.then (X.ok_or X.bad_timestamp o) (λ z. Ok (record { any = true; hidden = m.hidden; has_version = m.has_version; version = m.version; timestamp = z; changeset = m.changeset; uid = m.uid; user = m.user })))
      ≡ and_then (F.a_stamp o) (λ z. got (F.with_timestamp (meta_so_far m) z))
  stamp_as None = refl
  stamp_as (Some z) = rw (mark_1 p h u v)

  changeset_as : (o : Option ℤ) → field_of meta_so_far (X.then (X.ok_or X.not_integer o) (λ z. Ok (record { any = true; hidden = m.hidden; has_version = m.has_version; version = m.version; timestamp = m.timestamp; changeset = z; uid = m.uid; user = m.user })))
      ≡ and_then (F.an_integer o) (λ z. got (F.with_changeset (meta_so_far m) z))
  changeset_as None = refl
  changeset_as (Some z) = rw (mark_1 p h u v)

  uid_as : (o : Option ℤ) → field_of meta_so_far (X.then (X.ok_or X.not_integer o) (λ z. Ok (record { any = true; hidden = m.hidden; has_version = m.has_version; version = m.version; timestamp = m.timestamp; changeset = m.changeset; uid = z; user = m.user })))
      ≡ and_then (F.an_integer o) (λ z. got (F.with_uid (meta_so_far m) z))
  uid_as None = refl
  uid_as (Some z) = rw (mark_1 p h u v)

  one_attribute : (a : Attr) → field_of meta_so_far (scan_one by_documents m (attribute a)) ≡ meta_with (meta_so_far m) a
  unfolding scan_one meta_with
  one_attribute a =
      by_bool (same a.name (ascii "version")) (λ t. rw (t, same_i32 a.value) (version_as (integer_of w32 a.value)))
      (λ t1. by_bool (same a.name (ascii "timestamp")) (λ t. rw (t1, t) (stamp_as (stamp a.value)))
      (λ t2. by_bool (same a.name (ascii "changeset")) (λ t. rw (t1, t2, t, same_i64 a.value) (changeset_as (integer_of w64 a.value)))
      (λ t3. by_bool (same a.name (ascii "uid")) (λ t. rw (t1, t2, t3, t, same_i32 a.value) (uid_as (integer_of w32 a.value)))
      (λ t4. by_bool (same a.name (ascii "user")) (λ t. rw (t1, t2, t3, t4, t, mark_1 p h u v, mark_4 true h u v))
      (λ t5. by_bool (same a.name (ascii "visible"))
      (λ t. rw (t1, t2, t3, t4, t5, t)
      (by_bool (same a.value (ascii "false")) (λ x. rw (x, mark_1 p h u v, mark_2 true h u v)) (λ x. rw (x, mark_1 p h u v))))
      (λ t. rw (t1, t2, t3, t4, t5, t)))))))

-- a field, then what follows it
pub field_then : {A B C D : Type 0} (f : A → B) (g : C → D) (x : Result A Error) (k : A → Result C Error) (l : B → Field D) → ((a : A) → field_of g (k a) ≡ l (f a))
    → field_of g (X.then x k) ≡ and_then (field_of f x) l
field_then f g (Ok a) k l e = e a
field_then f g (Err x) k l e = refl

pub same_metadata_from : (attrs : List Attr) (m : MetaSoFar) → field_of meta_so_far (scan_meta_attrs by_documents m (map attribute attrs)) ≡ meta_from (meta_so_far m) attrs
unfolding scan_meta_attrs meta_from
same_metadata_from [] m = refl
same_metadata_from (a ∷ attrs) m =
    field_then meta_so_far meta_so_far (scan_one by_documents m (attribute a)) (λ n. scan_meta_attrs by_documents n (map attribute attrs)) (λ n. meta_from n attrs) (same_metadata_from attrs)
    ∙ ap (λ x. and_then x (λ n. meta_from n attrs)) (one_attribute m a)

pub same_metadata : (attrs : List Attr) → field_of meta_so_far (scan_meta_attrs by_documents X.default (map attribute attrs)) ≡ metadata_of attrs
unfolding metadata_of
same_metadata attrs = same_metadata_from attrs X.default

-- ---- children

module _ (name : Bytes) (attrs : List Attr) where
  pub same_tag : field_of (λ (t : C.Tag). record { key = t.k; value = t.v }) (X.parse_tag (bytes_start name attrs)) ≡ F.tag_of attrs
  unfolding X.parse_tag F.tag_of
  same_tag =
      field_then (λ a. a) (λ (t : C.Tag). record { key = t.k; value = t.v }) (parse_str_attr (bytes_start name attrs) (ascii "k")) _ (λ k. and_then (text_field (ascii "v") attrs) (λ x. got (record { key = k; value = x })))
      (λ k. field_then (λ a. a) (λ (t : C.Tag). record { key = t.k; value = t.v }) (parse_str_attr (bytes_start name attrs) (ascii "v")) _ (λ x. got (record { key = k; value = x })) (λ x. refl)
      ∙ ap (λ z. and_then z (λ x. got (record { key = k; value = x }))) (same_text_field name attrs (ascii "v")))
      ∙ ap (λ z. and_then z (λ k. and_then (text_field (ascii "v") attrs) (λ x. got (record { key = k; value = x })))) (same_text_field name attrs (ascii "k"))

  pub same_nd : field (X.parse_nd (bytes_start name attrs)) ≡ F.ref_of attrs
  unfolding X.parse_nd F.ref_of
  same_nd = same_integer_field name attrs (ascii "ref")
