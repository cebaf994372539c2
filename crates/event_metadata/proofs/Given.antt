-- Metadata by the names of its attributes, in line order.
use Rattle.std.specs.Prelude.{None, Option, Some, Result, ok_or}
use lib.IntN.{ℤ}
use mir.Syntax.{Width, w32, w64}
use mir.Val.{to_z}
use Prim.Native.Nat.{ℕ}
use mathlib.Core.Path.{◌≡◌, refl, sym, ◌∙◌, ap}
use mathlib.Core.Bool.{Bool, true, false, cond}
use mathlib.Core.List.{List, [], ◌∷◌}
use Rattle.base.specs.Ascii.{ascii}
use Rattle.base.specs.Bytes.{Bytes, both, same}
use Rattle.base.proofs.Split.{by_bool}
use Rattle.base.proofs.Lists.{same_yes}
use Rattle.refusal.specs.declared.Refusal.{Refusal}
use Rattle.refusal.specs.declared.Refusal.TheVariants.{NotInteger, NotTimestamp}
use Rattle.integer.specs.Integer.{integer_of, read_of}
use Rattle.stamp.specs.Stamp.{stamp, stamp_of}
use Rattle.model.specs.Record.{Meta, flagged}
use Rattle.event.specs.Event.{Attr}
use Rattle.event_scan.specs.Piece.{value_text}
use Rattle.event_fields.specs.Field.{Field, got, bad, and_then, or_else, an_integer, a_stamp, mark, meta_with, meta_from}
use Rattle.event_values.specs.Value.{integer_in, narrow_in, field_in, narrow_field, wide_field}
use Rattle.event_values.proofs.Values.{number_text, moment_text, field_read}
use Rattle.event_metadata.specs.declared.values.MetadataName.{MetadataName}
use Rattle.event_metadata.specs.Values.{flags_of, user_in, metadata_name, metadata_as, user_with}

-- ---- flags

pub given_marked : (g h u v : Bool) → mark 1 (flags_of g h u v) ≡ flags_of true h u v
unfolding mark flagged flags_of
given_marked true true true true = refl
given_marked true true true false = refl
given_marked true true false true = refl
given_marked true true false false = refl
given_marked true false true true = refl
given_marked true false true false = refl
given_marked true false false true = refl
given_marked true false false false = refl
given_marked false true true true = refl
given_marked false true true false = refl
given_marked false true false true = refl
given_marked false true false false = refl
given_marked false false true true = refl
given_marked false false true false = refl
given_marked false false false true = refl
given_marked false false false false = refl

hidden_marked : (h u v : Bool) → mark 2 (flags_of true h u v) ≡ flags_of true true u v
unfolding mark flagged flags_of
hidden_marked true true true = refl
hidden_marked true true false = refl
hidden_marked true false true = refl
hidden_marked true false false = refl
hidden_marked false true true = refl
hidden_marked false true false = refl
hidden_marked false false true = refl
hidden_marked false false false = refl

user_marked : (h u v : Bool) → mark 4 (flags_of true h u v) ≡ flags_of true h true v
unfolding mark flagged flags_of
user_marked true true true = refl
user_marked true true false = refl
user_marked true false true = refl
user_marked true false false = refl
user_marked false true true = refl
user_marked false true false = refl
user_marked false false true = refl
user_marked false false false = refl

version_marked : (h u v : Bool) → mark 8 (flags_of true h u v) ≡ flags_of true h u true
unfolding mark flagged flags_of
version_marked true true true = refl
version_marked true true false = refl
version_marked true false true = refl
version_marked true false false = refl
version_marked false true true = refl
version_marked false true false = refl
version_marked false false true = refl
version_marked false false false = refl

module _ (g h u v : Bool) where
  pub given_hidden : mark 2 (mark 1 (flags_of g h u v)) ≡ flags_of true true u v
  given_hidden = ap (mark 2) (given_marked g h u v) ∙ hidden_marked h u v

  pub given_user : mark 4 (mark 1 (flags_of g h u v)) ≡ flags_of true h true v
  given_user = ap (mark 4) (given_marked g h u v) ∙ user_marked h u v

  pub given_version : mark 8 (mark 1 (flags_of g h u v)) ≡ flags_of true h u true
  given_version = ap (mark 8) (given_marked g h u v) ∙ version_marked h u v

-- ---- one attribute

value_read : (w : Width) (x : Refusal) (o : Option ℕ) {r : Result ℕ Refusal} {z : Option ℤ} → r ≡ ok_or o x → integer_in w o ≡ z → field_in (to_z w) r ≡ or_else x z
value_read w x o p e = ap (field_in (to_z w)) p ∙ field_read (to_z w) x o ∙ ap (or_else x) e

module _ (v : Bytes) (o : Option ℕ) {r : Result ℕ Refusal} where
  pub narrow_value : r ≡ ok_or o NotInteger → narrow_in o ≡ integer_of w32 (value_text v) → narrow_field r ≡ an_integer (integer_of w32 (value_text v))
  narrow_value p e = value_read w32 NotInteger o p e

  pub wide_value : r ≡ ok_or o NotInteger → o ≡ read_of w64 v → wide_field r ≡ an_integer (integer_of w64 (value_text v))
  wide_value p e = value_read w64 NotInteger o p (number_text w64 v e)

  pub moment_value : r ≡ ok_or o NotTimestamp → o ≡ stamp_of v → wide_field r ≡ a_stamp (stamp (value_text v))
  moment_value p e = value_read w64 NotTimestamp o p (moment_text v e)

-- ---- attributes in line order

-- the metadata that an attribute makes, by its name; other names are passed over
abbrev named_or_not : Option MetadataName → Meta Bytes → Bytes → Field (Meta Bytes)
named_or_not None m v = got m
named_or_not (Some n) m v = metadata_as n m v

named_as : (m : Meta Bytes) (a : Attr) → meta_with m a ≡ named_or_not (metadata_name a.name) m a.value
unfolding meta_with metadata_name
named_as m a =
    by_bool (same a.name (ascii "version")) (λ e. rw e) (λ e1. rw e1 (
    by_bool (same a.name (ascii "timestamp")) (λ e. rw e) (λ e2. rw e2 (
    by_bool (same a.name (ascii "changeset")) (λ e. rw e) (λ e3. rw e3 (
    by_bool (same a.name (ascii "uid")) (λ e. rw e) (λ e4. rw e4 (
    by_bool (same a.name (ascii "user")) (λ e. rw e) (λ e5. rw e5 (
    by_bool (same a.name (ascii "visible")) (λ e. rw e) (λ e6. rw e6)))))))))))

module _ (m : Meta Bytes) (attrs : List Attr) where
  pub metadata_ends : attrs ≡ [] → meta_from m attrs ≡ got m
  unfolding meta_from
  metadata_ends e = rw e

  module _ (a : Attr) (bs : List Attr) (e : attrs ≡ a ∷ bs) where
    metadata_step : meta_from m attrs ≡ and_then (named_or_not (metadata_name a.name) m a.value) (λ n. meta_from n bs)
    unfolding meta_from
    metadata_step = rw (e, named_as m a)

    pub metadata_passed : None ≡ metadata_name a.name → meta_from m bs ≡ meta_from m attrs
    metadata_passed n = sym (metadata_step ∙ rw (← n))

    module _ {name : MetadataName} (n : Some name ≡ metadata_name a.name) where
      pub metadata_on : (x : Meta Bytes) → got x ≡ metadata_as name m a.value → meta_from x bs ≡ meta_from m attrs
      metadata_on x q = sym (metadata_step ∙ rw (← n, ← q))

      pub metadata_stops : (r : Refusal) → bad r ≡ metadata_as name m a.value → bad r ≡ meta_from m attrs
      metadata_stops r q = sym (metadata_step ∙ rw (← n, ← q))

-- ---- the user, as it is written

-- a name that is another one is not `user`
not_user : (n k : Bytes) → same n k ≡ true → same k (ascii "user") ≡ false → same n (ascii "user") ≡ false
not_user n k h e = rw (same_yes n k h) e

abbrev user_or_not : Option MetadataName → Option Bytes → Bytes → Option Bytes
user_or_not None u v = u
user_or_not (Some n) u v = user_with n u v

user_named : (u : Option Bytes) (a : Attr) → cond (same a.name (ascii "user")) (Some a.value) u ≡ user_or_not (metadata_name a.name) u a.value
unfolding metadata_name same both
user_named u a =
    by_bool (same a.name (ascii "version")) (λ e. rw (e, not_user _ _ e refl)) (λ e1. rw e1 (
    by_bool (same a.name (ascii "timestamp")) (λ e. rw (e, not_user _ _ e refl)) (λ e2. rw e2 (
    by_bool (same a.name (ascii "changeset")) (λ e. rw (e, not_user _ _ e refl)) (λ e3. rw e3 (
    by_bool (same a.name (ascii "uid")) (λ e. rw (e, not_user _ _ e refl)) (λ e4. rw e4 (
    by_bool (same a.name (ascii "user")) (λ e. rw e) (λ e5. rw e5 (
    by_bool (same a.name (ascii "visible")) (λ e. rw e) (λ e6. rw e6)))))))))))

module _ (u : Option Bytes) (attrs : List Attr) where
  pub user_ends : attrs ≡ [] → user_in u attrs ≡ u
  unfolding user_in
  user_ends e = rw e

  module _ (a : Attr) (bs : List Attr) (e : attrs ≡ a ∷ bs) where
    user_step : user_in u attrs ≡ user_in (user_or_not (metadata_name a.name) u a.value) bs
    unfolding user_in
    user_step = rw e (ap (λ x. user_in x bs) (user_named u a))

    pub user_passed : None ≡ metadata_name a.name → user_in u bs ≡ user_in u attrs
    user_passed n = sym (user_step ∙ rw (← n))

    pub user_on : {name : MetadataName} → Some name ≡ metadata_name a.name → {x : Option Bytes} → x ≡ user_with name u a.value → user_in x bs ≡ user_in u attrs
    user_on n q = sym (user_step ∙ rw (← n, ← q))
