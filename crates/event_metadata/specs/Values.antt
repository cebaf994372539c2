-- The metadata that the code holds, and what it stands for: metadata of crate event_fields.
use Rattle.refusal.specs.declared.Refusal.{Refusal}
use Rattle.std.specs.Prelude.{ℕ, ◌+◌, ◌≤◌, Bool, cond, List, [], ◌∷◌, length, None, Option, Some, option_map, is_some, unwrap_or, IfSome, Result}
use Rattle.std.specs.Int.{w32, w64}
use Rattle.std.proofs.Common.{to_z}
use Rattle.base.specs.Ascii.{ascii}
use Rattle.base.specs.Bytes.{Bytes, same}
use Rattle.integer.specs.Integer.{integer_of}
use Rattle.stamp.specs.Stamp.{stamp}
use Rattle.model.specs.Record.{Meta}
use Rattle.event.specs.Event.{Attr, or_empty}
use Rattle.event_scan.specs.Fields.{text_written}
use Rattle.event_fields.specs.Field.{Field, got, and_then, an_integer, a_stamp, with_version, with_timestamp, with_changeset, with_uid, with_user, with_visible}
use Rattle.event_values.specs.Value.{field_in}
use Rattle.event_metadata.specs.declared.values.MetadataValues.{MetadataValues}
use Rattle.event_metadata.specs.declared.values.MetadataName.{MetadataName}
use Rattle.event_metadata.specs.declared.values.MetadataName.TheVariants as M

-- the flags: 1 present, 2 hidden, 4 has user, 8 has version
unfoldable pub flags_of : Bool → Bool → Bool → Bool → ℕ
flags_of given hidden user version = cond given 1 0 + cond hidden 2 0 + cond user 4 0 + cond version 8 0

abbrev pub metadata_means : {N : ℕ} → MetadataValues N → Meta Bytes
metadata_means m =
    record {
      flags = flags_of m.given m.hidden (is_some m.user) (is_some m.version);
      version = to_z w32 (unwrap_or m.version 0);
      timestamp = to_z w64 m.timestamp;
      changeset = to_z w64 m.changeset;
      uid = to_z w32 m.uid;
      user = or_empty (option_map text_written m.user);
    }

abbrev pub metadata_answered : {N : ℕ} → Result (MetadataValues N) Refusal → Field (Meta Bytes)
metadata_answered r = field_in metadata_means r

-- the user is no longer than so many bytes, as it is written
abbrev pub MetadataInBounds : {N : ℕ} → ℕ → MetadataValues N → Type 0
MetadataInBounds n m = IfSome m.user (λ v. length v.bytes.now ≤ n)

-- the user, as it is written
abbrev pub user_written : {N : ℕ} → MetadataValues N → Option Bytes
user_written m = option_map (λ v. v.bytes.now) m.user

-- the user that attributes give: the last of that name, as it is written; where none is of that name, what was there before
unfoldable pub user_in : Option Bytes → List Attr → Option Bytes
user_in u [] = u
user_in u (a ∷ attrs) = user_in (cond (same a.name (ascii "user")) (Some a.value) u) attrs

-- ---- one attribute, by its name

unfoldable pub metadata_name : Bytes → Option MetadataName
metadata_name n =
    cond (same n (ascii "version")) (Some M.Version)
    (cond (same n (ascii "timestamp")) (Some M.Timestamp)
    (cond (same n (ascii "changeset")) (Some M.Changeset)
    (cond (same n (ascii "uid")) (Some M.Uid)
    (cond (same n (ascii "user")) (Some M.User)
    (cond (same n (ascii "visible")) (Some M.Visible)
    None)))))

-- the metadata that it makes of other metadata
abbrev pub metadata_as : MetadataName → Meta Bytes → Bytes → Field (Meta Bytes)
metadata_as M.Version m v = and_then (an_integer (integer_of w32 v)) (λ z. got (with_version m z))
metadata_as M.Timestamp m v = and_then (a_stamp (stamp v)) (λ z. got (with_timestamp m z))
metadata_as M.Changeset m v = and_then (an_integer (integer_of w64 v)) (λ z. got (with_changeset m z))
metadata_as M.Uid m v = and_then (an_integer (integer_of w32 v)) (λ z. got (with_uid m z))
metadata_as M.User m v = got (with_user m v)
metadata_as M.Visible m v = got (with_visible m v)

-- the user, as it is written, that it makes of another one
abbrev pub user_with : MetadataName → Option Bytes → Bytes → Option Bytes
user_with M.Version u v = u
user_with M.Timestamp u v = u
user_with M.Changeset u v = u
user_with M.Uid u v = u
user_with M.User u v = Some v
user_with M.Visible u v = u
