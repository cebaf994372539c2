-- What the Rust's accessors and iterators read of a record's data, beside the record with its texts.
use Rattle.std.specs.Prelude.{◌≡◌, Bool, cond, not, map, ℤ, None, Option, Some}
use Rattle.base.specs.Bytes.{Bytes}
use Rattle.model.specs.Record.{Meta, Member, Tag, Body, place, refs, members, Record, kind_of, flagged}
use Rattle.published.specs.Std.{index}
use Rattle.published.specs.Interner.{StringTable}
use Rattle.published.specs.Compact.{Metadata, MemberItem}
use Rattle.published.specs.Compact as Rust
use Rattle.refines.specs.Overlays.{element_kind}

abbrev pub tag_text : Tag Bytes → Rust.Tag
tag_text t = record { k = t.key; v = t.value }

abbrev pub member_item : Member Bytes → MemberItem
member_item m = record { member_type = element_kind m.type; ref_id = m.ref; role = m.role }

-- "None" without flag 1. It does not tell whether a user and a version were given (flags 4 and 8): that is read of the flags' byte.
abbrev pub metadata_read : Meta Bytes → Option Metadata
metadata_read m =
    cond (flagged 1 m.flags)
    (Some (record { version = m.version; timestamp = m.timestamp; changeset = m.changeset; uid = m.uid; user = m.user; visible = not (flagged 2 m.flags) }))
    None

-- a node's place, a way's refs, a relation's members
abbrev pub BodyRead : StringTable → Bytes → Body Bytes → Type 0
BodyRead strings s (place lat lon) = (Rust.decimicro_lat s ≡ Some lat) × (Rust.decimicro_lon s ≡ Some lon)
BodyRead strings s (refs rs) = Rust.refs s ≡ Some rs
BodyRead strings s (members ms) = Rust.members strings s ≡ Some (map member_item ms)

pub record RecordRead (from_utf8 : Bytes → Bool) (strings : StringTable) (s : Bytes) (i : ℤ) (r : Record Bytes) : Type 0 where
  pub id : Rust.record_id s ≡ Some i
  pub flags : index s (Rust.META_OFF (element_kind (kind_of r.body))) ≡ Some r.meta.flags
  pub metadata : Rust.metadata (element_kind (kind_of r.body)) strings s ≡ Some (metadata_read r.meta)
  pub body : BodyRead strings s r.body
  pub tags : Rust.tags from_utf8 (element_kind (kind_of r.body)) strings s ≡ Some (map tag_text r.tags)
