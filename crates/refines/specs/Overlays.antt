-- An overlay beside the Rust's `CompactDiffOverlay`.
use Rattle.std.specs.Prelude.{◌≡◌, ℕ, ◌<◌, List, [], map, length, ℤ, None, Option, Some, Result, Ok}
use Rattle.std.specs.Int.{w32, w64}
use Rattle.std.proofs.Common.{to_z}
use Rattle.base.specs.Bytes.{Bytes}
use Rattle.kind.specs.Kind.{kind_number}
use Rattle.kind.specs.declared.Kind.{Kind}
use Rattle.kind.specs.declared.Kind.TheVariants as K
use Rattle.model.specs.Record.{Meta, Member, Tag, Body, place, refs, members, Record}
use Rattle.interner.specs.Texts.{handle_of, text_of}
use Rattle.interner.specs.Sound.{texts_of}
use Rattle.overlay.specs.Overlay.{Overlay, kind_store_of}
use Rattle.overlay.specs.Given.{InBytes}
use Rattle.overlay.specs.Sound.{Sound}
use Rattle.compact.specs.Cut.{pushed_record}
use Rattle.compact.specs.Held.{meta_of, head_in}
use Rattle.compact.specs.declared.ArenaMeta as Bits
use Rattle.compact.specs.declared.PushHead.{PushHead}
use Rattle.published.specs.Std.{ElementKind}
use Rattle.published.specs.Std as Rust
use Rattle.published.specs.Interner.{StringInterner, get_text, resolve}
use Rattle.published.specs.Compact.{ArenaMeta, TagPart, MemberPart, META_OFF}
use Rattle.published.specs.Parse.{KindFields, CompactDiffOverlay, fields_of_element, with_fields_of_element, push_node, push_way, push_relation, delete_kind}
use Rattle.refines.specs.OneKind.{allowed, SameFields}

-- ---- what a caller hands to the Rust: the same values in its own types

abbrev pub element_kind : Kind → ElementKind
element_kind K.Node = Rust.Node
element_kind K.Way = Rust.Way
element_kind K.Relation = Rust.Relation

abbrev pub arena_meta : Meta ℕ → ArenaMeta
arena_meta m = record { flags = m.flags; version = m.version; timestamp = m.timestamp; changeset = m.changeset; uid = m.uid; user_id = m.user }

abbrev pub tag_part : Tag ℕ → TagPart
tag_part t = record { key_id = t.key; value = t.value }

abbrev pub member_part : Member ℕ → MemberPart
member_part m = record { ref_id = m.ref; type_byte = kind_number m.type; role_id = m.role }

-- ---- a direct push or delete, as the Rust makes it: its numbers from the words that the caller gives; its refs, members and tags from the bytes of the parts, which are just what the
-- Rust appends for them (`parts_handed`)

abbrev pub meta_words : Bits.ArenaMeta → ArenaMeta
meta_words m =
    record {
      flags = m.flags;
      version = to_z w32 m.version;
      timestamp = to_z w64 m.timestamp;
      changeset = to_z w64 m.changeset;
      uid = to_z w32 m.uid;
      user_id = m.user;
    }

abbrev pub refs_in : {S : Type 0} → Body S → List ℤ
refs_in (place lat lon) = []
refs_in (refs rs) = rs
refs_in (members ms) = []

abbrev pub members_in : {S : Type 0} → Body S → List (Member S)
members_in (place lat lon) = []
members_in (refs rs) = []
members_in (members ms) = ms

-- parts that are cut short, or not as many as are counted, or with a member of no type, are 17, and nothing is handed to the Rust
abbrev pub push_handed : Kind → PushHead → Bits.ArenaMeta → Option (Record ℕ) → CompactDiffOverlay → Result CompactDiffOverlay ℤ
push_handed k h m None r = Ok r
push_handed K.Node h m (Some x) r = push_node r (to_z w64 h.id) (to_z w32 h.lat) (to_z w32 h.lon) (map tag_part x.tags) (meta_words m)
push_handed K.Way h m (Some x) r = push_way r (to_z w64 h.id) (refs_in x.body) (map tag_part x.tags) (meta_words m)
push_handed K.Relation h m (Some x) r = push_relation r (to_z w64 h.id) (map member_part (members_in x.body)) (map tag_part x.tags) (meta_words m)

abbrev pub rust_push : Kind → PushHead → Bits.ArenaMeta → Bytes → CompactDiffOverlay → Result CompactDiffOverlay ℤ
rust_push k h m parts r = push_handed k h m (pushed_record k (head_in k h) (meta_of m) parts) r

abbrev pub rust_delete : Kind → ℕ → Bits.ArenaMeta → CompactDiffOverlay → Result CompactDiffOverlay ℤ
rust_delete k id m r = delete_kind r (element_kind k) (to_z w64 id) (meta_words m)

-- ---- the two sides hold the same

abbrev pub fields_of : Kind → CompactDiffOverlay → KindFields
fields_of k r = fields_of_element r (element_kind k)

abbrev pub with_fields : Kind → CompactDiffOverlay → KindFields → CompactDiffOverlay
with_fields k r s = with_fields_of_element r (element_kind k) s

abbrev pub meta_off : Kind → ℕ
meta_off k = META_OFF (element_kind k)

pub record SameTexts (held : List Bytes) (i : StringInterner) : Type 0 where
  pub count : length i.strings.table ≡ length held
  pub lookup : (t : Bytes) → get_text i.lookup t ≡ handle_of t held
  pub resolves : (n : ℕ) → n < length held → resolve i.strings n ≡ Some (text_of held n)

-- kinds, texts and setting
pub record SameCore (o : Overlay) (r : CompactDiffOverlay) : Type 0 where
  pub kinds : (k : Kind) → SameFields (kind_store_of k o) (fields_of k r)
  pub texts : SameTexts (texts_of o.texts) r.interner
  pub allows : r.allow_version_regression ≡ allowed o.setting

pub record SameOverlay (o : Overlay) (r : CompactDiffOverlay) : Type 0 where
  pub sound : Sound o
  pub bytes : InBytes o
  pub core : SameCore o r
