-- Condition 2: "Equal to the Rust on every event sequence and call in document 01's domain". The library is the definitions that the contracts of its public calls cite; the Rust is crate
-- `published`; which calls of a list lie in the domain is told by document 01's table (`in_domain`). What differs stands in these places of the statement, and nowhere else: D1 in
-- `turn_left`, D2 in `rust_view`, D3 in `direct_outside`, D9 and coordinates in `by_documents`, stopped readers in `going`, lines refused 2, 3 and 4 in `reading_told`.
use Rattle.std.specs.Prelude.{◌≡◌, ℕ, Bool, List, length, take, drop, ℤ, FitsSigned, Err, None, Ok, Option, Some, slice_get}
use Rattle.std.specs.Int.{w64}
use Rattle.base.specs.Bytes.{Bytes}
use Rattle.kind.specs.declared.Kind.{Kind}
use Rattle.model.specs.Record.{kind_of}
use Rattle.interner.specs.Texts.{handle_of}
use Rattle.interner.specs.Sound.{texts_of}
use Rattle.version_floor.specs.Version.{word_of}
use Rattle.overlay.specs.Overlay.{Overlay, kind_store_of}
use Rattle.kind_reading.specs.declared.Side.{Side}
use Rattle.kind_reading.specs.declared.Side.TheVariants.{Live}
use Rattle.kind_reading.specs.Listed.{View}
use Rattle.overlay_reading.specs.Reading.{yes, count_on, id_on, record_on, get_on, has_on, is_deleted_on, known_on, is_empty_on, text_on}
use Rattle.calls.specs.Ask.{Ask, Storage, state_of, started, storage_after}
use Rattle.condition.specs.Views.{Seen, absent, seen, unread, seen_in}
use Rattle.published.specs.Std.{get}
use Rattle.published.specs.Interner.{StringTable, resolve, get_text}
use Rattle.published.specs.Parse.{CompactDiffOverlay, get_data, has, is_deleted, is_empty, stored_version}
use Rattle.published.specs.Sorted.{table_record}
use Rattle.refines.specs.Same.{version}
use Rattle.refines.specs.OneKind.{allowed, row_of, floor_in}
use Rattle.refines.specs.Overlays.{fields_of, meta_off, SameOverlay}
use Rattle.refines.specs.Records.{RecordRead}
use Rattle.refines.specs.Numbers.{sorted_kind, ids_on, numbered, rust_view}
use Rattle.refines.specs.Staged.{SameReader}
use Rattle.refines.specs.Domain.{no_past}
use Rattle.refines.specs.Calls.{RustHeld, rust_started, domain, tolds, rust_after, rust_tolds}

-- a record of a kind as both sides' readers read it: none on either side, or one that the Rust's accessors and iterators read as ours do. Ours are never refused there.
abbrev pub RecordAs : Kind → (Bytes → Bool) → StringTable → Option Bytes → Seen → Type 0
RecordAs k from_utf8 strings None absent = Unit {0}
RecordAs k from_utf8 strings (Some s) (seen id r) = (kind_of r.body ≡ k) × RecordRead from_utf8 strings s id r
RecordAs k from_utf8 strings None (seen id r) = ⊥
RecordAs k from_utf8 strings None unread = ⊥
RecordAs k from_utf8 strings (Some s) absent = ⊥
RecordAs k from_utf8 strings (Some s) unread = ⊥

-- a text, by the call that reads one: none where 21
abbrev pub text_read : Overlay → View → Option Bytes
text_read o (Ok (Some p)) = Some (take p.len (drop p.start o.texts.bytes))
text_read o (Ok None) = None
text_read o (Err r) = None

-- ---- what an overlay holds, record by record

module _ (from_utf8 : Bytes → Bool) (o : Overlay) (r : CompactDiffOverlay) (k : Kind) where
  -- of an id: live or deleted, its record, its floor, its known version
  pub record SameId (id : ℤ) : Type 0 where
    pub live : has_on k id o ≡ yes (has (fields_of k r) id)
    pub deleted : is_deleted_on k id o ≡ yes (is_deleted (fields_of k r) id)
    pub read : RecordAs k from_utf8 r.interner.strings (get_data (fields_of k r) id) (seen_in o k (get_on k id o))
    -- its view, where ours ends with the record (D2)
    pub viewed : get_data (fields_of k r) id ≡ rust_view (kind_store_of k o) (get_on k id o)
    pub floor : version (get (fields_of k r).floors id) ≡ floor_in (row_of (kind_store_of k o) id)
    pub known : known_on k id o ≡ Ok (word_of (version (stored_version (meta_off k) (fields_of k r) id)))

  -- by number: how many, each id, and the record of each live one, by `KindTable::build`
  pub record SameNumbers : Type 0 where
    pub count : (side : Side) → count_on k side o ≡ Ok (length (ids_on side (sorted_kind k r)))
    pub ids : (side : Side) (n : ℕ) → id_on k side n o ≡ numbered (slice_get (ids_on side (sorted_kind k r)) n)
    pub viewed : (n : ℕ) → table_record (sorted_kind k r) n ≡ rust_view (kind_store_of k o) (record_on k n o)
    pub read : (n id : ℕ) → id_on k Live n o ≡ Ok id
        → RecordAs k from_utf8 r.interner.strings (table_record (sorted_kind k r) n) (seen_in o k (record_on k n o))

pub record SameHeld (from_utf8 : Bytes → Bool) (l : Storage) (w : RustHeld) : Type 0 where
  pub ids : (k : Kind) (id : ℤ) → FitsSigned w64 id → SameId from_utf8 l.overlay w.overlay k id
  pub numbers : (k : Kind) → SameNumbers from_utf8 l.overlay w.overlay k
  pub empty : is_empty_on l.overlay ≡ yes (is_empty w.overlay)
  -- the same texts under the same handles: as they are read, and as they are found when one is taken in
  pub texts : (h : ℕ) → resolve w.overlay.interner.strings h ≡ text_read l.overlay (text_on h l.overlay)
  pub handles : (t : Bytes) → get_text w.overlay.interner.lookup t ≡ handle_of t (texts_of l.overlay.texts)
  pub setting : w.overlay.allow_version_regression ≡ allowed l.overlay.setting
  -- each reader's place and staged element
  pub readers : (n : ℕ) → SameReader (state_of n l) (w.states n) (w.staged n)

-- ---- the theorem's statement: an overlay that is set up with its sizes (`Start` of condition/specs/Condition3) and a list of calls. The Rust has no sizes, and none are compared.

module _ (setting : ℕ) (o : Overlay) (ps : ℕ → Bytes) (cs : List Ask) where
  -- what the library is left with, and the Rust, given the calls in the domain
  abbrev pub ours : Storage
  ours = storage_after setting o ps cs

  abbrev pub rusts : RustHeld
  rusts = rust_after (rust_started setting) (domain no_past (started setting o ps) cs)

  pub record Condition2 (from_utf8 : Bytes → Bool) : Type 0 where
    -- the callers are told the same, call by call
    pub told : rust_tolds (rust_started setting) (domain no_past (started setting o ps) cs) ≡ tolds no_past (started setting o ps) cs
    -- and after the list both hold the same
    pub same : SameHeld from_utf8 ours rusts

-- the stronger law of the base: the same arena bytes, and the same offsets of records in them
pub record SameBytes (setting : ℕ) (o : Overlay) (ps : ℕ → Bytes) (cs : List Ask) : Type 0 where
  pub overlay : SameOverlay (ours setting o ps cs).overlay (rusts setting o ps cs).overlay
