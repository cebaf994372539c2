-- "what is read from a record is what was appended to it", after any list of calls: a user asks `get`, or the record of a number, and reads the view that is returned with the record's
-- readers and steps (`try_read`, `try_read_meta`, `ref_step`, `member_step`, `tag_step`), and the texts with `text`.
use Rattle.std.specs.Prelude.{ℕ, ◌^◌, ◌<◌, ◌≡◌, Bool, true, false, List, [], ℤ, take, drop, Err, None, Ok, Option, Some}
use Rattle.std.specs.Int.{w64}
use Rattle.std.proofs.Common.{to_z}
use Rattle.base.specs.Bytes.{Bytes}
use Rattle.kind.specs.declared.Kind.{Kind}
use Rattle.version_floor.specs.Version.{word_of}
use Rattle.model.specs.Record.{Record}
use Rattle.model.specs.Act.{Act, Left, gone, live}
use Rattle.model.specs.Swap.{swap_record}
use Rattle.compact.specs.Cut.{KeptRecord}
use Rattle.compact.specs.View.{read_record}
use Rattle.kind_reading.specs.declared.Side.TheVariants.{Live}
use Rattle.kind_reading.specs.Listed.{View}
use Rattle.overlay.specs.Overlay.{Overlay, kind_store_of}
use Rattle.overlay_reading.specs.Reading.{yes, id_on, record_on, get_on, has_on, is_deleted_on, known_on, text_on}
use Rattle.listing_page.specs.Summary.{known}

-- what a user sees: no record; a record under its id, texts as texts; or a refusal, of the call or of a reader
pub data Seen : Type 0 where
  absent : Seen
  seen : ℤ → Record Bytes → Seen
  unread : Seen

-- the text of a handle, by the call `text`
abbrev pub text_shown : Bytes → View → Bytes
text_shown bytes (Ok (Some p)) = take p.len (drop p.start bytes)
text_shown bytes (Ok None) = []
text_shown bytes (Err r) = []

unfoldable pub text_seen : Overlay → ℕ → Bytes
text_seen o h = text_shown o.texts.bytes (text_on h o)

abbrev pub seen_as : (ℕ → Bytes) → Option KeptRecord → Seen
seen_as f None = unread
seen_as f (Some x) = seen x.id (swap_record f x.held)

-- a view of the arena of a kind
abbrev pub seen_in : Overlay → Kind → View → Seen
seen_in o k (Ok (Some p)) = seen_as (text_seen o) (read_record k (take p.len (drop p.start (kind_store_of k o).arena)))
seen_in o k (Ok None) = absent
seen_in o k (Err r) = unread

-- what the last accepted act on an id left
abbrev pub left_seen : ℤ → Option (Left Bytes) → Seen
left_seen id None = absent
left_seen id (Some gone) = absent
left_seen id (Some (live r)) = seen id r

-- it left the id live, or deleted
abbrev pub lives_by : Option (Left Bytes) → Bool
lives_by None = false
lives_by (Some gone) = false
lives_by (Some (live r)) = true

abbrev pub gone_by : Option (Left Bytes) → Bool
gone_by None = false
gone_by (Some gone) = true
gone_by (Some (live r)) = false

-- what an overlay shows of an id, by what the last act on it left
pub record ShowsLeft (o : Overlay) (k : Kind) (id : ℤ) (left : Option (Left Bytes)) : Type 0 where
  pub get : seen_in o k (get_on k id o) ≡ left_seen id left
  pub has : has_on k id o ≡ yes (lives_by left)
  pub deleted : is_deleted_on k id o ≡ yes (gone_by left)

-- an overlay and the accepted acts: each id that is asked for, and each number that has an id, shows the record of the last act on it
pub record ReadsLast (o : Overlay) (acts : List (Act Bytes)) : Type 0 where
  pub asked : (k : Kind) (id : ℕ) → id < 2 ^ 64 → ShowsLeft o k (to_z w64 id) (known acts (record { kind = k; id = to_z w64 id })).last
  pub numbered : (k : Kind) (n id : ℕ) → id_on k Live n o ≡ Ok id
      → seen_in o k (record_on k n o) ≡ left_seen (to_z w64 id) (known acts (record { kind = k; id = to_z w64 id })).last

-- where regression was refused throughout, the known version that is read is the highest that accepted acts claimed, or none
abbrev pub ReadsHighest : Overlay → List (Act Bytes) → Type 0
ReadsHighest o acts = (k : Kind) (id : ℕ) → id < 2 ^ 64 → known_on k (to_z w64 id) o ≡ Ok (word_of (known acts (record { kind = k; id = to_z w64 id })).high)
