-- A reader in storage, with the overlay that it reads into and the bytes that are lent for the parts of its element.
use Rattle.reader.specs.declared.RefusedAt.{RefusedAt}
use Rattle.std.specs.Prelude.{ℕ, ◌+◌, ◌*◌, ◌-◌, Bool, true, false, leb, ltb, length, take, is_ok, Option, Some, None}
use Rattle.base.specs.Bytes.{Bytes, both}
use Rattle.refusal.specs.declared.Refusal.{Refusal}
use Rattle.refusal.specs.declared.Refusal.TheVariants as R
use Rattle.kind.specs.declared.Kind.{Kind}
use Rattle.kind.specs.declared.Kind.TheVariants.{Node, Way, Relation}
use Rattle.nesting.specs.Nesting.{start}
use Rattle.model.specs.Record.{Record}
use Rattle.compact.specs.Cut.{pushed_record}
use Rattle.compact.specs.Held.{meta_of, head_in}
use Rattle.compact.specs.declared.PushHead.{PushHead}
use Rattle.compact_legal.specs.Judge.{fault_for}
use Rattle.overlay.specs.Overlay.{Overlay}
use Rattle.overlay.specs.Sound.{is_sound}
use Rattle.reader.specs.declared.Pending.{Pending}
use Rattle.reader.specs.declared.EventReader.{EventReader}

pub record State : Type 0 where
  pub overlay : Overlay
  pub reader : EventReader
  pub parts : Bytes

-- between elements: a push of nothing, which no event makes
abbrev pub no_pending : Pending
no_pending =
    record {
      head = record { id = 0; lat = 0; lon = 0; count = 0; tags = 0 };
      meta = record { flags = 0; version = 0; timestamp = 0; changeset = 0; uid = 0; user = 0 };
      used = 0;
    }

-- "readers begin fresh"
abbrev pub fresh_reader : EventReader
fresh_reader = record { place = start; pending = no_pending; lines = 0; stop = None }

-- a refusal, and the line at which it is given
abbrev pub refusal_at : Refusal → ℕ → RefusedAt
refusal_at r n = record { refusal = r; line = n }

-- the line of the next event: "line from 1", accepted events and one
abbrev pub next_line : State → ℕ
next_line s = s.reader.lines + 1

-- ---- the stop mark

-- "a refused event, except for 22, stops its reader": the refusals that an event leaves, and no other is a stop mark. A table, since the numbers that stop need be no range.
unfoldable pub stops_by : Refusal → Bool
stops_by R.Size = false
stops_by R.LongLine = true
stops_by R.NotText = true
stops_by R.NotEventLine = true
stops_by R.Misplaced = true
stops_by R.OutsideSection = true
stops_by R.Missing = true
stops_by R.NotInteger = true
stops_by R.NotTimestamp = true
stops_by R.CoordinateRange = true
stops_by R.MemberType = true
stops_by (R.Regression v) = true
stops_by R.StringsFull = true
stops_by R.IdsFull = true
stops_by R.ArenaFull = true
stops_by R.TooManyParts = true
stops_by R.BadRecord = false
stops_by R.Unfinished = false
stops_by R.ShortOutput = false
stops_by R.NotInOrder = false
stops_by R.NoSuchNumber = false
stops_by R.Unsound = false
stops_by R.NotDegrees = true
stops_by R.BothForms = true
stops_by R.NotMarkup = true
stops_by R.UnmatchedEndTag = true

abbrev pub is_stopped : Option RefusedAt → Bool
is_stopped None = false
is_stopped (Some a) = stops_by a.refusal

-- ---- Sound, of a reader: "staged parts passing the same; line count (u64) below its largest"

-- the record that is staged, in handles; there is one in sound storage
unfoldable pub pending_record : Kind → Bytes → Pending → Option (Record ℕ)
pending_record k parts x = pushed_record k (head_in k x.head) (meta_of x.meta) (take x.used parts)

-- the parts that are staged lie within the lent bytes, and the push that they will make passes 17, 3, 10 and 16
unfoldable pub pending_sound : ℕ → Kind → Bytes → Pending → Bool
pending_sound strings k parts x =
    both (leb x.used (length parts)) (is_ok (fault_for strings (pending_record k parts x)))

unfoldable pub reader_sound : State → Bool
reader_sound s =
    both (pending_sound s.overlay.texts.strings s.reader.place.kind s.parts s.reader.pending)
    (ltb s.reader.lines 18446744073709551615)

unfoldable pub state_sound : State → Bool
state_sound s = both (is_sound s.overlay) (reader_sound s)

-- ---- what an element has staged so far

-- how many bytes its refs or members take
abbrev pub middle : Kind → ℕ → ℕ
middle Node count = 0
middle Way count = 8 * count
middle Relation count = 13 * count

-- and how many its tag values
abbrev pub values_in : Kind → PushHead → ℕ → ℕ
values_in k h used = used - (middle k h.count + 8 * h.tags)

abbrev pub more_tags : PushHead → PushHead
more_tags h = record { id = h.id; lat = h.lat; lon = h.lon; count = h.count; tags = h.tags + 1 }

abbrev pub more_parts : PushHead → PushHead
more_parts h = record { id = h.id; lat = h.lat; lon = h.lon; count = h.count + 1; tags = h.tags }
