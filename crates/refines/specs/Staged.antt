-- A reader beside the Rust's state and staged element.
use Rattle.std.specs.Prelude.{◌≡◌, ℕ, map, ℤ, pos, None, Option, Some}
use Rattle.std.specs.Int.{w64}
use Rattle.std.proofs.Common.{to_z}
use Rattle.nesting.specs.declared.Action.{Action}
use Rattle.nesting.specs.declared.Action.TheVariants as A
use Rattle.nesting.specs.declared.Level.{Level}
use Rattle.nesting.specs.declared.Level.TheVariants as L
use Rattle.model.specs.Record.{Tag, Body, place, refs, members, Record, kind_of}
use Rattle.reader.specs.State.{State, pending_record}
use Rattle.published.specs.XmlParse.{DriveState, Staging}
use Rattle.refines.specs.Overlays.{element_kind, arena_meta, member_part, refs_in, members_in}
use Rattle.refines.specs.Driving.{drive_state}

-- a node's place, and 0 of the others: let (lat, lon) = if kind == ElementKind::Node { .. } else { (0, 0) };
abbrev pub lat_of : {S : Type 0} → Body S → ℤ
lat_of (place lat lon) = lat
lat_of (refs rs) = pos 0
lat_of (members ms) = pos 0

abbrev pub lon_of : {S : Type 0} → Body S → ℤ
lon_of (place lat lon) = lon
lon_of (refs rs) = pos 0
lon_of (members ms) = pos 0

-- the element that is being put together, as the Rust holds it
abbrev pub staging_of : ℤ → Record ℕ → Staging
staging_of id r =
    record {
      kind = element_kind (kind_of r.body);
      id = id;
      lat = lat_of r.body;
      lon = lon_of r.body;
      meta = arena_meta r.meta;
      tag_keys = map (λ (t : Tag ℕ). t.key) r.tags;
      tag_values = map (λ (t : Tag ℕ). t.value) r.tags;
      refs = refs_in r.body;
      members = map member_part (members_in r.body);
    }

abbrev pub staged_as : ℤ → Option (Record ℕ) → Option Staging
staged_as id None = None
staged_as id (Some r) = Some (staging_of id r)

-- "`None` while no create/modify element is being staged"
abbrev pub if_pushed : Action → Option Staging → Option Staging
if_pushed A.Create st = st
if_pushed A.Modify st = st
if_pushed A.Delete st = None

abbrev pub if_open : Level → Option Staging → Option Staging
if_open L.Doc st = None
if_open L.Root st = None
if_open L.Section st = None
if_open L.Element st = st
if_open L.Leaf st = st
if_open L.Other st = None
if_open L.Done st = None

abbrev pub staged_in : State → Option Staging
staged_in s =
    if_open s.reader.place.level
    (if_pushed s.reader.place.section (staged_as (to_z w64 s.reader.pending.head.id) (pending_record s.reader.place.kind s.parts s.reader.pending)))

pub record SameReader (s : State) (d : DriveState) (st : Option Staging) : Type 0 where
  pub state : d ≡ drive_state s.reader.place
  pub staged : st ≡ staged_in s
