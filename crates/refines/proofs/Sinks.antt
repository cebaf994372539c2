-- What the library decides of an event, done by the Rust's sink.
use Rattle.std.specs.Prelude.{None, Option, Some, Result, Ok, Err}
use Rattle.std.proofs.Common.{◌≡◌, true, false, cond, [], ℤ, refl}
use Rattle.base.specs.Bytes.{Bytes}
use Rattle.kind.specs.Kind.{kind_number}
use Rattle.refusal.specs.declared.Refusal.{Refusal}
use Rattle.refusal.specs.declared.Refusal.TheVariants as R
use Rattle.nesting.specs.declared.Place.{Place}
use Rattle.model.specs.Record.{Meta, Body, kind_of, flagged}
use Rattle.event_fields.specs.Field.{Field, got, bad}
use Rattle.event_decision.specs.Decision.{Decision, refuses, moves, begins, deletes, tags, refers, joins, ends}
use Rattle.published.specs.Compact.{ArenaMeta}
use Rattle.published.specs.Parse.{CompactDiffOverlay, intern_in, handle_in_overlay, delete_kind}
use Rattle.published.specs.XmlParse.{misplaced, outside_section, missing_attr, not_integer, bad_timestamp, bad_coordinate, not_degrees, both_forms, unknown_member_type, version_regression, truncated, internal, Driven, Error, DriveState, CompactSink, Staging, Sunk, MetaSoFar, or_empty, flags_of, user_interned, user_handle, sink_with, staged, add_tag, add_ref, add_member, end_element}
use Rattle.refines.specs.Overlays.{element_kind}
use Rattle.refines.specs.Driving.{drive_state}
use Rattle.refines.specs.Told.{refused_told}
use Rattle.refines.specs.Calls.{error_told}
use Rattle.refines.specs.Staged.{lat_of, lon_of}

-- ---- the library's refusal of an error: as `error_told` has its number

abbrev pub refusal_of : Error → Refusal
refusal_of misplaced = R.Misplaced
refusal_of outside_section = R.OutsideSection
refusal_of missing_attr = R.Missing
refusal_of not_integer = R.NotInteger
refusal_of bad_timestamp = R.NotTimestamp
refusal_of bad_coordinate = R.CoordinateRange
refusal_of unknown_member_type = R.MemberType
refusal_of (version_regression v) = R.Regression v
refusal_of truncated = R.Unfinished
refusal_of internal = R.Unsound
refusal_of not_degrees = R.NotDegrees
refusal_of both_forms = R.BothForms

-- ---- what an event comes to for the Rust: it goes on, or it stops. What a refused event leaves is not looked at: the Rust may keep its user's name (DIFFERENCES D1).

pub data RustTurn : Type 0 where
  goes : DriveState → CompactSink → RustTurn
  stops : Refusal → RustTurn

abbrev pub turn_from : DriveState → CompactSink → Result (Unit {0}) Error → RustTurn
turn_from d s (Ok u) = goes d s
turn_from d s (Err e) = stops (refusal_of e)

abbrev pub driven : Driven → RustTurn
driven x = turn_from x.state x.sink x.result

abbrev pub field_of : {A B : Type 0} → (A → B) → Result A Error → Field B
field_of f (Ok a) = got (f a)
field_of f (Err e) = bad (refusal_of e)

-- ---- metadata

abbrev pub meta_so_far : MetaSoFar → Meta Bytes
meta_so_far m = record { flags = flags_of m; version = m.version; timestamp = m.timestamp; changeset = m.changeset; uid = m.uid; user = or_empty m.user }

abbrev pub user_of : Meta Bytes → Option Bytes
user_of m = cond (flagged 4 m.flags) (Some m.user) None

abbrev pub meta_handled : CompactDiffOverlay → Meta Bytes → ArenaMeta
meta_handled o m =
    record { flags = m.flags; version = m.version; timestamp = m.timestamp; changeset = m.changeset; uid = m.uid; user_id = user_handle o (user_of m) }

-- ---- the library's decision, done by the Rust's sink

abbrev pub sunk_at : Place → Sunk → RustTurn
sunk_at p x = turn_from (drive_state p) x.sink x.result

abbrev pub staging_for : CompactDiffOverlay → ℤ → Meta Bytes → Body Bytes → Staging
staging_for o id m b =
    record { kind = element_kind (kind_of b); id = id; lat = lat_of b; lon = lon_of b; meta = meta_handled o m; tag_keys = []; tag_values = []; refs = []; members = [] }

abbrev pub begun : CompactSink → ℤ → Meta Bytes → Body Bytes → CompactSink
begun s id m b = sink_with (user_interned s.overlay (user_of m)) (Some (staging_for s.overlay id m b))

abbrev pub deleted_at : Place → Result CompactDiffOverlay ℤ → RustTurn
deleted_at p (Ok o) = goes (drive_state p) (sink_with o None)
deleted_at p (Err v) = stops (R.Regression v)

unfoldable pub done_as : Decision → CompactSink → RustTurn
done_as (refuses r) s = stops r
done_as (moves p) s = goes (drive_state p) s
done_as (begins true p id m b) s = sunk_at p (end_element (begun s id m b))
done_as (begins false p id m b) s = goes (drive_state p) (begun s id m b)
done_as (deletes k p id m) s = deleted_at p (delete_kind (user_interned s.overlay (user_of m)) (element_kind k) id (meta_handled s.overlay m))
done_as (tags p t) s = sunk_at p (staged (intern_in s.overlay t.key) s.staging (add_tag (handle_in_overlay s.overlay t.key) t.value))
done_as (refers p z) s = sunk_at p (staged s.overlay s.staging (add_ref z))
done_as (joins p m) s =
    sunk_at p (staged (intern_in s.overlay m.role) s.staging
    (add_member (record { ref_id = m.ref; type_byte = kind_number m.type; role_id = handle_in_overlay s.overlay m.role })))
done_as (ends p) s = sunk_at p (end_element s)

-- the numbers are the refusals'
pub error_told_lem : (e : Error) → error_told e ≡ refused_told (refusal_of e)
error_told_lem misplaced = refl
error_told_lem outside_section = refl
error_told_lem missing_attr = refl
error_told_lem not_integer = refl
error_told_lem bad_timestamp = refl
error_told_lem bad_coordinate = refl
error_told_lem unknown_member_type = refl
error_told_lem (version_regression v) = refl
error_told_lem truncated = refl
error_told_lem internal = refl
error_told_lem not_degrees = refl
error_told_lem both_forms = refl
