-- A call on the Rust's side: what its caller is told, and what it leaves; and lists of calls on both sides.
use Rattle.std.specs.Prelude.{ℕ, cond, List, [], ◌∷◌, ℤ, pos, None, Option, Result, Ok, Err}
use Rattle.event.specs.Event.{Event, Reading, event_of}
use Rattle.event.specs.Event as Line
use Rattle.calls.specs.Ask.{Ask, interns, pushes, deletes, reads, ends, allows, Storage, put_at, leaves}
use Rattle.published.specs.Parse.{CompactDiffOverlay, allow, intern_in, handle_in_overlay}
use Rattle.published.specs.Parse as Parse
use Rattle.published.specs.XmlParse.{Error, misplaced, outside_section, missing_attr, not_integer, bad_timestamp, bad_coordinate, not_degrees, both_forms, unknown_member_type, version_regression, truncated, internal, DriveState, Driven, Staging, CompactSink, sink_with, drive_event, end_test, fresh}
use Rattle.refines.specs.OneKind.{allowed}
use Rattle.refines.specs.Overlays.{rust_push, rust_delete}
use Rattle.refines.specs.Driving.{rust_event, by_documents}
use Rattle.refines.specs.Told.{Told, handle, done, refused, refused_told, told}
use Rattle.refines.specs.Domain.{Past, past_after, in_domain}

-- ---- the Rust: an overlay, and for each reader its driver's state and what its sink has staged

pub record RustHeld : Type 0 where
  pub overlay : CompactDiffOverlay
  pub states : ℕ → DriveState
  pub staged : ℕ → Option Staging

-- CompactDiffOverlay::new() with its setting, and a driver for each reader
abbrev pub rust_started : ℕ → RustHeld
rust_started setting = record { overlay = allow Parse.new (allowed setting); states = λ n. fresh; staged = λ n. None }

abbrev pub with_rust : CompactDiffOverlay → RustHeld → RustHeld
with_rust o w = record { overlay = o; states = w.states; staged = w.staged }

-- ---- what the Rust's callers are told

-- "From the Rust's errors to document 01's numbers" (judge/README.md). An internal error is 22, as `arena_invariant_broken` is.
abbrev pub error_told : Error → Told
error_told misplaced = refused 5 (pos 0)
error_told outside_section = refused 6 (pos 0)
error_told missing_attr = refused 7 (pos 0)
error_told not_integer = refused 8 (pos 0)
error_told bad_timestamp = refused 9 (pos 0)
error_told bad_coordinate = refused 10 (pos 0)
error_told unknown_member_type = refused 11 (pos 0)
error_told (version_regression v) = refused 12 v
error_told truncated = refused 18 (pos 0)
error_told internal = refused 22 (pos 0)
error_told not_degrees = refused 23 (pos 0)
error_told both_forms = refused 24 (pos 0)

abbrev pub unit_told : Result (Unit {0}) Error → Told
unit_told (Ok u) = done
unit_told (Err e) = error_told e

-- a direct push or delete
abbrev pub act_told : Result CompactDiffOverlay ℤ → Told
act_told (Ok o) = done
act_told (Err v) = refused 12 v

-- one turn of a reader's driver. The Rust's driver holds the overlay until it returns; here it is lent to it for each turn, so that readers and direct calls may come in turns
-- (judge/README.md, `JudgeSteps`).
abbrev pub driver_turn : ℕ → Event → RustHeld → Driven
driver_turn n e w = drive_event by_documents (rust_event e) (w.states n) (sink_with w.overlay (w.staged n))

-- of a line: 2, 3 and 4 are judged before the Rust sees it
abbrev pub reading_told : ℕ → Reading → RustHeld → Told
reading_told n (Line.reads e) w = unit_told (driver_turn n e w).result
reading_told n (Line.refused r) w = refused_told r

abbrev pub rust_told : Ask → RustHeld → Told
rust_told (interns t) w = handle (handle_in_overlay w.overlay t)
rust_told (pushes k h m parts) w = act_told (rust_push k h m parts w.overlay)
rust_told (deletes k id m) w = act_told (rust_delete k id m w.overlay)
rust_told (reads n line) w = reading_told n (event_of line) w
rust_told (ends n) w = unit_told (end_test (w.states n).level)
rust_told (allows setting) w = done

-- ---- what the Rust is left with

abbrev pub act_left : CompactDiffOverlay → Result CompactDiffOverlay ℤ → CompactDiffOverlay
act_left r (Ok o) = o
act_left r (Err v) = r

-- after a refused event overlay, driver and staged element are as they were before it: DIFFERENCES, D1. What the Rust keeps of it `refused_keeps` tells exactly; its driver has returned,
-- and is not asked again (`going`).
abbrev pub turn_left : ℕ → DriveState → CompactSink → Result (Unit {0}) Error → RustHeld → RustHeld
turn_left n d s (Ok u) w = record { overlay = s.overlay; states = put_at n d w.states; staged = put_at n s.staging w.staged }
turn_left n d s (Err e) w = w

abbrev pub reading_left : ℕ → Reading → RustHeld → RustHeld
reading_left n (Line.reads e) w = turn_left n (driver_turn n e w).state (driver_turn n e w).sink (driver_turn n e w).result w
reading_left n (Line.refused r) w = w

-- an end asks the end test and leaves the driver where it stands: document 01's end changes nothing, and a reader may go on after it
abbrev pub rust_leaves : Ask → RustHeld → RustHeld
rust_leaves (interns t) w = with_rust (intern_in w.overlay t) w
rust_leaves (pushes k h m parts) w = with_rust (act_left w.overlay (rust_push k h m parts w.overlay)) w
rust_leaves (deletes k id m) w = with_rust (act_left w.overlay (rust_delete k id m w.overlay)) w
rust_leaves (reads n line) w = reading_left n (event_of line) w
rust_leaves (ends n) w = w
rust_leaves (allows setting) w = with_rust (allow w.overlay (allowed setting)) w

-- ---- lists

-- the calls of a list that lie in the domain, each by the storage that it meets and by what was told before
unfoldable pub domain : Past → Storage → List Ask → List Ask
domain p l [] = []
domain p l (c ∷ cs) = cond (in_domain c p l) (c ∷ domain (past_after c (told c l) p) (leaves c l) cs) (domain (past_after c (told c l) p) (leaves c l) cs)

-- what the library tells the callers of these
unfoldable pub tolds : Past → Storage → List Ask → List Told
tolds p l [] = []
tolds p l (c ∷ cs) = cond (in_domain c p l) (told c l ∷ tolds (past_after c (told c l) p) (leaves c l) cs) (tolds (past_after c (told c l) p) (leaves c l) cs)

unfoldable pub rust_after : RustHeld → List Ask → RustHeld
rust_after w [] = w
rust_after w (c ∷ cs) = rust_after (rust_leaves c w) cs

unfoldable pub rust_tolds : RustHeld → List Ask → List Told
rust_tolds w [] = []
rust_tolds w (c ∷ cs) = rust_told c w ∷ rust_tolds (rust_leaves c w) cs
