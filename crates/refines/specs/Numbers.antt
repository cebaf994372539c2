-- sorted.rs, "Live and deleted ids per kind in OSM order, read by number", and the record of a number or of an id: what the Rust gives beside what the library gives.
use Rattle.refusal.specs.declared.Refusal.{Refusal}
use Rattle.std.specs.Prelude.{ℕ, ◌+◌, List, ◌++◌, take, drop, ℤ, Err, None, Ok, Option, Result, Some}
use Rattle.std.specs.Int.{w64}
use Rattle.std.proofs.Common.{of_z}
use Rattle.base.specs.Bytes.{Bytes}
use Rattle.kind.specs.declared.Kind.{Kind}
use Rattle.refusal.specs.declared.Refusal.TheVariants as R
use Rattle.kind_store.specs.KindStore.{KindStore}
use Rattle.kind_reading.specs.declared.Side.{Side}
use Rattle.kind_reading.specs.declared.Side.TheVariants.{Live, Deleted}
use Rattle.kind_reading.specs.Listed.{View}
use Rattle.published.specs.Parse.{CompactDiffOverlay}
use Rattle.published.specs.Sorted.{KindTable, into_sorted, kind_table}
use Rattle.refines.specs.Overlays.{element_kind}

-- overlay.into_sorted().kind(kind)
abbrev pub sorted_kind : Kind → CompactDiffOverlay → KindTable
sorted_kind k r = kind_table (into_sorted r) (element_kind k)

-- upserts(kind) and deleted(kind)
abbrev pub ids_on : Side → KindTable → List ℤ
ids_on Live t = t.ids
ids_on Deleted t = t.deleted

-- ids[n]: "21 number not below its list's count" where the Rust panics
abbrev pub numbered : Option ℤ → Result ℕ Refusal
numbered None = Err R.NoSuchNumber
numbered (Some id) = Ok (of_z w64 id)

-- "A record read is a view of the arena from its offset to that record's end; the Rust's view runs to the arena's end (listed)": ours, and the used bytes behind it
abbrev pub to_arena_end : KindStore → ℕ → ℕ → Bytes
to_arena_end s at len = take len (drop at s.arena) ++ drop (at + len) (take s.used s.arena)

-- the Rust's view, given ours: none where it gives None, and where it panics
abbrev pub rust_view : KindStore → View → Option Bytes
rust_view s (Ok (Some p)) = Some (to_arena_end s p.start p.len)
rust_view s (Ok None) = None
rust_view s (Err x) = None
