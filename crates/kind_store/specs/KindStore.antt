-- Document 01, parse.rs: what is lent for one kind, its id table and its arena, and what a push and a delete do there.
use Rattle.std.specs.Prelude.{ℕ, suc, ◌+◌, ◌*◌, ◌^◌, Bool, true, false, cond, List, ltb, leb, eqb, ℤ, length, Err, None, Ok, Option, Result, Some}
use Rattle.base.specs.Bytes.{Bytes}
use Rattle.kind.specs.declared.Kind.{Kind}
use Rattle.osm_id.specs.Order.{rank}
use Rattle.version_floor.specs.Version.{higher, admit_of, word_of, of_word}
use Rattle.refusal.specs.declared.Refusal.{Refusal}
use Rattle.refusal.specs.declared.Refusal.TheVariants.{Regression, IdsFull, ArenaFull}
use Rattle.model.specs.Record.{claim_of}
use Rattle.compact.specs.Layout.{head_len}
use Rattle.compact.specs.Held.{meta_of}
use Rattle.compact.specs.View.{meta_at}
use Rattle.compact_append.specs.Append.{append}
use Rattle.kind_table.specs.Words.{row_at, lookup, Stored, stored, count_after}
use Rattle.kind_table.specs.declared.Row.{Row}

-- the words of a table and the bytes of an arena, with the used counts
pub record KindStore : Type 0 where
  pub table : List ℕ
  pub ids : ℕ
  pub arena : Bytes
  pub used : ℕ

-- a kind store by its parts, as the functions are lent them
abbrev pub kind_store_with : List ℕ → ℕ → Bytes → ℕ → KindStore
kind_store_with table ids arena used = record { table = table; ids = ids; arena = arena; used = used }

-- ---- what is known of an id

-- a row's offset: below 2^63 where its record starts, else the id is deleted
unfoldable pub is_live : ℕ → Bool
is_live offset = ltb offset (2 ^ 63)

abbrev pub gone : ℕ
gone = 2 ^ 63

-- no floor
abbrev pub no_floor : ℕ
no_floor = 2 ^ 32

-- the version that the record at an offset claims
unfoldable pub version_at : Kind → Bytes → ℕ → Option ℤ
version_at k arena offset = claim_of (meta_of (meta_at arena (offset + head_len k)))

unfoldable pub live_version : Kind → Bytes → Row → Option ℤ
live_version k arena r = cond (is_live r.offset) (version_at k arena r.offset) None

-- "Known version: the larger of the live record's version and the floor, or the one that exists."
unfoldable pub known_of : Kind → Bytes → Row → Option ℤ
known_of k arena r = higher (live_version k arena r) (of_word r.floor)

abbrev pub known_at : Kind → List ℕ → Bytes → Result ℕ ℕ → Option ℤ
known_at k table arena (Ok i) = known_of k arena (row_at table i)
known_at k table arena (Err p) = None

unfoldable pub known_version : Kind → KindStore → ℤ → Option ℤ
known_version k s id = known_at k s.table s.arena (lookup s.table s.ids (rank id))

-- the floor word of an id, none for one that is not known
abbrev pub floor_at : List ℕ → Result ℕ ℕ → ℕ
floor_at table (Ok i) = (row_at table i).floor
floor_at table (Err p) = no_floor

unfoldable pub floor_of : KindStore → ℤ → ℕ
floor_of s id = floor_at s.table (lookup s.table s.ids (rank id))

-- ---- the checks of an act

-- 12: a claim is checked against the known version only while regression is refused (setting 0)
unfoldable pub checked : ℕ → Option ℤ → Option ℤ → Result Unit ℤ
checked setting known_version claim = cond (eqb setting 0) (admit_of known_version claim) (Ok tt)

-- 14: "new id, ids full"
abbrev pub room_at : List ℕ → ℕ → Result ℕ ℕ → Bool
room_at table ids (Ok i) = true
room_at table ids (Err p) = leb (3 * suc ids) (length table)

unfoldable pub id_room : KindStore → ℤ → Bool
id_room s id = room_at s.table s.ids (lookup s.table s.ids (rank id))

-- ---- what an act leaves

-- "accepted unless refused"
abbrev pub taken_in : Result Unit Refusal → Bool
taken_in (Ok tt) = true
taken_in (Err r) = false

pub record KindStoreAfter : Type 0 where
  pub kind_store : KindStore
  pub answer : Result Unit Refusal

abbrev pub kind_store_refused : KindStore → Refusal → KindStoreAfter
kind_store_refused s r = record { kind_store = s; answer = Err r }

-- the table and the count that storing a row leaves
abbrev pub with_row : KindStore → Stored → KindStore
with_row s t = kind_store_with t.words (count_after t.answer s.ids) s.arena s.used

-- the row of an id set
unfoldable pub rowed : KindStore → ℤ → ℕ → ℕ → KindStore
rowed s id offset floor = with_row s (stored s.table s.ids (record { rank = rank id; offset = offset; floor = floor }))

-- "A push without one carries the known version into the floor, only while regression is refused."
abbrev pub floor_after : ℕ → Option ℤ → Option ℤ → ℕ → ℕ
floor_after setting known_version (Some v) floor = floor
floor_after setting known_version None floor = cond (eqb setting 0) (word_of known_version) floor

-- the record joined to the used bytes, and the row of its id at its place
abbrev pub joined_as : KindStore → ℤ → ℕ → Bytes → Option ℕ → KindStoreAfter
joined_as s id floor arena (Some e) = record { kind_store = rowed (kind_store_with s.table s.ids arena e) id s.used floor; answer = (Ok tt) }
joined_as s id floor arena None = kind_store_refused s ArenaFull

unfoldable pub record_joined : KindStore → ℤ → ℕ → Bytes → KindStoreAfter
record_joined s id floor bytes = joined_as s id floor (append s.arena s.used bytes).arena (append s.arena s.used bytes).answer

-- a push of a record's bytes, after the checks that need no storage: 12, 14, 15, or taken
abbrev pub pushed_as : Kind → ℕ → KindStore → ℤ → Option ℤ → Bytes → Result Unit ℤ → KindStoreAfter
pushed_as k setting s id claim bytes (Err v) = kind_store_refused s (Regression v)
pushed_as k setting s id claim bytes (Ok tt) =
    cond (id_room s id) (record_joined s id (floor_after setting (known_version k s id) claim (floor_of s id)) bytes) (kind_store_refused s IdsFull)

unfoldable pub pushed : Kind → ℕ → KindStore → ℤ → Option ℤ → Bytes → KindStoreAfter
pushed k setting s id claim bytes = pushed_as k setting s id claim bytes (checked setting (known_version k s id) claim)

-- "A delete, in both settings, raises the floor to the larger of the known version and its own, or the one that exists .., drops the id from live
-- and adds it to deleted."
abbrev pub deleted_as : Kind → KindStore → ℤ → Option ℤ → Result Unit ℤ → KindStoreAfter
deleted_as k s id claim (Err v) = kind_store_refused s (Regression v)
deleted_as k s id claim (Ok tt) =
    cond (id_room s id) (record { kind_store = rowed s id gone (word_of (higher (known_version k s id) claim)); answer = (Ok tt) }) (kind_store_refused s IdsFull)

unfoldable pub deleted : Kind → ℕ → KindStore → ℤ → Option ℤ → KindStoreAfter
deleted k setting s id claim = deleted_as k s id claim (checked setting (known_version k s id) claim)
