-- What the contracts of an act cite: the setting as it is asked, and where the row of an act's id stands or belongs.
use Rattle.std.specs.Prelude.{ℕ, cond, eqb, ℤ, Err, Ok, Option, Result}
use Rattle.kind.specs.declared.Kind.{Kind}
use Rattle.osm_id.specs.Order.{rank}
use Rattle.refusal.specs.declared.Refusal.{Refusal}
use Rattle.refusal.specs.declared.Refusal.TheVariants.{Regression, IdsFull}
use Rattle.kind_table.specs.Words.{lookup}
use Rattle.kind_store.specs.KindStore.{KindStore, known_version, floor_of, checked, id_room}
use Rattle.kind_store.specs.declared.VersionRegression.{VersionRegression}
use Rattle.kind_store.specs.declared.VersionRegression.TheVariants.{Refused, Allowed}
use Rattle.kind_store.specs.declared.Seat.{Seat}

-- the setting is 0, or another word
abbrev pub regression_in : ℕ → VersionRegression
regression_in setting = cond (eqb setting 0) Refused Allowed

-- a setting that says so
abbrev pub setting_of : VersionRegression → ℕ
setting_of Refused = 0
setting_of Allowed = 1

-- the place of an id's row, with what is known of the id
abbrev pub seat_of : Kind → KindStore → ℤ → Seat
seat_of k s id = record { found = lookup s.table s.ids (rank id); known = known_version k s id; floor = floor_of s id }

-- 12, then 14: "new id, ids full"
abbrev pub seat_by : Kind → KindStore → ℤ → Result Unit ℤ → Result Seat Refusal
seat_by k s id (Err v) = Err (Regression v)
seat_by k s id (Ok tt) = cond (id_room s id) (Ok (seat_of k s id)) (Err IdsFull)

unfoldable pub seated : Kind → ℕ → KindStore → ℤ → Option ℤ → Result Seat Refusal
seated k setting s id claim = seat_by k s id (checked setting (known_version k s id) claim)
