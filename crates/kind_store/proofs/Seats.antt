-- What an act does by the seat of its id: refused with 12 or 14, or taken with what the seat says.
use Rattle.std.specs.Prelude.{Err, None, Ok, Option, Result, Some, ℤ}
use Prim.Native.Nat.{ℕ}
use mathlib.Core.Path.{◌≡◌, refl, sym, ◌∙◌, ap}
use mathlib.Core.Bool.{Bool, true, false}
use mathlib.Core.List.{List}
use Rattle.base.specs.Bytes.{Bytes}
use Rattle.base.proofs.Split.{by_bool, no}
use Rattle.kind.specs.declared.Kind.{Kind}
use Rattle.osm_id.specs.Order.{rank}
use Rattle.refusal.specs.declared.Refusal.{Refusal}
use Rattle.refusal.specs.declared.Refusal.TheVariants.{Regression, IdsFull, ArenaFull}
use Rattle.version_floor.specs.Version.{higher, word_of}
use Rattle.compact_append.specs.Append.{append}
use Rattle.kind_table.specs.Words.{lookup, table_after}
use Rattle.kind_store.specs.declared.Seat.{Seat}
use Rattle.kind_store.specs.KindStore.{KindStore, kind_store_with, known_version, floor_after, checked, id_room, room_at, kind_store_refused, gone, rowed, record_joined, pushed, deleted}
use Rattle.kind_store.specs.Seats.{seat_of, seat_by, seated}
use Rattle.kind_store.proofs.Acts.{pushed_as_lem, push_room, push_full, deleted_as_lem, delete_full, join_full}

-- the row of an id set in a table
pub row_set : (s : KindStore) (id : ℤ) (offset floor : ℕ) {t : List ℕ} {n : ℕ} {b : Bool}
    → record { words = t; count = n; answer = b } ≡ table_after s.table s.ids (record { rank = rank id; offset = offset; floor = floor })
    → kind_store_with t n s.arena s.used ≡ rowed s id offset floor
unfolding table_after rowed
row_set s id offset floor e = rw (ap (λ x. x.words) e, ap (λ x. x.count) e)

-- a record joined, and its row set
pub joined_row : (s : KindStore) (id : ℤ) (floor : ℕ) (bytes : Bytes) {a : Bytes} {e : ℕ} → record { arena = a; answer = Some e } ≡ append s.arena s.used bytes
    → record { kind_store = rowed (kind_store_with s.table s.ids a e) id s.used floor; answer = Ok tt } ≡ record_joined s id floor bytes
unfolding record_joined
joined_row s id floor bytes w = rw (← w)

module _ (k : Kind) (s : KindStore) (id : ℤ) (setting : ℕ) (claim : Option ℤ) where
  module _ (seat : Seat) (is : seat ≡ seat_of k s id) where
    pub seat_below : {v : ℤ} → checked setting seat.known claim ≡ Err v → Err (Regression v) ≡ seated k setting s id claim
    unfolding seated
    seat_below e = rw (rw is at e)

    pub seat_taken : checked setting seat.known claim ≡ Ok tt → room_at s.table s.ids seat.found ≡ true → Ok seat ≡ seated k setting s id claim
    unfolding seated id_room
    seat_taken e r = rw (rw is at e, rw is at r, is)

    pub seat_full : checked setting seat.known claim ≡ Ok tt → room_at s.table s.ids seat.found ≡ false → Err IdsFull ≡ seated k setting s id claim
    unfolding seated id_room
    seat_full e r = rw (rw is at e, rw is at r)

  -- where the seat is refused, so is the act
  module _ {r : Refusal} (e : Err r ≡ seated k setting s id claim) where
    pub push_refused : (bytes : Bytes) → kind_store_refused s r ≡ pushed k setting s id claim bytes
    unfolding seated
    push_refused bytes = go (checked setting (known_version k s id) claim) refl e
      where
        go : (b : Result Unit ℤ) → checked setting (known_version k s id) claim ≡ b → Err r ≡ seat_by k s id b → kind_store_refused s r ≡ pushed k setting s id claim bytes
        go (Err v) p g = let x : r ≡ Regression v = cc in rw x (sym (pushed_as_lem k s id setting claim bytes (Err v) p))
        go (Ok tt) p g =
            by_bool (id_room s id)
            (λ t. let x : Err r ≡ Ok (seat_of k s id) = rw t at g in no (cc))
            (λ t. let x : Err r ≡ Err IdsFull = rw t at g in let y : r ≡ IdsFull = cc in
            rw y (sym (pushed_as_lem k s id setting claim bytes (Ok tt) p ∙ push_full k s id setting claim bytes t)))

    pub delete_refused : kind_store_refused s r ≡ deleted k setting s id claim
    unfolding seated
    delete_refused = go (checked setting (known_version k s id) claim) refl e
      where
        go : (b : Result Unit ℤ) → checked setting (known_version k s id) claim ≡ b → Err r ≡ seat_by k s id b → kind_store_refused s r ≡ deleted k setting s id claim
        go (Err v) p g = let x : r ≡ Regression v = cc in rw x (sym (deleted_as_lem k s id setting claim (Err v) p))
        go (Ok tt) p g =
            by_bool (id_room s id)
            (λ t. let x : Err r ≡ Ok (seat_of k s id) = rw t at g in no (cc))
            (λ t. let x : Err r ≡ Err IdsFull = rw t at g in let y : r ≡ IdsFull = cc in
            rw y (sym (deleted_as_lem k s id setting claim (Ok tt) p ∙ delete_full k s id claim t)))

  -- where it is not, the act is taken unless the arena is full
  module _ {seat : Seat} (e : Ok seat ≡ seated k setting s id claim) where
    passed : (seat ≡ seat_of k s id) × ((checked setting (known_version k s id) claim ≡ Ok tt) × (id_room s id ≡ true))
    unfolding seated
    passed = go (checked setting (known_version k s id) claim) refl e
      where
        go : (b : Result Unit ℤ) → checked setting (known_version k s id) claim ≡ b → Ok seat ≡ seat_by k s id b
            → (seat ≡ seat_of k s id) × ((checked setting (known_version k s id) claim ≡ Ok tt) × (id_room s id ≡ true))
        go (Err v) p g = no (cc)
        go (Ok tt) p g =
            by_bool (id_room s id)
            (λ t. let x : Ok seat ≡ Ok (seat_of k s id) = rw t at g in (cc, (p, t)))
            (λ t. let x : Ok seat ≡ Err IdsFull = rw t at g in no (cc))

    pub seat_is : seat ≡ seat_of k s id
    seat_is = passed.0

    pub push_joins : (bytes : Bytes) → record_joined s id (floor_after setting seat.known claim seat.floor) bytes ≡ pushed k setting s id claim bytes
    push_joins bytes = rw passed.0 (sym (pushed_as_lem k s id setting claim bytes (Ok tt) passed.1.0 ∙ push_room k s id setting claim bytes passed.1.1))

    pub delete_rows : record { kind_store = rowed s id gone (word_of (higher seat.known claim)); answer = Ok tt } ≡ deleted k setting s id claim
    delete_rows = rw passed.0 (sym (deleted_as_lem k s id setting claim (Ok tt) passed.1.0 ∙ rw passed.1.1))

    pub delete_done : {t w : List ℕ} {n r f : ℕ} {b : Bool} {v : Option ℤ} → t ≡ w → r ≡ rank id → v ≡ higher seat.known claim → f ≡ word_of v
        → (seat.found ≡ lookup s.table s.ids r → record { words = w; count = n; answer = b } ≡ table_after s.table s.ids (record { rank = r; offset = gone; floor = f }))
        → record { kind_store = kind_store_with t n s.arena s.used; answer = Ok tt } ≡ deleted k setting s id claim
    delete_done {f = f} l p q g h =
        let found : seat.found ≡ lookup s.table s.ids (rank id) = ap (λ x. x.found) passed.0 in
        rw (l, row_set s id gone f ((rw p at h) found), g, q) delete_rows

    module _ (bytes : Bytes) {a : Bytes} where
      pub push_ends : record { arena = a; answer = None } ≡ append s.arena s.used bytes
          → record { kind_store = kind_store_with s.table s.ids a s.used; answer = Err ArenaFull } ≡ pushed k setting s id claim bytes
      push_ends w = join_full s id (floor_after setting seat.known claim seat.floor) bytes a w ∙ push_joins bytes

      pub push_done : {t w : List ℕ} {n r f o : ℕ} {b : Bool} → t ≡ w → record { arena = a; answer = Some o } ≡ append s.arena s.used bytes
          → r ≡ rank id → f ≡ floor_after setting seat.known claim seat.floor
          → (seat.found ≡ lookup s.table s.ids r → record { words = w; count = n; answer = b } ≡ table_after s.table s.ids (record { rank = r; offset = s.used; floor = f }))
          → record { kind_store = kind_store_with t n a o; answer = Ok tt } ≡ pushed k setting s id claim bytes
      push_done {f = f} {o = o} l w p g h =
          let found : seat.found ≡ lookup s.table s.ids (rank id) = ap (λ x. x.found) passed.0 in
          rw (l, row_set (kind_store_with s.table s.ids a o) id s.used f ((rw p at h) found), g)
          (joined_row s id (floor_after setting seat.known claim seat.floor) bytes w ∙ push_joins bytes)
