-- What the definitions of a push and a delete say, case by case.
use Rattle.std.specs.Prelude.{Err, None, Ok, Option, Result}
use Prim.Native.Nat.{ℕ, ◌≤◌}
use mathlib.Core.Path.{◌≡◌, sym}
use mathlib.Core.Bool.{true, false}
use native.Mathlib.Omega.{arith}
use lib.IntN.{ℤ}
use Rattle.base.specs.Bytes.{Bytes}
use Rattle.kind.specs.declared.Kind.{Kind}
use Rattle.kind.specs.declared.Kind.TheVariants.{Node, Way, Relation}
use Rattle.refusal.specs.declared.Refusal.TheVariants.{IdsFull, ArenaFull}
use Rattle.compact.specs.Layout.{head_len}
use Rattle.compact_append.proofs.Joins as joins
use Rattle.compact_append.specs.Append.{append}
use Rattle.kind_store.specs.KindStore.{KindStore, kind_store_with, known_version, floor_of, floor_after, checked, id_room, kind_store_refused, record_joined, pushed_as, pushed, deleted_as, deleted}

pub head_most : (k : Kind) → head_len k ≤ 20
head_most Node = omega arith
head_most Way = omega arith
head_most Relation = omega arith

-- ---- a record joined

module _ (s : KindStore) (id : ℤ) (floor : ℕ) (bytes : Bytes) where
  pub join_full : (a : Bytes) → record { arena = a; answer = None } ≡ append s.arena s.used bytes
      → record { kind_store = kind_store_with s.table s.ids a s.used; answer = Err ArenaFull } ≡ record_joined s id floor bytes
  unfolding record_joined
  join_full a e = rw (← e, (joins.refused s.arena s.used bytes a (sym e)).0)

-- ---- an act, by what was found and by the answer of its checks

module _ (k : Kind) (s : KindStore) (id : ℤ) where
  module _ (setting : ℕ) (claim : Option ℤ) where
    pub pushed_as_lem : (bytes : Bytes) (b : Result Unit ℤ) → checked setting (known_version k s id) claim ≡ b → pushed k setting s id claim bytes ≡ pushed_as k setting s id claim bytes b
    unfolding pushed
    pushed_as_lem bytes b e = rw e

    pub push_room : (bytes : Bytes) → id_room s id ≡ true
        → pushed_as k setting s id claim bytes (Ok tt) ≡ record_joined s id (floor_after setting (known_version k s id) claim (floor_of s id)) bytes
    push_room bytes e = rw e

    pub push_full : (bytes : Bytes) → id_room s id ≡ false → pushed_as k setting s id claim bytes (Ok tt) ≡ kind_store_refused s IdsFull
    push_full bytes e = rw e

    pub deleted_as_lem : (b : Result Unit ℤ) → checked setting (known_version k s id) claim ≡ b → deleted k setting s id claim ≡ deleted_as k s id claim b
    unfolding deleted
    deleted_as_lem b e = rw e

  module _ (claim : Option ℤ) where
    pub delete_full : id_room s id ≡ false → deleted_as k s id claim (Ok tt) ≡ kind_store_refused s IdsFull
    delete_full e = rw e
