-- What each answer to a push and a delete means: 12, 14, 15 or taken, and that a refusal changes nothing.
use Rattle.std.specs.Prelude.{Err, Ok, Option, Result}
use Prim.Native.Nat.{ℕ, ◌+◌, ◌<◌, ◌≤◌}
use mathlib.Core.Path.{◌≡◌, refl, sym, ◌∙◌, ap}
use mathlib.Core.Bool.{true, false}
use mathlib.Core.Logic.{◌↔◌}
use lib.IntN.{ℤ}
use lib.ListN.{length}
use borrow.Author.Tests.{ne_eqb}
use Rattle.base.specs.Bytes.{Bytes}
use Rattle.base.proofs.Split.{by_bool, by_le, no}
use Rattle.little.specs.Little.{over}
use Rattle.kind.specs.declared.Kind.{Kind}
use Rattle.version_floor.specs.Version.{higher, admit_of, word_of}
use Rattle.refusal.specs.declared.Refusal.{Refusal}
use Rattle.refusal.specs.declared.Refusal.TheVariants.{Regression, IdsFull, ArenaFull}
use Rattle.compact_append.proofs.Writes.{fits_is, full_is}
use Rattle.kind_store.specs.KindStore.{KindStore, KindStoreAfter, kind_store_with, gone, known_version, floor_of, floor_after, checked, id_room, kind_store_refused, rowed, record_joined, pushed, deleted}
use Rattle.kind_store.proofs.Acts.{pushed_as_lem, push_room, push_full, deleted_as_lem, delete_full}

-- ---- the answers

module _ (k : Kind) (setting : ℕ) (s : KindStore) (id : ℤ) (claim : Option ℤ) where
  checks : {C : Type 0} → ((v : ℤ) → checked setting (known_version k s id) claim ≡ Err v → C) → (checked setting (known_version k s id) claim ≡ (Ok tt) → C) → C
  checks {C} f g = go (checked setting (known_version k s id) claim) refl
    where
      go : (a : Result Unit ℤ) → checked setting (known_version k s id) claim ≡ a → C
      go (Ok tt) e = g e
      go (Err v) e = f v e

  -- what an accepted delete leaves: the row of its id at no offset, with the floor raised
  abbrev pub dropped : KindStore
  dropped = rowed s id gone (word_of (higher (known_version k s id) claim))

  -- a delete is refused 12 or 14, or taken
  pub by_delete : {C : Type 0}
      → ((v : ℤ) → checked setting (known_version k s id) claim ≡ Err v → deleted k setting s id claim ≡ kind_store_refused s (Regression v) → C)
      → (checked setting (known_version k s id) claim ≡ (Ok tt) → id_room s id ≡ false → deleted k setting s id claim ≡ kind_store_refused s IdsFull → C)
      → (checked setting (known_version k s id) claim ≡ (Ok tt) → id_room s id ≡ true → deleted k setting s id claim ≡ record { kind_store = dropped; answer = (Ok tt) } → C) → C
  by_delete f g h =
      checks
      (λ v e. f v e (deleted_as_lem k s id setting claim (Err v) e))
      (λ e. by_bool (id_room s id)
      (λ r. h e r (deleted_as_lem k s id setting claim (Ok tt) e ∙ rw r))
      (λ r. g e r (deleted_as_lem k s id setting claim (Ok tt) e ∙ delete_full k s id claim r)))

  module _ (bytes : Bytes) where
    -- what an accepted push leaves: its bytes over the arena from the used ones on, and the row of its id there
    abbrev pub laid : KindStore
    laid =
        rowed (kind_store_with s.table s.ids (over s.arena s.used bytes) (s.used + length bytes)) id s.used (floor_after setting (known_version k s id) claim (floor_of s id))

    -- a push is refused 12, 14 or 15, in that order, or taken
    pub by_push : {C : Type 0}
        → ((v : ℤ) → checked setting (known_version k s id) claim ≡ Err v → pushed k setting s id claim bytes ≡ kind_store_refused s (Regression v) → C)
        → (checked setting (known_version k s id) claim ≡ (Ok tt) → id_room s id ≡ false → pushed k setting s id claim bytes ≡ kind_store_refused s IdsFull → C)
        → (checked setting (known_version k s id) claim ≡ (Ok tt) → id_room s id ≡ true → length s.arena < s.used + length bytes → pushed k setting s id claim bytes ≡ kind_store_refused s ArenaFull → C)
        → (checked setting (known_version k s id) claim ≡ (Ok tt) → id_room s id ≡ true → s.used + length bytes ≤ length s.arena
        → pushed k setting s id claim bytes ≡ record { kind_store = laid; answer = (Ok tt) } → C) → C
    unfolding record_joined
    by_push f g h t =
        checks
        (λ v e. f v e (pushed_as_lem k s id setting claim bytes (Err v) e))
        (λ e. by_bool (id_room s id)
        (λ r. let x = pushed_as_lem k s id setting claim bytes (Ok tt) e ∙ push_room k s id setting claim bytes r in
        by_le (s.used + length bytes) (length s.arena)
        (λ l. t e r l (x ∙ rw (fits_is s.arena s.used bytes l)))
        (λ l. h e r l (x ∙ rw (full_is s.arena s.used bytes l))))
        (λ r. g e r (pushed_as_lem k s id setting claim bytes (Ok tt) e ∙ push_full k s id setting claim bytes r)))

-- ---- refusals

-- an answer, by what the whole is
pub answered : {a : KindStoreAfter} {t : KindStore} {x y : Result Unit Refusal} → a ≡ record { kind_store = t; answer = x } → a.answer ≡ y → x ≡ y
answered {a} e f = sym (ap (λ (z : KindStoreAfter). z.answer) e) ∙ f

module _ (k : Kind) (setting : ℕ) (s : KindStore) (id : ℤ) (claim : Option ℤ) where
  -- a refusal changes nothing
  pub delete_refused : (x : Refusal) → (deleted k setting s id claim).answer ≡ Err x → (deleted k setting s id claim).kind_store ≡ s
  delete_refused x e =
      by_delete k setting s id claim (λ v c w. ap (λ (z : KindStoreAfter). z.kind_store) w) (λ c r w. ap (λ (z : KindStoreAfter). z.kind_store) w)
      (λ c r w. let z = answered w e in no (cc))

  pub push_refused : (bytes : Bytes) (x : Refusal) → (pushed k setting s id claim bytes).answer ≡ Err x → (pushed k setting s id claim bytes).kind_store ≡ s
  push_refused bytes x e =
      by_push k setting s id claim bytes (λ v c w. ap (λ (z : KindStoreAfter). z.kind_store) w) (λ c r w. ap (λ (z : KindStoreAfter). z.kind_store) w)
      (λ c r l w. ap (λ (z : KindStoreAfter). z.kind_store) w) (λ c r l w. let z = answered w e in no (cc))

  -- 12, exactly where the check refuses, and with the version that it names
  pub delete_12 : (v : ℤ) → ((deleted k setting s id claim).answer ≡ Err (Regression v)) ↔ (checked setting (known_version k s id) claim ≡ Err v)
  delete_12 v = (
    λ e. by_delete k setting s id claim
        (λ x c w. let z = answered w e in let q : x ≡ v = cc in rw q at c)
        (λ c r w. let z = answered w e in no (cc)) (λ c r w. let z = answered w e in no (cc)),
    λ e. ap (λ (z : KindStoreAfter). z.answer) (deleted_as_lem k s id setting claim (Err v) e),
  )

  pub push_12 : (bytes : Bytes) (v : ℤ) → ((pushed k setting s id claim bytes).answer ≡ Err (Regression v)) ↔ (checked setting (known_version k s id) claim ≡ Err v)
  push_12 bytes v = (
    λ e. by_push k setting s id claim bytes
        (λ x c w. let z = answered w e in let q : x ≡ v = cc in rw q at c)
        (λ c r w. let z = answered w e in no (cc)) (λ c r l w. let z = answered w e in no (cc)) (λ c r l w. let z = answered w e in no (cc)),
    λ e. ap (λ (z : KindStoreAfter). z.answer) (pushed_as_lem k s id setting claim bytes (Err v) e),
  )

pub check_refused : (v c : Option ℤ) → checked 0 v c ≡ admit_of v c
unfolding checked
check_refused v c = refl

-- while regression is allowed, nothing is refused 12
pub check_allowed : (setting : ℕ) (v c : Option ℤ) → (setting ≡ 0 → ⊥) → checked setting v c ≡ (Ok tt)
unfolding checked
check_allowed setting v c n = rw (ne_eqb setting 0 n)

-- T13: while it is refused, an act is refused 12 exactly where its claim is below the known version, and the refusal names that version
pub delete_regression : (k : Kind) (s : KindStore) (id : ℤ) (claim : Option ℤ) (v : ℤ)
    → ((deleted k 0 s id claim).answer ≡ Err (Regression v)) ↔ (admit_of (known_version k s id) claim ≡ Err v)
delete_regression k s id claim v = rw check_refused at (delete_12 k 0 s id claim v)

pub push_regression : (k : Kind) (s : KindStore) (id : ℤ) (claim : Option ℤ) (bytes : Bytes) (v : ℤ)
    → ((pushed k 0 s id claim bytes).answer ≡ Err (Regression v)) ↔ (admit_of (known_version k s id) claim ≡ Err v)
push_regression k s id claim bytes v = rw check_refused at (push_12 k 0 s id claim bytes v)
