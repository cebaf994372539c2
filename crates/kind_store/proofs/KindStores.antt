-- Which rows an accepted push or delete leaves, and what is known of each id after it.
use Rattle.std.specs.Prelude.{Err, None, Ok, Option, Result, Some}
use Prim.Native.Nat.{ℕ, suc, ◌+◌, ◌*◌, ◌^◌, ◌<◌, ◌≤◌}
use mathlib.Core.Path.{◌≡◌, refl, sym, ◌∙◌, ap}
use mathlib.Core.Bool.{true, false}
use mathlib.Core.List.{List, ◌++◌}
use native.Mathlib.Omega.{arith}
use lib.Dec.{leb}
use lib.IntN.{ℤ}
use lib.ListN.{length, take}
use borrow.Author.Tests.{leb-true, lt-ltb}
use Rattle.base.specs.Bytes.{Bytes, all}
use Rattle.base.proofs.Split.{by_bool, by_eq, clash, no}
use Rattle.base.proofs.Lists.{all_append}
use Rattle.little.specs.Little.{is_byte, over}
use Rattle.little.proofs.Littles.{bytes_take, bytes_drop}
use Rattle.little.proofs.Overs.{take_over, length_over, over_fits}
use Rattle.kind.specs.declared.Kind.{Kind}
use Rattle.osm_id.specs.Order.{rank}
use Rattle.version_floor.specs.Version.{higher, admit_of, word_of, of_word}
use Rattle.version_floor.proofs.Versions.{higher_left, higher_right, commutative, associative, idempotent, admitted_highest, word_version, word_absent, word_fits}
use Rattle.model.specs.Record.{Meta, claim_of}
use Rattle.compact.specs.Layout.{Head, head_len, head_bytes, meta_bytes}
use Rattle.compact.specs.Fits.{fits_meta}
use Rattle.kind_table.specs.Words as answers
use Rattle.kind_table.specs.declared.Row.{Row}
use Rattle.kind_table.specs.Rows.{rising, find, put}
use Rattle.kind_table.specs.Words.{row_at, rows_from, rows_of, lookup, stored, sound_table}
use Rattle.kind_table.proofs.Maps.{find_put_same, find_put_other}
use Rattle.kind_table.proofs.Tables.{sound_of, stored_known, stored_new, found_row, found_none, rows_stored, sound_stored, length_stored}
use Rattle.kind_store.specs.KindStore.{KindStore, KindStoreAfter, kind_store_with, is_live, gone, version_at, live_version, known_of, known_version, floor_of, floor_after, checked, id_room, rowed, pushed, deleted}
use Rattle.kind_store.specs.WellFormed.{rows_in, WellFormed}
use Rattle.kind_store.proofs.Answers.{dropped, laid, by_delete, by_push, answered, check_refused}
use Rattle.kind_store.proofs.Claims.{version_same, version_joined, Narrow, narrow_none, narrow_higher, narrow_at}

-- ---- what is known of an id, by its row in a sound table

module _ (k : Kind) (s : KindStore) (sound : sound_table s.table s.ids ≡ true) (id : ℤ) where
  by_row : {C : Type 0} → ((i : ℕ) → lookup s.table s.ids (rank id) ≡ Ok i → find (rank id) (rows_in s) ≡ Some (row_at s.table i) → C)
      → ((p : ℕ) → lookup s.table s.ids (rank id) ≡ Err p → find (rank id) (rows_in s) ≡ None → C) → C
  by_row {C} f g = go (lookup s.table s.ids (rank id)) refl
    where
      go : (o : Result ℕ ℕ) → lookup s.table s.ids (rank id) ≡ o → C
      go (Ok i) e = f i e (found_row s.table s.ids sound (rank id) i e).1
      go (Err p) e = g p e (found_none s.table s.ids sound (rank id) p e).0

  pub known_row : (r : Row) → find (rank id) (rows_in s) ≡ Some r → known_version k s id ≡ known_of k s.arena r
  unfolding known_version
  known_row r e = by_row (λ i l f. let x : row_at s.table i ≡ r = cc in rw (l, x)) (λ p l f. no (cc))

  pub known_none : find (rank id) (rows_in s) ≡ None → known_version k s id ≡ None
  unfolding known_version
  known_none e = by_row (λ i l f. no (cc)) (λ p l f. rw l)

  pub floor_row : (r : Row) → find (rank id) (rows_in s) ≡ Some r → floor_of s id ≡ r.floor
  unfolding floor_of
  floor_row r e = by_row (λ i l f. let x : row_at s.table i ≡ r = cc in rw (l, ← x)) (λ p l f. no (cc))

  pub floor_none : find (rank id) (rows_in s) ≡ None → floor_of s id ≡ 2 ^ 32
  unfolding floor_of
  floor_none e = by_row (λ i l f. no (cc)) (λ p l f. rw l)

-- ---- the row of an id set

-- t is s with a row of the id set, and perhaps more used bytes
pub record Laid (s : KindStore) (id : ℤ) (offset floor : ℕ) (t : KindStore) : Type 0 where
  pub sound : sound_table t.table t.ids ≡ true
  pub rows : rows_in t ≡ put (record { rank = rank id; offset = offset; floor = floor }) (rows_in s)
  pub words : length t.table ≡ length s.table
  pub size : length t.arena ≡ length s.arena
  pub grown : s.used ≤ t.used
  pub before : take s.used t.arena ≡ take s.used s.arena

-- where there is room, the row is stored
module _ (s : KindStore) (id : ℤ) (offset floor : ℕ) (sound : sound_table s.table s.ids ≡ true) (roomy : id_room s id ≡ true) where
  not_full : (stored s.table s.ids (record { rank = rank id; offset = offset; floor = floor })).answer ≡ answers.Full → ⊥
  unfolding id_room
  not_full e = go (lookup s.table s.ids (rank id)) refl
    where
      row : Row
      row = record { rank = rank id; offset = offset; floor = floor }

      go : (o : Result ℕ ℕ) → lookup s.table s.ids (rank id) ≡ o → ⊥
      go (Ok i) l = let x = ap (λ z. z.answer) (stored_known s.table s.ids row i l) in no (cc)
      go (Err p) l =
          let r : leb (3 * suc s.ids) (length s.table) ≡ true = rw l at roomy in
          let x = ap (λ z. z.answer) (stored_new s.table s.ids row p l (leb-true (3 * suc s.ids) (length s.table) r)) in no (cc)

  pub rowed_laid : (arena : Bytes) (used : ℕ) → length arena ≡ length s.arena → s.used ≤ used → take s.used arena ≡ take s.used s.arena
      → Laid s id offset floor (rowed (kind_store_with s.table s.ids arena used) id offset floor)
  unfolding rowed
  rowed_laid arena used e l b =
      let row : Row = record { rank = rank id; offset = offset; floor = floor } in
      record {
        sound = sound_stored s.table s.ids row sound;
        rows = rows_stored s.table s.ids row sound not_full;
        words = length_stored s.table s.ids row;
        size = e;
        grown = l;
        before = b;
      }

module _ (k : Kind) (setting : ℕ) (s : KindStore) (id : ℤ) (claim : Option ℤ) (sound : sound_table s.table s.ids ≡ true) where
  -- an accepted delete: the table stays sound, and the row is put among the rows
  pub delete_laid : (deleted k setting s id claim).answer ≡ (Ok tt) → Laid s id gone (word_of (higher (known_version k s id) claim)) (deleted k setting s id claim).kind_store
  delete_laid e =
      by_delete k setting s id claim
      (λ v c w. let z = answered w e in no (cc)) (λ c r w. let z = answered w e in no (cc))
      (λ c r w. rw w (rowed_laid s id gone (word_of (higher (known_version k s id) claim)) sound r s.arena s.used refl (omega arith) refl))

  -- an accepted push too, at the used bytes' end
  pub push_laid : (bytes : Bytes) → (pushed k setting s id claim bytes).answer ≡ (Ok tt)
      → Laid s id s.used (floor_after setting (known_version k s id) claim (floor_of s id)) (pushed k setting s id claim bytes).kind_store
  push_laid bytes e =
      by_push k setting s id claim bytes
      (λ v c w. let z = answered w e in no (cc)) (λ c r w. let z = answered w e in no (cc)) (λ c r l w. let z = answered w e in no (cc))
      (λ c r l w. rw w
      (rowed_laid s id s.used (floor_after setting (known_version k s id) claim (floor_of s id)) sound r (over s.arena s.used bytes) (s.used + length bytes)
      (length_over s.arena s.used bytes) (omega arith) (take_over s.used s.arena s.used bytes (omega arith))))

-- ---- known versions are of 32 bits

narrow_row : (k : Kind) (arena : Bytes) (r : Row) → all is_byte arena ≡ true → Narrow (known_of k arena r)
unfolding known_of live_version
narrow_row k arena r h =
    by_bool (is_live r.offset)
    (λ t. rw t (narrow_higher (version_at k arena r.offset) (of_word r.floor) (narrow_at k arena r.offset h) (word_fits r.floor)))
    (λ t. rw t (narrow_higher None (of_word r.floor) narrow_none (word_fits r.floor)))

pub known_narrow : (k : Kind) (s : KindStore) (id : ℤ) → WellFormed k s → Narrow (known_version k s id)
known_narrow k s id well_formed = go (find (rank id) (rows_in s)) refl
  where
    go : (o : Option Row) → find (rank id) (rows_in s) ≡ o → Narrow (known_version k s id)
    go (Some r) e = rw (known_row k s well_formed.sound id r e) (narrow_row k s.arena r well_formed.bytes)
    go None e = rw (known_none k s well_formed.sound id e) narrow_none

-- ---- after an accepted act

pub known_kept : (k : Kind) (a b : Bytes) (used : ℕ) (r : Row) → (is_live r.offset ≡ true → r.offset + (head_len k + 29) ≤ used) → take used a ≡ take used b → known_of k a r ≡ known_of k b r
unfolding known_of live_version
known_kept k a b used r h e = by_bool (is_live r.offset) (λ t. rw (t, version_same k a b used r.offset (h t) e)) (λ t. rw t)

module _ (k : Kind) (s t : KindStore) (id : ℤ) (offset floor : ℕ) (well_formed : WellFormed k s) (laid : Laid s id offset floor t) where
  -- what is known of another id stays
  pub other_known : (other : ℤ) → (rank other ≡ rank id → ⊥) → known_version k t other ≡ known_version k s other
  other_known other n = go (find (rank other) (rows_in s)) refl
    where
      same : find (rank other) (rows_in t) ≡ find (rank other) (rows_in s)
      same = rw laid.rows (find_put_other (rank other) (record { rank = rank id; offset = offset; floor = floor }) (rows_in s) n)

      go : (o : Option Row) → find (rank other) (rows_in s) ≡ o → known_version k t other ≡ known_version k s other
      go (Some r) e =
          known_row k t laid.sound other r (same ∙ e)
          ∙ known_kept k t.arena s.arena s.used r (well_formed.offsets (rank other) r e) laid.before
          ∙ sym (known_row k s well_formed.sound other r e)
      go None e = known_none k t laid.sound other (same ∙ e) ∙ sym (known_none k s well_formed.sound other e)

  -- and of the id itself it is what its new row says
  pub own_known : known_version k t id ≡ known_of k t.arena (record { rank = rank id; offset = offset; floor = floor })
  own_known = known_row k t laid.sound id _ (rw laid.rows (find_put_same (record { rank = rank id; offset = offset; floor = floor }) (rows_in s)))

  -- the kind store stays fair
  pub well_formed_laid : all is_byte t.arena ≡ true → (is_live offset ≡ true → offset + (head_len k + 29) ≤ t.used) → WellFormed k t
  well_formed_laid b p =
      record {
        bytes = b;
        short = omega (arith, laid.size, well_formed.short);
        sound = laid.sound;
        offsets = λ n r e l.
            by_eq n (rank id)
            (λ q. let row : Row = record { rank = rank id; offset = offset; floor = floor } in
            let x : find (rank id) (rows_in t) ≡ Some row = rw laid.rows (find_put_same row (rows_in s)) in
            let y : row ≡ r = cc (rw q at e) in
            let z : offset ≡ r.offset = ap (λ (w : Row). w.offset) y in
            rw (← z) (p (rw z l)))
            (λ q. let x : find n (rows_in s) ≡ Some r = sym (find_put_other n (record { rank = rank id; offset = offset; floor = floor }) (rows_in s) q) ∙ rw laid.rows at e in
            omega (arith, well_formed.offsets n r x l, laid.grown));
      }

-- ---- an accepted delete

not_live : is_live gone ≡ false
unfolding is_live
not_live = refl

module _ (k : Kind) (setting : ℕ) (s : KindStore) (id : ℤ) (claim : Option ℤ) (well_formed : WellFormed k s) (taken : (deleted k setting s id claim).answer ≡ (Ok tt)) where
  deleted_is : (deleted k setting s id claim).kind_store ≡ dropped k setting s id claim
  deleted_is =
      by_delete k setting s id claim (λ v c w. let z = answered w taken in no (cc)) (λ c r w. let z = answered w taken in no (cc))
      (λ c r w. ap (λ (z : KindStoreAfter). z.kind_store) w)

  -- T8: the arena and its used count stay
  pub delete_arena : (deleted k setting s id claim).kind_store.arena ≡ s.arena
  unfolding rowed
  delete_arena = rw deleted_is

  pub delete_used : (deleted k setting s id claim).kind_store.used ≡ s.used
  unfolding rowed
  delete_used = rw deleted_is

  pub delete_well_formed : WellFormed k (deleted k setting s id claim).kind_store
  delete_well_formed =
      well_formed_laid k s (deleted k setting s id claim).kind_store id gone (word_of (higher (known_version k s id) claim)) well_formed (delete_laid k setting s id claim well_formed.sound taken)
      (rw delete_arena well_formed.bytes) (λ l. clash l not_live)

  pub delete_other : (other : ℤ) → (rank other ≡ rank id → ⊥) → known_version k (deleted k setting s id claim).kind_store other ≡ known_version k s other
  delete_other = other_known k s (deleted k setting s id claim).kind_store id gone (word_of (higher (known_version k s id) claim)) well_formed (delete_laid k setting s id claim well_formed.sound taken)

  -- in both settings the known version is the larger of the known version and the claim, or the one that exists
  pub delete_raises : Narrow claim → known_version k (deleted k setting s id claim).kind_store id ≡ higher (known_version k s id) claim
  unfolding known_of live_version
  delete_raises n =
      let t = (deleted k setting s id claim).kind_store in
      own_known k s t id gone (word_of (higher (known_version k s id) claim)) well_formed (delete_laid k setting s id claim well_formed.sound taken)
      ∙ rw not_live (higher_left (of_word (word_of (higher (known_version k s id) claim))) ∙ word_version (higher (known_version k s id) claim) (narrow_higher (known_version k s id) claim (known_narrow k s id well_formed) n))

-- ---- an accepted push

module _ (k : Kind) (setting : ℕ) (s : KindStore) (id : ℤ) (claim : Option ℤ) (bytes : Bytes) (taken : (pushed k setting s id claim bytes).answer ≡ (Ok tt)) where
  is_taken : {C : Type 0} → (checked setting (known_version k s id) claim ≡ (Ok tt) → s.used + length bytes ≤ length s.arena → (pushed k setting s id claim bytes).kind_store ≡ laid k setting s id claim bytes → C) → C
  is_taken f =
      by_push k setting s id claim bytes
      (λ v c w. let z = answered w taken in no (cc)) (λ c r w. let z = answered w taken in no (cc)) (λ c r l w. let z = answered w taken in no (cc))
      (λ c r l w. f c l (ap (λ (z : KindStoreAfter). z.kind_store) w))

  pub push_admitted : checked setting (known_version k s id) claim ≡ (Ok tt)
  push_admitted = is_taken (λ c l w. c)

  pub push_fits : s.used + length bytes ≤ length s.arena
  push_fits = is_taken (λ c l w. l)

  -- T8: the used bytes grow by the record's length
  pub push_used : (pushed k setting s id claim bytes).kind_store.used ≡ s.used + length bytes
  unfolding rowed
  push_used = is_taken (λ c l w. rw w)

  pub push_arena : (pushed k setting s id claim bytes).kind_store.arena ≡ over s.arena s.used bytes
  unfolding rowed
  push_arena = is_taken (λ c l w. rw w)

  module _ (well_formed : WellFormed k s) where
    pub push_other : (other : ℤ) → (rank other ≡ rank id → ⊥) → known_version k (pushed k setting s id claim bytes).kind_store other ≡ known_version k s other
    push_other =
        other_known k s (pushed k setting s id claim bytes).kind_store id s.used (floor_after setting (known_version k s id) claim (floor_of s id)) well_formed
        (push_laid k setting s id claim well_formed.sound bytes taken)

    pub push_well_formed : all is_byte bytes ≡ true → head_len k + 29 ≤ length bytes → WellFormed k (pushed k setting s id claim bytes).kind_store
    push_well_formed b h =
        well_formed_laid k s (pushed k setting s id claim bytes).kind_store id s.used (floor_after setting (known_version k s id) claim (floor_of s id)) well_formed
        (push_laid k setting s id claim well_formed.sound bytes taken)
        (rw (push_arena, over_fits s.arena s.used bytes push_fits)
        (all_append is_byte _ _ (bytes_take s.used s.arena well_formed.bytes)
        (all_append is_byte bytes _ b (bytes_drop (s.used + length bytes) s.arena well_formed.bytes))))
        (λ l. rw push_used (omega arith))

-- the floor of an id is not above its known version
pub floor_under : (k : Kind) (s : KindStore) (id : ℤ) → sound_table s.table s.ids ≡ true → higher (known_version k s id) (of_word (floor_of s id)) ≡ known_version k s id
unfolding known_of
floor_under k s id sound = go (find (rank id) (rows_in s)) refl
  where
    go : (o : Option Row) → find (rank id) (rows_in s) ≡ o → higher (known_version k s id) (of_word (floor_of s id)) ≡ known_version k s id
    go (Some r) e =
        rw (known_row k s sound id r e, floor_row k s sound id r e) (associative (live_version k s.arena r) (of_word r.floor) (of_word r.floor) ∙ rw (idempotent (of_word r.floor)))
    go None e = rw (known_none k s sound id e, floor_none k s sound id e) (higher_left (of_word (2 ^ 32)) ∙ word_absent (2 ^ 32) (omega arith))

-- a claim that is admitted is above the known version and above its floor
raised_claim : (v f : Option ℤ) (x : ℤ) → admit_of v (Some x) ≡ (Ok tt) → higher v f ≡ v → higher (Some x) f ≡ higher v (Some x)
raised_claim v f x a e = cc (admitted_highest v x a, associative v (Some x) f, commutative (Some x) f, associative v f (Some x))

-- a push of a record, and what is known of its id after it
module _ (k : Kind) (setting : ℕ) (s : KindStore) (id : ℤ) (h : Head) (m : Meta ℕ) (parts : Bytes) (well_formed : WellFormed k s) (fits : fits_meta m ≡ true)
    (taken : (pushed k setting s id (claim_of m) (head_bytes k h ++ meta_bytes m ++ parts)).answer ≡ (Ok tt)) where
  live : is_live s.used ≡ true
  unfolding is_live
  live = lt-ltb s.used (2 ^ 63) (omega (arith, push_fits k setting s id (claim_of m) (head_bytes k h ++ meta_bytes m ++ parts) taken, well_formed.short))

  -- in both settings: the larger of its claim and of the floor that it leaves
  pub push_known : known_version k (pushed k setting s id (claim_of m) (head_bytes k h ++ meta_bytes m ++ parts)).kind_store id
      ≡ higher (claim_of m) (of_word (floor_after setting (known_version k s id) (claim_of m) (floor_of s id)))
  unfolding known_of live_version
  push_known =
      let bytes = head_bytes k h ++ meta_bytes m ++ parts in
      own_known k s (pushed k setting s id (claim_of m) bytes).kind_store id s.used (floor_after setting (known_version k s id) (claim_of m) (floor_of s id)) well_formed
      (push_laid k setting s id (claim_of m) well_formed.sound bytes taken)
      ∙ rw (live, push_arena k setting s id (claim_of m) bytes taken, version_joined k h m parts s.arena s.used fits (push_fits k setting s id (claim_of m) bytes taken))

  -- while regression is refused: the larger of the known version and its own, or the one that exists
  pub push_raises : setting ≡ 0 → known_version k (pushed k setting s id (claim_of m) (head_bytes k h ++ meta_bytes m ++ parts)).kind_store id ≡ higher (known_version k s id) (claim_of m)
  push_raises z = push_known ∙ go (claim_of m) (push_admitted k setting s id (claim_of m) (head_bytes k h ++ meta_bytes m ++ parts) taken)
    where
      go : (c : Option ℤ) → checked setting (known_version k s id) c ≡ (Ok tt) → higher c (of_word (floor_after setting (known_version k s id) c (floor_of s id))) ≡ higher (known_version k s id) c
      go None e = rw (z, higher_left, higher_right) (word_version (known_version k s id) (known_narrow k s id well_formed))
      go (Some x) e = raised_claim (known_version k s id) (of_word (floor_of s id)) x (rw (z, check_refused) at e) (floor_under k s id well_formed.sound)

-- ---- a kind store without ids is fair

pub well_formed_empty : (k : Kind) (table : List ℕ) (arena : Bytes) → all is_byte arena ≡ true → length arena < 2 ^ 63 → WellFormed k (kind_store_with table 0 arena 0)
unfolding rows_of rows_from rising find
well_formed_empty k table arena b l = record { bytes = b; short = l; sound = sound_of table 0 (omega arith) refl; offsets = λ n r e h. no (cc) }
