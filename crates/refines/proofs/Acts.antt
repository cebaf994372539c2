-- parse.rs, one kind: the stored version, a push and a delete.
use Rattle.std.specs.Prelude.{None, Option, Some, Result, Ok, Err}
use Rattle.base.specs.Options.{bind}
use Rattle.std.proofs.Common.{◌≡◌, ℕ, zero, suc, ◌+◌, ◌/◌, ◌%◌, ◌^◌, ◌<◌, ◌≤◌, true, false, cond, not, eqb, [], ◌∷◌, length, get_or, take, drop, ℤ, sym, refl, ap, ◌∙◌, arith, length-take-le, take-take, w64, SFits, lt-ltb, le-leb}
use Rattle.base.specs.Bytes.{Bytes}
use Rattle.base.proofs.Split.{by_bool, by_eq, no}
use Rattle.little.specs.Little.{value, value_at, over}
use Rattle.little.proofs.Overs.{length_over}
use Rattle.kind.specs.declared.Kind.{Kind}
use Rattle.kind.specs.declared.Kind.TheVariants.{Node, Way, Relation}
use Rattle.osm_id.specs.Order.{rank}
use Rattle.osm_id.proofs.Orders.{rank_injective}
use Rattle.version_floor.specs.Version.{higher, word_of, of_word}
use Rattle.version_floor.proofs.Versions.{higher_left, higher_right, commutative, associative, word_version, word_absent, admit_missing}
use Rattle.model.specs.Record.{flagged, claim_of}
use Rattle.compact.specs.Layout.{head_len}
use Rattle.compact.specs.Held.{meta_of}
use Rattle.compact.specs.View.{meta_at}
use Rattle.compact_append.proofs.Joins as Joins
use Rattle.compact_append.proofs.Writes.{fits_is}
use Rattle.kind_table.specs.declared.Row.{Row}
use Rattle.kind_table.proofs.Maps.{find_put_same, find_put_other}
use Rattle.kind_store.specs.KindStore.{KindStore, is_live, gone, version_at, live_version, known_of, known_version, floor_of, floor_after, checked, pushed, deleted}
use Rattle.kind_store.specs.WellFormed.{rows_in, WellFormed}
use Rattle.kind_store.proofs.Claims.{Narrow, narrow_higher, version_same}
use Rattle.kind_store.proofs.KindStores.{Laid, known_row, known_none, floor_row, floor_none, floor_under, known_narrow, push_laid, push_used, push_arena, push_fits, delete_laid, delete_arena, delete_used}
use Rattle.published.specs.Std.{from_le, index, slice, max_z, HashMap, get, contains}
use Rattle.published.specs.Compact as C
use Rattle.published.specs.Parse as P
use Rattle.published.specs.Parse.{KindFields}
use Rattle.refines.specs.Same.{version, admission}
use Rattle.refines.specs.OneKind.{allowed, row_of, floor_in, keyed, once, SameFields}
use Rattle.refines.specs.Overlays.{meta_off}
use Rattle.refines.proofs.Versions.{same_admit, same_max}
use Rattle.refines.proofs.Keyed.{keyed_remove, keyed_insert, once_remove, once_insert}
use Rattle.refines.proofs.Maps.{by_id, get_removed, get_kept, get_own, get_other, contains_removed, contains_kept, contains_own, contains_other}

-- ---- the version that a record claims

pub from_value : (bs : Bytes) → from_le bs ≡ value bs
unfolding from_le value
from_value [] = refl
from_value (b ∷ bs) = rw (from_value bs)

one_byte : (s : Bytes) (i : ℕ) → value (take 1 (drop i s)) ≡ get_or s i 0
unfolding value
one_byte [] zero = refl
one_byte [] (suc i) = refl
one_byte (b ∷ s) zero = omega arith
one_byte (b ∷ s) (suc i) = one_byte s i

pub clear_flag : (flags bit : ℕ) → C.clear flags bit ≡ not (flagged bit flags)
unfolding C.clear flagged
clear_flag flags bit =
    by_eq (flags / bit % 2) 1
    (λ e. rw e)
    (λ n. let z : flags / bit % 2 ≡ 0 = omega arith in rw z)

off_head : (k : Kind) → meta_off k ≡ head_len k
off_head Node = refl
off_head Way = refl
off_head Relation = refl

-- the bytes of an offset inside are there
index_in : (s : Bytes) (i : ℕ) → i < length s → index s i ≡ Some (get_or s i 0)
index_in [] i h = absurd (omega arith)
index_in (b ∷ s) zero h = refl
index_in (b ∷ s) (suc i) h = index_in s i (omega arith)

slice_in : (s : Bytes) (i n : ℕ) → i + n ≤ length s → slice s i n ≡ Some (take n (drop i s))
unfolding slice
slice_in s i n h = rw (le-leb _ _ h)

plain_version : (k : Kind) (s : Bytes) (offset : ℕ) → offset + (head_len k + 29) ≤ length s → version (C.version_at s offset (meta_off k)) ≡ version_at k s offset
unfolding C.version_at bind version_at claim_of meta_of meta_at value_at
plain_version k s offset h =
    rw (off_head k, index_in s (offset + head_len k) (omega arith), slice_in s (offset + head_len k + 1) 4 (omega arith), from_value, ← one_byte s (offset + head_len k), clear_flag)
    (by_bool (flagged 8 (value (take 1 (drop (offset + head_len k) s)))) (λ t. rw t) (λ t. rw t))

version_used : (k : Kind) (arena : Bytes) (used offset : ℕ) → used ≤ length arena → offset + (head_len k + 29) ≤ used → version (C.version_at (take used arena) offset (meta_off k)) ≡ version_at k arena offset
version_used k arena used offset u h =
    plain_version k (take used arena) offset (omega (arith, h, length-take-le used arena u)) ∙ version_same k (take used arena) arena used offset h (take-take used used arena (omega arith))

same_max_or : (a b : Option ℤ) → version (P.max_or a b) ≡ higher (version a) (version b)
unfolding P.max_or
same_max_or None b = sym (higher_left (version b))
same_max_or (Some a) None = sym (higher_right (Some a))
same_max_or (Some a) (Some b) = same_max a b

-- ---- the stored version is the known version

module _ (k : Kind) (s : KindStore) (r : KindFields) (well : WellFormed k s) (same : SameFields s r) (id : ℤ) (fits : SFits w64 id) where
  pub same_stored : version (P.stored_version (meta_off k) r id) ≡ known_version k s id
  unfolding P.stored_version known_of live_version
  same_stored =
      same_max_or (P.live_version (meta_off k) r.arena (get r.index id)) (get r.floors id) ∙ go (row_of s id) refl
    where
      go : (o : Option Row) → row_of s id ≡ o → higher (version (P.live_version (meta_off k) r.arena (get r.index id))) (version (get r.floors id)) ≡ known_version k s id
      go None e = rw (same.offsets id fits, same.floors id fits, e, known_none k s well.sound id e) (higher_left None)
      go (Some row) e =
          by_bool (is_live row.offset)
          (λ t. rw (same.offsets id fits, same.floors id fits, e, known_row k s well.sound id row e, t, same.arena, version_used k s.arena s.used row.offset same.within (well.offsets (rank id) row e t)))
          (λ t. rw (same.offsets id fits, same.floors id fits, e, known_row k s well.sound id row e, t))

  same_floor : of_word (floor_of s id) ≡ floor_in (row_of s id)
  same_floor = go (row_of s id) refl
    where
      go : (o : Option Row) → row_of s id ≡ o → of_word (floor_of s id) ≡ floor_in (row_of s id)
      go None e = rw (e, floor_none k s well.sound id e) (word_absent (2 ^ 32) (omega arith))
      go (Some row) e = rw (e, floor_row k s well.sound id row e)

  -- the offset of a live record's metadata lies inside the arena: `version_at` does not panic
  pub version_inside : (at : ℕ) → get r.index id ≡ Some at → at + (meta_off k + 29) ≤ length r.arena
  version_inside at e =
      let l = length-take-le s.used s.arena same.within in
      go (row_of s id) refl (rw same.arena l)
    where
      go : (o : Option Row) → row_of s id ≡ o → length r.arena ≡ s.used → at + (meta_off k + 29) ≤ length r.arena
      go None q l = let z : None ≡ Some at = rw (same.offsets id fits, q) at e in no cc
      go (Some row) q l =
          by_bool (is_live row.offset)
          (λ t. let z : Some row.offset ≡ Some at = rw (same.offsets id fits, q, t) at e in
          let p : row.offset ≡ at = cc in
          omega (arith, well.offsets (rank id) row q t, off_head k, p, l))
          (λ t. let z : None ≡ Some at = rw (same.offsets id fits, q, t) at e in no cc)

-- ---- the check

is_err : (a : Result (Unit {0}) ℤ) (v : ℤ) → admission a ≡ Err v → a ≡ Err v
is_err (Ok u) v e = no cc
is_err (Err w) v e = let q : w ≡ v = cc in ap Err q

is_ok : (a : Result (Unit {0}) ℤ) → admission a ≡ (Ok tt) → a ≡ Ok tt
is_ok (Ok u) e = refl
is_ok (Err w) e = no cc

-- ---- floors raised

raised_other : (floors : HashMap ℤ) (id j : ℤ) (carried claim : Option ℤ) → (j ≡ id → ⊥) → get (P.raise_floor floors id carried claim) j ≡ get floors j
unfolding P.raise_floor
raised_other floors id j None None n = refl
raised_other floors id j None (Some b) n = get_other floors id j _ n
raised_other floors id j (Some a) None n = get_other floors id j _ n
raised_other floors id j (Some a) (Some b) n = get_other floors id j _ n

same_modified : (o : Option ℤ) (a : ℤ) → Some (P.modified o a) ≡ higher (version o) (Some a)
same_modified None a = sym (higher_left (Some a))
same_modified (Some v) a = same_max v a

-- where what is carried is not below the floor
raised_own : (floors : HashMap ℤ) (id : ℤ) (carried claim : Option ℤ) → higher (version carried) (version (get floors id)) ≡ version carried
    → version (get (P.raise_floor floors id carried claim) id) ≡ higher (version carried) (version claim)
unfolding P.raise_floor
raised_own floors id None None h = rw (higher_left None) (sym (higher_left _) ∙ h)
raised_own floors id None (Some b) h =
    let z : version (get floors id) ≡ None = sym (higher_left _) ∙ h in
    rw get_own (same_modified (get floors id) b ∙ rw z)
raised_own floors id (Some a) None h = rw (get_own, higher_right) (same_modified (get floors id) a ∙ commutative _ _ ∙ h)
raised_own floors id (Some a) (Some b) h =
    rw get_own (same_modified (get floors id) (max_z a b) ∙ rw same_max (sym (associative _ _ _) ∙ ap (λ z. higher z (Some b)) (commutative _ _ ∙ h)))

-- ---- the row of an id set on one side, its entries on the other

module _ (s t : KindStore) (r q : KindFields) (id : ℤ) (offset floor : ℕ) (fits : SFits w64 id) (laid : Laid s id offset floor t) (same : SameFields s r) where
  row_own : row_of t id ≡ Some (record { rank = rank id; offset = offset; floor = floor })
  row_own = rw laid.rows (find_put_same (record { rank = rank id; offset = offset; floor = floor }) (rows_in s))

  row_other : (j : ℤ) → SFits w64 j → (j ≡ id → ⊥) → row_of t j ≡ row_of s j
  row_other j f n = rw laid.rows (find_put_other (rank j) (record { rank = rank id; offset = offset; floor = floor }) (rows_in s) (λ e. n (rank_injective f fits e)))

  same_laid : q.arena ≡ take t.used t.arena → t.used ≤ length t.arena
      → get q.index id ≡ cond (is_live offset) (Some offset) None → ((j : ℤ) → (j ≡ id → ⊥) → get q.index j ≡ get r.index j)
      → contains q.deleted id ≡ cond (is_live offset) false true → ((j : ℤ) → (j ≡ id → ⊥) → contains q.deleted j ≡ contains r.deleted j)
      → version (get q.floors id) ≡ of_word floor → ((j : ℤ) → (j ≡ id → ⊥) → get q.floors j ≡ get r.floors j)
      → keyed q.index ≡ true → once q.deleted ≡ true → SameFields t q
  same_laid a l o os d ds f fs x y =
      record {
        arena = a;
        within = l;
        offsets = λ j g. by_id j id (λ e. rw (e, row_own) o) (λ n. rw (row_other j g n) (os j n ∙ same.offsets j g));
        deleted = λ j g. by_id j id (λ e. rw (e, row_own) d) (λ n. rw (row_other j g n) (ds j n ∙ same.deleted j g));
        floors = λ j g. by_id j id (λ e. rw (e, row_own) f) (λ n. rw (row_other j g n) (ap version (fs j n) ∙ same.floors j g));
        index_keyed = x;
        deleted_once = y;
      }

-- ---- a push and a delete

not_live : is_live gone ≡ false
unfolding is_live
not_live = refl

module _ (k : Kind) (setting : ℕ) (s : KindStore) (r : KindFields) (well : WellFormed k s) (same : SameFields s r) (id : ℤ) (fits : SFits w64 id) where
  -- the check answers the same
  check_below : (x v : ℤ) → checked setting (known_version k s id) (Some x) ≡ Err v → P.check_version_advance (allowed setting) (meta_off k) r id x ≡ Err v
  unfolding P.check_version_advance checked
  check_below x v e =
      by_bool (eqb setting 0)
      (λ t. rw t (is_err _ v (same_admit (P.stored_version (meta_off k) r id) (Some x) ∙ rw (same_stored k s r well same id fits) (rw t at e))))
      (λ t. no (cc (rw t at e)))

  check_taken : (x : ℤ) → checked setting (known_version k s id) (Some x) ≡ (Ok tt) → P.check_version_advance (allowed setting) (meta_off k) r id x ≡ Ok tt
  unfolding P.check_version_advance checked
  check_taken x e =
      by_bool (eqb setting 0)
      (λ t. rw t (is_ok _ (same_admit (P.stored_version (meta_off k) r id) (Some x) ∙ rw (same_stored k s r well same id fits) (rw t at e))))
      (λ t. rw t)

  -- no claim is refused
  unclaimed : (v : ℤ) → checked setting (known_version k s id) None ≡ Err v → ⊥
  unfolding checked
  unclaimed v e = by_bool (eqb setting 0) (λ t. no (cc (admit_missing (known_version k s id), rw t at e))) (λ t. no (cc (rw t at e)))

  carries : higher (version (P.stored_version (meta_off k) r id)) (version (get r.floors id)) ≡ version (P.stored_version (meta_off k) r id)
  carries = rw (same_stored k s r well same id fits, same.floors id fits, ← same_floor k s r well same id fits) (floor_under k s id well.sound)

  -- ---- push

  module _ (bytes : Bytes) where
    pub push_err : (c : Option ℤ) (v : ℤ) → checked setting (known_version k s id) (version c) ≡ Err v → P.push_with (allowed setting) (meta_off k) r id bytes c ≡ Err v
    push_err None v e = absurd (unclaimed v e)
    push_err (Some x) v e = rw (check_below x v e)

    -- the floors that a push leaves
    abbrev pub floors_left : Option ℤ → HashMap ℤ
    floors_left (Some x) = r.floors
    floors_left None = cond (allowed setting) r.floors (P.raise_floor r.floors id (P.stored_version (meta_off k) r id) None)

    pub push_ok : (c : Option ℤ) → checked setting (known_version k s id) (version c) ≡ (Ok tt) → P.push_with (allowed setting) (meta_off k) r id bytes c ≡ Ok (P.appended r (floors_left c) id bytes)
    push_ok None e = refl
    push_ok (Some x) e = rw (check_taken x e)

    floors_own : (c : Option ℤ) → version (get (floors_left c) id) ≡ of_word (floor_after setting (known_version k s id) (version c) (floor_of s id))
    floors_own (Some x) = same.floors id fits ∙ sym (same_floor k s r well same id fits)
    floors_own None =
        by_bool (eqb setting 0)
        (λ t. rw (t, word_version (known_version k s id) (known_narrow k s id well)) (raised_own r.floors id (P.stored_version (meta_off k) r id) None carries ∙ rw (same_stored k s r well same id fits) (higher_right _)))
        (λ t. rw t (same.floors id fits ∙ sym (same_floor k s r well same id fits)))

    floors_other : (c : Option ℤ) (j : ℤ) → (j ≡ id → ⊥) → get (floors_left c) j ≡ get r.floors j
    floors_other (Some x) j n = refl
    floors_other None j n = by_bool (eqb setting 0) (λ t. rw t (raised_other r.floors id j (P.stored_version (meta_off k) r id) None n)) (λ t. rw t)

    pub push_same : (c : Option ℤ) → (pushed k setting s id (version c) bytes).answer ≡ (Ok tt)
        → SameFields (pushed k setting s id (version c) bytes).kind_store (P.appended r (floors_left c) id bytes)
    unfolding is_live
    push_same c e =
        let t = (pushed k setting s id (version c) bytes).kind_store in
        let h = push_fits k setting s id (version c) bytes e in
        let u : t.used ≡ s.used + length bytes = push_used k setting s id (version c) bytes e in
        let a : t.arena ≡ over s.arena s.used bytes = push_arena k setting s id (version c) bytes e in
        let n : length r.arena ≡ s.used = rw same.arena (length-take-le s.used s.arena same.within) in
        let live : is_live s.used ≡ true = lt-ltb s.used (2 ^ 63) (omega (arith, h, well.short)) in
        let z : length t.arena ≡ length s.arena = rw a (length_over s.arena s.used bytes) in
        same_laid s t r (P.appended r (floors_left c) id bytes) id s.used (floor_after setting (known_version k s id) (version c) (floor_of s id)) fits
        (push_laid k setting s id (version c) well.sound bytes e) same
        (rw (u, a, same.arena) (sym (Joins.appended s.arena s.used bytes (over s.arena s.used bytes) (s.used + length bytes) (fits_is s.arena s.used bytes h)).used_bytes))
        (omega (arith, u, z, h))
        (rw live (get_own r.index id (length r.arena) ∙ ap Some n)) (λ j m. get_other r.index id j _ m)
        (rw live (contains_removed r.deleted id)) (λ j m. contains_kept r.deleted id j m)
        (floors_own c) (floors_other c)
        (keyed_insert r.index id (length r.arena) fits same.index_keyed) (once_remove r.deleted id same.deleted_once)

  -- ---- delete

  pub delete_err : (c : Option ℤ) (v : ℤ) → checked setting (known_version k s id) (version c) ≡ Err v → P.delete_with (allowed setting) (meta_off k) r id c ≡ Err v
  delete_err None v e = absurd (unclaimed v e)
  delete_err (Some x) v e = rw (check_below x v e)

  pub delete_ok : (c : Option ℤ) → checked setting (known_version k s id) (version c) ≡ (Ok tt) → P.delete_with (allowed setting) (meta_off k) r id c ≡ Ok (P.marked_deleted (meta_off k) r id c)
  delete_ok None e = refl
  delete_ok (Some x) e = rw (check_taken x e)

  pub delete_same : (c : Option ℤ) → Narrow (version c) → (deleted k setting s id (version c)).answer ≡ (Ok tt)
      → SameFields (deleted k setting s id (version c)).kind_store (P.marked_deleted (meta_off k) r id c)
  delete_same c narrow e =
      let t = (deleted k setting s id (version c)).kind_store in
      let u : t.used ≡ s.used = delete_used k setting s id (version c) well e in
      let a : t.arena ≡ s.arena = delete_arena k setting s id (version c) well e in
      same_laid s t r (P.marked_deleted (meta_off k) r id c) id gone (word_of (higher (known_version k s id) (version c))) fits
      (delete_laid k setting s id (version c) well.sound e) same
      (rw (u, a) same.arena) (rw (u, a) same.within)
      (rw not_live (get_removed r.index id)) (λ j m. get_kept r.index id j m)
      (rw not_live (contains_own r.deleted id)) (λ j m. contains_other r.deleted id j m)
      (rw (word_version _ (narrow_higher (known_version k s id) (version c) (known_narrow k s id well) narrow))
      (raised_own r.floors id (P.stored_version (meta_off k) r id) c carries ∙ rw (same_stored k s r well same id fits)))
      (λ j m. raised_other r.floors id j (P.stored_version (meta_off k) r id) c m)
      (keyed_remove r.index id same.index_keyed) (once_insert r.deleted id fits same.deleted_once)
