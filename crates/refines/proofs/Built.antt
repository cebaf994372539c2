-- sorted.rs, `KindTable::build`: of a kind that is the same it is our rows, in order.
use Rattle.std.proofs.lemmas.Option.{none-some}
use Rattle.std.specs.Prelude.{None, Option, Some, option_map}
use Rattle.std.proofs.Common.{◌≡◌, ℕ, ◌^◌, ◌≤◌, Bool, true, cond, not, eqb, ltb, List, [], ◌∷◌, map, take, ℤ, sym, refl, ap, ◌∙◌, arith, w64, SFits, ltb-true, le-ltb, lt-ltb, eq-eqb, ne_eqb}
use mathlib.Core.List.{map-map}
use mir.Facts.{Fits-of_lt}
use borrow.Author.Tests.{not-true}
use Rattle.base.specs.Bytes.{all}
use Rattle.base.proofs.Split.{by_bool, by_lt, by_eq, clash, both_left, both_right}
use Rattle.base.proofs.Lists.{all_cons, all_head, all_tail}
use Rattle.osm_id.specs.Order.{before, rank, id_of}
use Rattle.osm_id.proofs.Orders.{id_rank, rank_before, rank_injective, rank_fits, rank_id, id_fits}
use Rattle.compact.specs.Fits.{fits_signed}
use Rattle.kind_table.specs.declared.Row.{Row}
use Rattle.kind_table.specs.Rows.{rising_from, rising, find, put}
use Rattle.kind_table.proofs.Maps.{find_same, find_other, find_rank, find_passes, put_nil, put_before, put_behind, find_put, rising_put, rising_same}
use Rattle.kind_store.specs.KindStore.{KindStore, is_live}
use Rattle.kind_store.specs.WellFormed.{rows_in}
use Rattle.kind_reading.specs.declared.Side.{Side}
use Rattle.kind_reading.specs.declared.Side.TheVariants.{Live, Deleted}
use Rattle.kind_reading.specs.Listed.{rows_on}
use Rattle.kind_reading.proofs.Lists.{on_rising, if_on, find_on}
use Rattle.listing.specs.Table.{is_rank}
use Rattle.calls.proofs.Tells.{signed_fits}
use Rattle.published.specs.Std.{is_lt, Entry, HashMap, get, HashSet, contains}
use Rattle.published.specs.OsmId.{osm_id_cmp}
use Rattle.published.specs.Parse.{KindFields, is_some}
use Rattle.published.specs.Sorted.{put_sorted, sort_by_id, build, kind_sorted}
use Rattle.refines.specs.OneKind.{offset_in, deleted_in, keyed, once, SameFields}
use Rattle.refines.proofs.Lookups.{lt_id}
use Rattle.refines.proofs.Maps.{eq_self, eq_no, by_id}

-- ---- osm_id_cmp(a, b).is_lt()

-- ---- sort_unstable_by(|a, b| osm_id_cmp(a.0, b.0)), of elements as rows of a table

module _ {A : Type 0} (id : A → ℤ) (row : A → Row) (ranked : (x : A) → (row x).rank ≡ rank (id x)) where
  abbrev fits : A → Bool
  fits x = fits_signed w64 (id x)

  -- ids of 64 bits, each once
  abbrev Distinct : List A → Type 0
  Distinct [] = Unit {0}
  Distinct (x ∷ xs) = (fits x ≡ true) × (find (row x).rank (map row xs) ≡ None) × Distinct xs

  put_fits : (x : A) (ys : List A) → fits x ≡ true → all fits ys ≡ true → all fits (put_sorted id x ys) ≡ true
  unfolding put_sorted
  put_fits x [] f h = all_cons fits x [] f h
  put_fits x (y ∷ ys) f h =
      by_bool (is_lt (osm_id_cmp (id x) (id y)))
      (λ t. rw t (all_cons fits x (y ∷ ys) f h))
      (λ t. rw t (all_cons fits y (put_sorted id x ys) (all_head fits y ys h) (put_fits x ys f (all_tail fits y ys h))))

  -- an element put in order is its row put in the table
  put_rows : (x : A) (ys : List A) → fits x ≡ true → all fits ys ≡ true → find (row x).rank (map row ys) ≡ None → map row (put_sorted id x ys) ≡ put (row x) (map row ys)
  unfolding put_sorted
  put_rows x [] f h n = sym (put_nil (row x))
  put_rows x (y ∷ ys) f h n =
      let u : before (id x) (id y) ≡ ltb (row x).rank (row y).rank =
      sym (rank_before (signed_fits (id x) f) (signed_fits (id y) (all_head fits y ys h))) ∙ rw (ranked x, ranked y) in
      by_eq (row x).rank (row y).rank
      (λ e. absurd (none-some (row y) (sym n ∙ rw e (find_same (row y) (map row ys)))))
      (λ d. by_lt (row x).rank (row y).rank
      (λ l. rw (lt_id (id x) (id y), u, lt-ltb _ _ l) (sym (put_before (row x) (row y) (map row ys) l)))
      (λ l. rw (lt_id (id x) (id y), u, le-ltb _ _ l)
      (ap (λ (q : List Row). row y ∷ q) (put_rows x ys f (all_tail fits y ys h) (sym (find_other (row x).rank (row y) (map row ys) d) ∙ n))
      ∙ sym (put_behind (row x) (row y) (map row ys) (omega (arith, d))))))

  -- sorted, they are rows that rise and find the same
  sort_rows : (xs : List A) → Distinct xs
      → (all fits (sort_by_id id xs) ≡ true) × (rising (map row (sort_by_id id xs)) ≡ true) × ((k : ℕ) → find k (map row (sort_by_id id xs)) ≡ find k (map row xs))
  unfolding sort_by_id all rising find
  sort_rows [] d = (refl, refl, λ k. refl)
  sort_rows (x ∷ xs) d =
      let s = sort_rows xs d.2 in
      let e = put_rows x (sort_by_id id xs) d.0 s.0 (s.2 (row x).rank ∙ d.1) in (
        put_fits x (sort_by_id id xs) d.0 s.0,
        rw e (rising_put (row x) (map row (sort_by_id id xs)) s.1),
        λ k. ap (find k) e ∙ find_put k (row x) (map row (sort_by_id id xs)) ∙ ap (cond (eqb k (row x).rank) (Some (row x))) (s.2 k),
      )

  distinct_fits : (xs : List A) → Distinct xs → all fits xs ≡ true
  unfolding all
  distinct_fits [] d = refl
  distinct_fits (x ∷ xs) d = all_cons fits x xs d.0 (distinct_fits xs d.2)

  past : (j : ℕ) → 2 ^ 64 ≤ j → (xs : List A) → all fits xs ≡ true → find j (map row xs) ≡ None
  unfolding find
  past j l [] h = refl
  past j l (x ∷ xs) h =
      let f = rank_fits (signed_fits (id x) (all_head fits x xs h)) in
      find_other j (row x) (map row xs) (λ e. omega (arith, ranked x)) ∙ past j l xs (all_tail fits x xs h)

  ids_back : (xs : List A) → all fits xs ≡ true → map (λ (q : Row). id_of q.rank) (map row xs) ≡ map id xs
  ids_back [] h = refl
  ids_back (x ∷ xs) h =
      let e : id_of (row x).rank ≡ id x = ap id_of (ranked x) ∙ id_rank (signed_fits (id x) (all_head fits x xs h)) in
      cc (e, ids_back xs (all_tail fits x xs h))

  -- rows that rise, of ranks of 64 bits, and that each id finds as it finds the elements, are the elements sorted
  module _ (xs : List A) (d : Distinct xs) (rs : List Row) (rises : rising rs ≡ true)
      (found : (k : ℤ) → SFits w64 k → find (rank k) (map row xs) ≡ find (rank k) rs) (none_past : (j : ℕ) → 2 ^ 64 ≤ j → find j rs ≡ None) where
    sorted_rows : map row (sort_by_id id xs) ≡ rs
    sorted_rows =
        let s = sort_rows xs d in
        rising_same (map row (sort_by_id id xs)) rs s.1 rises
        (λ j. s.2 j ∙ by_lt j (2 ^ 64)
        (λ l. let f = Fits-of_lt {w = w64} l in rw (rank_id f) at (found (id_of j) (id_fits f)))
        (λ l. past j l xs (distinct_fits xs d) ∙ sym (none_past j l)))

    sorted_ids : map id (sort_by_id id xs) ≡ map (λ (q : Row). id_of q.rank) rs
    sorted_ids = sym (ids_back (sort_by_id id xs) (sort_rows xs d).0) ∙ ap (map (λ (q : Row). id_of q.rank)) sorted_rows

-- ---- FxHashMap<i64, usize>: an entry as a row

abbrev key_of : Entry ℕ → ℤ
key_of e = e.key

abbrev entry_row : Entry ℕ → Row
entry_row e = record { rank = rank e.key; offset = e.value; floor = 0 }

entry_found : (m : HashMap ℕ) → all (fits key_of entry_row (λ e. refl)) m ≡ true → (k : ℤ) → SFits w64 k
    → find (rank k) (map entry_row m) ≡ option_map (λ v. record { rank = rank k; offset = v; floor = 0 }) (get m k)
unfolding find get
entry_found [] h k f = refl
entry_found (e ∷ m) h k f =
    by_id e.key k
    (λ q. rw (q, eq-eqb (rank k) (rank k) refl, eq_self k))
    (λ n. rw (ne_eqb (rank k) (rank e.key) (λ q. n (rank_injective (signed_fits e.key (all_head _ e m h)) f (sym q))), eq_no e.key k n)
    (entry_found m (all_tail _ e m h) k f))

is_none : {B : Type 0} (x : Option B) → not (is_some x) ≡ true → x ≡ None
is_none None h = refl
is_none (Some b) h = clash h refl

keyed_distinct : (m : HashMap ℕ) → keyed m ≡ true → Distinct key_of entry_row (λ e. refl) m
unfolding keyed
keyed_distinct [] h = tt
keyed_distinct (e ∷ m) h =
    let f = both_left _ _ h in
    let rest = both_right _ _ h in
    let d = keyed_distinct m (both_right _ _ rest) in
    (f, entry_found m (distinct_fits key_of entry_row (λ x. refl) m d) e.key (signed_fits e.key f) ∙ rw (is_none (get m e.key) (both_left _ _ rest)), d)

-- ---- HashSet<i64>: an id as a row

abbrev id_row : ℤ → Row
id_row k = record { rank = rank k; offset = 0; floor = 0 }

abbrev self : ℤ → ℤ
self k = k

map_self : (s : HashSet) → map self s ≡ s
map_self [] = refl
map_self (x ∷ s) = ap (λ (q : HashSet). x ∷ q) (map_self s)

id_found : (s : HashSet) → all (fits self id_row (λ x. refl)) s ≡ true → (k : ℤ) → SFits w64 k → find (rank k) (map id_row s) ≡ cond (contains s k) (Some (id_row k)) None
unfolding find contains
id_found [] h k f = refl
id_found (x ∷ s) h k f =
    by_id x k
    (λ q. rw (q, eq-eqb (rank k) (rank k) refl, eq_self k))
    (λ n. rw (ne_eqb (rank k) (rank x) (λ q. n (rank_injective (signed_fits x (all_head _ x s h)) f (sym q))), eq_no x k n) (id_found s (all_tail _ x s h) k f))

once_distinct : (s : HashSet) → once s ≡ true → Distinct self id_row (λ x. refl) s
unfolding once
once_distinct [] h = tt
once_distinct (x ∷ s) h =
    let f = both_left _ _ h in
    let rest = both_right _ _ h in
    let d = once_distinct s (both_right _ _ rest) in
    (f, id_found s (distinct_fits self id_row (λ y. refl) s d) x (signed_fits x f) ∙ rw (not-true (contains s x) (both_left _ _ rest)), d)

-- ---- our rows, of which the other side knows less

module _ (f : Row → Row) (keeps : (q : Row) → (f q).rank ≡ q.rank) where
  find_map : (j : ℕ) (rs : List Row) → find j (map f rs) ≡ option_map f (find j rs)
  unfolding find
  find_map j [] = refl
  find_map j (q ∷ rs) =
      let k : eqb j (f q).rank ≡ eqb j q.rank = ap (eqb j) (keeps q) in
      by_bool (eqb j q.rank) (λ t. rw (k ∙ t, t)) (λ t. rw (k ∙ t, t) (find_map j rs))

  from_map : (j : ℕ) (rs : List Row) → rising_from j (map f rs) ≡ rising_from j rs
  unfolding rising_from
  from_map j [] = refl
  from_map j (q ∷ rs) = rw (keeps q, from_map q.rank rs)

  rising_map : (rs : List Row) → rising (map f rs) ≡ rising rs
  unfolding rising
  rising_map [] = refl
  rising_map (q ∷ rs) = rw (keeps q) (from_map q.rank rs)

-- the rank and the offset; the rank alone
abbrev placed : Row → Row
placed q = record { rank = q.rank; offset = q.offset; floor = 0 }

abbrev named : Row → Row
named q = record { rank = q.rank; offset = 0; floor = 0 }

module _ (s : KindStore) (r : KindFields) (same : SameFields s r) (rises : rising (rows_in s) ≡ true) (ranks : all is_rank (rows_in s) ≡ true) where
  rows_past : (j : ℕ) → 2 ^ 64 ≤ j → find j (rows_in s) ≡ None
  unfolding is_rank
  rows_past j l = go (find j (rows_in s)) refl
    where
      go : (x : Option Row) → find j (rows_in s) ≡ x → find j (rows_in s) ≡ None
      go None e = e
      go (Some q) e =
          let u = ltb-true q.rank 18446744073709551616 (find_passes is_rank j (rows_in s) q ranks e) in
          absurd (omega (arith, find_rank j (rows_in s) q e))

  module _ (f : Row → Row) (keeps : (q : Row) → (f q).rank ≡ q.rank) (side : Side) where
    found_on : (j : ℕ) → find j (map f (rows_on side (rows_in s))) ≡ option_map f (if_on side (find j (rows_in s)))
    found_on j = find_map f keeps j (rows_on side (rows_in s)) ∙ ap (option_map f) (find_on side j (rows_in s) rises)

    none_past : (j : ℕ) → 2 ^ 64 ≤ j → find j (map f (rows_on side (rows_in s))) ≡ None
    none_past j l = found_on j ∙ rw (rows_past j l)

    list_rises : rising (map f (rows_on side (rows_in s))) ≡ true
    list_rises = rising_map f keeps (rows_on side (rows_in s)) ∙ on_rising side (rows_in s) rises

  live_found : (k : ℤ) → SFits w64 k → find (rank k) (map entry_row r.index) ≡ find (rank k) (map placed (rows_on Live (rows_in s)))
  live_found k f =
      entry_found r.index (distinct_fits key_of entry_row (λ e. refl) r.index (keyed_distinct r.index same.index_keyed)) k f
      ∙ rw (same.offsets k f) (go (find (rank k) (rows_in s)) refl ∙ sym (found_on placed (λ q. refl) Live (rank k)))
    where
      go : (x : Option Row) → find (rank k) (rows_in s) ≡ x → option_map (λ v. record { rank = rank k; offset = v; floor = 0 }) (offset_in x) ≡ option_map placed (if_on Live (find (rank k) (rows_in s)))
      go None e = rw e
      go (Some q) e = rw e (by_bool (is_live q.offset) (λ t. rw (t, find_rank (rank k) (rows_in s) q e)) (λ t. rw t))

  deleted_found : (k : ℤ) → SFits w64 k → find (rank k) (map id_row r.deleted) ≡ find (rank k) (map named (rows_on Deleted (rows_in s)))
  deleted_found k f =
      id_found r.deleted (distinct_fits self id_row (λ e. refl) r.deleted (once_distinct r.deleted same.deleted_once)) k f
      ∙ rw (same.deleted k f) (go (find (rank k) (rows_in s)) refl ∙ sym (found_on named (λ q. refl) Deleted (rank k)))
    where
      go : (x : Option Row) → find (rank k) (rows_in s) ≡ x → cond (deleted_in x) (Some (id_row k)) None ≡ option_map named (if_on Deleted (find (rank k) (rows_in s)))
      go None e = rw e
      go (Some q) e = rw e (by_bool (is_live q.offset) (λ t. rw t) (λ t. rw (t, find_rank (rank k) (rows_in s) q e)))

  pub built_ids : (kind_sorted r).ids ≡ map (λ (q : Row). id_of q.rank) (rows_on Live (rows_in s))
  unfolding build
  built_ids =
      sorted_ids key_of entry_row (λ e. refl) r.index (keyed_distinct r.index same.index_keyed) (map placed (rows_on Live (rows_in s)))
      (list_rises placed (λ q. refl) Live) live_found (none_past placed (λ q. refl) Live)
      ∙ map-map (λ (q : Row). id_of q.rank) placed (rows_on Live (rows_in s))

  pub built_offsets : (kind_sorted r).offsets ≡ map (λ (q : Row). q.offset) (rows_on Live (rows_in s))
  unfolding build
  built_offsets =
      sym (map-map (λ (q : Row). q.offset) entry_row (sort_by_id key_of r.index))
      ∙ ap (map (λ (q : Row). q.offset)) (sorted_rows key_of entry_row (λ e. refl) r.index (keyed_distinct r.index same.index_keyed) (map placed (rows_on Live (rows_in s)))
      (list_rises placed (λ q. refl) Live) live_found (none_past placed (λ q. refl) Live))
      ∙ map-map (λ (q : Row). q.offset) placed (rows_on Live (rows_in s))

  pub built_deleted : (kind_sorted r).deleted ≡ map (λ (q : Row). id_of q.rank) (rows_on Deleted (rows_in s))
  unfolding build
  built_deleted =
      sym (map_self (sort_by_id self r.deleted))
      ∙ sorted_ids self id_row (λ e. refl) r.deleted (once_distinct r.deleted same.deleted_once) (map named (rows_on Deleted (rows_in s)))
      (list_rises named (λ q. refl) Deleted) deleted_found (none_past named (λ q. refl) Deleted)
      ∙ map-map (λ (q : Row). id_of q.rank) named (rows_on Deleted (rows_in s))

  pub built_arena : (kind_sorted r).arena ≡ take s.used s.arena
  unfolding build
  built_arena = same.arena
