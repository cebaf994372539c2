-- The overlay's table is sorted, and each key finds in it what the overlay knows of the key. So it is the summary of the acts that the overlay stands for.
use Rattle.std.specs.Prelude.{None, Option, Some, option_map}
use Prim.Native.Nat.{ℕ, zero, suc, ◌*◌, ◌^◌, ◌<◌, ◌≤◌}
use mathlib.Core.Path.{◌≡◌, refl, sym, ◌∙◌, ap, subst}
use mathlib.Core.Bool.{Bool, true, false}
use mathlib.Core.List.{List, [], ◌∷◌, ◌++◌, map}
use native.Mathlib.Omega.{arith}
use lib.Dec.{ltb, eqb}
use lib.IntN.{ℤ}
use lib.ListN.{get_or}
use mir.Syntax.{w64}
use mir.Val.{SFits}
use mir.Facts.{Fits-of_lt}
use borrow.Author.Tests.{lt-ltb, ltb-true}
use Rattle.base.specs.Bytes.{Bytes, all}
use Rattle.base.proofs.Split.{by_bool, by_eq, both_left, both_right, clash, no}
use Rattle.base.proofs.Lists.{all_nil, all_cons, all_head, all_tail}
use Rattle.kind.specs.Kind.{kind_number}
use Rattle.kind.specs.declared.Kind.{Kind}
use Rattle.kind.specs.declared.Kind.TheVariants.{Node, Way, Relation}
use Rattle.osm_id.specs.Order.{rank, id_of}
use Rattle.osm_id.proofs.Orders.{id_rank, rank_before, rank_fits, rank_id, id_fits}
use Rattle.interner.specs.Texts.{text_of}
use Rattle.interner.specs.Strings.{Store}
use Rattle.interner.specs.Sound.{texts_of}
use Rattle.model.specs.Act.{Act, Key, same_key, key_before}
use Rattle.model.proofs.Keys.{ids_order, kinds_order}
use Rattle.compact.specs.Fits.{fits_signed}
use Rattle.kind_table.specs.declared.Row as table
use Rattle.kind_table.specs.Rows.{rising_from, rising}
use Rattle.kind_table.specs.Rows as Rows
use Rattle.kind_table.specs.Words.{row_at, rows_from, rows_of}
use Rattle.kind_table.proofs.Maps as Maps
use Rattle.kind_table.proofs.Tables.{sound_rises}
use Rattle.kind_store.specs.KindStore.{KindStore, is_live, known_version}
use Rattle.kind_store.specs.WellFormed.{rows_in}
use Rattle.kind_sound.specs.Sound.{sound_row}
use Rattle.overlay.specs.Overlay.{Overlay, kind_store_of, with_kind_store, with_texts, empty}
use Rattle.overlay.specs.Sound.{Sound}
use Rattle.overlay.proofs.KindStores.{each_kind_store, texts_kind_store}
use Rattle.listing_page.specs.Summary as Summary
use Rattle.listing_page.specs.Summary.{PageRow, Table, find_key, summary}
use Rattle.listing_page.proofs.Tables.{Every, Above, Sorted, find_nil, find_here, find_later, same_table, summary_sorted, row_in, find_summary}
use Rattle.listing.specs.Known.{last_in, known_in}
use Rattle.listing.specs.Table.{left_at, row_of, kind_table, table_of, is_rank, Ranked}
use Rattle.listing.proofs.Rows.{row_starts, record_read}

rank_below : (r : table.Row) → is_rank r ≡ true → r.rank < 2 ^ 64
unfolding is_rank
rank_below r h = ltb-true _ _ h

-- ---- a sorted table

every_append : (P : PageRow → Type 0) (xs ys : Table) → Every P xs → Every P ys → Every P (xs ++ ys)
unfolding Every
every_append P [] ys h g = g
every_append P (x ∷ xs) ys h g = (h.0, every_append P xs ys h.1 g)

-- two tables, each key of the first before each of the second
sorted_append : (xs ys : Table) → Sorted xs → Sorted ys → Every (λ x. Above x.key ys) xs → Sorted (xs ++ ys)
unfolding Sorted Every
sorted_append [] ys h g a = g
sorted_append (x ∷ xs) ys h g a = (every_append (λ r. key_before x.key r.key ≡ true) xs ys h.0 a.0, sorted_append xs ys h.1 g a.1)

module _ (k : Kind) (s : KindStore) (f : ℕ → Bytes) where
  abbrev rowed : List table.Row → Table
  rowed = map (row_of k s f)

  ranks_order : (a b : ℕ) → a < 2 ^ 64 → b < 2 ^ 64 → a < b → key_before (record { kind = k; id = id_of a }) (record { kind = k; id = id_of b }) ≡ true
  ranks_order a b fa fb h =
      ids_order _ _ refl ∙ (sym (rank_before (id_fits (Fits-of_lt fa)) (id_fits (Fits-of_lt fb))) ∙ rw (rank_id (Fits-of_lt fa), rank_id (Fits-of_lt fb)) (lt-ltb a b h))

  above_rows : (n m : ℕ) (rs : List table.Row) → n < 2 ^ 64 → n ≤ m → all is_rank rs ≡ true → rising_from m rs ≡ true → Above (record { kind = k; id = id_of n }) (rowed rs)
  unfolding Every rising_from
  above_rows n m [] fn h a g = tt
  above_rows n m (r ∷ rs) fn h a g =
      let l = ltb-true m r.rank (both_left _ _ g) in
      (ranks_order n r.rank fn (rank_below r (all_head is_rank r rs a)) (omega arith), above_rows n r.rank rs fn (omega arith) (all_tail is_rank r rs a) (both_right _ _ g))

  sorted_rows : (rs : List table.Row) → all is_rank rs ≡ true → rising rs ≡ true → Sorted (rowed rs)
  unfolding Sorted rising
  sorted_rows [] a h = tt
  sorted_rows (r ∷ rs) a h =
      (above_rows r.rank r.rank rs (rank_below r (all_head is_rank r rs a)) (omega arith) (all_tail is_rank r rs a) h, sorted_rows rs (all_tail is_rank r rs a) (Maps.from_rising r.rank rs h))

  -- the rows of an earlier kind come first
  above_kind : (key : Key) → kind_number key.kind < kind_number k → (rs : List table.Row) → Above key (rowed rs)
  unfolding Every
  above_kind key h [] = tt
  above_kind key h (r ∷ rs) = (kinds_order key _ h, above_kind key h rs)

  before_table : (ys : Table) → ((id : ℤ) → Above (record { kind = k; id = id }) ys) → (rs : List table.Row) → Every (λ x. Above x.key ys) (rowed rs)
  unfolding Every
  before_table ys h [] = tt
  before_table ys h (r ∷ rs) = (h (id_of r.rank), before_table ys h rs)

  -- ---- what is found among the rows of a kind

  find_rows : (id : ℤ) → SFits w64 id → (rs : List table.Row) → all is_rank rs ≡ true → find_key (record { kind = k; id = id }) (rowed rs) ≡ option_map (row_of k s f) (Rows.find (rank id) rs)
  unfolding Rows.find
  find_rows id g [] a = find_nil _
  find_rows id g (r ∷ rs) a =
      let fr = Fits-of_lt (rank_below r (all_head is_rank r rs a)) in
      by_eq (rank id) r.rank
      (λ e. let i : id ≡ id_of r.rank = sym (id_rank g) ∙ ap id_of e in
      let m : Rows.find (rank id) (r ∷ rs) ≡ Some r = subst (λ (z : ℕ). Rows.find z (r ∷ rs) ≡ Some r) (sym e) (Maps.find_same r rs) in
      find_here (record { kind = k; id = id }) (row_of k s f r) (rowed rs) (λ j. record { kind = k; id = i j }) ∙ sym (ap (option_map (row_of k s f)) m))
      (λ d. find_later (record { kind = k; id = id }) (row_of k s f r) (rowed rs) (λ e. d (ap (λ (z : Key). rank z.id) e ∙ rank_id fr))
      ∙ (find_rows id g rs (all_tail is_rank r rs a) ∙ sym (ap (option_map (row_of k s f)) (Maps.find_other (rank id) r rs d))))

  find_none : (key : Key) → ((n : ℕ) → n < 2 ^ 64 → key ≡ record { kind = k; id = id_of n } → ⊥) → (rs : List table.Row) → all is_rank rs ≡ true → find_key key (rowed rs) ≡ None
  find_none key h [] a = find_nil key
  find_none key h (r ∷ rs) a =
      find_later key (row_of k s f r) (rowed rs) (h r.rank (rank_below r (all_head is_rank r rs a))) ∙ find_none key h rs (all_tail is_rank r rs a)

-- ---- three kinds

abbrev first : Option PageRow → Option PageRow → Option PageRow
first None y = y
first (Some r) y = Some r

first_none : (x : Option PageRow) → first x None ≡ x
first_none None = refl
first_none (Some r) = refl

find_append : (k : Key) (xs ys : Table) → find_key k (xs ++ ys) ≡ first (find_key k xs) (find_key k ys)
unfolding find_key
find_append k [] ys = refl
find_append k (x ∷ xs) ys = by_bool (same_key k x.key) (λ t. rw t) (λ t. rw t (find_append k xs ys))

-- what an overlay's texts are
abbrev pub held_texts : Overlay → ℕ → Bytes
held_texts o = text_of (texts_of o.texts)

module _ (o : Overlay) (w : Sound o) (n : Ranked o) where
  rows_rise : (k : Kind) → rising (rows_in (kind_store_of k o)) ≡ true
  rows_rise k = sound_rises (kind_store_of k o).table (kind_store_of k o).ids (w.kind_stores k).order

  pub table_sorted : Sorted (table_of o)
  unfolding table_of kind_table
  table_sorted =
      let t = held_texts o in
      let xs = rows_in o.nodes in
      let ys = rows_in o.ways in
      let zs = rows_in o.relations in
      let before_relations = before_table Relation o.relations t in
      sorted_append (map (row_of Node o.nodes t) xs ++ map (row_of Way o.ways t) ys) (map (row_of Relation o.relations t) zs)
      (sorted_append (map (row_of Node o.nodes t) xs) (map (row_of Way o.ways t) ys)
      (sorted_rows Node o.nodes t xs (n.rows Node) (rows_rise Node)) (sorted_rows Way o.ways t ys (n.rows Way) (rows_rise Way))
      (before_table Node o.nodes t _ (λ id. above_kind Way o.ways t _ (omega arith) ys) xs))
      (sorted_rows Relation o.relations t zs (n.rows Relation) (rows_rise Relation))
      (every_append _ (map (row_of Node o.nodes t) xs) (map (row_of Way o.ways t) ys)
      (before_table Node o.nodes t _ (λ id. above_kind Relation o.relations t _ (omega arith) zs) xs)
      (before_table Way o.ways t _ (λ id. above_kind Relation o.relations t _ (omega arith) zs) ys))

  abbrev part : Kind → Table
  part k = kind_table k (kind_store_of k o) (held_texts o)

  -- a key finds what it finds among the rows of its kind
  in_kind : (j : Kind) (id : ℤ) → ((k : Kind) → (k ≡ j → ⊥) → find_key (record { kind = j; id = id }) (part k) ≡ None)
      → find_key (record { kind = j; id = id }) (table_of o) ≡ find_key (record { kind = j; id = id }) (part j)
  unfolding table_of
  in_kind Node id h =
      let key : Key = record { kind = Node; id = id } in
      rw (find_append key (part Node ++ part Way) (part Relation), find_append key (part Node) (part Way), h Way (λ e. no (cc)), h Relation (λ e. no (cc)), first_none (find_key key (part Node)), first_none (find_key key (part Node)))
  in_kind Way id h =
      let key : Key = record { kind = Way; id = id } in
      rw (find_append key (part Node ++ part Way) (part Relation), find_append key (part Node) (part Way), h Node (λ e. no (cc)), h Relation (λ e. no (cc)), first_none (find_key key (part Way)))
  in_kind Relation id h =
      let key : Key = record { kind = Relation; id = id } in
      rw (find_append key (part Node ++ part Way) (part Relation), find_append key (part Node) (part Way), h Node (λ e. no (cc)), h Way (λ e. no (cc)))

  part_none : (key : Key) (k : Kind) → ((m : ℕ) → m < 2 ^ 64 → key ≡ record { kind = k; id = id_of m } → ⊥) → find_key key (part k) ≡ None
  unfolding kind_table
  part_none key k h = find_none k (kind_store_of k o) (held_texts o) key h (rows_in (kind_store_of k o)) (n.rows k)

  -- the row of an id says what the overlay knows of it
  row_known : (key : Key) → SFits w64 key.id → (x : Option table.Row) → Rows.find (rank key.id) (rows_in (kind_store_of key.kind o)) ≡ x
      → option_map (row_of key.kind (kind_store_of key.kind o) (held_texts o)) x
      ≡ row_in key (record { last = last_in key.kind (kind_store_of key.kind o) (held_texts o) x; high = known_version key.kind (kind_store_of key.kind o) key.id })
  unfolding left_at
  row_known key g None e = refl
  row_known key g (Some r) e =
      let k = key.kind in
      let s = kind_store_of k o in
      let i : id_of r.rank ≡ key.id = ap id_of (Maps.find_rank (rank key.id) (rows_in s) r e) ∙ id_rank g in
      by_bool (is_live r.offset)
      (λ l. let x = row_starts (w.kind_stores k).whole.kept r (Maps.find_passes (sound_row (w.kind_stores k).whole.kept) (rank key.id) (rows_in s) r (w.kind_stores k).rows e) l in
      rw (i, l, record_read o.texts.strings k s (w.kind_stores k) r.offset x.0 x.1.0))
      (λ l. rw (i, l))

  -- a key finds what the overlay knows of it
  pub table_find : (key : Key) → SFits w64 key.id → find_key key (table_of o) ≡ row_in key (known_in o key)
  unfolding known_in kind_table
  table_find key g =
      let k = key.kind in
      let s = kind_store_of k o in
      in_kind k key.id (λ j d. part_none key j (λ m f e. d (sym (ap (λ (z : Key). z.kind) e))))
      ∙ (find_rows k s (held_texts o) key.id g (rows_in s) (n.rows k) ∙ row_known key g (Rows.find (rank key.id) (rows_in s)) refl)

  -- an id that has not 64 bits has no row
  pub table_none : (key : Key) → (SFits w64 key.id → ⊥) → find_key key (table_of o) ≡ None
  unfolding table_of
  table_none key g =
      let gone : (k : Kind) → find_key key (part k) ≡ None = λ k. part_none key k (λ m f e. g (subst (SFits w64) (sym (ap (λ (z : Key). z.id) e)) (id_fits (Fits-of_lt f)))) in
      rw (find_append key (part Node ++ part Way) (part Relation), find_append key (part Node) (part Way), gone Node, gone Way, gone Relation)

  -- ---- the bridge to the page

  -- where the overlay knows of each id what some acts come to, its table is their summary
  pub listed_page : (acts : List (Act Bytes)) → ((key : Key) → SFits w64 key.id → known_in o key ≡ Summary.known acts key)
      → ((key : Key) → fits_signed w64 key.id ≡ false → Summary.known acts key ≡ Summary.nothing) → table_of o ≡ summary acts
  unfolding fits_signed
  listed_page acts h u =
      same_table (table_of o) (summary acts) table_sorted (summary_sorted acts)
      (λ key. by_bool (fits_signed w64 key.id)
      (λ t. let g : SFits w64 key.id = record { sfits = ltb-true _ _ t } in table_find key g ∙ (ap (row_in key) (h key g) ∙ sym (find_summary acts key)))
      (λ t. table_none key (λ g. clash (lt-ltb _ _ g.sfits) t) ∙ (sym (ap (row_in key) (u key t)) ∙ sym (find_summary acts key))))

-- ---- ranks are words

-- in words of 64 bits each rank is one
rows_ranked : (ws : List ℕ) → ((i : ℕ) → get_or ws i 0 < 2 ^ 64) → (i n : ℕ) → all is_rank (rows_from ws i n) ≡ true
unfolding rows_from is_rank
rows_ranked ws h i zero = all_nil is_rank
rows_ranked ws h i (suc n) = all_cons is_rank (row_at ws i) (rows_from ws (suc i) n) (lt-ltb _ _ (h (3 * i))) (rows_ranked ws h (suc i) n)

all_put : (p : table.Row → Bool) (n : table.Row) (rs : List table.Row) → p n ≡ true → all p rs ≡ true → all p (Rows.put n rs) ≡ true
unfolding Rows.put
all_put p n [] h g = all_cons p n [] h g
all_put p n (r ∷ rs) h g =
    by_bool (ltb n.rank r.rank)
    (λ t. rw t (all_cons p n (r ∷ rs) h g))
    (λ t. by_bool (eqb n.rank r.rank)
    (λ u. rw (t, u) (all_cons p n rs h (all_tail p r rs g)))
    (λ u. rw (t, u) (all_cons p r (Rows.put n rs) (all_head p r rs g) (all_put p n rs h (all_tail p r rs g)))))

-- and the row of an id of 64 bits keeps it so
pub ranked_put : (id : ℤ) (offset floor : ℕ) → SFits w64 id → (rs : List table.Row) → all is_rank rs ≡ true → all is_rank (Rows.put (record { rank = rank id; offset = offset; floor = floor }) rs) ≡ true
unfolding is_rank
ranked_put id offset floor g rs h = all_put is_rank (record { rank = rank id; offset = offset; floor = floor }) rs (lt-ltb _ _ (rank_fits g)) h

pub ranked_kind_store : (k : Kind) (s : KindStore) (o : Overlay) → all is_rank (rows_in s) ≡ true → Ranked o → Ranked (with_kind_store k s o)
ranked_kind_store k s o h n = record { rows = each_kind_store (λ j t. all is_rank (rows_in t) ≡ true) k s o h n.rows }

pub ranked_texts : (t : Store) (o : Overlay) → Ranked o → Ranked (with_texts t o)
ranked_texts t o n = record { rows = λ k. rw (texts_kind_store k t o) (n.rows k) }

pub ranked_empty : (setting : ℕ) (o : Overlay) → Ranked (empty setting o)
unfolding rows_of rows_from
ranked_empty setting o = record { rows = none_ranked }
  where
    none_ranked : (k : Kind) → all is_rank (rows_in (kind_store_of k (empty setting o))) ≡ true
    none_ranked Node = all_nil is_rank
    none_ranked Way = all_nil is_rank
    none_ranked Relation = all_nil is_rank
