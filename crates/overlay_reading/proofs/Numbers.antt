-- Ids and records by number, in a sound overlay: ids rise in OSM order, so no two are equal; and 21 is given exactly where the number is not below the count.
use Rattle.std.specs.Prelude.{Err, Ok, Some}
use Prim.Native.Nat.{ℕ, zero, suc, ◌+◌, ◌*◌, ◌<◌, ◌≤◌}
use mathlib.Core.Path.{◌≡◌, sym, ◌∙◌, ap}
use mathlib.Core.Bool.{Bool, true}
use mathlib.Core.Logic.{◌↔◌}
use mathlib.Core.List.{List}
use native.Mathlib.Omega.{arith}
use lib.Dec.{ltb}
use lib.ListN.{length, get_or}
use mir.Facts.{to_z-of_z, Fits-of_lt}
use mir.Syntax.{w64}
use mir.Val.{Fits, SFits, to_z, of_z}
use borrow.Author.Tests.{lt-ltb, ltb-true}
use Rattle.base.specs.Bytes.{all}
use Rattle.base.proofs.Split.{by_lt, clash, no}
use Rattle.base.proofs.Lists.{all_nil, all_cons}
use Rattle.kind.specs.declared.Kind.{Kind}
use Rattle.osm_id.specs.Order.{before, rank, id_of}
use Rattle.osm_id.proofs.Orders.{order, rank_before, rank_id, id_fits}
use Rattle.refusal.specs.declared.Refusal.TheVariants as R
use Rattle.compact_legal.specs.Whole.{kept_bytes}
use Rattle.kind_table.specs.Rows.{rising, find}
use Rattle.kind_table.specs.Words.{row_at, rows_from, rows_of}
use Rattle.kind_table.specs.declared.Row.{Row}
use Rattle.kind_table.proofs.Maps.{climbs, find_row, find_passes}
use Rattle.kind_table.proofs.Spans.{rows_length}
use Rattle.kind_table.proofs.Tables.{sound_rises}
use Rattle.kind_reading.specs.declared.Side.{Side}
use Rattle.kind_reading.specs.declared.Side.TheVariants.{Live, Deleted}
use Rattle.kind_reading.specs.Listed.{View, rows_read, is_on, rows_on}
use Rattle.kind_reading.proofs.Lists.{rows_all, lists_all, on_rising, on_found, nth_at, missing_is}
use Rattle.overlay.specs.Overlay.{Overlay, kind_store_of}
use Rattle.overlay.specs.Given.{InBytes, InWords}
use Rattle.overlay.specs.Sound.{Sound, is_sound}
use Rattle.overlay.proofs.Decides.{decides}
use Rattle.overlay_reading.specs.Reading.{count_on, id_on, record_on, get_on}
use Rattle.overlay_reading.proofs.Records.{Shows, row_shows, live_view_lem}

-- the rank of each row of a lent table is of 64 bits
abbrev pub rank_fits : Row → Bool
rank_fits r = ltb r.rank 18446744073709551616

ranks_from : (ws : List ℕ) → InWords ws → (i n : ℕ) → all rank_fits (rows_from ws i n) ≡ true
unfolding rows_from
ranks_from ws u i zero = all_nil _
ranks_from ws u i (suc n) = all_cons _ (row_at ws i) _ (lt-ltb _ _ (u (3 * i)).fits) (ranks_from ws u (suc i) n)

pub ranks_fit : (ws : List ℕ) → InWords ws → (n : ℕ) → all rank_fits (rows_of ws n) ≡ true
unfolding rows_of
ranks_fit ws u n = ranks_from ws u 0 n

module _ (o : Overlay) (b : InBytes o) (w : Sound o) (k : Kind) (side : Side) where
  abbrev rows : List Row
  rows = rows_of (kind_store_of k o).table (kind_store_of k o).ids

  -- the rows of the list
  abbrev list : List Row
  list = rows_on side rows

  tested : is_sound o ≡ true
  tested = (decides o b).1 w

  all_rows : rows_read (kind_store_of k o).table (kind_store_of k o).ids ≡ rows
  all_rows = rows_all (kind_store_of k o).table (kind_store_of k o).ids (w.kind_stores k).order

  rises : rising rows ≡ true
  rises = sound_rises (kind_store_of k o).table (kind_store_of k o).ids (w.kind_stores k).order

  -- a row of the list is found by its rank
  at_row : (n : ℕ) (d : Row) → n < length list → (find (get_or list n d).rank rows ≡ Some (get_or list n d)) × (is_on side (get_or list n d) ≡ true)
  at_row n d l = on_found (get_or list n d).rank rows rises side (get_or list n d) (find_row list (on_rising side rows rises) n d l)

  pub count_is : count_on k side o ≡ Ok (length list)
  unfolding count_on
  count_is = rw (tested, all_rows)

  pub counted : (m : ℕ) → count_on k side o ≡ Ok m → length list ≡ m
  counted m e = let x : Ok (length list) ≡ Ok m = sym count_is ∙ e in cc

  id_at : (n : ℕ) (d : Row) → n < length list → id_on k side n o ≡ Ok (of_z w64 (id_of (get_or list n d).rank))
  unfolding id_on
  id_at n d l = rw (tested, all_rows, nth_at list n d l)

  id_past : (n : ℕ) → length list ≤ n → id_on k side n o ≡ Err R.NoSuchNumber
  unfolding id_on
  id_past n l = rw (tested, all_rows, (missing_is list n).1 l)

  -- an id that is given is that of a row
  id_given : (n a : ℕ) → id_on k side n o ≡ Ok a → n < length list
  id_given n a e = by_lt n (length list) (λ l. l) (λ l. let x : Err R.NoSuchNumber ≡ Ok a = sym (id_past n l) ∙ e in no cc)

  -- "21 number not below its list's count"
  pub id_missing : (m n : ℕ) → count_on k side o ≡ Ok m → (id_on k side n o ≡ Err R.NoSuchNumber) ↔ (m ≤ n)
  id_missing m n e = (
    λ h. by_lt n m
        (λ l. let d : Row = record { rank = 0; offset = 0; floor = 0 } in
        let x : Ok (of_z w64 (id_of (get_or list n d).rank)) ≡ Err R.NoSuchNumber = sym (id_at n d (omega (arith, counted m e))) ∙ h in no cc)
        (λ l. l),
    λ l. id_past n (omega (arith, counted m e)),
  )

  module _ (u : all rank_fits rows ≡ true) where
    rank_fits_lem : (n : ℕ) (d : Row) → n < length list → Fits w64 (get_or list n d).rank
    rank_fits_lem n d l = Fits-of_lt (ltb-true _ _ (find_passes rank_fits (get_or list n d).rank rows (get_or list n d) u (at_row n d l).0))

    id_is : (n a : ℕ) (d : Row) → id_on k side n o ≡ Ok a → to_z w64 a ≡ id_of (get_or list n d).rank
    id_is n a d e =
        let l = id_given n a e in
        let x : Ok (of_z w64 (id_of (get_or list n d).rank)) ≡ Ok a = sym (id_at n d l) ∙ e in
        let y : of_z w64 (id_of (get_or list n d).rank) ≡ a = cc in
        ap (to_z w64) (sym y) ∙ to_z-of_z (id_fits (rank_fits_lem n d l))

    pub id_signed : (n a : ℕ) → id_on k side n o ≡ Ok a → SFits w64 (to_z w64 a)
    id_signed n a e = let d : Row = record { rank = 0; offset = 0; floor = 0 } in rw (id_is n a d e) (id_fits (rank_fits_lem n d (id_given n a e)))

    -- a later number has a later id
    pub ids_rise : (m n a c : ℕ) → m < n → id_on k side m o ≡ Ok a → id_on k side n o ≡ Ok c → before (to_z w64 a) (to_z w64 c) ≡ true
    ids_rise m n a c l e f =
        let d : Row = record { rank = 0; offset = 0; floor = 0 } in
        let p = rank_fits_lem m d (id_given m a e) in
        let q = rank_fits_lem n d (id_given n c f) in
        rw (id_is m a d e, id_is n c d f)
        (sym (rank_before (id_fits p) (id_fits q)) ∙ rw (rank_id p, rank_id q) (lt-ltb _ _ (climbs list (on_rising side rows rises) m n d l (id_given n c f))))

    pub ids_differ : (m n a : ℕ) → (m ≡ n → ⊥) → id_on k side m o ≡ Ok a → id_on k side n o ≡ Ok a → ⊥
    ids_differ m n a h e f =
        by_lt m n
        (λ l. clash (ids_rise m n a a l e f) (order.irreflexive (to_z w64 a)))
        (λ l. clash (ids_rise n m a a (omega (arith, h)) f e) (order.irreflexive (to_z w64 a)))

module _ (o : Overlay) (b : InBytes o) (w : Sound o) (k : Kind) where
  -- each known id is on one of the two lists
  pub counts_all : (m n : ℕ) → count_on k Live o ≡ Ok m → count_on k Deleted o ≡ Ok n → m + n ≡ (kind_store_of k o).ids
  counts_all m n e f =
      let x = counted o b w k Live m e in
      let y = counted o b w k Deleted n f in
      let z = lists_all (rows o b w k Live) in
      let v = rows_length (kind_store_of k o).table (kind_store_of k o).ids in
      omega arith

  -- ---- records by number

  record_past : (n : ℕ) → length (list o b w k Live) ≤ n → record_on k n o ≡ Err R.NoSuchNumber
  unfolding record_on
  record_past n l = rw (tested o b w k Live, all_rows o b w k Live, (missing_is (list o b w k Live) n).1 l)

  pub record_row : (n : ℕ) (d : Row) → n < length (list o b w k Live)
      → Shows (kind_store_of k o) (w.kind_stores k).whole.kept (id_of (get_or (list o b w k Live) n d).rank) (record_on k n o)
  unfolding record_on
  record_row n d l =
      let r = at_row o b w k Live n d l in
      rw (tested o b w k Live, all_rows o b w k Live, nth_at (list o b w k Live) n d l)
      (row_shows o.texts.strings k (kind_store_of k o) (w.kind_stores k) (get_or (list o b w k Live) n d).rank (get_or (list o b w k Live) n d) r.0 r.1)

  -- the record of a number is that of the id of that number
  pub record_get : all rank_fits (rows o b w k Live) ≡ true → (n a : ℕ) → id_on k Live n o ≡ Ok a → record_on k n o ≡ get_on k (to_z w64 a) o
  unfolding record_on
  record_get u n a e =
      let d : Row = record { rank = 0; offset = 0; floor = 0 } in
      let l = id_given o b w k Live n a e in
      let r = at_row o b w k Live n d l in
      let q : rank (to_z w64 a) ≡ (get_or (list o b w k Live) n d).rank = ap rank (id_is o b w k Live u n a d e) ∙ rank_id (rank_fits_lem o b w k Live u n d l) in
      let f = id_signed o b w k Live u n a e in
      rw (tested o b w k Live, all_rows o b w k Live, nth_at (list o b w k Live) n d l)
      (sym (live_view_lem o b w k (to_z w64 a) f (get_or (list o b w k Live) n d) (rw q r.0) r.1))

  -- and one of that id
  pub record_shows : all rank_fits (rows o b w k Live) ≡ true → (n a : ℕ) → id_on k Live n o ≡ Ok a → Shows (kind_store_of k o) (w.kind_stores k).whole.kept (to_z w64 a) (record_on k n o)
  record_shows u n a e =
      let d : Row = record { rank = 0; offset = 0; floor = 0 } in
      rw (id_is o b w k Live u n a d e) (record_row n d (id_given o b w k Live n a e))

  pub record_missing : (m n : ℕ) → count_on k Live o ≡ Ok m → (record_on k n o ≡ Err R.NoSuchNumber) ↔ (m ≤ n)
  record_missing m n e =
      let c = counted o b w k Live m e in (
        λ h. by_lt n m
            (λ l. let d : Row = record { rank = 0; offset = 0; floor = 0 } in
            let x = record_row n d (omega arith) in
            let y : ◌≡◌ {A = View} (Ok (Some (record { start = x.offset; len = length (kept_bytes x.held) }))) (Err R.NoSuchNumber) = sym x.is ∙ h in no cc)
            (λ l. l),
        λ l. record_past n (omega arith),
      )
