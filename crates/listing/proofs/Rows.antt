-- A sound kind store, row by row: at the offset of each live row the readers find a legal record of its kind, and the known version of a row's id is the one that the row says.
use Rattle.std.specs.Prelude.{None, Some}
use Prim.Native.Nat.{ℕ, ◌+◌, ◌≤◌}
use mathlib.Core.Path.{◌≡◌, refl, sym, ◌∙◌, ap, subst}
use mathlib.Core.Bool.{true, not}
use mathlib.Core.List.{List, ◌++◌}
use native.Mathlib.Omega.{arith}
use lib.ListN.{length, take, drop, length-take, length-drop}
use lib.Seq.{take-take}
use Rattle.base.specs.Bytes.{Bytes}
use Rattle.base.proofs.Split.{by_le, by_either, both_left, both_right, clash, no}
use Rattle.kind.specs.declared.Kind.{Kind}
use Rattle.kind.proofs.Numbers as Numbers
use Rattle.osm_id.specs.Order.{id_of}
use Rattle.model.specs.Record.{kind_of}
use Rattle.compact.specs.Layout.{head_len}
use Rattle.compact.specs.Cut.{KeptRecord, cut_record}
use Rattle.compact.specs.Fits.{fits_kept}
use Rattle.compact.specs.Legal.{legal}
use Rattle.compact.proofs.Back.{Found, read_record_lem}
use Rattle.compact_legal.specs.Whole.{kept_bytes, Whole, record_at, starts_at}
use Rattle.compact_legal.proofs.Fronts.{record_short}
use Rattle.compact_legal.proofs.Starts.{record_passes, record_there, bytes_there, start_is}
use Rattle.kind_table.specs.declared.Row.{Row}
use Rattle.kind_table.specs.Rows.{find}
use Rattle.kind_store.specs.KindStore.{KindStore, is_live, known_of, known_version}
use Rattle.kind_store.specs.WellFormed.{rows_in}
use Rattle.kind_store.proofs.KindStores.{known_row, known_kept}
use Rattle.kind_sound.proofs.Ids.{rank_back}
use Rattle.kind_sound.specs.Sound.{SoundKindStore, sound_row}
use Rattle.listing.specs.Known.{held_in, record_in}

pub kept_kind : (k : Kind) (x : KeptRecord) → fits_kept k x ≡ true → kind_of x.held.body ≡ k
unfolding fits_kept
kept_kind k x h = Numbers.same_yes (kind_of x.held.body) k (both_left _ _ h)

-- what is read at a start of whole records is its record
pub whole_read : (strings : ℕ) (k : Kind) (s : Bytes) (w : Whole strings k s) (at : ℕ) (x : KeptRecord) → record_at at w.kept ≡ Some x → held_in (cut_record k (drop at s)) ≡ Some x.held
whole_read strings k s w at x h = rw (w.same, (record_there k at w.kept x w.fits h).1)

-- and the readers find it there, whatever follows it
pub whole_found : (strings : ℕ) (k : Kind) (s : Bytes) (w : Whole strings k s) (at : ℕ) (x : KeptRecord) → record_at at w.kept ≡ Some x → Found x.id x.held (drop at s)
unfolding fits_kept legal
whole_found strings k s w at x h =
    let f = record_passes (fits_kept k) at w.kept x w.fits h in
    let l = record_passes (λ (x : KeptRecord). legal strings x.held) at w.kept x w.legals h in
    let b = bytes_there k at w.kept x w.fits h in
    let e : drop at s ≡ kept_bytes x ++ b.0 = ap (drop at) w.same ∙ b.1.0 in
    subst (Found x.id x.held) (sym e) (read_record_lem x.id x.held b.0 (both_right _ _ f) (both_left _ _ (both_right _ _ l)))

-- a live row that is sound points at the start of a record of its id
pub row_starts : (kept : List KeptRecord) (r : Row) → sound_row kept r ≡ true → is_live r.offset ≡ true → (x : KeptRecord) × ((record_at r.offset kept ≡ Some x) × (x.id ≡ id_of r.rank))
unfolding sound_row
row_starts kept r h l =
    by_either (not (is_live r.offset)) (starts_at (id_of r.rank) r.offset kept) h
    (λ t. clash (sym (ap not l) ∙ t) refl)
    (λ t. start_is (id_of r.rank) r.offset kept t)

module _ (strings : ℕ) (k : Kind) (s : KindStore) (w : SoundKindStore strings k s) (at : ℕ) (x : KeptRecord) (h : record_at at w.whole.kept ≡ Some x) where
  pub record_read : record_in k s at ≡ Some x.held
  unfolding record_in
  record_read = whole_read strings k (take s.used s.arena) w.whole at x h

  pub record_found : Found x.id x.held (drop at (take s.used s.arena))
  record_found = whole_found strings k (take s.used s.arena) w.whole at x h

  -- its head and its metadata lie within the used bytes
  pub record_within : at + (head_len k + 29) ≤ s.used
  unfolding record_in
  record_within =
      let u = drop at (take s.used s.arena) in
      by_le (head_len k + 29) (length u)
      (λ l. omega (arith, length-drop at (take s.used s.arena), length-take s.used s.arena))
      (λ l. let z : None ≡ Some x.held = sym (ap held_in (record_short k u l)) ∙ record_read in no (cc))

  pub record_kind : kind_of x.held.body ≡ k
  record_kind = kept_kind k x (record_passes (fits_kept k) at w.whole.kept x w.whole.fits h)

-- ---- the known version of a row's id

-- the search finds the row itself, and its record's version stands within the used bytes
pub row_version : (strings : ℕ) (k : Kind) (s : KindStore) (w : SoundKindStore strings k s) (r : Row) → find r.rank (rows_in s) ≡ Some r → sound_row w.whole.kept r ≡ true
    → known_of k (take s.used s.arena) r ≡ known_version k s (id_of r.rank)
row_version strings k s w r e h =
    known_kept k (take s.used s.arena) s.arena s.used r
    (λ l. let x = row_starts w.whole.kept r h l in record_within strings k s w r.offset x.0 x.1.0)
    (take-take s.used s.used s.arena (omega arith))
    ∙ sym (known_row k s w.order (id_of r.rank) r (ap (λ n. find n (rows_in s)) (rank_back r.rank) ∙ e))
