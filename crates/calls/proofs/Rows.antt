-- A sound kind store: it is fair, and at the offset of each live row a legal record is read, whatever is appended behind it.
use Rattle.std.specs.Prelude.{Some}
use Prim.Native.Nat.{ℕ, ◌+◌, ◌^◌, ◌<◌, ◌≤◌}
use mathlib.Core.Path.{◌≡◌, refl, sym, ◌∙◌, ap}
use mathlib.Core.Bool.{true, not}
use native.Mathlib.Omega.{arith}
use lib.ListN.{length, take, drop, length-append, length-drop}
use lib.Seq.{length-take-le}
use Rattle.base.specs.Bytes.{Bytes, all}
use Rattle.base.proofs.Split.{by_either, both_left, clash}
use Rattle.little.specs.Little.{is_byte}
use Rattle.little.proofs.Littles.{bytes_take, bytes_drop}
use Rattle.kind.specs.declared.Kind.{Kind}
use Rattle.kind.proofs.Numbers as Numbers
use Rattle.osm_id.specs.Order.{id_of}
use Rattle.model.specs.Record.{kind_of}
use Rattle.compact.specs.Layout.{head_len}
use Rattle.compact.specs.Cut.{KeptRecord, cut_record}
use Rattle.compact.specs.Fits.{fits_kept}
use Rattle.compact.specs.Legal.{legal}
use Rattle.compact.proofs.Cuts.{record_format}
use Rattle.compact.proofs.Lengths.{length_record}
use Rattle.compact_legal.specs.Whole.{kept_bytes, Whole, record_at, starts_at}
use Rattle.compact_legal.proofs.Starts.{record_passes, record_there, start_is}
use Rattle.kind_table.specs.declared.Row.{Row}
use Rattle.kind_table.specs.Rows.{find}
use Rattle.kind_table.proofs.Maps.{find_passes}
use Rattle.kind_store.specs.KindStore.{KindStore, is_live}
use Rattle.kind_store.specs.WellFormed.{rows_in, WellFormed}
use Rattle.kind_sound.specs.Sound.{SoundKindStore, sound_row}
use Rattle.listing.specs.Known.{record_in}
use Rattle.listing.proofs.Rows.{kept_kind, whole_read}

module _ (strings : ℕ) (k : Kind) (s : KindStore) (w : SoundKindStore strings k s) where
  -- at the offset of a live row a record starts
  pub live_starts : (n : ℕ) (r : Row) → find n (rows_in s) ≡ Some r → is_live r.offset ≡ true → (x : KeptRecord) × (record_at r.offset w.whole.kept ≡ Some x)
  unfolding sound_row
  live_starts n r e l =
      by_either (not (is_live r.offset)) (starts_at (id_of r.rank) r.offset w.whole.kept) (find_passes (sound_row w.whole.kept) n (rows_in s) r w.rows e)
      (λ t. clash (sym (ap not l) ∙ t) refl)
      (λ t. let y = start_is (id_of r.rank) r.offset w.whole.kept t in (y.0, y.1.0))

  pub record_read : (at : ℕ) (x : KeptRecord) → record_at at w.whole.kept ≡ Some x → record_in k s at ≡ Some x.held
  unfolding record_in
  record_read at x h = whole_read strings k (take s.used s.arena) w.whole at x h

  pub record_legal : (at : ℕ) (x : KeptRecord) → record_at at w.whole.kept ≡ Some x → legal strings x.held ≡ true
  record_legal at x h = record_passes (λ (x : KeptRecord). legal strings x.held) at w.whole.kept x w.whole.legals h

  module _ (b : all is_byte s.arena ≡ true) where
    -- a record ends within the used bytes
    ends_within : (at : ℕ) (x : KeptRecord) → record_at at w.whole.kept ≡ Some x → at + (head_len k + 29) ≤ s.used
    ends_within at x h =
        let y = record_there k at w.whole.kept x w.whole.fits h in
        let u = drop at (take s.used s.arena) in
        let c = rw (← w.whole.same) at y.1 in
        let z = (record_format k).forth u (record { item = x; rest = y.0 }) (bytes_drop at (take s.used s.arena) (bytes_take s.used s.arena b)) c in
        omega (arith, ap length z.0, length-append (kept_bytes x) y.0, length_record x.id x.held, ap head_len (kept_kind k x z.1), length-drop at (take s.used s.arena), length-take-le s.used s.arena w.fits)

    -- a sound kind store of bytes is fair
    pub well_formed_sound : length s.arena < 2 ^ 63 → WellFormed k s
    well_formed_sound l =
        record {
          bytes = b;
          short = l;
          sound = w.order;
          offsets = λ n r e t. let x = live_starts n r e t in ends_within r.offset x.0 x.1;
        }
