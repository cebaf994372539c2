-- What a kind store tells of each id after an accepted push and an accepted delete: of its own id what the act left, of any other what it told before.
use Rattle.std.specs.Prelude.{None, Ok, Option, Some}
use Prim.Native.Nat.{ℕ, ◌+◌, ◌^◌, ◌<◌}
use mathlib.Core.Path.{◌≡◌, refl, sym, ◌∙◌, ap}
use mathlib.Core.Bool.{true, cond}
use mathlib.Core.List.{[], ◌∷◌, ◌++◌}
use native.Mathlib.Omega.{arith}
use lib.IntN.{ℤ}
use lib.ListN.{length, take}
use lib.Seq.{length-take-le}
use borrow.Author.Tests.{lt-ltb}
use Rattle.base.specs.Bytes.{Bytes}
use Rattle.base.proofs.Split.{by_bool}
use Rattle.little.specs.Little.{over}
use Rattle.kind.specs.declared.Kind.{Kind}
use Rattle.osm_id.specs.Order.{rank}
use Rattle.version_floor.specs.Version.{higher, word_of}
use Rattle.model.specs.Record.{claim_of}
use Rattle.model.specs.Act.{Left, gone, live}
use Rattle.model.specs.Swap.{swap_record}
use Rattle.compact.specs.Layout.{joined_bytes}
use Rattle.compact.specs.Cut.{KeptRecord}
use Rattle.compact.specs.Fits.{fits_kept}
use Rattle.compact.specs.Legal.{legal}
use Rattle.compact_append.proofs.Writes.{fits_is}
use Rattle.compact_append.proofs.Joins.{appended}
use Rattle.compact_legal.specs.Whole.{kept_bytes, record_at}
use Rattle.compact_legal.proofs.Wholes.{append_whole, append_kept}
use Rattle.compact_legal.proofs.Starts.{record_stays, record_last}
use Rattle.kind_table.specs.declared.Row.{Row}
use Rattle.kind_table.specs.Rows.{find}
use Rattle.kind_table.proofs.Maps.{find_put_same, find_put_other}
use Rattle.kind_store.specs.KindStore as KindStore
use Rattle.kind_store.specs.KindStore.{KindStore, is_live, known_version, floor_of, floor_after, pushed, deleted}
use Rattle.kind_store.specs.WellFormed.{rows_in, WellFormed}
use Rattle.kind_store.proofs.KindStores.{Laid, push_laid, push_fits, push_used, push_arena, delete_laid, delete_arena, delete_used}
use Rattle.kind_sound.specs.Sound.{SoundKindStore}
use Rattle.listing.specs.Known.{record_in, live_record, last_in}
use Rattle.listing.proofs.Rows.{whole_read}
use Rattle.calls.proofs.Rows.{live_starts, record_read, record_legal}
use Rattle.reader.proofs.Texts.{legal_agree}

-- what the last act on an id left
abbrev pub last_of : Kind → KindStore → (ℕ → Bytes) → ℤ → Option (Left Bytes)
last_of k s f id = last_in k s f (find (rank id) (rows_in s))

abbrev row_of : ℤ → ℕ → ℕ → Row
row_of id offset floor = record { rank = rank id; offset = offset; floor = floor }

module _ (strings : ℕ) (k : Kind) (s : KindStore) (w : SoundKindStore strings k s) where
  -- a row tells the same of another kind store where the records that it may point at are read as here
  last_stays : (t : KindStore) (f : ℕ → Bytes) → ((at : ℕ) (y : KeptRecord) → record_at at w.whole.kept ≡ Some y → record_in k t at ≡ Some y.held)
      → (n : ℕ) (o : Option Row) → find n (rows_in s) ≡ o → last_in k t f o ≡ last_in k s f o
  last_stays t f h n None e = refl
  last_stays t f h n (Some r) e =
      by_bool (is_live r.offset)
      (λ l. let y = live_starts strings k s w n r e l in rw (l, h r.offset y.0 y.1, record_read strings k s w r.offset y.0 y.1))
      (λ l. rw l)

  -- and where its texts are the same
  pub last_agrees : (f g : ℕ → Bytes) → ((h : ℕ) → h < strings → f h ≡ g h) → (id : ℤ) → last_of k s f id ≡ last_of k s g id
  last_agrees f g a id = go (find (rank id) (rows_in s)) refl
    where
      go : (o : Option Row) → find (rank id) (rows_in s) ≡ o → last_in k s f o ≡ last_in k s g o
      go None e = refl
      go (Some r) e =
          by_bool (is_live r.offset)
          (λ l. let y = live_starts strings k s w (rank id) r e l in
          rw (l, record_read strings k s w r.offset y.0 y.1, legal_agree strings f g a y.0.held (record_legal strings k s w r.offset y.0 y.1)))
          (λ l. rw l)

  module _ (t : KindStore) (id : ℤ) (offset floor : ℕ) (laid : Laid s id offset floor t)
      (h : (at : ℕ) (y : KeptRecord) → record_at at w.whole.kept ≡ Some y → record_in k t at ≡ Some y.held) (f : ℕ → Bytes) where
    last_other : (other : ℤ) → (rank other ≡ rank id → ⊥) → last_of k t f other ≡ last_of k s f other
    last_other other n =
        rw (laid.rows, find_put_other (rank other) (row_of id offset floor) (rows_in s) n) (last_stays t f h (rank other) (find (rank other) (rows_in s)) refl)

    last_own : last_of k t f id ≡ cond (is_live offset) (live_record f (record_in k t offset)) (Some gone)
    last_own = rw (laid.rows, find_put_same (row_of id offset floor) (rows_in s))

-- ---- an accepted push of a legal record under its own id

module _ (strings : ℕ) (k : Kind) (setting : ℕ) (s : KindStore) (x : KeptRecord) (fits : fits_kept k x ≡ true) (lawful : legal strings x.held ≡ true) (w : SoundKindStore strings k s)
    (taken : (pushed k setting s x.id (claim_of x.held.meta) (kept_bytes x)).answer ≡ (Ok tt)) (f : ℕ → Bytes) where
  abbrev after : KindStore
  after = (pushed k setting s x.id (claim_of x.held.meta) (kept_bytes x)).kind_store

  abbrev floor : ℕ
  floor = floor_after setting (known_version k s x.id) (claim_of x.held.meta) (floor_of s x.id)

  laid : Laid s x.id s.used floor after
  laid = push_laid k setting s x.id (claim_of x.held.meta) w.order (kept_bytes x) taken

  bytes_after : take after.used after.arena ≡ take s.used s.arena ++ kept_bytes x
  bytes_after =
      let c = claim_of x.held.meta in
      let l = push_fits k setting s x.id c (kept_bytes x) taken in
      rw (push_used k setting s x.id c (kept_bytes x) taken, push_arena k setting s x.id c (kept_bytes x) taken)
      (appended s.arena s.used (kept_bytes x) (over s.arena s.used (kept_bytes x)) (s.used + length (kept_bytes x)) (fits_is s.arena s.used (kept_bytes x) l)).used_bytes

  -- what is read at a start among the records before and the new one
  read_after : (at : ℕ) (y : KeptRecord) → record_at at (w.whole.kept ++ x ∷ []) ≡ Some y → record_in k after at ≡ Some y.held
  unfolding record_in
  read_after at y h =
      let v = append_whole strings k (take s.used s.arena) x fits lawful w.whole in
      rw bytes_after (whole_read strings k (take s.used s.arena ++ kept_bytes x) v at y (rw (append_kept strings k (take s.used s.arena) x fits w.whole v) h))

  read_stays : (at : ℕ) (y : KeptRecord) → record_at at w.whole.kept ≡ Some y → record_in k after at ≡ Some y.held
  read_stays at y h = read_after at y (record_stays at w.whole.kept (x ∷ []) y h)

  pub push_last_other : (other : ℤ) → (rank other ≡ rank x.id → ⊥) → last_of k after f other ≡ last_of k s f other
  push_last_other = last_other strings k s w after x.id s.used floor laid read_stays f

  pub push_last : length s.arena < 2 ^ 63 → last_of k after f x.id ≡ Some (live (swap_record f x.held))
  unfolding is_live
  push_last short =
      let n : length (joined_bytes kept_bytes w.whole.kept) ≡ s.used = sym (ap length w.whole.same) ∙ length-take-le s.used s.arena w.fits in
      let l : is_live s.used ≡ true = lt-ltb s.used (2 ^ 63) (omega (arith, w.fits)) in
      last_own strings k s w after x.id s.used floor laid read_stays f ∙ rw (l, read_after s.used x (rw n at (record_last w.whole.kept x)))

-- ---- an accepted delete

module _ (strings : ℕ) (k : Kind) (setting : ℕ) (s : KindStore) (id : ℤ) (claim : Option ℤ) (w : SoundKindStore strings k s) (well_formed : WellFormed k s)
    (taken : (deleted k setting s id claim).answer ≡ (Ok tt)) (f : ℕ → Bytes) where
  abbrev left : KindStore
  left = (deleted k setting s id claim).kind_store

  kept_left : (at : ℕ) (y : KeptRecord) → record_at at w.whole.kept ≡ Some y → record_in k left at ≡ Some y.held
  unfolding record_in
  kept_left at y h = rw (delete_used k setting s id claim well_formed taken, delete_arena k setting s id claim well_formed taken) (record_read strings k s w at y h)

  laid_left : Laid s id KindStore.gone (word_of (higher (known_version k s id) claim)) left
  laid_left = delete_laid k setting s id claim w.order taken

  pub delete_last_other : (other : ℤ) → (rank other ≡ rank id → ⊥) → last_of k left f other ≡ last_of k s f other
  delete_last_other = last_other strings k s w left id KindStore.gone (word_of (higher (known_version k s id) claim)) laid_left kept_left f

  pub delete_last : last_of k left f id ≡ Some gone
  unfolding is_live
  delete_last = last_own strings k s w left id KindStore.gone (word_of (higher (known_version k s id) claim)) laid_left kept_left f
