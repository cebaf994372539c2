-- A row, test by test; all rows; and cells in which nothing is noted.
use Prim.Native.Nat.{ℕ, zero, suc, ◌+◌, ◌<◌, ◌≤◌}
use mathlib.Core.Path.{subst, ◌≡◌, refl, sym}
use mathlib.Core.Bool.{Bool, true, false, ◌&&◌}
use mathlib.Core.List.{List, []}
use native.Mathlib.Omega.{arith}
use Rattle.std.specs.Bool.{MatchBool}
use Rattle.std.specs.List.{AllWithin, HoldsAt}
use Rattle.std.specs.Simd.{first_chunks}
use Rattle.kind_table.proofs.Chunks.{chunk_row, chunks_length}
use lib.ListN.{take, length, get_or, replicate}
use mir.Syntax.{w64}
use mir.Val.{to_z}
use borrow.Author.Tests.{lt-ltb, le-ltb, lt-leb, le-leb}
use Rattle.base.specs.Bytes.{Bytes, both, either, all}
use Rattle.base.proofs.Split.{by_bool, by_eq, clash, both_left, both_right, both_no_left, both_no_right}
use Rattle.little.specs.Little.{value_at}
use Rattle.kind.specs.declared.Kind.{Kind}
use Rattle.osm_id.specs.Order.{same_id, id_of}
use Rattle.base.proofs.Tests.{and_both}
use Rattle.kind_table.specs.Words.{row_at, row_of_words, rows_from, rows_of, sound_table, held}
use Rattle.kind_table.proofs.Tables.{held_all, sound_fits}
use Rattle.compact_legal.specs.Whole.{whole_records}
use Rattle.kind_table.specs.declared.Row.{Row}
use Rattle.kind_store.specs.KindStore.{KindStore, is_live}
use Rattle.kind_sound.specs.Check.{comes_to, id_there, record_there, row_passes, sound_used, sound_kind_store}
use Rattle.kind_sound.specs.Cells.{Empty}

module _ (strings : ℕ) (k : Kind) (s : Bytes) (r : Row) where
  pub passes_there : is_live r.offset ≡ true → r.offset < length s → (t u : Bool)
      → t ≡ same_id (to_z w64 (value_at 8 s r.offset)) (id_of r.rank) → u ≡ comes_to strings k s r.offset r.offset 0 → (t && u) ≡ row_passes strings k s r
  unfolding row_passes record_there id_there both either
  passes_there l m t u p q = rw (l, lt-ltb r.offset (length s) m, ← p, ← q) (and_both t u)

  pub passes_past : is_live r.offset ≡ true → length s ≤ r.offset → false ≡ row_passes strings k s r
  unfolding row_passes record_there id_there both either
  passes_past l m = rw (l, le-ltb r.offset (length s) m)

  pub passes_deleted : is_live r.offset ≡ false → true ≡ row_passes strings k s r
  unfolding row_passes either
  passes_deleted l = rw l

-- all rows pass where each does
module _ (p : Row → Bool) (ws : List ℕ) where
  from_each : (i n : ℕ) → ((k : ℕ) → i ≤ k → k < i + n → p (row_at ws k) ≡ true) → all p (rows_from ws i n) ≡ true
  unfolding rows_from all both
  from_each i zero h = refl
  from_each i (suc n) h = rw (h i (omega arith) (omega arith)) (from_each (suc i) n (λ k l m. h k (omega arith) (omega arith)))

  to_each : (i n : ℕ) → all p (rows_from ws i n) ≡ true → (k : ℕ) → i ≤ k → k < i + n → p (row_at ws k) ≡ true
  unfolding rows_from all
  to_each i zero h k l m = absurd (omega arith)
  to_each i (suc n) h k l m =
      by_eq k i
      (λ e. rw e (both_left _ _ h))
      (λ d. to_each (suc i) n (both_right _ _ h) k (omega arith) (omega arith))

  -- the answer to the test of each of the rows as the library cuts them
  pub rows_decided : (n : ℕ) (b : Bool) (rows : List (List ℕ)) → rows ≡ first_chunks 3 n ws
      → MatchBool b (AllWithin (λ w. p (row_of_words w) ≡ true) rows 0 (length rows))
      ((k : ℕ) × (k < length rows) × HoldsAt (λ w. p (row_of_words w) ≡ false) rows k)
      → b ≡ all p (rows_of ws n)
  unfolding rows_of
  rows_decided n true rows e h =
      let len : length rows ≡ n = rw e (chunks_length n ws) in
      sym (from_each 0 n (λ k l m.
      let f : k < n = omega arith in
      let g : k < length rows = omega arith in
      subst (λ r. p r ≡ true) (rw e (chunk_row n k ws [] f)) (h k [] l g)))
  rows_decided n false rows e h =
      let len : length rows ≡ n = rw e (chunks_length n ws) in
      let m : h.0 < n = omega (arith, h.1) in
      let here : p (row_at ws h.0) ≡ false = subst (λ r. p r ≡ false) (rw e (chunk_row n h.0 ws [] m)) (h.2 []) in
      by_bool (all p (rows_from ws 0 n))
      (λ t. clash (to_each 0 n t h.0 (omega arith) (omega arith)) here)
      (λ f. sym f)

zeros : (n i : ℕ) → get_or {A = ℕ} (replicate n 0) i 0 ≡ 0
zeros zero i = refl
zeros (suc n) zero = refl
zeros (suc n) (suc i) = zeros n i

pub empty : (n : ℕ) (cells : List ℕ) → cells ≡ replicate n 0 → Empty cells
unfolding Empty
empty n cells e = rw e (zeros n)

-- the test, step by step
module _ (strings : ℕ) (k : Kind) (s : KindStore) where
  pub unsound_past : length s.arena < s.used → false ≡ sound_kind_store strings k s
  unfolding sound_kind_store both
  unsound_past h = rw (lt-leb s.used (length s.arena) h)

  pub unsound_order : sound_table s.table s.ids ≡ false → false ≡ sound_kind_store strings k s
  unfolding sound_kind_store sound_used
  unsound_order h = sym (both_no_right _ (both_no_right _ (both_no_left _ _ h)))

  pub sound_by : s.used ≤ length s.arena → sound_table s.table s.ids ≡ true → {b : Bool}
      → b ≡ both (whole_records strings k (take s.used s.arena)) (all (row_passes strings k (take s.used s.arena)) (rows_of s.table (held s.table s.ids)))
      → b ≡ sound_kind_store strings k s
  unfolding sound_kind_store sound_used both
  sound_by h t e = rw (le-leb s.used (length s.arena) h, t) (rw (held_all s.table s.ids (sound_fits s.table s.ids t)) at e)
