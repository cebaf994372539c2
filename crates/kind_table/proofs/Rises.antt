-- The order check: the rows that the library cuts off have rising ranks where each has a smaller rank than the next.
use Prim.Native.Nat.{ℕ, ◌*◌, ◌<◌, ◌≤◌}
use mathlib.Core.Path.{◌≡◌, refl, ap}
use mathlib.Core.Bool.{Bool, false}
use mathlib.Core.List.{List, [], ◌∷◌}
use lib.Dec.{leb, ltb}
use lib.ListN.{length, get_or}
use borrow.Author.Tests.{le-leb, lt-leb}
use Rattle.std.specs.Prelude.{map}
use Rattle.std.specs.Simd.{first_chunks}
use Rattle.base.specs.Bytes.{both}
use Rattle.base.proofs.Neighbours.{pass_after, neighbours_pass}
use Rattle.base.proofs.Split.{both_no_left}
use Rattle.kind_table.specs.Rows.{rising_from, rising}
use Rattle.kind_table.specs.Words.{row_of_words, rows_of, sound_table}
use Rattle.kind_table.proofs.Chunks.{rows_of_chunks}

-- the test of two neighbours, as the code makes it on their words
abbrev pub rank_less : List ℕ → List ℕ → Bool
rank_less a b = ltb (get_or a 0 0) (get_or b 0 0)

rises_after : (a : List ℕ) (rows : List (List ℕ)) → rising_from (get_or a 0 0) (map row_of_words rows) ≡ pass_after rank_less a rows
unfolding rising_from pass_after
rises_after a [] = refl
rises_after a (b ∷ rows) = ap (both (rank_less a b)) (rises_after b rows)

rises : (rows : List (List ℕ)) → rising (map row_of_words rows) ≡ neighbours_pass rank_less rows
unfolding rising neighbours_pass
rises [] = refl
rises (a ∷ rows) = rises_after a rows

module _ (ws : List ℕ) (n : ℕ) where
  pub too_many : length ws < 3 * n → sound_table ws n ≡ false
  unfolding sound_table
  too_many h = both_no_left (leb (3 * n) (length ws)) (rising (rows_of ws n)) (lt-leb (3 * n) (length ws) h)

  pub sound_where_rises : 3 * n ≤ length ws → sound_table ws n ≡ neighbours_pass rank_less (first_chunks 3 n ws)
  unfolding sound_table both
  sound_where_rises h = rw (le-leb (3 * n) (length ws) h, rows_of_chunks n ws) (rises (first_chunks 3 n ws))
