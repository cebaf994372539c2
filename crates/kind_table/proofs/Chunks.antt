-- Rows as the library cuts them off the words, three words each.
use Prim.Native.Nat.{ℕ, zero, suc, ◌+◌, ◌*◌, ◌<◌, ◌≤◌}
use mathlib.Core.Path.{◌≡◌, refl, ◌∙◌, ap}
use mathlib.Core.List.{List, [], ◌∷◌}
use native.Mathlib.Omega.{arith}
use lib.ListN.{length, get_or, take, drop}
use lib.Seq.{get_or-take}
use Rattle.std.specs.Prelude.{map}
use Rattle.std.specs.Simd.{first_chunks}
use Rattle.std.proofs.lemmas.List.{get_or-drop, drop-drop}
use Rattle.kind_table.specs.declared.Row.{Row}
use Rattle.kind_table.specs.Words.{row_at, row_of_words, rows_from, rows_of}

-- the first m of k rows
pub chunks_taken : (m k : ℕ) (ws : List ℕ) → m ≤ k → take m (first_chunks 3 k ws) ≡ first_chunks 3 m ws
chunks_taken zero k ws h = refl
chunks_taken (suc m) zero ws h = absurd (omega arith)
chunks_taken (suc m) (suc k) ws h = ap (λ t. take 3 ws ∷ t) (chunks_taken m k (drop 3 ws) (omega arith))

pub chunks_length : (k : ℕ) (ws : List ℕ) → length (first_chunks 3 k ws) ≡ k
chunks_length zero ws = refl
chunks_length (suc k) ws = ap suc (chunks_length k (drop 3 ws))

-- the i-th row's words
pub chunk_at : (k i : ℕ) (ws : List ℕ) (d : List ℕ) → i < k → get_or (first_chunks 3 k ws) i d ≡ take 3 (drop (3 * i) ws)
chunk_at zero i ws d h = absurd (omega arith)
chunk_at (suc k) zero ws d h = refl
chunk_at (suc k) (suc i) ws d h =
    let e : 3 + 3 * i ≡ 3 * suc i = omega arith in
    chunk_at k i (drop 3 ws) d (omega arith) ∙ ap (take 3) (drop-drop (3 * i) 3 ws ∙ ap (λ n. drop n ws) e)

pub word_at : (k i j : ℕ) (ws : List ℕ) (d : List ℕ) → i < k → j < 3 → get_or (get_or (first_chunks 3 k ws) i d) j 0 ≡ get_or ws (3 * i + j) 0
word_at k i j ws d h l = rw (chunk_at k i ws d h, get_or-take 3 (drop (3 * i) ws) j 0 l, get_or-drop)

-- the row of those three words
pub chunk_row : (k i : ℕ) (ws d : List ℕ) → i < k → row_of_words (get_or (first_chunks 3 k ws) i d) ≡ row_at ws i
chunk_row k i ws d h =
    let o : 3 * i + 0 ≡ 3 * i = omega arith in
    rw (rw o at (word_at k i 0 ws d h (omega arith)), word_at k i 1 ws d h (omega arith), word_at k i 2 ws d h (omega arith))

pub row_of_chunk : (k i : ℕ) (ws d : List ℕ) (r : Row) → i < k → r ≡ row_of_words (get_or (first_chunks 3 k ws) i d) → r ≡ row_at ws i
row_of_chunk k i ws d r h e = e ∙ chunk_row k i ws d h

-- a row's rank
pub rank_of_chunk : (n i : ℕ) (ws : List ℕ) {rows : List (List ℕ)} → rows ≡ first_chunks 3 n ws → i < n → get_or (get_or rows i []) 0 0 ≡ get_or ws (3 * i) 0
rank_of_chunk n i ws e h = let o : 3 * i + 0 ≡ 3 * i = omega arith in rw e (rw o at (word_at n i 0 ws [] h (omega arith)))

-- the rows are the cut rows, each of its three words
from_chunks : (n i : ℕ) (ws : List ℕ) → rows_from ws i n ≡ map row_of_words (first_chunks 3 n (drop (3 * i) ws))
unfolding rows_from
from_chunks zero i ws = refl
from_chunks (suc n) i ws =
    let e : 3 * i + 3 ≡ 3 * suc i = omega arith in
    let l : i < suc i = omega arith in
    let h : row_of_words (take 3 (drop (3 * i) ws)) ≡ row_at ws i = rw (chunk_at (suc i) i ws [] l) at (chunk_row (suc i) i ws [] l) in
    rw (drop-drop 3 (3 * i) ws, e, h) (ap (λ t. row_at ws i ∷ t) (from_chunks n (suc i) ws))

pub rows_of_chunks : (n : ℕ) (ws : List ℕ) → rows_of ws n ≡ map row_of_words (first_chunks 3 n ws)
unfolding rows_of
rows_of_chunks n ws = from_chunks n 0 ws
