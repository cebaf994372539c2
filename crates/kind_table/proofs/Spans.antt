-- Rows and the words that hold them: one from the other, and parts of the one as parts of the other.
use Prim.Native.Nat.{ℕ, zero, suc, ◌+◌, ◌*◌, ◌<◌, ◌≤◌}
use mathlib.Core.Path.{◌≡◌, refl, sym, ◌∙◌, ap}
use mathlib.Core.List.{List, [], ◌∷◌, ◌++◌, append_assoc}
use native.Mathlib.Omega.{arith}
use lib.ListN.{length, get_or, take, drop, length-append, length-take, length-drop, take-append-drop}
use lib.Seq.{take-take, take-nil, drop-nil, drop-append-le, length-take-le, slice}
use Rattle.kind_table.specs.declared.Row.{Row}
use Rattle.kind_table.specs.Words.{row_at, rows_from, rows_of, words_of, row_over, inserted}

-- ---- rows of words

from_length : (ws : List ℕ) (i n : ℕ) → length (rows_from ws i n) ≡ n
unfolding rows_from
from_length ws i zero = refl
from_length ws i (suc n) = ap suc (from_length ws (suc i) n)

pub rows_length : (ws : List ℕ) (n : ℕ) → length (rows_of ws n) ≡ n
unfolding rows_of
rows_length ws n = from_length ws 0 n

from_at : (ws : List ℕ) (i n j : ℕ) (d : Row) → j < n → get_or (rows_from ws i n) j d ≡ row_at ws (i + j)
unfolding rows_from
from_at ws i zero j d h = absurd (omega arith)
from_at ws i (suc n) zero d h = let e : i ≡ i + 0 = omega arith in ap (row_at ws) e
from_at ws i (suc n) (suc j) d h = let e : suc i + j ≡ i + suc j = omega arith in from_at ws (suc i) n j d (omega arith) ∙ ap (row_at ws) e

pub rows_at : (ws : List ℕ) (n j : ℕ) (d : Row) → j < n → get_or (rows_of ws n) j d ≡ row_at ws j
unfolding rows_of
rows_at ws n j d h = let e : 0 + j ≡ j = omega arith in from_at ws 0 n j d h ∙ ap (row_at ws) e

-- the rows from one further on are the rows of the words three further on
from_shift : (a b c : ℕ) (ws : List ℕ) (i n : ℕ) → rows_from (a ∷ b ∷ c ∷ ws) (suc i) n ≡ rows_from ws i n
unfolding rows_from
from_shift a b c ws i zero = refl
from_shift a b c ws i (suc n) =
    let x : 3 * suc i ≡ suc (suc (suc (3 * i))) = omega arith in
    let y : 3 * suc i + 1 ≡ suc (suc (suc (3 * i + 1))) = omega arith in
    let z : 3 * suc i + 2 ≡ suc (suc (suc (3 * i + 2))) = omega arith in
    rw (y, z, x) (ap (λ t. row_at ws i ∷ t) (from_shift a b c ws (suc i) n))

pub rows_cons : (r : Row) (ws : List ℕ) (n : ℕ) → rows_of (r.rank ∷ r.offset ∷ r.floor ∷ ws) (suc n) ≡ r ∷ rows_of ws n
unfolding rows_of rows_from
rows_cons r ws n = ap (λ t. r ∷ t) (from_shift r.rank r.offset r.floor ws 0 n)

rows_back : (rs : List Row) (ws : List ℕ) → rows_of (words_of rs ++ ws) (length rs) ≡ rs
unfolding words_of rows_of rows_from
rows_back [] ws = refl
rows_back (r ∷ rs) ws = rows_cons r (words_of rs ++ ws) (length rs) ∙ ap (λ t. r ∷ t) (rows_back rs ws)

-- the rows of the words of n rows are those rows
pub rows_words : (rs : List Row) (ws : List ℕ) (n : ℕ) → length rs ≡ n → rows_of (words_of rs ++ ws) n ≡ rs
rows_words rs ws n e = rw (← e) (rows_back rs ws)

-- ---- words of rows

pub words_rows : (ws : List ℕ) (n : ℕ) → 3 * n ≤ length ws → words_of (rows_of ws n) ≡ take (3 * n) ws
unfolding words_of rows_of rows_from
words_rows ws zero h = refl
words_rows [] (suc n) h = absurd (omega arith)
words_rows (a ∷ []) (suc n) h = absurd (omega arith)
words_rows (a ∷ b ∷ []) (suc n) h = absurd (omega arith)
words_rows (a ∷ b ∷ c ∷ ws) (suc n) h =
    let e : 3 * suc n ≡ suc (suc (suc (3 * n))) = omega arith in
    rw (e, from_shift a b c ws 0 n) (ap (λ t. a ∷ b ∷ c ∷ t) (words_rows ws n (omega arith)))

pub words_append : (rs ss : List Row) → words_of (rs ++ ss) ≡ words_of rs ++ words_of ss
unfolding words_of
words_append [] ss = refl
words_append (r ∷ rs) ss = ap (λ t. r.rank ∷ r.offset ∷ r.floor ∷ t) (words_append rs ss)

pub words_length : (rs : List Row) → length (words_of rs) ≡ 3 * length rs
unfolding words_of
words_length [] = refl
words_length (r ∷ rs) = omega (arith, words_length rs)

pub words_take : (p : ℕ) (rs : List Row) → words_of (take p rs) ≡ take (3 * p) (words_of rs)
unfolding words_of
words_take zero rs = refl
words_take (suc p) [] = sym (take-nil (3 * suc p))
words_take (suc p) (r ∷ rs) =
    let e : 3 * suc p ≡ suc (suc (suc (3 * p))) = omega arith in
    rw e (ap (λ t. r.rank ∷ r.offset ∷ r.floor ∷ t) (words_take p rs))

pub words_drop : (p : ℕ) (rs : List Row) → words_of (drop p rs) ≡ drop (3 * p) (words_of rs)
unfolding words_of
words_drop zero rs = refl
words_drop (suc p) [] = sym (drop-nil (3 * suc p))
words_drop (suc p) (r ∷ rs) = let e : 3 * suc p ≡ suc (suc (suc (3 * p))) = omega arith in rw e (words_drop p rs)

-- ---- a row among rows

-- words from f up to t, and those from t on
parts : (f t : ℕ) (ws : List ℕ) → f ≤ t → t ≤ length ws → slice f t ws ++ drop t ws ≡ drop f ws
parts f t ws h k =
    sym (drop-append-le f (take t ws) (drop t ws) (omega (arith, length-take-le t ws k))) ∙ ap (drop f) (take-append-drop t ws)

module _ (ws : List ℕ) (n : ℕ) (row : Row) (fits : 3 * n ≤ length ws) where
  -- the words of the rows before p, a row, and the rows from q on
  around : (p q : ℕ) → p ≤ n → words_of (take p (rows_of ws n) ++ (row ∷ drop q (rows_of ws n))) ≡ take (3 * p) ws ++ (words_of (row ∷ []) ++ slice (3 * q) (3 * n) ws)
  unfolding words_of
  around p q h =
      rw (words_append, words_take, words_drop, words_rows ws n, take-take (3 * p) (3 * n) ws (omega arith))

  pub words_over : (p : ℕ) → p < n → row_over ws p row ≡ words_of (take p (rows_of ws n) ++ (row ∷ drop (suc p) (rows_of ws n))) ++ drop (3 * n) ws
  unfolding row_over
  words_over p h =
      let e : 3 * p + 3 ≡ 3 * suc p = omega arith in
      rw (around p (suc p) (omega arith), e, ← parts (3 * suc p) (3 * n) ws (omega arith) fits)
      (simp append_assoc)

  pub words_inserted : (p : ℕ) → p ≤ n → inserted ws p n row ≡ words_of (take p (rows_of ws n) ++ (row ∷ drop p (rows_of ws n))) ++ drop (3 * suc n) ws
  unfolding inserted
  words_inserted p h =
      let e : 3 * n + 3 ≡ 3 * suc n = omega arith in
      rw (around p p h, e) (simp append_assoc)

  pub length_over : (p : ℕ) → p < n → length (row_over ws p row) ≡ length ws
  unfolding row_over words_of
  length_over p h = simp (length-append, length-take, length-drop) (omega arith)

  pub length_inserted : (p : ℕ) → p ≤ n → 3 * suc n ≤ length ws → length (inserted ws p n row) ≡ length ws
  unfolding inserted words_of
  length_inserted p h k = simp (length-append, length-take, length-drop) (omega arith)
