-- A table as it is lent: three words a row. The words past the counted rows belong to the table too, and keep what they hold.
use Rattle.std.specs.Prelude.{ℕ, zero, suc, true, false, ◌+◌, ◌*◌, ◌/◌, ◌^◌, min, Bool, cond, List, [], ◌∷◌, ◌++◌, leb, ltb, eqb, length, get_or, take, drop, Err, None, Ok, Option, Result, Some}
use Rattle.std.proofs.Math.Seq.{slice}
use Rattle.base.specs.Bytes.{both}
use Rattle.kind_table.specs.declared.Row.{Row}
use Rattle.kind_table.specs.Rows.{rising}

abbrev pub rank_at : List ℕ → ℕ → ℕ
rank_at ws i = get_or ws (3 * i) 0

-- the i-th row; a word past the end is 0
abbrev pub row_at : List ℕ → ℕ → Row
row_at ws i = record { rank = rank_at ws i; offset = get_or ws (3 * i + 1) 0; floor = get_or ws (3 * i + 2) 0 }

-- the three words of a row
abbrev pub words_in : Row → List ℕ
words_in r = r.rank ∷ r.offset ∷ r.floor ∷ []

-- the row of three words
abbrev pub row_of_words : List ℕ → Row
row_of_words w = record { rank = get_or w 0 0; offset = get_or w 1 0; floor = get_or w 2 0 }

-- a row's offset: below 2^63 where its record starts, else the id is deleted
abbrev pub record_offset : ℕ → Option ℕ
record_offset offset = cond (ltb offset (2 ^ 63)) (Some offset) None

-- n rows from the i-th on
unfoldable pub rows_from : List ℕ → ℕ → ℕ → List Row
rows_from ws i zero = []
rows_from ws i (suc n) = row_at ws i ∷ rows_from ws (suc i) n

unfoldable pub rows_of : List ℕ → ℕ → List Row
rows_of ws count = rows_from ws 0 count

unfoldable pub words_of : List Row → List ℕ
words_of [] = []
words_of (r ∷ rs) = r.rank ∷ r.offset ∷ r.floor ∷ words_of rs

-- "counts within lent sizes", "known ids strictly in OSM order"
unfoldable pub sound_table : List ℕ → ℕ → Bool
sound_table ws count = both (leb (3 * count) (length ws)) (rising (rows_of ws count))

-- ---- the search. Each call tests that its tables are sound before it searches one (22), and there `lookup` is `position_of` of the rows
-- (proofs/Tables, `lookup_is`). What the search by halves answers in other words is set out too, so that its promise has no condition.

-- the rows that are searched: those counted, as far as the words go
unfoldable pub held : List ℕ → ℕ → ℕ
held ws count = min count (length ws / 3)

-- where a rank belongs among the rows from lo up to hi, by halves; a unit of fuel for each row is enough
unfoldable pub halve : ℕ → List ℕ → ℕ → ℕ → ℕ → ℕ
halve zero ws rank lo hi = lo
halve (suc fuel) ws rank lo hi =
    cond (ltb lo hi)
    (cond (ltb (rank_at ws ((lo + hi) / 2)) rank) (halve fuel ws rank (suc ((lo + hi) / 2)) hi) (halve fuel ws rank lo ((lo + hi) / 2)))
    lo

-- the place p among n rows, and whether the row of the rank stands there
unfoldable pub answer_at : List ℕ → ℕ → ℕ → ℕ → Result ℕ ℕ
answer_at ws n rank p = cond (both (ltb p n) (eqb (rank_at ws p) rank)) (Ok p) (Err p)

unfoldable pub lookup : List ℕ → ℕ → ℕ → Result ℕ ℕ
lookup ws count rank = answer_at ws (held ws count) rank (halve (held ws count) ws rank 0 (held ws count))

-- the i-th of n rows, or none
abbrev pub row_given : List ℕ → ℕ → ℕ → Option Row
row_given ws n i = cond (ltb i n) (Some (row_at ws i)) None

-- the same of what a search found
abbrev pub row_by : List ℕ → ℕ → Result ℕ ℕ → Option Row
row_by ws n (Ok i) = row_given ws n i
row_by ws n (Err p) = None

-- the row that a search found
abbrev pub row_found : List ℕ → Result ℕ ℕ → Option Row
row_found ws (Ok i) = Some (row_at ws i)
row_found ws (Err p) = None

-- ---- a row stored

-- a row over the i-th
unfoldable pub row_over : List ℕ → ℕ → Row → List ℕ
row_over ws i row = take (3 * i) ws ++ (words_of (row ∷ []) ++ drop (3 * i + 3) ws)

-- a row before the p-th of n rows: the rows before, the row, the rows after, the rest
unfoldable pub inserted : List ℕ → ℕ → ℕ → Row → List ℕ
inserted ws p n row = take (3 * p) ws ++ (words_of (row ∷ []) ++ (slice (3 * p) (3 * n) ws ++ drop (3 * n + 3) ws))

-- what storing a row does: over the row of its rank, before the rows of larger ranks, or nothing where there is no room for one more
pub data Put : Type 0 where
  Replaced : Put
  Inserted : Put
  Full : Put

-- the words and the answer after a row was stored
pub record Stored : Type 0 where
  pub words : List ℕ
  pub answer : Put

unfoldable pub stored_at : List ℕ → ℕ → Row → Result ℕ ℕ → Stored
stored_at ws count row (Ok i) = record { words = row_over ws i row; answer = Replaced }
stored_at ws count row (Err p) =
    cond (leb (3 * suc count) (length ws))
    (record { words = inserted ws p count row; answer = Inserted })
    (record { words = ws; answer = Full })

-- a row of a known rank replaced, of a new rank inserted; or 14, "new id, ids full", and nothing changed
unfoldable pub stored : List ℕ → ℕ → Row → Stored
stored ws count row = stored_at ws count row (lookup ws count row.rank)

-- the rows that are counted after it
unfoldable pub count_after : Put → ℕ → ℕ
count_after Replaced count = count
count_after Inserted count = suc count
count_after Full count = count

-- whether a row was stored
abbrev pub is_stored : Put → Bool
is_stored Replaced = true
is_stored Inserted = true
is_stored Full = false

-- the words, the rows that are counted and whether the row is stored, after it
pub record TableAfter : Type 0 where
  pub words : List ℕ
  pub count : ℕ
  pub answer : Bool

abbrev pub table_by : ℕ → Stored → TableAfter
table_by count s = record { words = s.words; count = count_after s.answer count; answer = is_stored s.answer }

unfoldable pub table_after : List ℕ → ℕ → Row → TableAfter
table_after ws count row = table_by count (stored ws count row)
