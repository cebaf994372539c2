-- The two lists of a kind: both in OSM order, no id on both, each known id on one; and a row's number on one.
use Rattle.std.specs.Prelude.{None, Option, Some}
use Prim.Native.Nat.{ℕ, zero, suc, ◌+◌, ◌<◌, ◌≤◌}
use mathlib.Core.Path.{subst, ◌≡◌, refl, sym, ◌∙◌, ap}
use mathlib.Core.Bool.{true, false, not, cond}
use mathlib.Core.Logic.{◌↔◌}
use mathlib.Core.List.{List, [], ◌∷◌}
use native.Mathlib.Omega.{arith}
use lib.ListN.{length, get_or}
use Rattle.base.proofs.Split.{by_bool, by_eq, by_lt, no}
use Rattle.kind_store.specs.KindStore.{is_live}
use Rattle.kind_table.specs.Rows.{rising_from, rising, find}
use Rattle.kind_table.specs.Words.{rows_of, sound_table}
use Rattle.kind_table.specs.declared.Row.{Row}
use Rattle.kind_table.proofs.Tables.{sound_fits, held_all}
use Rattle.kind_table.proofs.Maps.{from_head, from_tail, from_cons, from_rising, find_same, find_other, find_low}
use Rattle.kind_reading.specs.declared.Side.{Side}
use Rattle.kind_reading.specs.declared.Side.TheVariants.{Live, Deleted}
use Rattle.kind_reading.specs.Listed.{rows_read, is_on, rows_on, nth}
use Rattle.kind_reading.proofs.Walks.{on_more, on_other}

-- in a sound table the rows that are read are all its rows
pub rows_all : (table : List ℕ) (ids : ℕ) → sound_table table ids ≡ true → rows_read table ids ≡ rows_of table ids
rows_all table ids h = ap (rows_of table) (held_all table ids (sound_fits table ids h))

-- ---- both lists are in OSM order

from_lower : (j k : ℕ) (rs : List Row) → j ≤ k → rising_from k rs ≡ true → rising_from j rs ≡ true
unfolding rising_from
from_lower j k [] l h = refl
from_lower j k (r ∷ rs) l h = from_cons j r rs (omega (arith, from_head k r rs h)) (from_tail k r rs h)

module _ (side : Side) where
  from_on : (k : ℕ) (rs : List Row) → rising_from k rs ≡ true → rising_from k (rows_on side rs) ≡ true
  unfolding rows_on
  from_on k [] h = h
  from_on k (r ∷ rs) h =
      let g = from_on r.rank rs (from_tail k r rs h) in
      by_bool (is_on side r)
      (λ t. rw (on_more side r rs t) (from_cons k r (rows_on side rs) (from_head k r rs h) g))
      (λ t. rw (on_other side r rs t) (from_lower k r.rank (rows_on side rs) (omega (arith, from_head k r rs h)) g))

  pub on_rising : (rs : List Row) → rising rs ≡ true → rising (rows_on side rs) ≡ true
  unfolding rising rows_on
  on_rising [] h = refl
  on_rising (r ∷ rs) h =
      let g = from_on r.rank rs h in
      by_bool (is_on side r)
      (λ t. rw (on_more side r rs t) g)
      (λ t. rw (on_other side r rs t) (from_rising r.rank (rows_on side rs) g))

-- ---- each row is on one list

pub lists_all : (rs : List Row) → length (rows_on Live rs) + length (rows_on Deleted rs) ≡ length rs
unfolding rows_on
lists_all [] = refl
lists_all (r ∷ rs) =
    let n = lists_all rs in
    by_bool (is_live r.offset)
    (λ t. rw (on_more Live r rs t, on_other Deleted r rs (ap not t)) (omega arith))
    (λ t. rw (on_other Live r rs t, on_more Deleted r rs (ap not t)) (omega arith))

-- what is found, if it is on the list
abbrev pub if_on : Side → Option Row → Option Row
if_on side None = None
if_on side (Some r) = cond (is_on side r) (Some r) None

-- a list finds what the rows find, if it is on the list
pub find_on : (side : Side) (k : ℕ) (rs : List Row) → rising rs ≡ true → find k (rows_on side rs) ≡ if_on side (find k rs)
unfolding rising rows_on find
find_on side k [] h = refl
find_on side k (r ∷ rs) h =
    let g = find_on side k rs (from_rising r.rank rs h) in
    by_eq k r.rank
    (λ e. by_bool (is_on side r)
    (λ t. rw (on_more side r rs t) (subst (λ j. find j (r ∷ rows_on side rs) ≡ if_on side (find j (r ∷ rs))) (sym e) (rw (find_same r (rows_on side rs), find_same r rs, t))))
    (λ t. rw (on_other side r rs t) (subst (λ j. find j (rows_on side rs) ≡ if_on side (find j (r ∷ rs))) (sym e) (rw (find_same r rs, t) (find_low r.rank r.rank (rows_on side rs) (omega arith) (from_on side r.rank rs h))))))
    (λ d. by_bool (is_on side r)
    (λ t. rw (on_more side r rs t, find_other k r (rows_on side rs) d, find_other k r rs d) g)
    (λ t. rw (on_other side r rs t, find_other k r rs d) g))

module _ (k : ℕ) (rs : List Row) (h : rising rs ≡ true) where
  -- what a list finds, the rows find, and it is on the list
  pub on_found : (side : Side) (r : Row) → find k (rows_on side rs) ≡ Some r → (find k rs ≡ Some r) × (is_on side r ≡ true)
  on_found side r e = go (find k rs) refl (sym (find_on side k rs h) ∙ e)
    where
      go : (o : Option Row) → find k rs ≡ o → if_on side o ≡ Some r → (find k rs ≡ Some r) × (is_on side r ≡ true)
      go None f g = no cc
      go (Some q) f g =
          by_bool (is_on side q)
          (λ t. let x : Some q ≡ Some r = rw t at g in let y : q ≡ r = cc in (f ∙ x, rw (← y) t))
          (λ t. let x : None ≡ Some r = rw t at g in no cc)

  -- a live row is on the live list and not on the deleted one, any other on the deleted list and not on the live one
  pub find_live : (r : Row) → find k rs ≡ Some r → is_live r.offset ≡ true → (find k (rows_on Live rs) ≡ Some r) × (find k (rows_on Deleted rs) ≡ None)
  find_live r e t = (find_on Live k rs h ∙ rw (e, t), find_on Deleted k rs h ∙ rw (e, t))

  pub find_deleted : (r : Row) → find k rs ≡ Some r → is_live r.offset ≡ false → (find k (rows_on Live rs) ≡ None) × (find k (rows_on Deleted rs) ≡ Some r)
  find_deleted r e t = (find_on Live k rs h ∙ rw (e, t), find_on Deleted k rs h ∙ rw (e, t))

  -- an id that is not known is on neither
  pub find_neither : find k rs ≡ None → (side : Side) → find k (rows_on side rs) ≡ None
  find_neither e side = find_on side k rs h ∙ rw e

-- ---- by number

pub nth_at : (rs : List Row) (n : ℕ) (d : Row) → n < length rs → nth rs n ≡ Some (get_or rs n d)
unfolding nth
nth_at [] n d l = absurd (omega arith)
nth_at (r ∷ rs) zero d l = refl
nth_at (r ∷ rs) (suc n) d l = nth_at rs n d (omega arith)

nth_past : (rs : List Row) (n : ℕ) → length rs ≤ n → nth rs n ≡ None
unfolding nth
nth_past [] n l = refl
nth_past (r ∷ rs) zero l = absurd (omega arith)
nth_past (r ∷ rs) (suc n) l = nth_past rs n (omega arith)

-- "21 number not below its list's count"
pub missing_is : (rs : List Row) (n : ℕ) → (nth rs n ≡ None) ↔ (length rs ≤ n)
missing_is rs n = (
  λ e. by_lt n (length rs) (λ l. let d : Row = record { rank = 0; offset = 0; floor = 0 } in let z : Some (get_or rs n d) ≡ None = sym (nth_at rs n d l) ∙ e in no (cc)) (λ l. l),
  nth_past rs n,
)
