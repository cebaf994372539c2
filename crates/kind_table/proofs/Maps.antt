-- Rows as a map from ranks: what is found after a row was put, that ranks go on rising, and that rising rows are what their ranks find.
use Rattle.std.proofs.lemmas.Option.{none-some, same_Some}
use Rattle.std.specs.Prelude.{None, Some}
use Prim.Native.Nat.{ℕ, zero, suc, ◌<◌, ◌≤◌}
use mathlib.Core.Path.{subst, ◌≡◌, refl, sym, ◌∙◌, ap}
use mathlib.Core.Bool.{Bool, true, cond}
use mathlib.Core.List.{List, [], ◌∷◌, ◌++◌}
use native.Mathlib.Omega.{arith}
use lib.Dec.{eqb}
use lib.ListN.{length, get_or, take, drop, length-append, length-take, length-drop}
use borrow.Author.Tests.{lt-ltb, le-ltb, ltb-true, eq-eqb, ne_eqb}
use Rattle.base.specs.Bytes.{all}
use Rattle.base.proofs.Lists.{all_head, all_tail}
use Rattle.base.proofs.Split.{by_bool, by_lt, by_eq, both_left, both_right, both_of}
use Rattle.kind_table.specs.declared.Row.{Row}
use Rattle.kind_table.specs.Rows.{rising_from, rising, find, put, smaller}

-- ---- ranks that rise

-- the first rank is above k, and the others rise from it
pub from_head : (k : ℕ) (r : Row) (rs : List Row) → rising_from k (r ∷ rs) ≡ true → k < r.rank
unfolding rising_from
from_head k r rs h = ltb-true k r.rank (both_left _ _ h)

pub from_tail : (k : ℕ) (r : Row) (rs : List Row) → rising_from k (r ∷ rs) ≡ true → rising_from r.rank rs ≡ true
unfolding rising_from
from_tail k r rs h = both_right _ _ h

pub from_cons : (k : ℕ) (r : Row) (rs : List Row) → k < r.rank → rising_from r.rank rs ≡ true → rising_from k (r ∷ rs) ≡ true
unfolding rising_from
from_cons k r rs h g = both_of (lt-ltb k r.rank h) g

pub from_rising : (k : ℕ) (rs : List Row) → rising_from k rs ≡ true → rising rs ≡ true
unfolding rising
from_rising k [] h = refl
from_rising k (r ∷ rs) h = from_tail k r rs h

-- every rank is above k
pub from_all : (k : ℕ) (rs : List Row) → rising_from k rs ≡ true → (i : ℕ) (d : Row) → i < length rs → k < (get_or rs i d).rank
from_all k [] h i d g = absurd (omega arith)
from_all k (r ∷ rs) h zero d g = from_head k r rs h
from_all k (r ∷ rs) h (suc i) d g = omega (arith, from_head k r rs h, from_all r.rank rs (from_tail k r rs h) i d (omega arith))

-- a rank is below every later one
pub climbs : (rs : List Row) → rising rs ≡ true → (i j : ℕ) (d : Row) → i < j → j < length rs → (get_or rs i d).rank < (get_or rs j d).rank
unfolding rising
climbs [] h i j d l g = absurd (omega arith)
climbs (r ∷ rs) h zero zero d l g = absurd (omega arith)
climbs (r ∷ rs) h zero (suc j) d l g = from_all r.rank rs h j d (omega arith)
climbs (r ∷ rs) h (suc i) zero d l g = absurd (omega arith)
climbs (r ∷ rs) h (suc i) (suc j) d l g = climbs rs (from_rising r.rank rs h) i j d (omega arith) (omega arith)

-- ---- what a rank finds

pub find_same : (r : Row) (rs : List Row) → find r.rank (r ∷ rs) ≡ Some r
unfolding find
find_same r rs = rw (eq-eqb r.rank r.rank refl)

pub find_other : (k : ℕ) (r : Row) (rs : List Row) → (k ≡ r.rank → ⊥) → find k (r ∷ rs) ≡ find k rs
unfolding find
find_other k r rs d = rw (ne_eqb k r.rank d)

-- what is found has the rank
pub find_rank : (k : ℕ) (rs : List Row) (r : Row) → find k rs ≡ Some r → r.rank ≡ k
unfolding find
find_rank k [] r e = absurd (none-some r e)
find_rank k (q ∷ rs) r e =
    by_eq k q.rank
    (λ i. let x : Some q ≡ Some r = sym (find_same q rs) ∙ subst (λ j. find j (q ∷ rs) ≡ Some r) i e in cc (same_Some q r x))
    (λ d. find_rank k rs r (sym (find_other k q rs d) ∙ e))

-- what is found passes what every row passes
pub find_passes : (p : Row → Bool) (k : ℕ) (rs : List Row) (r : Row) → all p rs ≡ true → find k rs ≡ Some r → p r ≡ true
unfolding find
find_passes p k [] r h e = absurd (none-some r e)
find_passes p k (q ∷ rs) r h e =
    by_bool (eqb k q.rank)
    (λ t. let x : Some q ≡ Some r = rw t at e in let y : q ≡ r = same_Some q r x in rw (← y) (all_head p q rs h))
    (λ t. find_passes p k rs r (all_tail p q rs h) (rw t at e))

-- no rank below the first is found
pub find_low : (j k : ℕ) (rs : List Row) → j ≤ k → rising_from k rs ≡ true → find j rs ≡ None
unfolding find
find_low j k [] l h = refl
find_low j k (r ∷ rs) l h =
    let g : k < r.rank = from_head k r rs h in
    find_other j r rs (λ e. omega arith) ∙ find_low j r.rank rs (omega arith) (from_tail k r rs h)

-- ---- a row put

pub put_nil : (n : Row) → put n [] ≡ n ∷ []
unfolding put
put_nil n = refl

pub put_before : (n r : Row) (rs : List Row) → n.rank < r.rank → put n (r ∷ rs) ≡ n ∷ r ∷ rs
unfolding put
put_before n r rs h = rw (lt-ltb n.rank r.rank h)

pub put_over : (n r : Row) (rs : List Row) → n.rank ≡ r.rank → put n (r ∷ rs) ≡ n ∷ rs
unfolding put
put_over n r rs e = rw (le-ltb n.rank r.rank (omega arith), eq-eqb n.rank r.rank e)

pub put_behind : (n r : Row) (rs : List Row) → r.rank < n.rank → put n (r ∷ rs) ≡ r ∷ put n rs
unfolding put
put_behind n r rs h = rw (le-ltb n.rank r.rank (omega arith), ne_eqb n.rank r.rank (λ e. omega arith))

-- before, over or behind
by_rank : {C : Type 0} (n r : Row) → (n.rank < r.rank → C) → (n.rank ≡ r.rank → C) → (r.rank < n.rank → C) → C
by_rank n r f g h = by_lt n.rank r.rank f (λ l. by_eq n.rank r.rank g (λ d. h (omega arith)))

-- what is found after a row was put: that row at its rank, and what was found before at any other
pub find_put : (k : ℕ) (n : Row) (rs : List Row) → find k (put n rs) ≡ cond (eqb k n.rank) (Some n) (find k rs)
unfolding find
find_put k n [] = rw (put_nil n)
find_put k n (r ∷ rs) =
    by_rank n r
    (λ l. rw (put_before n r rs l))
    (λ e. rw (put_over n r rs e, ← e) (by_bool (eqb k n.rank) (λ t. rw t) (λ t. rw t)))
    (λ l. rw (put_behind n r rs l, find_put k n rs) (by_eq k r.rank
    (λ e. rw (eq-eqb k r.rank e, ne_eqb k n.rank (λ i. omega arith)))
    (λ d. rw (ne_eqb k r.rank d))))

pub find_put_same : (n : Row) (rs : List Row) → find n.rank (put n rs) ≡ Some n
find_put_same n rs = find_put n.rank n rs ∙ rw (eq-eqb n.rank n.rank refl)

pub find_put_other : (k : ℕ) (n : Row) (rs : List Row) → (k ≡ n.rank → ⊥) → find k (put n rs) ≡ find k rs
find_put_other k n rs d = find_put k n rs ∙ rw (ne_eqb k n.rank d)

from_put : (k : ℕ) (n : Row) (rs : List Row) → k < n.rank → rising_from k rs ≡ true → rising_from k (put n rs) ≡ true
unfolding rising_from
from_put k n [] l h = rw (put_nil n) (from_cons k n [] l refl)
from_put k n (r ∷ rs) l h =
    let g = from_tail k r rs h in
    by_rank n r
    (λ b. rw (put_before n r rs b) (from_cons k n (r ∷ rs) l (from_cons n.rank r rs b g)))
    (λ e. rw (put_over n r rs e) (from_cons k n rs l (rw e g)))
    (λ b. rw (put_behind n r rs b) (from_cons k r (put n rs) (from_head k r rs h) (from_put r.rank n rs b g)))

-- a row that is put keeps the ranks rising
pub rising_put : (n : Row) (rs : List Row) → rising rs ≡ true → rising (put n rs) ≡ true
unfolding rising rising_from
rising_put n [] h = rw (put_nil n)
rising_put n (r ∷ rs) h =
    by_rank n r
    (λ l. rw (put_before n r rs l) (from_cons n.rank r rs l h))
    (λ e. rw (put_over n r rs e, e) h)
    (λ l. rw (put_behind n r rs l) (from_put r.rank n rs l h))

-- rising rows that find the same are the same rows
pub rising_same : (rs ss : List Row) → rising rs ≡ true → rising ss ≡ true → ((k : ℕ) → find k rs ≡ find k ss) → rs ≡ ss
unfolding rising find
rising_same [] [] h g e = refl
rising_same [] (s ∷ ss) h g e = absurd (none-some s (e s.rank ∙ find_same s ss))
rising_same (r ∷ rs) [] h g e = absurd (none-some r (sym (e r.rank) ∙ find_same r rs))
rising_same (r ∷ rs) (s ∷ ss) h g e =
    by_rank r s
    (λ l. absurd (out r s rs ss l g (e r.rank)))
    (λ i.
    let x : r ≡ s = same_Some r s (sym (find_same r rs) ∙ e r.rank ∙ subst (λ j. find j (s ∷ ss) ≡ Some s) (sym i) (find_same s ss)) in
    let y : rs ≡ ss = rising_same rs ss (from_rising r.rank rs h) (from_rising s.rank ss g) (λ k. rest k i) in
    cc)
    (λ l. absurd (out s r ss rs l h (sym (e s.rank))))
  where
    out : (a b : Row) (xs ys : List Row) → a.rank < b.rank → rising_from b.rank ys ≡ true → find a.rank (a ∷ xs) ≡ find a.rank (b ∷ ys) → ⊥
    out a b xs ys l t f =
        let x : find a.rank (b ∷ ys) ≡ None = find_other a.rank b ys (λ i. omega arith) ∙ find_low a.rank b.rank ys (omega arith) t in
        none-some a (sym x ∙ sym f ∙ find_same a xs)

    rest : (k : ℕ) → r.rank ≡ s.rank → find k rs ≡ find k ss
    rest k i =
        by_eq k r.rank
        (λ j. find_low k r.rank rs (omega arith) h ∙ sym (find_low k s.rank ss (omega arith) g))
        (λ d. sym (find_other k r rs d) ∙ e k ∙ find_other k s ss (λ j. d (omega arith)))

-- rows of different ranks may be put in either order
pub put_swap : (n m : Row) (rs : List Row) → (n.rank ≡ m.rank → ⊥) → rising rs ≡ true → put n (put m rs) ≡ put m (put n rs)
put_swap n m rs d h =
    rising_same (put n (put m rs)) (put m (put n rs)) (rising_put n (put m rs) (rising_put m rs h)) (rising_put m (put n rs) (rising_put n rs h))
    (λ k. find_put k n (put m rs) ∙ ap (λ o. cond (eqb k n.rank) (Some n) o) (find_put k m rs)
    ∙ either_order k ∙ sym (find_put k m (put n rs) ∙ ap (λ o. cond (eqb k m.rank) (Some m) o) (find_put k n rs)))
  where
    either_order : (k : ℕ) → cond (eqb k n.rank) (Some n) (cond (eqb k m.rank) (Some m) (find k rs)) ≡ cond (eqb k m.rank) (Some m) (cond (eqb k n.rank) (Some n) (find k rs))
    either_order k =
        by_eq k n.rank
        (λ e. rw (eq-eqb k n.rank e, ne_eqb k m.rank (λ i. d (sym e ∙ i))))
        (λ f. rw (ne_eqb k n.rank f))

-- of two rows of one rank the later one stays
pub put_again : (n m : Row) (rs : List Row) → n.rank ≡ m.rank → rising rs ≡ true → put n (put m rs) ≡ put n rs
put_again n m rs e h =
    rising_same (put n (put m rs)) (put n rs) (rising_put n (put m rs) (rising_put m rs h)) (rising_put n rs h)
    (λ k. find_put k n (put m rs) ∙ rw (find_put k m rs, ← e) (by_bool (eqb k n.rank) (λ t. rw t) (λ t. rw t)) ∙ sym (find_put k n rs))

-- ---- how many ranks are smaller

pub smaller_more : (k : ℕ) (r : Row) (rs : List Row) → r.rank < k → smaller k (r ∷ rs) ≡ suc (smaller k rs)
unfolding smaller
smaller_more k r rs l = rw (lt-ltb r.rank k l)

smaller_low : (j k : ℕ) (rs : List Row) → j ≤ k → rising_from k rs ≡ true → smaller j rs ≡ 0
unfolding smaller
smaller_low j k [] l h = refl
smaller_low j k (r ∷ rs) l h =
    let g : k < r.rank = from_head k r rs h in
    rw (le-ltb r.rank j (omega arith)) (smaller_low j r.rank rs (omega arith) (from_tail k r rs h))

-- no rank is smaller than the first
pub smaller_first : (k : ℕ) (r : Row) (rs : List Row) → k ≤ r.rank → rising (r ∷ rs) ≡ true → smaller k (r ∷ rs) ≡ 0
unfolding smaller rising
smaller_first k r rs l h = rw (le-ltb r.rank k l) (smaller_low k r.rank rs l h)

pub smaller_le : (k : ℕ) (rs : List Row) → smaller k rs ≤ length rs
unfolding smaller
smaller_le k [] = omega arith
smaller_le k (r ∷ rs) =
    by_lt r.rank k
    (λ l. rw (lt-ltb r.rank k l) (omega (arith, smaller_le k rs)))
    (λ l. rw (le-ltb r.rank k l) (omega (arith, smaller_le k rs)))

rising_tail : (r : Row) (rs : List Row) → rising (r ∷ rs) ≡ true → rising rs ≡ true
unfolding rising
rising_tail r rs h = from_rising r.rank rs h

-- the rows before that place have smaller ranks, and the others have not
pub smaller_before : (k : ℕ) (rs : List Row) → rising rs ≡ true → (i : ℕ) (d : Row) → i < smaller k rs → (get_or rs i d).rank < k
unfolding smaller
smaller_before k [] h i d g = absurd (omega arith)
smaller_before k (r ∷ rs) h zero d g = by_lt r.rank k (λ l. l) (λ l. absurd (omega (arith, smaller_first k r rs l h)))
smaller_before k (r ∷ rs) h (suc i) d g =
    by_lt r.rank k
    (λ l. smaller_before k rs (rising_tail r rs h) i d (omega (arith, smaller_more k r rs l)))
    (λ l. absurd (omega (arith, smaller_first k r rs l h)))

pub smaller_from : (k : ℕ) (rs : List Row) → rising rs ≡ true → (i : ℕ) (d : Row) → smaller k rs ≤ i → i < length rs → k ≤ (get_or rs i d).rank
smaller_from k [] h i d g b = absurd (omega arith)
smaller_from k (r ∷ rs) h zero d g b = by_lt r.rank k (λ l. absurd (omega (arith, smaller_more k r rs l))) (λ l. l)
smaller_from k (r ∷ rs) h (suc i) d g b =
    by_lt r.rank k
    (λ l. smaller_from k rs (rising_tail r rs h) i d (omega (arith, smaller_more k r rs l)) (omega arith))
    (λ l. omega (arith, climbs (r ∷ rs) h 0 (suc i) d (omega arith) b))

find_below : (k : ℕ) (r : Row) (rs : List Row) → k < r.rank → rising (r ∷ rs) ≡ true → find k (r ∷ rs) ≡ None
unfolding rising
find_below k r rs l h = find_other k r rs (λ e. omega arith) ∙ find_low k r.rank rs (omega arith) h

-- a row is found by its rank
pub find_row : (rs : List Row) → rising rs ≡ true → (i : ℕ) (d : Row) → i < length rs → find (get_or rs i d).rank rs ≡ Some (get_or rs i d)
find_row [] h i d g = absurd (omega arith)
find_row (r ∷ rs) h zero d g = find_same r rs
find_row (r ∷ rs) h (suc i) d g =
    find_other (get_or rs i d).rank r rs (λ e. omega (arith, climbs (r ∷ rs) h 0 (suc i) d (omega arith) g))
    ∙ find_row rs (rising_tail r rs h) i d (omega arith)

-- what is found stands behind the rows of smaller ranks
pub find_place : (k : ℕ) (rs : List Row) (r d : Row) → rising rs ≡ true → find k rs ≡ Some r → (smaller k rs < length rs) × (get_or rs (smaller k rs) d ≡ r)
unfolding find
find_place k [] r d h e = absurd (none-some r e)
find_place k (q ∷ rs) r d h e =
    by_lt q.rank k
    (λ l. let x = find_place k rs r d (rising_tail q rs h) (sym (find_other k q rs (λ i. omega arith)) ∙ e) in rw (smaller_more k q rs l) (omega (arith, x.0), x.1))
    (λ l. rw (smaller_first k q rs l h) (
      omega arith,
      by_eq k q.rank
          (λ i. same_Some q r (sym (find_same q rs) ∙ subst (λ j. find j (q ∷ rs) ≡ Some r) i e))
          (λ f. absurd (none-some r (sym (find_below k q rs (omega arith) h) ∙ e))),
    ))

-- ---- where a row goes: behind the rows of smaller ranks, over the row of the same rank, before the others

pub put_known : (n : Row) (rs : List Row) (r : Row) → rising rs ≡ true → find n.rank rs ≡ Some r → put n rs ≡ take (smaller n.rank rs) rs ++ (n ∷ drop (suc (smaller n.rank rs)) rs)
unfolding find
put_known n [] r h e = absurd (none-some r e)
put_known n (q ∷ rs) r h e =
    by_rank n q
    (λ l. absurd (none-some r (sym (find_below n.rank q rs l h) ∙ e)))
    (λ i. rw (put_over n q rs i, smaller_first n.rank q rs (omega arith) h))
    (λ l. rw (put_behind n q rs l, smaller_more n.rank q rs l)
    (ap (λ x. q ∷ x) (put_known n rs r (rising_tail q rs h) (sym (find_other n.rank q rs (λ i. omega arith)) ∙ e))))

pub put_new : (n : Row) (rs : List Row) → rising rs ≡ true → find n.rank rs ≡ None → put n rs ≡ take (smaller n.rank rs) rs ++ (n ∷ drop (smaller n.rank rs) rs)
unfolding smaller
put_new n [] h e = put_nil n
put_new n (q ∷ rs) h e =
    by_rank n q
    (λ l. rw (put_before n q rs l, smaller_first n.rank q rs (omega arith) h))
    (λ i. absurd (none-some q (sym e ∙ rw i (find_same q rs))))
    (λ l. rw (put_behind n q rs l, smaller_more n.rank q rs l)
    (ap (λ x. q ∷ x) (put_new n rs (rising_tail q rs h) (sym (find_other n.rank q rs (λ i. omega arith)) ∙ e))))

-- one row more exactly when the rank is new
pub length_known : (n : Row) (rs : List Row) (r : Row) → rising rs ≡ true → find n.rank rs ≡ Some r → length (put n rs) ≡ length rs
length_known n rs r h e = rw (put_known n rs r h e) (simp (length-append, length-take, length-drop) (omega (arith, (find_place n.rank rs r n h e).0)))

pub length_new : (n : Row) (rs : List Row) → rising rs ≡ true → find n.rank rs ≡ None → length (put n rs) ≡ suc (length rs)
length_new n rs h e = rw (put_new n rs h e) (simp (length-append, length-take, length-drop) (omega (arith, smaller_le n.rank rs)))
