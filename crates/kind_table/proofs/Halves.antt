-- The search by halves: a turn of it, and that in rising rows it ends behind the smaller ranks.
use Rattle.std.proofs.lemmas.Option.{none-some}
use Rattle.std.specs.Prelude.{Err, None, Ok, Option, Some}
use Prim.Native.Nat.{ℕ, zero, suc, ◌+◌, ◌-◌, ◌/◌, ◌<◌, ◌≤◌}
use mathlib.Core.Path.{◌≡◌, refl, sym, ◌∙◌, ap}
use mathlib.Core.Bool.{true}
use mathlib.Core.List.{List}
use native.Mathlib.Omega.{arith}
use lib.Dec.{ltb, eqb}
use lib.ListN.{get_or}
use borrow.Author.Tests.{lt-ltb, le-ltb, ltb-true, eq-eqb, ne_eqb}
use Rattle.base.specs.Bytes.{both}
use Rattle.base.proofs.Split.{by_bool, by_lt, no, both_left, both_of, both_no_left, both_no_right}
use Rattle.kind_table.specs.declared.Row.{Row}
use Rattle.kind_table.specs.Rows.{rising, find, smaller, at_or_place, position_of}
use Rattle.kind_table.specs.Words.{rank_at, row_at, rows_of, held, halve, answer_at, lookup}
use Rattle.kind_table.proofs.Maps.{smaller_before, smaller_from, smaller_le, find_place, find_rank, find_row}
use Rattle.kind_table.proofs.Spans.{rows_length, rows_at}

-- ---- the answer

module _ (ws : List ℕ) (n rank p : ℕ) where
  pub answer_at_lem : p < n → rank_at ws p ≡ rank → answer_at ws n rank p ≡ Ok p
  unfolding answer_at
  answer_at_lem l e = rw (both_of (lt-ltb p n l) (eq-eqb (rank_at ws p) rank e))

  pub answer_place : (p < n → rank_at ws p ≡ rank → ⊥) → answer_at ws n rank p ≡ Err p
  unfolding answer_at
  answer_place f =
      by_lt p n
      (λ l. rw (both_no_right (ltb p n) (ne_eqb (rank_at ws p) rank (f l))))
      (λ l. rw (both_no_left (ltb p n) (eqb (rank_at ws p) rank) (le-ltb p n l)))

pub position_known : (k : ℕ) (rs : List Row) (r : Row) → find k rs ≡ Some r → position_of k rs ≡ Ok (smaller k rs)
unfolding position_of at_or_place
position_known k rs r e = rw e

pub position_new : (k : ℕ) (rs : List Row) → find k rs ≡ None → position_of k rs ≡ Err (smaller k rs)
unfolding position_of at_or_place
position_new k rs e = rw e

-- ---- a turn of the search

module _ (ws : List ℕ) (rank : ℕ) where
  halve_done : (fuel lo hi : ℕ) → hi ≤ lo → halve fuel ws rank lo hi ≡ lo
  unfolding halve
  halve_done zero lo hi h = refl
  halve_done (suc fuel) lo hi h = rw (le-ltb lo hi h)

  halve_up : (fuel lo hi : ℕ) → lo < hi → rank_at ws ((lo + hi) / 2) < rank → halve (suc fuel) ws rank lo hi ≡ halve fuel ws rank (suc ((lo + hi) / 2)) hi
  unfolding halve
  halve_up fuel lo hi h g = rw (lt-ltb lo hi h, lt-ltb (rank_at ws ((lo + hi) / 2)) rank g)

  halve_down : (fuel lo hi : ℕ) → lo < hi → rank ≤ rank_at ws ((lo + hi) / 2) → halve (suc fuel) ws rank lo hi ≡ halve fuel ws rank lo ((lo + hi) / 2)
  unfolding halve
  halve_down fuel lo hi h g = rw (lt-ltb lo hi h, le-ltb (rank_at ws ((lo + hi) / 2)) rank g)

  halve_le : (fuel lo hi : ℕ) → lo ≤ hi → halve fuel ws rank lo hi ≤ hi
  unfolding halve
  halve_le zero lo hi h = h
  halve_le (suc fuel) lo hi h =
      by_lt lo hi
      (λ l. by_lt (rank_at ws ((lo + hi) / 2)) rank
      (λ u. rw (halve_up fuel lo hi l u) (halve_le fuel (suc ((lo + hi) / 2)) hi (omega arith)))
      (λ u. rw (halve_down fuel lo hi l u) (omega (arith, halve_le fuel lo ((lo + hi) / 2) (omega arith)))))
      (λ l. rw (halve_done (suc fuel) lo hi l) h)

  -- the search of n rows has come to the rows from lo to hi
  pub record Halving (n lo hi : ℕ) : Type 0 where
    pub fuel : ℕ
    pub enough : hi ≤ lo + fuel
    pub same : halve fuel ws rank lo hi ≡ halve n ws rank 0 n

  pub halving_starts : (n : ℕ) → Halving n 0 n
  halving_starts n = record { fuel = n; enough = omega arith; same = refl }

  pub halving_up : (n lo hi : ℕ) → Halving n lo hi → lo < hi → rank_at ws ((lo + hi) / 2) < rank → Halving n ((lo + hi) / 2 + 1) hi
  halving_up n lo hi h l g =
      let e : h.fuel ≡ suc (h.fuel - 1) = omega arith in
      let m : (lo + hi) / 2 + 1 ≡ suc ((lo + hi) / 2) = omega arith in
      record { fuel = h.fuel - 1; enough = omega arith; same = rw m (sym (halve_up (h.fuel - 1) lo hi l g) ∙ rw (← e) h.same) }

  pub halving_down : (n lo hi : ℕ) → Halving n lo hi → lo < hi → rank ≤ rank_at ws ((lo + hi) / 2) → Halving n lo ((lo + hi) / 2)
  halving_down n lo hi h l g =
      let e : h.fuel ≡ suc (h.fuel - 1) = omega arith in
      record { fuel = h.fuel - 1; enough = omega arith; same = sym (halve_down (h.fuel - 1) lo hi l g) ∙ rw (← e) h.same }

  pub halving_ends : (n lo hi : ℕ) → Halving n lo hi → hi ≤ lo → lo ≡ halve n ws rank 0 n
  halving_ends n lo hi h g = sym (halve_done h.fuel lo hi g) ∙ h.same

  -- ---- in any words: what is found stands among the rows that are held, and a place is at most behind them

  pub lookup_at : (count i : ℕ) → lookup ws count rank ≡ Ok i → i < held ws count
  unfolding lookup answer_at
  lookup_at count i e =
      let n = held ws count in
      let p = halve n ws rank 0 n in
      by_bool (both (ltb p n) (eqb (rank_at ws p) rank))
      (λ t. let x : Ok p ≡ Ok i = rw t at e in let y : p ≡ i = cc in omega (arith, ltb-true p n (both_left _ _ t)))
      (λ t. let x : Err p ≡ Ok i = rw t at e in no (cc))

  pub lookup_place : (count p : ℕ) → lookup ws count rank ≡ Err p → p ≤ held ws count
  unfolding lookup answer_at
  lookup_place count q e =
      let n = held ws count in
      let p = halve n ws rank 0 n in
      by_bool (both (ltb p n) (eqb (rank_at ws p) rank))
      (λ t. let x : Ok p ≡ Err q = rw t at e in no (cc))
      (λ t. let x : Err p ≡ Err q = rw t at e in let y : p ≡ q = cc in omega (arith, halve_le n 0 n (omega arith)))

  -- ---- in rising rows

  module _ (n : ℕ) (rises : rising (rows_of ws n) ≡ true) where
    -- the ranks of the table before the place of the rank, and from it on
    before : (i : ℕ) → i < smaller rank (rows_of ws n) → rank_at ws i < rank
    before i h =
        let b = smaller_le rank (rows_of ws n) in
        let e : get_or (rows_of ws n) i (row_at ws i) ≡ row_at ws i = rows_at ws n i (row_at ws i) (omega (arith, rows_length ws n)) in
        rw (ap (λ r. r.rank) e) at (smaller_before rank (rows_of ws n) rises i (row_at ws i) h)

    from : (i : ℕ) → smaller rank (rows_of ws n) ≤ i → i < n → rank ≤ rank_at ws i
    from i h g =
        let e : get_or (rows_of ws n) i (row_at ws i) ≡ row_at ws i = rows_at ws n i (row_at ws i) g in
        rw (ap (λ r. r.rank) e) at (smaller_from rank (rows_of ws n) rises i (row_at ws i) h (omega (arith, rows_length ws n)))

    -- that place stays between lo and hi
    halves : (fuel lo hi : ℕ) → hi ≤ lo + fuel → lo ≤ smaller rank (rows_of ws n) → smaller rank (rows_of ws n) ≤ hi → hi ≤ n → halve fuel ws rank lo hi ≡ smaller rank (rows_of ws n)
    unfolding halve
    halves zero lo hi f a b g = omega arith
    halves (suc fuel) lo hi f a b g =
        by_lt lo hi
        (λ l. by_lt (rank_at ws ((lo + hi) / 2)) rank
        (λ u. halve_up fuel lo hi l u ∙ halves fuel (suc ((lo + hi) / 2)) hi (omega arith)
        (by_lt ((lo + hi) / 2) (smaller rank (rows_of ws n)) (λ v. v) (λ v. absurd (omega (arith, from ((lo + hi) / 2) v (omega arith))))) b g)
        (λ u. halve_down fuel lo hi l u ∙ halves fuel lo ((lo + hi) / 2) (omega arith) a
        (by_lt ((lo + hi) / 2) (smaller rank (rows_of ws n)) (λ v. absurd (omega (arith, before ((lo + hi) / 2) v))) (λ v. v)) (omega arith)))
        (λ l. halve_done (suc fuel) lo hi l ∙ omega arith)

    -- the answer is what the rows say
    pub searched : answer_at ws n rank (halve n ws rank 0 n) ≡ position_of rank (rows_of ws n)
    searched =
        ap (answer_at ws n rank) (halves n 0 n (omega arith) (omega arith) (rw rows_length at (smaller_le rank (rows_of ws n))) (omega arith))
        ∙ go (find rank (rows_of ws n)) refl
      where
        p : ℕ
        p = smaller rank (rows_of ws n)

        go : (o : Option Row) → find rank (rows_of ws n) ≡ o → answer_at ws n rank p ≡ position_of rank (rows_of ws n)
        go (Some r) e =
            let x = find_place rank (rows_of ws n) r (row_at ws p) rises e in
            let l : p < n = omega (arith, x.0, rows_length ws n) in
            let y : row_at ws p ≡ r = sym (rows_at ws n p (row_at ws p) l) ∙ x.1 in
            answer_at_lem ws n rank p l (ap (λ q. q.rank) y ∙ find_rank rank (rows_of ws n) r e) ∙ sym (position_known rank (rows_of ws n) r e)
        go None e =
            answer_place ws n rank p
            (λ l i.
            let y : get_or (rows_of ws n) p (row_at ws p) ≡ row_at ws p = rows_at ws n p (row_at ws p) l in
            let x = find_row (rows_of ws n) rises p (row_at ws p) (omega (arith, rows_length ws n)) in
            none-some (row_at ws p) (sym e ∙ ap (λ k. find k (rows_of ws n)) (sym i) ∙ rw y at x))
            ∙ sym (position_new rank (rows_of ws n) e)
