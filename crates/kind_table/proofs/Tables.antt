-- Sound tables: what a search of one finds, and what a row stored in one makes of its rows.
use Rattle.std.specs.Prelude.{Err, None, Ok, Option, Result, Some}
use Prim.Native.Nat.{ℕ, suc, ◌*◌, ◌<◌, ◌≤◌}
use mathlib.Core.Path.{◌≡◌, refl, sym, ◌∙◌, ap}
use mathlib.Core.Bool.{true}
use mathlib.Core.List.{List, ◌++◌}
use native.Mathlib.Omega.{arith}
use lib.ListN.{length, drop, length-append}
use borrow.Author.Tests.{le-leb, lt-leb, leb-true, lt-ltb}
use Rattle.base.proofs.Split.{by_le, both_left, both_right, both_of, no}
use Rattle.kind_table.specs.declared.Row.{Row}
use Rattle.kind_table.specs.Rows.{rising, find, put, smaller, position_of}
use Rattle.kind_table.specs.Words.{row_at, row_by, row_found, rows_from, rows_of, words_of, sound_table, held, lookup, row_over, inserted, Put, Replaced, Inserted, Full, Stored, stored_at, stored, count_after}
use Rattle.kind_table.proofs.Maps.{smaller_le, find_place, put_known, put_new, length_known, length_new, rising_put}
use Rattle.kind_table.proofs.Spans.{rows_length, rows_at, rows_words, words_length, words_over, words_inserted, length_over, length_inserted}
use Rattle.kind_table.proofs.Halves.{searched, lookup_at, lookup_place, position_known, position_new}

-- ---- what sound means

module _ (ws : List ℕ) (count : ℕ) where
  pub sound_fits : sound_table ws count ≡ true → 3 * count ≤ length ws
  unfolding sound_table
  sound_fits s = leb-true (3 * count) (length ws) (both_left _ _ s)

  pub sound_rises : sound_table ws count ≡ true → rising (rows_of ws count) ≡ true
  unfolding sound_table
  sound_rises s = both_right _ _ s

  pub sound_of : 3 * count ≤ length ws → rising (rows_of ws count) ≡ true → sound_table ws count ≡ true
  unfolding sound_table
  sound_of h r = both_of (le-leb (3 * count) (length ws) h) r

  -- the rows that are searched: all of them where they fit
  pub held_all : 3 * count ≤ length ws → held ws count ≡ count
  unfolding held
  held_all h = omega arith

  pub held_fits : 3 * held ws count ≤ length ws
  unfolding held
  held_fits = omega arith

  pub held_counted : held ws count ≤ count
  unfolding held
  held_counted = omega arith

pub sound_empty : (ws : List ℕ) → sound_table ws 0 ≡ true
unfolding rising rows_of rows_from
sound_empty ws = sound_of ws 0 (omega arith) refl

-- what a search found is among the rows that are read
pub row_looked_up : (ws : List ℕ) (count rank : ℕ) (f : Result ℕ ℕ) → f ≡ lookup ws count rank → row_by ws (held ws count) f ≡ row_found ws (lookup ws count rank)
row_looked_up ws count rank (Ok i) e = rw (← e, lt-ltb i (held ws count) (lookup_at ws rank count i (sym e)))
row_looked_up ws count rank (Err p) e = rw (← e)

-- ---- what was stored, by what the search found

module _ (ws : List ℕ) (count : ℕ) (row : Row) where
  pub stored_known : (i : ℕ) → lookup ws count row.rank ≡ Ok i → stored ws count row ≡ record { words = row_over ws i row; answer = Replaced }
  unfolding stored stored_at
  stored_known i e = rw e

  pub stored_new : (p : ℕ) → lookup ws count row.rank ≡ Err p → 3 * suc count ≤ length ws → stored ws count row ≡ record { words = inserted ws p count row; answer = Inserted }
  unfolding stored stored_at
  stored_new p e h = rw (e, le-leb (3 * suc count) (length ws) h)

  pub stored_full : (p : ℕ) → lookup ws count row.rank ≡ Err p → length ws < 3 * suc count → stored ws count row ≡ record { words = ws; answer = Full }
  unfolding stored stored_at
  stored_full p e h = rw (e, lt-leb (3 * suc count) (length ws) h)

-- ---- a search of a sound table

module _ (ws : List ℕ) (count : ℕ) (sound : sound_table ws count ≡ true) where
  -- a rank is below the next one

  module _ (rank : ℕ) where
    -- the search by halves finds what the rows say
    pub lookup_is : lookup ws count rank ≡ position_of rank (rows_of ws count)
    unfolding lookup
    lookup_is = rw (held_all ws count (sound_fits ws count sound)) (searched ws rank count (sound_rises ws count sound))

    -- the row that was found, and the place of a rank that is new: behind the smaller ranks
    pub found_row : (i : ℕ) → lookup ws count rank ≡ Ok i → (i < count) × (find rank (rows_of ws count) ≡ Some (row_at ws i))
    found_row i e = go (find rank (rows_of ws count)) refl
      where
        go : (o : Option Row) → find rank (rows_of ws count) ≡ o → (i < count) × (find rank (rows_of ws count) ≡ Some (row_at ws i))
        go (Some r) f =
            let x = find_place rank (rows_of ws count) r (row_at ws i) (sound_rises ws count sound) f in
            let y : Ok i ≡ Ok (smaller rank (rows_of ws count)) = sym e ∙ lookup_is ∙ position_known rank (rows_of ws count) r f in
            let z : smaller rank (rows_of ws count) ≡ i = cc in
            let l : i < count = omega (arith, x.0, rows_length ws count) in
            (l, f ∙ ap Some (sym (rw z at x.1) ∙ rows_at ws count i (row_at ws i) l))
        go None f = let y : Ok i ≡ Err (smaller rank (rows_of ws count)) = sym e ∙ lookup_is ∙ position_new rank (rows_of ws count) f in no (cc)

    pub found_none : (p : ℕ) → lookup ws count rank ≡ Err p → (find rank (rows_of ws count) ≡ None) × (p ≡ smaller rank (rows_of ws count))
    found_none p e = go (find rank (rows_of ws count)) refl
      where
        go : (o : Option Row) → find rank (rows_of ws count) ≡ o → (find rank (rows_of ws count) ≡ None) × (p ≡ smaller rank (rows_of ws count))
        go (Some r) f = let y : Err p ≡ Ok (smaller rank (rows_of ws count)) = sym e ∙ lookup_is ∙ position_known rank (rows_of ws count) r f in no (cc)
        go None f = let y : Err p ≡ Err (smaller rank (rows_of ws count)) = sym e ∙ lookup_is ∙ position_new rank (rows_of ws count) f in (f, cc)

-- ---- a row stored in any table: its words are as many as before

pub length_stored : (ws : List ℕ) (count : ℕ) (row : Row) → length (stored ws count row).words ≡ length ws
length_stored ws count row = go (lookup ws count row.rank) refl
  where
    go : (o : Result ℕ ℕ) → lookup ws count row.rank ≡ o → length (stored ws count row).words ≡ length ws
    go (Ok i) e = rw (stored_known ws count row i e) (length_over ws (held ws count) row (held_fits ws count) i (lookup_at ws row.rank count i e))
    go (Err p) e =
        by_le (3 * suc count) (length ws)
        (λ h. rw (stored_new ws count row p e h)
        (length_inserted ws count row (omega arith) p (omega (arith, lookup_place ws row.rank count p e, held_counted ws count)) h))
        (λ h. rw (stored_full ws count row p e h))

-- ---- a row stored in a sound table

-- the words of n rows, a row put among them, with the rest as it was
abbrev pub putting : List ℕ → ℕ → Row → ℕ → Put → Stored
putting ws count row n answer = record { words = words_of (put row (rows_of ws count)) ++ drop (3 * n) ws; answer = answer }

module _ (ws : List ℕ) (count : ℕ) (row : Row) (sound : sound_table ws count ≡ true) where
  pub replaces : (r : Row) → find row.rank (rows_of ws count) ≡ Some r → stored ws count row ≡ putting ws count row count Replaced
  replaces r e =
      let rises = sound_rises ws count sound in
      let p = smaller row.rank (rows_of ws count) in
      let l : p < count = omega (arith, (find_place row.rank (rows_of ws count) r r rises e).0, rows_length ws count) in
      stored_known ws count row p (lookup_is ws count sound row.rank ∙ position_known row.rank (rows_of ws count) r e)
      ∙ rw (put_known row (rows_of ws count) r rises e, words_over ws count row (sound_fits ws count sound) p l)

  pub inserts : find row.rank (rows_of ws count) ≡ None → 3 * suc count ≤ length ws → stored ws count row ≡ putting ws count row (suc count) Inserted
  inserts e h =
      let p = smaller row.rank (rows_of ws count) in
      let l : p ≤ count = omega (arith, smaller_le row.rank (rows_of ws count), rows_length ws count) in
      stored_new ws count row p (lookup_is ws count sound row.rank ∙ position_new row.rank (rows_of ws count) e) h
      ∙ rw (put_new row (rows_of ws count) (sound_rises ws count sound) e, words_inserted ws count row (sound_fits ws count sound) p l)

  -- 14: "new id, ids full", and nothing changes
  pub fills : find row.rank (rows_of ws count) ≡ None → length ws < 3 * suc count → stored ws count row ≡ record { words = ws; answer = Full }
  fills e h =
      stored_full ws count row (smaller row.rank (rows_of ws count)) (lookup_is ws count sound row.rank ∙ position_new row.rank (rows_of ws count) e) h

  -- the row was put, and the rows are as many as are counted then; or the table is full
  pub by_stored : {C : Type 0}
      → ((a : Put) → stored ws count row ≡ putting ws count row (count_after a count) a → length (put row (rows_of ws count)) ≡ count_after a count → C)
      → (stored ws count row ≡ record { words = ws; answer = Full } → C) → C
  unfolding count_after
  by_stored {C} f h = go (find row.rank (rows_of ws count)) refl
    where
      go : (o : Option Row) → find row.rank (rows_of ws count) ≡ o → C
      go (Some r) e = f Replaced (replaces r e) (length_known row (rows_of ws count) r (sound_rises ws count sound) e ∙ rows_length ws count)
      go None e =
          by_le (3 * suc count) (length ws)
          (λ l. f Inserted (inserts e l) (length_new row (rows_of ws count) (sound_rises ws count sound) e ∙ ap suc (rows_length ws count)))
          (λ l. h (fills e l))

  -- unless it is full, the rows after it are the map with the row put
  pub rows_stored : ((stored ws count row).answer ≡ Full → ⊥) → rows_of (stored ws count row).words (count_after (stored ws count row).answer count) ≡ put row (rows_of ws count)
  rows_stored n =
      by_stored
      (λ a e l. rw e (rows_words (put row (rows_of ws count)) (drop (3 * count_after a count) ws) (count_after a count) l))
      (λ e. absurd (n (ap (λ s. s.answer) e)))

  -- the table stays sound
  pub sound_stored : sound_table (stored ws count row).words (count_after (stored ws count row).answer count) ≡ true
  unfolding count_after
  sound_stored =
      let rs = put row (rows_of ws count) in
      by_stored
      (λ a e l.
      let rest = drop (3 * count_after a count) ws in
      rw e (sound_of (words_of rs ++ rest) (count_after a count) (omega (arith, length-append (words_of rs) rest, words_length rs))
      (rw (rows_words rs rest (count_after a count) l) (rising_put row (rows_of ws count) (sound_rises ws count sound)))))
      (λ e. rw e sound)
