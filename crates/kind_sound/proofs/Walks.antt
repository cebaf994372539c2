-- A walk from record to record to an offset, step by step; and the cells that tell on its way where records start.
use Rattle.std.specs.Prelude.{None, Some}
use Prim.Native.Nat.{ℕ, zero, suc, ◌+◌, ◌/◌, ◌<◌, ◌≤◌}
use mathlib.Core.Path.{◌≡◌, refl, sym, ◌∙◌, ap}
use mathlib.Core.Bool.{true, false}
use mathlib.Core.List.{List}
use native.Mathlib.Omega.{arith}
use lib.Dec.{ltb, eqb}
use lib.ListN.{length, drop, set, get_or, length-set, length-drop, drop_of_length-le}
use lib.Seq.{get_or-set_same, get_or-set_other}
use borrow.Author.Tests.{lt-ltb, le-ltb, eq-eqb, ne_eqb}
use Rattle.base.specs.Bytes.{Bytes, both}
use Rattle.base.proofs.Split.{by_bool, by_lt, by_eq, clash, both_no_left, both_no_right}
use Rattle.kind.specs.declared.Kind.{Kind}
use Rattle.compact_legal.specs.Judge.{record_end}
use Rattle.compact_legal.specs.Whole.{whole_records}
use Rattle.compact_legal.proofs.Fronts.{record_off, end_tells}
use Rattle.compact_legal.proofs.Wholes.{whole_nil, walk_on, walk_stops}
use Rattle.compact.proofs.Places.{off_end}
use Rattle.kind_sound.specs.Check.{comes_to}
use Rattle.kind_sound.specs.Cells.{cell_of, Empty, Noted}

module _ (strings : ℕ) (k : Kind) (s : Bytes) (offset : ℕ) where
  pub arrived : (f at : ℕ) → offset ≤ at → comes_to strings k s offset f at ≡ eqb at offset
  unfolding comes_to
  arrived zero at h = refl
  arrived (suc f) at h = rw (le-ltb at offset h)

  pub steps : (f at e : ℕ) → offset ≤ at + f → at < offset → Some e ≡ record_end strings k s at → at < e → (g : ℕ) × ((offset ≤ e + g) × (comes_to strings k s offset g e ≡ comes_to strings k s offset f at))
  unfolding comes_to
  steps zero at e l h t n = absurd (omega arith)
  steps (suc f) at e l h t n = (f, (omega arith, rw (lt-ltb at offset h, ← t)))

  pub stops : (f at : ℕ) → offset ≤ at + f → at < offset → None ≡ record_end strings k s at → comes_to strings k s offset f at ≡ false
  unfolding comes_to
  stops zero at l h t = absurd (omega arith)
  stops (suc f) at l h t = rw (lt-ltb at offset h, ← t)

  -- a walk to one offset: what is left of it from `at` on
  pub record Coming (at : ℕ) : Type 0 where
    pub inside : at ≤ length s
    pub fuel : ℕ
    pub enough : offset ≤ at + fuel
    pub same : comes_to strings k s offset fuel at ≡ comes_to strings k s offset offset 0

  pub coming_first : Coming 0
  coming_first = record { inside = omega arith; fuel = offset; enough = omega arith; same = refl }

  pub coming_next : (at e : ℕ) → Coming at → at < offset → Some e ≡ record_end strings k s at → (at < e) × Coming e
  coming_next at e w h t =
      let o = walk_on strings k s at e w.inside t in
      let g = steps w.fuel at e w.enough h t o.1.0 in
      (o.1.0, record { inside = o.1.1; fuel = g.0; enough = g.1.0; same = g.1.1 ∙ w.same })

-- the walk comes to `at`: to any offset from there on, it goes as the whole walk does
pub Reached : ℕ → Kind → Bytes → ℕ → Type 0
Reached strings k s at = (offset : ℕ) → at ≤ offset → (f : ℕ) × ((offset ≤ at + f) × (comes_to strings k s offset f at ≡ comes_to strings k s offset offset 0))

module _ (strings : ℕ) (k : Kind) (s : Bytes) where
  pub reached_first : Reached strings k s 0
  unfolding Reached
  reached_first offset h = (offset, (omega arith, refl))

  module _ (at e : ℕ) (reached : Reached strings k s at) (t : Some e ≡ record_end strings k s at) (h : at < e) where
    pub reached_next : Reached strings k s e
    unfolding Reached
    reached_next offset l =
        let f = reached offset (omega arith) in
        let g = steps strings k s offset f.0 at e f.1.0 (omega arith) t h in
        (g.0, (g.1.0, g.1.1 ∙ f.1.1))

    -- no record starts inside another
    start_only : (offset : ℕ) → at ≤ offset → offset < e → comes_to strings k s offset offset 0 ≡ eqb at offset
    unfolding Reached
    start_only offset l m =
        let f = reached offset l in
        by_eq at offset
        (λ i. sym f.1.1 ∙ arrived strings k s offset f.0 at (omega arith))
        (λ i. let g = steps strings k s offset f.0 at e f.1.0 (omega arith) t h in
        sym f.1.1 ∙ (sym g.1.1 ∙ (arrived strings k s offset g.0 e (omega arith) ∙ (ne_eqb e offset (λ z. omega arith) ∙ sym (ne_eqb at offset i)))))

    -- a record has at least 45 bytes
    pub long : at ≤ length s → at + 45 ≤ e
    long l =
        let x = end_tells strings k s at l e (sym t) in
        let o = record_off k (drop at s) x.0 x.1.0 in
        let y = off_end s at l o.1.0 in
        let r : length x.0.rest ≡ length (drop e s) = ap length x.1.1.1.0 in
        let m = x.1.1.1.1.1 in
        omega (arith, y.1.0, y.1.1, o.1.1, length-drop e s)

-- ---- the cells

-- the walk has come to `at`, what is left from there on is whole records exactly when all is, records start at least 45 bytes apart,
-- and the cells tell the starts before it
pub record Noting (strings : ℕ) (k : Kind) (s : Bytes) (cells : List ℕ) (at : ℕ) : Type 0 where
  pub inside : at ≤ length s
  pub whole : whole_records strings k (drop at s) ≡ whole_records strings k s
  pub reached : Reached strings k s at
  pub apart : (offset : ℕ) → offset < at → comes_to strings k s offset offset 0 ≡ true → offset + 45 ≤ at
  pub noted : (offset : ℕ) → offset / 45 < length cells → eqb (get_or cells (offset / 45) 0) (cell_of offset) ≡ both (ltb offset at) (comes_to strings k s offset offset 0)

module _ (strings : ℕ) (k : Kind) (s : Bytes) (cells : List ℕ) where
  pub noting_first : Empty cells → Noting strings k s cells 0
  unfolding Empty
  noting_first h =
      record {
        inside = omega arith;
        whole = refl;
        reached = reached_first strings k s;
        apart = λ offset m t. absurd (omega arith);
        noted = λ offset m. rw (h (offset / 45)) (ne_eqb 0 (cell_of offset) (λ z. omega arith) ∙ sym (both_no_left _ _ (le-ltb offset 0 (omega arith))));
      }

  module _ (at : ℕ) (w : Noting strings k s cells at) where
    -- a record more
    module _ (e : ℕ) (t : Some e ≡ record_end strings k s at) where
      forth : at < e
      forth = (walk_on strings k s at e w.inside t).1.0

      start : (offset : ℕ) → at ≤ offset → offset < e → comes_to strings k s offset offset 0 ≡ eqb at offset
      start = start_only strings k s at e w.reached t forth

      apart_next : (offset : ℕ) → offset < e → comes_to strings k s offset offset 0 ≡ true → offset + 45 ≤ e
      apart_next offset h y =
          let l = long strings k s at e w.reached t forth w.inside in
          by_lt offset at
          (λ m. omega (arith, w.apart offset m y))
          (λ m. by_eq at offset
          (λ i. omega arith)
          (λ i. clash y (start offset m h ∙ ne_eqb at offset i)))

      -- an offset in another cell than `at`
      other : (offset : ℕ) → (at ≡ offset → ⊥) → both (ltb offset at) (comes_to strings k s offset offset 0) ≡ both (ltb offset e) (comes_to strings k s offset offset 0)
      unfolding both
      other offset i =
          by_lt offset at
          (λ m. rw (lt-ltb offset at m, lt-ltb offset e (omega (arith, forth))))
          (λ m. by_lt offset e
          (λ n. rw (le-ltb offset at m, lt-ltb offset e n) (sym (start offset m n ∙ ne_eqb at offset i)))
          (λ n. rw (le-ltb offset at m, le-ltb offset e n)))

      -- in one cell only one record starts
      same_cell : (offset : ℕ) → offset / 45 ≡ at / 45 → eqb (cell_of at) (cell_of offset) ≡ both (ltb offset e) (comes_to strings k s offset offset 0)
      unfolding both
      same_cell offset i =
          let l = long strings k s at e w.reached t forth w.inside in
          by_eq at offset
          (λ j. rw (← j, eq-eqb (cell_of at) (cell_of at) refl, lt-ltb at e forth) (sym (start at (omega arith) forth ∙ eq-eqb at at refl)))
          (λ j. rw (ne_eqb (cell_of at) (cell_of offset) (λ z. j (omega arith)))
          (by_lt offset at
          (λ m. sym (both_no_right (ltb offset e) (by_bool (comes_to strings k s offset offset 0) (λ y. absurd (omega (arith, w.apart offset m y))) (λ y. y))))
          (λ m. sym (both_no_right (ltb offset e) (start offset m (omega arith) ∙ ne_eqb at offset j)))))

      noted_next : (offset : ℕ) → offset / 45 < length cells → eqb (get_or (set cells (at / 45) (cell_of at)) (offset / 45) 0) (cell_of offset) ≡ both (ltb offset e) (comes_to strings k s offset offset 0)
      noted_next offset h =
          by_eq (offset / 45) (at / 45)
          (λ i. rw (i, get_or-set_same cells (at / 45) (cell_of at) 0 (omega (arith, i, h))) (same_cell offset i))
          (λ i. rw (get_or-set_other cells (at / 45) (offset / 45) (cell_of at) 0 i) (w.noted offset h ∙ other offset (λ z. i (ap (λ (n : ℕ). n / 45) (sym z)))))

      pub noting_next : (at < e) × Noting strings k s (set cells (at / 45) (cell_of at)) e
      noting_next =
          let o = walk_on strings k s at e w.inside t in (
            forth,
            record {
              inside = o.1.1;
              whole = sym o.0 ∙ w.whole;
              reached = reached_next strings k s at e w.reached t forth;
              apart = apart_next;
              noted = λ offset m. noted_next offset (omega (arith, length-set cells (at / 45) (cell_of at), m));
            },
          )

    pub noting_bad : at < length s → None ≡ record_end strings k s at → whole_records strings k s ≡ false
    noting_bad h t = sym w.whole ∙ walk_stops strings k s at h t

    pub noting_last : length s ≤ at → (whole_records strings k s ≡ true) × Noted strings k s cells
    unfolding both
    noting_last h = (
      sym w.whole ∙ rw (drop_of_length-le s {i = at} h) (whole_nil strings k),
      λ offset l m. w.noted offset m ∙ rw (lt-ltb offset at (omega arith)),
    )
