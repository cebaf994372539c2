-- The test decides `SoundKindStore`, both ways.
use Rattle.std.specs.Prelude.{None, Some}
use Prim.Native.Nat.{ℕ, ◌+◌, ◌-◌, ◌≤◌}
use mathlib.Core.Path.{◌≡◌, refl, sym, ◌∙◌, ap}
use mathlib.Core.Logic.{◌↔◌}
use mathlib.Core.Bool.{Bool, true, false}
use mathlib.Core.List.{List, [], ◌∷◌, ◌++◌}
use native.Mathlib.Omega.{arith}
use lib.ListN.{length, take, drop, length-append, length-drop}
use lib.Seq.{drop-drop, drop-append_seam}
use mir.Syntax.{w64}
use mir.Val.{to_z}
use borrow.Author.Tests.{lt-ltb, le-ltb, eq-eqb, ne_eqb, leb-true, le-leb}
use Rattle.base.specs.Bytes.{Bytes, both, all}
use Rattle.base.proofs.Split.{by_lt, by_le, by_eq, no, both_left, both_right, both_of, both_no_left, both_no_right}
use Rattle.base.proofs.Lists.{all_head, all_tail}
use Rattle.little.specs.Little.{is_byte, value_at}
use Rattle.little.proofs.Littles.{bytes_take}
use Rattle.kind.specs.declared.Kind.{Kind}
use Rattle.kind.specs.declared.Kind.TheVariants.{Node, Way, Relation}
use Rattle.osm_id.specs.Order.{id_of}
use Rattle.model.specs.Record.{Record}
use Rattle.compact.specs.Layout.{joined_bytes, head_len}
use Rattle.compact.specs.Cut.{Cut, found, KeptRecord, cut_record}
use Rattle.compact.specs.Held.{node_head, way_head, relation_head, counts_head}
use Rattle.compact.specs.View.{head_at, node_at, way_at, relation_at}
use Rattle.compact.specs.Fits.{fits_kept}
use Rattle.compact.proofs.Cuts.{record_format}
use Rattle.compact.proofs.Format.{first, of_cut}
use Rattle.compact.specs.Legal.{legal}
use Rattle.compact_legal.specs.Judge.{end_of, record_end}
use Rattle.compact_legal.specs.Whole.{kept_bytes, Whole, record_at, starts_at}
use Rattle.compact_legal.proofs.Fronts.{record_is, record_short}
use Rattle.compact_legal.proofs.Wholes.{kept_long, sound, complete}
use Rattle.kind_table.specs.Words.{rows_of}
use Rattle.kind_table.specs.declared.Row.{Row}
use Rattle.kind_store.specs.KindStore.{KindStore}
use Rattle.kind_sound.specs.Sound.{sound_row, SoundKindStore}
use Rattle.kind_sound.specs.Check.{comes_to, id_there, record_there, row_passes, sound_used, sound_kind_store}
use Rattle.kind_sound.proofs.Walks.{arrived, steps}

both_true : (t : Bool) → both (both true t) true ≡ t
unfolding both
both_true true = refl
both_true false = refl

-- ---- the id at a start

head_there : (k : Kind) (s : Bytes) → (head_at k s).id ≡ to_z w64 (value_at 8 s 0)
unfolding head_at node_head node_at way_head way_at relation_head relation_at counts_head
head_there Node s = refl
head_there Way s = refl
head_there Relation s = refl

cut_id : (k : Kind) (s : Bytes) (c : Cut KeptRecord) → cut_record k s ≡ Some c → c.item.id ≡ to_z w64 (value_at 8 s 0)
cut_id k s c e =
    by_le (head_len k + 29) (length s)
    (λ l. first (λ (r : Record ℕ) q. Unit {0}) (λ x t. tt) (sym (record_is k s l) ∙ e)
    (λ r q u t. of_cut (λ (x : KeptRecord) q. x.id ≡ to_z w64 (value_at 8 s 0)) t (head_there k s)))
    (λ l. let z : None ≡ Some c = sym (record_short k s l) ∙ e in no cc)

module _ (strings : ℕ) (k : Kind) (s : Bytes) where
  -- a record at an offset, with the records after it
  there : (at : ℕ) (x : KeptRecord) (xs : List KeptRecord) → fits_kept k x ≡ true → drop at s ≡ kept_bytes x ++ joined_bytes kept_bytes xs → cut_record k (drop at s) ≡ found x (joined_bytes kept_bytes xs)
  there at x xs f e = rw e ((record_format k).back x (joined_bytes kept_bytes xs) f)

  id_at : (at : ℕ) (x : KeptRecord) (xs : List KeptRecord) → fits_kept k x ≡ true → drop at s ≡ kept_bytes x ++ joined_bytes kept_bytes xs → to_z w64 (value_at 8 s at) ≡ x.id
  unfolding value_at
  id_at at x xs f e = sym (cut_id k (drop at s) _ (there at x xs f e))

  long : (at : ℕ) (x : KeptRecord) (xs : List KeptRecord) → drop at s ≡ kept_bytes x ++ joined_bytes kept_bytes xs → at + length (kept_bytes x) + length (joined_bytes kept_bytes xs) ≡ length s
  long at x xs e =
      let n = kept_long x in
      let d : length s - at ≡ length (kept_bytes x) + length (joined_bytes kept_bytes xs) = sym (length-drop at s) ∙ (ap length e ∙ length-append (kept_bytes x) (joined_bytes kept_bytes xs)) in
      omega arith

  end_is : (at : ℕ) (x : KeptRecord) (xs : List KeptRecord) → fits_kept k x ≡ true → legal strings x.held ≡ true → drop at s ≡ kept_bytes x ++ joined_bytes kept_bytes xs
      → record_end strings k s at ≡ Some (at + length (kept_bytes x))
  unfolding record_end end_of
  end_is at x xs f l e =
      let n : length s - length (joined_bytes kept_bytes xs) ≡ at + length (kept_bytes x) = omega (arith, long at x xs e) in
      rw (there at x xs f e, l, n)

  after : (at : ℕ) (x : KeptRecord) (xs : List KeptRecord) → drop at s ≡ kept_bytes x ++ joined_bytes kept_bytes xs → drop (at + length (kept_bytes x)) s ≡ joined_bytes kept_bytes xs
  after at x xs e = sym (drop-drop (length (kept_bytes x)) at s) ∙ rw e (drop-append_seam (kept_bytes x) (joined_bytes kept_bytes xs))

  -- ---- the walk comes to the starts, and to nothing else

  module _ (id offset : ℕ) where
    walk : (xs : List KeptRecord) (f at : ℕ) → all (fits_kept k) xs ≡ true → all (λ (x : KeptRecord). legal strings x.held) xs ≡ true → drop at s ≡ joined_bytes kept_bytes xs → at ≤ length s → at ≤ offset → offset ≤ at + f
        → both (id_there s id offset) (comes_to strings k s offset f at) ≡ starts_at (id_of id) (offset - at) xs
    unfolding joined_bytes starts_at record_at id_there
    walk [] f at p q e h a b =
        let n : length s ≤ at = omega (arith, sym (length-drop at s) ∙ ap length e) in
        both_no_left _ _ (both_no_left _ _ (le-ltb offset (length s) (omega arith)))
    walk (x ∷ xs) f at p q e h a b =
        let fx = all_head (fits_kept k) x xs p in
        let lx = all_head (λ (x : KeptRecord). legal strings x.held) x xs q in
        let n = kept_long x in
        let g = long at x xs e in
        let t : record_end strings k s at ≡ Some (at + length (kept_bytes x)) = end_is at x xs fx lx e in
        by_eq at offset
        (λ i. let z : offset - at ≡ 0 = omega arith in
        let c : comes_to strings k s offset f at ≡ true = arrived strings k s offset f at (omega arith) ∙ eq-eqb at offset i in
        rw (z, c, ← i, lt-ltb at (length s) (omega arith), id_at at x xs fx e) (both_true _))
        (λ i. let y = steps strings k s offset f at (at + length (kept_bytes x)) b (omega arith) (sym t) (omega arith) in
        rw (← y.1.1, ne_eqb (offset - at) 0 (λ z. i (omega arith)))
        (by_lt (offset - at) (length (kept_bytes x))
        (λ l. rw (lt-ltb (offset - at) (length (kept_bytes x)) l)
        (both_no_right _ (arrived strings k s offset y.0 (at + length (kept_bytes x)) (omega arith) ∙ ne_eqb (at + length (kept_bytes x)) offset (λ z. omega arith))))
        (λ l. let m : offset - at - length (kept_bytes x) ≡ offset - (at + length (kept_bytes x)) = omega arith in
        rw (le-ltb (offset - at) (length (kept_bytes x)) l, m)
        (walk xs y.0 (at + length (kept_bytes x)) (all_tail (fits_kept k) x xs p) (all_tail (λ (x : KeptRecord). legal strings x.held) x xs q) (after at x xs e) (omega arith) (omega arith) y.1.0))))

-- ---- the rows

all_same : {A : Type 0} (p q : A → Bool) → ((a : A) → p a ≡ q a) → (xs : List A) → all p xs ≡ all q xs
unfolding all
all_same p q h [] = refl
all_same p q h (x ∷ xs) = rw (h x, all_same p q h xs)

module _ (strings : ℕ) (k : Kind) (s : Bytes) (w : Whole strings k s) where
  -- of whole records: the walk comes to a record of the id exactly where one starts
  pub there_is : (id offset : ℕ) → record_there strings k s id offset ≡ starts_at (id_of id) offset w.kept
  unfolding record_there
  there_is id offset =
      let z : offset - 0 ≡ offset = omega arith in
      rw z at (walk strings k s id offset w.kept offset 0 w.fits w.legals w.same (omega arith) (omega arith) (omega arith))

  pub passes_is : (r : Row) → row_passes strings k s r ≡ sound_row w.kept r
  unfolding row_passes sound_row
  passes_is r = rw (there_is r.rank r.offset)

  pub rows_are : (rs : List Row) → all (row_passes strings k s) rs ≡ all (sound_row w.kept) rs
  rows_are rs = all_same (row_passes strings k s) (sound_row w.kept) passes_is rs

-- ---- the kind store

module _ (strings : ℕ) (k : Kind) (s : KindStore) where
  accepted : all is_byte s.arena ≡ true → sound_kind_store strings k s ≡ true → SoundKindStore strings k s
  unfolding sound_kind_store sound_used
  accepted b h =
      let u = both_right _ _ h in
      let v = both_right _ _ u in
      let w = sound strings k (take s.used s.arena) (bytes_take s.used s.arena b) (both_left _ _ u) in
      record {
        fits = leb-true s.used (length s.arena) (both_left _ _ h);
        whole = w;
        order = both_left _ _ v;
        rows = sym (rows_are strings k (take s.used s.arena) w (rows_of s.table s.ids)) ∙ both_right _ _ v;
      }

  kept_sound : SoundKindStore strings k s → sound_kind_store strings k s ≡ true
  unfolding sound_kind_store sound_used
  kept_sound w =
      both_of (le-leb s.used (length s.arena) w.fits)
      (both_of (complete strings k (take s.used s.arena) w.whole)
      (both_of w.order (rows_are strings k (take s.used s.arena) w.whole (rows_of s.table s.ids) ∙ w.rows)))

  -- the test accepts what is sound, and nothing else
  pub decides : all is_byte s.arena ≡ true → (sound_kind_store strings k s ≡ true) ↔ SoundKindStore strings k s
  decides b = (accepted b, kept_sound)
