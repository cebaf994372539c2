-- parse.rs, `is_empty`, of a sound overlay: no id of any kind, live or deleted.
use Rattle.std.proofs.Common.{◌≡◌, ℕ, suc, ◌+◌, eqb, List, [], ◌∷◌, length, ℤ, sym, refl, ap, ◌∙◌, arith, ne_eqb}
use lib.ListN.{length-map}
use Rattle.base.specs.Bytes.{both}
use Rattle.base.proofs.Split.{by_bool}
use Rattle.kind.specs.declared.Kind.{Kind}
use Rattle.kind.specs.declared.Kind.TheVariants as K
use Rattle.kind_reading.specs.declared.Side.TheVariants.{Live, Deleted}
use Rattle.listing.specs.Table.{Ranked}
use Rattle.overlay.specs.Overlay.{Overlay, kind_store_of}
use Rattle.overlay.specs.Given.{InBytes}
use Rattle.overlay.specs.Sound.{Sound}
use Rattle.overlay.proofs.Decides.{decides}
use Rattle.overlay_reading.specs.Reading.{yes, no_ids, is_empty_on}
use Rattle.overlay_reading.proofs.Numbers.{counts_all}
use Rattle.published.specs.Std.{is_lt, Entry}
use Rattle.published.specs.OsmId.{osm_id_cmp}
use Rattle.published.specs.Parse.{KindFields, CompactDiffOverlay, no_entries, no_ids_of, is_empty}
use Rattle.published.specs.Sorted.{put_sorted, sort_by_id, build, kind_sorted, into_sorted}
use Rattle.refines.specs.OneKind.{SameFields}
use Rattle.refines.specs.Overlays.{fields_of}
use Rattle.refines.specs.Numbers.{sorted_kind, ids_on}
use Rattle.refines.proofs.Numbers.{counts}

-- ---- a sort keeps the length

module _ {A : Type 0} (id : A → ℤ) where
  put_length : (x : A) (ys : List A) → length (put_sorted id x ys) ≡ suc (length ys)
  unfolding put_sorted
  put_length x [] = refl
  put_length x (y ∷ ys) = by_bool (is_lt (osm_id_cmp (id x) (id y))) (λ t. rw t) (λ t. rw t (ap suc (put_length x ys)))

  sort_length : (xs : List A) → length (sort_by_id id xs) ≡ length xs
  unfolding sort_by_id
  sort_length [] = refl
  sort_length (x ∷ xs) = put_length x (sort_by_id id xs) ∙ ap suc (sort_length xs)

-- ---- two lists are empty where they hold nothing together

none_held : {A B : Type 0} (xs : List A) (ys : List B) → eqb (length xs + length ys) 0 ≡ both (no_entries xs) (no_entries ys)
unfolding both
none_held [] [] = refl
none_held [] (y ∷ ys) = ne_eqb (0 + suc (length ys)) 0 (λ e. omega arith)
none_held (x ∷ xs) ys = ne_eqb (suc (length xs) + length ys) 0 (λ e. omega arith)

-- ---- of one kind

-- node_index.len(), deleted_nodes.len()
live_length : (s : KindFields) → length (kind_sorted s).ids ≡ length s.index
unfolding build
live_length s = length-map (sort_by_id (λ (e : Entry ℕ). e.key) s.index) (λ (e : Entry ℕ). e.key) ∙ sort_length (λ (e : Entry ℕ). e.key) s.index

deleted_length : (s : KindFields) → length (kind_sorted s).deleted ≡ length s.deleted
unfolding build
deleted_length s = sort_length (λ (x : ℤ). x) s.deleted

sorted_length : (k : Kind) (r : CompactDiffOverlay)
    → length (ids_on Live (sorted_kind k r)) + length (ids_on Deleted (sorted_kind k r)) ≡ length (fields_of k r).index + length (fields_of k r).deleted
unfolding into_sorted
sorted_length K.Node r = rw (live_length r.nodes, deleted_length r.nodes)
sorted_length K.Way r = rw (live_length r.ways, deleted_length r.ways)
sorted_length K.Relation r = rw (live_length r.relations, deleted_length r.relations)

kind_empty : (o : Overlay) → InBytes o → Sound o → Ranked o → (r : CompactDiffOverlay) (k : Kind) → SameFields (kind_store_of k o) (fields_of k r)
    → eqb (kind_store_of k o).ids 0 ≡ no_ids_of (fields_of k r)
kind_empty o b w ranks r k same =
    let all = counts_all o b w k _ _ (counts o b w ranks r k same Live) (counts o b w ranks r k same Deleted) in
    rw (sym all ∙ sorted_length k r) (none_held (fields_of k r).index (fields_of k r).deleted)

-- ---- fn is_empty(&self) -> bool

pub empty_same : (o : Overlay) → InBytes o → Sound o → Ranked o → (r : CompactDiffOverlay) → ((k : Kind) → SameFields (kind_store_of k o) (fields_of k r)) → is_empty_on o ≡ yes (is_empty r)
unfolding is_empty_on no_ids is_empty
empty_same o b w ranks r same =
    let empty : (k : Kind) → eqb (kind_store_of k o).ids 0 ≡ no_ids_of (fields_of k r) = λ k. kind_empty o b w ranks r k (same k) in
    rw ((decides o b).1 w, empty K.Node, empty K.Way, empty K.Relation)
