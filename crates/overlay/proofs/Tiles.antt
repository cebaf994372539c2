-- The sizes of an overlay: what the test of them says of each part, what keeps it, and that the test of the numbers is the test of the parts that they cut.
use Prim.Native.Nat.{ℕ, ◌+◌, ◌*◌, ◌≤◌}
use mathlib.Core.Path.{◌≡◌, refl, ◌∙◌}
use mathlib.Core.Bool.{true}
use mathlib.Core.List.{List}
use native.Mathlib.Omega.{arith}
use lib.ListN.{length}
use borrow.Author.Tests.{eqb-true, eq-eqb}
use Rattle.base.specs.Bytes.{Bytes}
use Rattle.base.proofs.Split.{both_left, both_right, both_of, same_test}
use Rattle.kind.specs.declared.Kind.{Kind}
use Rattle.kind.specs.declared.Kind.TheVariants.{Node, Way, Relation}
use Rattle.interner.specs.Strings.{Store}
use Rattle.kind_store.specs.KindStore.{KindStore}
use Rattle.overlay_blocks.specs.declared.KindSize.{KindSize}
use Rattle.overlay_blocks.specs.declared.Sizes.{Sizes}
use Rattle.overlay_blocks.specs.Blocks.{word_ends, byte_ends}
use Rattle.overlay_blocks.specs.Sizes.{Limits, largest, sizes_in_range, filled, fitted, SmallKind, Small}
use Rattle.overlay_blocks.proofs.Tiling.{Whole, whole, of_whole}
use Rattle.overlay_blocks.proofs.Ranges.{small, one_string}
use Rattle.overlay.specs.Overlay.{Overlay, kind_store_of, kind_size_of, with_kind_store, with_texts, with_sizes, kind_tiled, texts_tiled, tiled, sizes_fit}
use Rattle.overlay.specs.Lent.{overlay_for}
use Rattle.overlay.proofs.KindStores.{kind_store_sizes, each_kind_store, texts_kind_store}

-- ---- each part is as long as the sizes say

pub record KindTiled (z : KindSize) (s : KindStore) : Type 0 where
  pub table : length s.table ≡ 3 * z.ids
  pub arena : length s.arena ≡ z.bytes

pub record Tiled (o : Overlay) : Type 0 where
  pub kinds : (k : Kind) → KindTiled (kind_size_of k o) (kind_store_of k o)
  pub spans : length o.texts.spans ≡ 2 * o.sizes.strings
  pub bytes : length o.texts.bytes ≡ o.sizes.string_bytes

kind_tiled_lem : (z : KindSize) (s : KindStore) → kind_tiled z s ≡ true → KindTiled z s
unfolding kind_tiled
kind_tiled_lem z s h = record { table = eqb-true _ _ (both_left _ _ h); arena = eqb-true _ _ (both_right _ _ h) }

of_kind_tiled : (z : KindSize) (s : KindStore) → KindTiled z s → kind_tiled z s ≡ true
unfolding kind_tiled
of_kind_tiled z s w = both_of (eq-eqb _ _ w.table) (eq-eqb _ _ w.arena)

module _ (o : Overlay) where
  kinds_tiled : tiled o ≡ true → (k : Kind) → KindTiled (kind_size_of k o) (kind_store_of k o)
  unfolding tiled
  kinds_tiled h Node = kind_tiled_lem _ _ (both_left _ _ h)
  kinds_tiled h Way = kind_tiled_lem _ _ (both_left _ _ (both_right _ _ h))
  kinds_tiled h Relation = kind_tiled_lem _ _ (both_left _ _ (both_right _ _ (both_right _ _ h)))

  tiled_of : tiled o ≡ true → Tiled o
  unfolding tiled texts_tiled
  tiled_of h =
      let t = both_right _ _ (both_right _ _ (both_right _ _ h)) in
      record { kinds = kinds_tiled h; spans = eqb-true _ _ (both_left _ _ t); bytes = eqb-true _ _ (both_right _ _ t) }

  of_tiled : Tiled o → tiled o ≡ true
  unfolding tiled texts_tiled
  of_tiled w =
      both_of (of_kind_tiled _ _ (w.kinds Node)) (both_of (of_kind_tiled _ _ (w.kinds Way)) (both_of (of_kind_tiled _ _ (w.kinds Relation))
      (both_of (eq-eqb _ _ w.spans) (eq-eqb _ _ w.bytes))))

  pub sized_tiled : (l : Limits) → sizes_fit l o ≡ true → Tiled o
  unfolding sizes_fit
  sized_tiled l h = tiled_of (both_right _ _ h)

  pub sized_range : (l : Limits) → sizes_fit l o ≡ true → sizes_in_range l o.sizes ≡ true
  unfolding sizes_fit
  sized_range l h = both_left _ _ h

  pub sized_of : (l : Limits) → sizes_in_range l o.sizes ≡ true → Tiled o → sizes_fit l o ≡ true
  unfolding sizes_fit
  sized_of l r w = both_of r (of_tiled w)

-- ---- what is lent at most, and at least

small_kinds : (o : Overlay) → Small o.sizes → (k : Kind) → SmallKind (kind_size_of k o)
small_kinds o w Node = w.nodes
small_kinds o w Way = w.ways
small_kinds o w Relation = w.relations

module _ (o : Overlay) (h : sizes_fit largest o ≡ true) where
  pub sized_arena : (k : Kind) → length (kind_store_of k o).arena ≤ 1048576
  sized_arena k = rw ((sized_tiled o largest h).kinds k).arena (small_kinds o (small o.sizes (sized_range o largest h)) k).bytes

  pub sized_spans : length o.texts.spans ≤ 2 * 4096
  sized_spans = let s = (small o.sizes (sized_range o largest h)).strings in rw (sized_tiled o largest h).spans (omega arith)

  -- one string at least
  pub span_lent : 2 ≤ length o.texts.spans
  span_lent = let s = one_string o.sizes (sized_range o largest h) in rw (sized_tiled o largest h).spans (omega arith)

-- ---- parts of the same lengths put keep the sizes

pub put_sized : (l : Limits) (k : Kind) (s : KindStore) (o : Overlay) → length s.table ≡ length (kind_store_of k o).table → length s.arena ≡ length (kind_store_of k o).arena
    → sizes_fit l o ≡ true → sizes_fit l (with_kind_store k s o) ≡ true
put_sized l k s o e f h =
    let w = sized_tiled o l h in
    let t = w.kinds k in
    let kinds = each_kind_store (λ j r. KindTiled (kind_size_of j o) r) k s o (record { table = e ∙ t.table; arena = f ∙ t.arena }) w.kinds in
    sized_of (with_kind_store k s o) l (kind_sizes k) (record { kinds = λ j. rw kind_store_sizes (kinds j); spans = spans k; bytes = bytes k })
  where
    kind_sizes : (k : Kind) → sizes_in_range l (with_kind_store k s o).sizes ≡ true
    kind_sizes Node = sized_range o l h
    kind_sizes Way = sized_range o l h
    kind_sizes Relation = sized_range o l h

    spans : (k : Kind) → length (with_kind_store k s o).texts.spans ≡ 2 * (with_kind_store k s o).sizes.strings
    spans Node = (sized_tiled o l h).spans
    spans Way = (sized_tiled o l h).spans
    spans Relation = (sized_tiled o l h).spans

    bytes : (k : Kind) → length (with_kind_store k s o).texts.bytes ≡ (with_kind_store k s o).sizes.string_bytes
    bytes Node = (sized_tiled o l h).bytes
    bytes Way = (sized_tiled o l h).bytes
    bytes Relation = (sized_tiled o l h).bytes

texts_sizes : (j : Kind) (t : Store) (o : Overlay) → kind_size_of j (with_texts t o) ≡ kind_size_of j o
texts_sizes Node t o = refl
texts_sizes Way t o = refl
texts_sizes Relation t o = refl

pub interned_sized : (l : Limits) (t : Store) (o : Overlay) → length t.spans ≡ length o.texts.spans → length t.bytes ≡ length o.texts.bytes
    → sizes_fit l o ≡ true → sizes_fit l (with_texts t o) ≡ true
interned_sized l t o e f h =
    let w = sized_tiled o l h in
    sized_of (with_texts t o) l (sized_range o l h) (record { kinds = λ k. rw (texts_kind_store, texts_sizes) (w.kinds k); spans = e ∙ w.spans; bytes = f ∙ w.bytes })

-- ---- the test of the numbers is the test of the parts

module _ (z : Sizes) (words : List ℕ) (bytes : Bytes) (counters : List ℕ) where
  abbrev the : Overlay
  the = with_sizes z (overlay_for z words bytes counters)

  filled_tiled : filled z (length words) (length bytes) ≡ true → tiled the ≡ true
  unfolding filled
  filled_tiled h =
      let e : 3 * (z.nodes.ids + z.ways.ids + z.relations.ids) + 2 * z.strings ≡ length words = eqb-true _ _ (both_left _ _ h) in
      let f : z.nodes.bytes + z.ways.bytes + z.relations.bytes + z.string_bytes ≡ length bytes = eqb-true _ _ (both_right _ _ h) in
      let w = whole (3 * z.nodes.ids) (3 * z.ways.ids) (3 * z.relations.ids) (2 * z.strings) words (omega (arith, e)) in
      let b = whole z.nodes.bytes z.ways.bytes z.relations.bytes z.string_bytes bytes f in
      of_tiled the (record { kinds = kinds w b; spans = w.behind; bytes = b.behind })
    where
      kinds : Whole (3 * z.nodes.ids) (3 * z.ways.ids) (3 * z.relations.ids) (2 * z.strings) (word_ends z (length words)) words
          → Whole z.nodes.bytes z.ways.bytes z.relations.bytes z.string_bytes (byte_ends z (length bytes)) bytes
          → (k : Kind) → KindTiled (kind_size_of k the) (kind_store_of k the)
      kinds w b Node = record { table = w.nodes; arena = b.nodes }
      kinds w b Way = record { table = w.ways; arena = b.ways }
      kinds w b Relation = record { table = w.relations; arena = b.relations }

  tiled_filled : tiled the ≡ true → filled z (length words) (length bytes) ≡ true
  unfolding filled
  tiled_filled h =
      let t = tiled_of the h in
      let n = t.kinds Node in
      let w = t.kinds Way in
      let r = t.kinds Relation in
      let e = of_whole (3 * z.nodes.ids) (3 * z.ways.ids) (3 * z.relations.ids) (2 * z.strings) words (record { nodes = n.table; ways = w.table; relations = r.table; behind = t.spans }) in
      let f = of_whole z.nodes.bytes z.ways.bytes z.relations.bytes z.string_bytes bytes (record { nodes = n.arena; ways = w.arena; relations = r.arena; behind = t.bytes }) in
      both_of (eq-eqb (3 * (z.nodes.ids + z.ways.ids + z.relations.ids) + 2 * z.strings) (length words) (omega (arith, e))) (eq-eqb _ _ f)

  pub fits_in : fitted largest z (length words) (length bytes) ≡ sizes_fit largest the
  unfolding fitted sizes_fit
  fits_in =
      same_test _ _
      (λ h. both_of (both_left _ _ h) (filled_tiled (both_right _ _ h)))
      (λ h. both_of (both_left _ _ h) (tiled_filled (both_right _ _ h)))
