-- One kind's part of the blocks lent and back: the overlay is as it was but for that kind. The strings' part lent and back: but for the strings.
use Prim.Native.Nat.{ℕ, ◌+◌, ◌-◌, ◌≤◌, ◌<◌}
use mathlib.Core.Path.{◌≡◌, refl, sym, ◌∙◌, ap}
use mathlib.Core.List.{List}
use native.Mathlib.Omega.{arith}
use lib.ListN.{length, get_or, drop}
use borrow.Rule.Slice.PartMut.{put_mid, mid_len, same_len_mid}
use Rattle.kind.specs.declared.Kind.{Kind}
use Rattle.kind.specs.declared.Kind.TheVariants.{Node, Way, Relation}
use Rattle.interner.specs.Strings.{Store, store_with}
use Rattle.kind_store.specs.KindStore.{kind_store_with}
use Rattle.overlay_blocks.specs.declared.Sizes.{Sizes}
use Rattle.overlay_blocks.specs.declared.KindPart.{KindPart}
use Rattle.overlay_blocks.specs.declared.TextPart.{TextPart}
use Rattle.overlay_blocks.specs.Blocks.{cut, sizes_in, InOrder, word_ends, byte_ends, part_in, Within, text_part_in}
use Rattle.overlay_blocks.proofs.Cuts.{cut_same, cut_before, cut_after, drop_after, drop_same, cut_all}
use Rattle.overlay_blocks.proofs.Orders.{words_in_order, bytes_in_order, part_within, Before, by_order, before_texts}
use Rattle.overlay.specs.Overlay.{kind_store_of, with_kind_store, with_texts}
use Rattle.overlay.specs.Lent.{kind_store_in, texts_in, overlay_for, overlay_in}
use Rattle.overlay.proofs.KindStores.{each_other_kind_store, same_overlay, kind_store_texts, kind_store_setting, kind_store_all_sizes, texts_kind_store}

-- ---- counters

-- every counter but two is as it was
abbrev pub Others : ℕ → ℕ → List ℕ → List ℕ → Type 0
Others i j c d = (k : ℕ) → (k ≡ i → ⊥) → (k ≡ j → ⊥) → get_or d k 0 ≡ get_or c k 0

module _ (i j : ℕ) (c d : List ℕ) (m : i < 8) (n : j < 8) (h : Others i j c d) where
  -- the setting and the sizes stand behind the counters that calls write
  behind : (x : ℕ) → 8 ≤ x → get_or d x 0 ≡ get_or c x 0
  behind x l = h x (λ e. omega (arith, e)) (λ e. omega (arith, e))

  sizes_kept : sizes_in d ≡ sizes_in c
  sizes_kept =
      rw (
        behind 9 (omega arith),
        behind 10 (omega arith),
        behind 11 (omega arith),
        behind 12 (omega arith),
        behind 13 (omega arith),
        behind 14 (omega arith),
        behind 15 (omega arith),
        behind 16 (omega arith),
      )

-- ---- what is lent of a kind is its kind store

pub kind_store_for : (k : Kind) (z : Sizes) (words bytes counters : List ℕ)
    → kind_store_of k (overlay_for z words bytes counters) ≡ kind_store_in (part_in k z (length words) (length bytes)) words bytes counters
kind_store_for Node z words bytes counters = refl
kind_store_for Way z words bytes counters = refl
kind_store_for Relation z words bytes counters = refl

pub kind_store_in_lem : (k : Kind) (words bytes counters : List ℕ) (p : KindPart) → p ≡ part_in k (sizes_in counters) (length words) (length bytes)
    → kind_store_in p words bytes counters ≡ kind_store_of k (overlay_in words bytes counters)
kind_store_in_lem k words bytes counters p q = rw q (sym (kind_store_for k (sizes_in counters) words bytes counters))

-- by the sizes and the lengths that were, where they are as they were
in_sizes : (words bytes c v w d : List ℕ) → length v ≡ length words → length w ≡ length bytes → sizes_in d ≡ sizes_in c
    → (k : Kind) → kind_store_of k (overlay_in v w d) ≡ kind_store_in (part_in k (sizes_in c) (length words) (length bytes)) v w d
in_sizes words bytes c v w d m n s k =
    kind_store_for k (sizes_in d) v w d ∙ ap (λ z. kind_store_in (part_in k z (length v) (length w)) v w d) s
    ∙ rw (m, n)

texts_in_sizes : (words bytes c v w d : List ℕ) → length v ≡ length words → length w ≡ length bytes → sizes_in d ≡ sizes_in c
    → (overlay_in v w d).texts ≡ texts_in (text_part_in (sizes_in c) (length words) (length bytes)) v w d
texts_in_sizes words bytes c v w d m n s =
    ap (λ z. texts_in (text_part_in z (length v) (length w)) v w d) s
    ∙ rw (m, n)

-- ---- a kind's part written

module _ (k : Kind) (words bytes c d : List ℕ) (s t : List ℕ) where
  abbrev part : Kind → KindPart
  part j = part_in j (sizes_in c) (length words) (length bytes)

  -- the blocks with s and t in the kind's place
  abbrev put_words : List ℕ
  put_words = put_mid (part k).from ((part k).to - (part k).from) words s

  abbrev put_bytes : List ℕ
  put_bytes = put_mid (part k).first ((part k).end - (part k).first) bytes t

  module _ (m : length s ≡ (part k).to - (part k).from) (n : length t ≡ (part k).end - (part k).first) (h : Others (part k).at ((part k).at + 3) c d) where
    abbrev in_words : Within (part k) (length words) (length bytes)
    in_words = part_within (sizes_in c) (length words) (length bytes) k

    abbrev ordered : InOrder (word_ends (sizes_in c) (length words)) (length words)
    ordered = words_in_order (sizes_in c) (length words) (length bytes)

    abbrev ordered_bytes : InOrder (byte_ends (sizes_in c) (length bytes)) (length bytes)
    ordered_bytes = bytes_in_order (sizes_in c) (length words) (length bytes)

    put_words_long : length put_words ≡ length words
    put_words_long = same_len_mid (part k).from ((part k).to - (part k).from) words s (m ∙ sym (mid_len (part k).from (part k).to words in_words.to))

    put_bytes_long : length put_bytes ≡ length bytes
    put_bytes_long = same_len_mid (part k).first ((part k).end - (part k).first) bytes t (n ∙ sym (mid_len (part k).first (part k).end bytes in_words.end))

    put_sizes : sizes_in d ≡ sizes_in c
    put_sizes = let i = in_words in sizes_kept (part k).at ((part k).at + 3) c d (omega (arith, i.at)) (omega (arith, i.at)) h

    put_same : kind_store_in (part k) put_words put_bytes d ≡ kind_store_with s (get_or d (part k).at 0) t (get_or d ((part k).at + 3) 0)
    put_same =
        let i = in_words in
        rw (
          cut_same (part k).from (part k).to words s i.from i.to m,
          cut_same (part k).first (part k).end bytes t i.first i.end n,
        )

    put_other : (j : Kind) → (j ≡ k → ⊥) → kind_store_in (part j) put_words put_bytes d ≡ kind_store_in (part j) words bytes c
    put_other j x =
        let i = in_words in
        let o = part_within (sizes_in c) (length words) (length bytes) j in
        by_order j k (word_ends (sizes_in c) (length words)) (byte_ends (sizes_in c) (length bytes)) (length words) (length bytes) ordered ordered_bytes x
        (λ (b : Before (part j) (part k)).
        rw (
          cut_before (part k).from (part k).to words s i.from i.to m (part j).from (part j).to o.from b.words,
          cut_before (part k).first (part k).end bytes t i.first i.end n (part j).first (part j).end o.first b.bytes,
          h (part j).at (λ e. omega (arith, e, b.at)) (λ e. omega (arith, e, b.at, o.at)),
          h ((part j).at + 3) (λ e. omega (arith, e, b.at, i.at)) (λ e. omega (arith, e, b.at)),
        ))
        (λ (b : Before (part k) (part j)).
        rw (
          cut_after (part k).from (part k).to words s i.from i.to m (part j).from (part j).to b.words,
          cut_after (part k).first (part k).end bytes t i.first i.end n (part j).first (part j).end b.bytes,
          h (part j).at (λ e. omega (arith, e, b.at)) (λ e. omega (arith, e, b.at, o.at)),
          h ((part j).at + 3) (λ e. omega (arith, e, b.at, i.at)) (λ e. omega (arith, e, b.at)),
        ))

    -- the rest of the blocks is as it was
    put_texts : (overlay_in put_words put_bytes d).texts ≡ (overlay_in words bytes c).texts
    put_texts =
        let i = in_words in
        let z = text_part_in (sizes_in c) (length words) (length bytes) in
        let b = before_texts k (word_ends (sizes_in c) (length words)) (byte_ends (sizes_in c) (length bytes)) (length words) (length bytes) ordered ordered_bytes in
        texts_in_sizes words bytes c put_words put_bytes d put_words_long put_bytes_long put_sizes
        ∙ rw (
          drop_after (part k).from (part k).to words s i.from i.to m z.spans b.0,
          drop_after (part k).first (part k).end bytes t i.first i.end n z.bytes b.1,
          h 6 (λ e. omega (arith, e, i.at)) (λ e. omega (arith, e, i.at)),
          h 7 (λ e. omega (arith, e, i.at)) (λ e. omega (arith, e, i.at)),
        )

    put_whole : overlay_in put_words put_bytes d ≡ with_kind_store k (kind_store_with s (get_or d (part k).at 0) t (get_or d ((part k).at + 3) 0)) (overlay_in words bytes c)
    put_whole =
        let i = in_words in
        let new = kind_store_with s (get_or d (part k).at 0) t (get_or d ((part k).at + 3) 0) in
        let was = overlay_in words bytes c in
        let now_in = in_sizes words bytes c put_words put_bytes d put_words_long put_bytes_long put_sizes in
        same_overlay (overlay_in put_words put_bytes d) (with_kind_store k new was)
        (λ j. now_in j ∙ each_other_kind_store (λ x r. kind_store_in (part x) put_words put_bytes d ≡ r) k new was put_same
        (λ x e. put_other x e ∙ sym (kind_store_for x (sizes_in c) words bytes c)) j)
        (put_texts ∙ sym (kind_store_texts k new was))
        (h 8 (λ e. omega (arith, e, i.at)) (λ e. omega (arith, e, i.at)) ∙ sym (kind_store_setting k new was))
        (put_sizes ∙ sym (kind_store_all_sizes k new was))

-- a kind's part written: the rest of the blocks is as it was
pub kind_put : (k : Kind) (words bytes c d : List ℕ) (p : KindPart) → p ≡ part_in k (sizes_in c) (length words) (length bytes) → (s t : List ℕ)
    → length s ≡ length (cut p.from p.to words) → length t ≡ length (cut p.first p.end bytes) → Others p.at (p.at + 3) c d
    → overlay_in (put_mid p.from (p.to - p.from) words s) (put_mid p.first (p.end - p.first) bytes t) d
    ≡ with_kind_store k (kind_store_with s (get_or d p.at 0) t (get_or d (p.at + 3) 0)) (overlay_in words bytes c)
kind_put k words bytes c d p q s t m n h =
    let l : Within p (length words) (length bytes) = rw q (part_within (sizes_in c) (length words) (length bytes) k) in
    let i = m ∙ mid_len p.from p.to words l.to in
    let j = n ∙ mid_len p.first p.end bytes l.end in
    rw q (put_whole k words bytes c d s t (rw q at i) (rw q at j) (rw q at h))

-- ---- the strings' part

-- what is lent of the strings is the overlay's
pub texts_lent : (words bytes counters : List ℕ) (t : TextPart) → t ≡ text_part_in (sizes_in counters) (length words) (length bytes)
    → store_with (cut t.spans (length words) words) (cut t.bytes (length bytes) bytes) (get_or counters 6 0) (get_or counters 7 0) ≡ (overlay_in words bytes counters).texts
texts_lent words bytes counters t q = rw (q, cut_all (text_part_in (sizes_in counters) (length words) (length bytes)).spans words, cut_all (text_part_in (sizes_in counters) (length words) (length bytes)).bytes bytes)

-- the strings' part of a block written: what a kind has of it lies before
module _ (z : Sizes) (words bytes s t : List ℕ) where
  abbrev texts_part : TextPart
  texts_part = text_part_in z (length words) (length bytes)

  abbrev with_spans : List ℕ
  with_spans = put_mid texts_part.spans (length words - texts_part.spans) words s

  abbrev with_bytes : List ℕ
  with_bytes = put_mid texts_part.bytes (length bytes - texts_part.bytes) bytes t

  module _ (m : length s ≡ length words - texts_part.spans) where
    pub spans_long : length with_spans ≡ length words
    spans_long = same_len_mid texts_part.spans (length words - texts_part.spans) words s (m ∙ sym (mid_len texts_part.spans (length words) words (omega arith)))

    pub spans_same : drop texts_part.spans with_spans ≡ s
    spans_same = drop_same texts_part.spans words s (words_in_order z (length words) (length bytes)).relations m

    pub table_before : (k : Kind) → cut (part_in k z (length words) (length bytes)).from (part_in k z (length words) (length bytes)).to with_spans
        ≡ cut (part_in k z (length words) (length bytes)).from (part_in k z (length words) (length bytes)).to words
    table_before k =
        let o = words_in_order z (length words) (length bytes) in
        let i = bytes_in_order z (length words) (length bytes) in
        let b = before_texts k (word_ends z (length words)) (byte_ends z (length bytes)) (length words) (length bytes) o i in
        cut_before texts_part.spans (length words) words s o.relations (omega arith) m _ _ (part_within z (length words) (length bytes) k).from b.0

  module _ (n : length t ≡ length bytes - texts_part.bytes) where
    bytes_long : length with_bytes ≡ length bytes
    bytes_long = same_len_mid texts_part.bytes (length bytes - texts_part.bytes) bytes t (n ∙ sym (mid_len texts_part.bytes (length bytes) bytes (omega arith)))

    bytes_same : drop texts_part.bytes with_bytes ≡ t
    bytes_same = drop_same texts_part.bytes bytes t (bytes_in_order z (length words) (length bytes)).relations n

    arena_before : (k : Kind) → cut (part_in k z (length words) (length bytes)).first (part_in k z (length words) (length bytes)).end with_bytes
        ≡ cut (part_in k z (length words) (length bytes)).first (part_in k z (length words) (length bytes)).end bytes
    arena_before k =
        let o = words_in_order z (length words) (length bytes) in
        let i = bytes_in_order z (length words) (length bytes) in
        let b = before_texts k (word_ends z (length words)) (byte_ends z (length bytes)) (length words) (length bytes) o i in
        cut_before texts_part.bytes (length bytes) bytes t i.relations (omega arith) n _ _ (part_within z (length words) (length bytes) k).first b.1

module _ (words bytes c d s t : List ℕ) (m : length s ≡ length words - (text_part_in (sizes_in c) (length words) (length bytes)).spans)
    (n : length t ≡ length bytes - (text_part_in (sizes_in c) (length words) (length bytes)).bytes) (h : Others 6 7 c d) where
  abbrev new_words : List ℕ
  new_words = with_spans (sizes_in c) words bytes s t

  abbrev new_bytes : List ℕ
  new_bytes = with_bytes (sizes_in c) words bytes s t

  abbrev new_texts : Store
  new_texts = store_with s t (get_or d 6 0) (get_or d 7 0)

  kind_written : (k : Kind) → kind_store_in (part_in k (sizes_in c) (length words) (length bytes)) new_words new_bytes d ≡ kind_store_in (part_in k (sizes_in c) (length words) (length bytes)) words bytes c
  kind_written k =
      let i = part_within (sizes_in c) (length words) (length bytes) k in
      let p = part_in k (sizes_in c) (length words) (length bytes) in
      rw (
        table_before (sizes_in c) words bytes s t m k,
        arena_before (sizes_in c) words bytes s t n k,
        h p.at (λ e. omega (arith, e, i.at)) (λ e. omega (arith, e, i.at)),
        h (p.at + 3) (λ e. omega (arith, e, i.at)) (λ e. omega (arith, e, i.at)),
      )

  texts_written : overlay_in new_words new_bytes d ≡ with_texts new_texts (overlay_in words bytes c)
  texts_written =
      let x = spans_long (sizes_in c) words bytes s t m in
      let y = bytes_long (sizes_in c) words bytes s t n in
      let kept = sizes_kept 6 7 c d (omega arith) (omega arith) h in
      same_overlay (overlay_in new_words new_bytes d) (with_texts new_texts (overlay_in words bytes c))
      (λ k. in_sizes words bytes c new_words new_bytes d x y kept k ∙ kind_written k ∙ sym (kind_store_for k (sizes_in c) words bytes c)
      ∙ sym (texts_kind_store k new_texts (overlay_in words bytes c)))
      (texts_in_sizes words bytes c new_words new_bytes d x y kept ∙ rw (spans_same (sizes_in c) words bytes s t m, bytes_same (sizes_in c) words bytes s t n))
      (h 8 (λ e. omega (arith, e)) (λ e. omega (arith, e)))
      kept

pub texts_put : (words bytes c d : List ℕ) (p : TextPart) → p ≡ text_part_in (sizes_in c) (length words) (length bytes) → (s t : List ℕ)
    → length s ≡ length (cut p.spans (length words) words) → length t ≡ length (cut p.bytes (length bytes) bytes) → Others 6 7 c d
    → overlay_in (put_mid p.spans (length words - p.spans) words s) (put_mid p.bytes (length bytes - p.bytes) bytes t) d
    ≡ with_texts (store_with s t (get_or d 6 0) (get_or d 7 0)) (overlay_in words bytes c)
texts_put words bytes c d p q s t m n h =
    let i = m ∙ mid_len p.spans (length words) words (omega arith) in
    let j = n ∙ mid_len p.bytes (length bytes) bytes (omega arith) in
    rw q (texts_written words bytes c d s t (rw q at i) (rw q at j) h)
