-- Set-up makes a sound overlay; the regression setting and a kind store put anew keep one sound, and its bytes bytes.
use Prim.Native.Nat.{ℕ, ◌≤◌}
use mathlib.Core.Path.{◌≡◌, refl, sym, ◌∙◌}
use mathlib.Core.Bool.{true}
use lib.ListN.{length, take}
use Rattle.base.specs.Bytes.{all}
use Rattle.little.specs.Little.{is_byte}
use Rattle.little.proofs.Overs.{length_over}
use Rattle.kind.specs.declared.Kind.{Kind}
use Rattle.kind.specs.declared.Kind.TheVariants.{Node, Way, Relation}
use Rattle.compact_legal.proofs.Laws.{whole_more}
use Rattle.compact_legal.proofs.Wholes.{kept_unique}
use Rattle.interner.specs.Sound.{fresh_store}
use Rattle.interner.proofs.Interns as Interns
use Rattle.kind_store.specs.KindStore.{KindStore, taken_in}
use Rattle.kind_sound.specs.Sound.{SoundKindStore}
use Rattle.kind_sound.proofs.Keeps as Sounds
use Rattle.overlay_blocks.specs.Sizes.{largest}
use Rattle.overlay.specs.Overlay.{Overlay, kind_store_of, kind_size_of, with_kind_store, with_sizes, tiled, sizes_fit, emptied, empty}
use Rattle.overlay_blocks.specs.declared.Sizes.{Sizes}
use Rattle.overlay.specs.Given.{InBytes}
use Rattle.overlay.specs.Sound.{Sound}
use Rattle.overlay.specs.Calls.{set_up, allow_on}
use Rattle.overlay.proofs.Answers.{by_kept, setup_refused, setup_taken, by_allow}
use Rattle.overlay.proofs.KindStores.{kind_store_texts, each_kind_store, setting_kind_store}
use Rattle.overlay.proofs.Tiles.{KindTiled, sized_tiled, sized_range, sized_of, span_lent, put_sized}

-- ---- set-up makes a sound overlay

module _ (setting : ℕ) (o : Overlay) where
  emptied_kind_store : (P : Kind → KindStore → Type 0) → ((k : Kind) → P k (emptied (kind_store_of k o))) → (k : Kind) → P k (kind_store_of k (empty setting o))
  emptied_kind_store P f Node = f Node
  emptied_kind_store P f Way = f Way
  emptied_kind_store P f Relation = f Relation

  emptied_sizes : (k : Kind) → kind_size_of k (empty setting o) ≡ kind_size_of k o
  emptied_sizes Node = refl
  emptied_sizes Way = refl
  emptied_sizes Relation = refl

  empty_sized : sizes_fit largest o ≡ true → sizes_fit largest (empty setting o) ≡ true
  empty_sized h =
      let w = sized_tiled o largest h in
      let kinds = emptied_kind_store (λ k s. KindTiled (kind_size_of k o) s) (λ k. record { table = (w.kinds k).table; arena = (w.kinds k).arena }) in
      sized_of (empty setting o) largest (sized_range o largest h)
      (record { kinds = λ k. rw emptied_sizes (kinds k); spans = length_over o.texts.spans 0 _ ∙ w.spans; bytes = w.bytes })

  empty_sound : sizes_fit largest o ≡ true → Sound (empty setting o)
  empty_sound h =
      record {
        sizes = empty_sized h;
        strings = Interns.sound_of (fresh_store o.texts.spans o.texts.bytes) (Interns.fresh_sound o.texts.spans o.texts.bytes (span_lent o h));
        kind_stores = emptied_kind_store (SoundKindStore 1) (λ k. Sounds.empty_sound 1 k (kind_store_of k o).table (kind_store_of k o).arena);
      }

-- other sizes leave each kind store
sized_kind_store_same : (z : Sizes) (o : Overlay) → InBytes o → (k : Kind) → all is_byte (kind_store_of k (with_sizes z o)).arena ≡ true
sized_kind_store_same z o w Node = w.arenas Node
sized_kind_store_same z o w Way = w.arenas Way
sized_kind_store_same z o w Relation = w.arenas Relation

pub setup_sound : (z : Sizes) (setting : ℕ) (o : Overlay) → taken_in (set_up z setting o).answer ≡ true → Sound (set_up z setting o).overlay
setup_sound z setting o e = let t = setup_taken z setting o e in rw t.1 (empty_sound setting (with_sizes z o) t.0)

pub setup_bytes : (z : Sizes) (setting : ℕ) (o : Overlay) → InBytes o → InBytes (set_up z setting o).overlay
setup_bytes z setting o w =
    by_kept (set_up z setting o).answer
    (λ e. rw (setup_taken z setting o e).1 (record { arenas = emptied_kind_store setting (with_sizes z o) (λ k (s : KindStore). all is_byte s.arena ≡ true) (sized_kind_store_same z o w); texts = w.texts }))
    (λ r e. rw (setup_refused z setting o r e) w)

-- ---- the regression setting keeps an overlay sound, and its bytes bytes

module _ (setting : ℕ) (o : Overlay) where
  pub allow_sound : Sound o → Sound (allow_on setting o).overlay
  unfolding sizes_fit tiled
  allow_sound w =
      by_allow setting o (λ s e. rw e w)
      (λ s e. rw e (record { sizes = w.sizes; strings = w.strings; kind_stores = λ k. rw setting_kind_store (w.kind_stores k) }))

  pub allow_bytes : InBytes o → InBytes (allow_on setting o).overlay
  allow_bytes w =
      by_allow setting o (λ s e. rw e w) (λ s e. rw e (record { arenas = λ k. rw setting_kind_store (w.arenas k); texts = w.texts }))

-- ---- one part put anew

-- more strings keep a kind store sound
pub more_sound : (n m : ℕ) → n ≤ m → (k : Kind) (s : KindStore) → SoundKindStore n k s → SoundKindStore m k s
more_sound n m l k s w =
    let v = whole_more n m l k (take s.used s.arena) w.whole in
    let e : v.kept ≡ w.whole.kept = kept_unique k v.kept w.whole.kept v.fits w.whole.fits (sym v.same ∙ w.whole.same) in
    record { fits = w.fits; whole = v; order = w.order; rows = rw e w.rows }

-- a sound kind store of the same size put
pub put_sound : (k : Kind) (s : KindStore) (o : Overlay) → length s.table ≡ length (kind_store_of k o).table → length s.arena ≡ length (kind_store_of k o).arena
    → Sound o → SoundKindStore o.texts.strings k s → Sound (with_kind_store k s o)
put_sound k s o e f w v =
    record {
      sizes = put_sized largest k s o e f w.sizes;
      strings = rw kind_store_texts w.strings;
      kind_stores = rw kind_store_texts (each_kind_store (SoundKindStore o.texts.strings) k s o v w.kind_stores);
    }

pub put_bytes : (k : Kind) (s : KindStore) (o : Overlay) → all is_byte s.arena ≡ true → InBytes o → InBytes (with_kind_store k s o)
put_bytes k s o b w =
    record { arenas = each_kind_store (λ j (t : KindStore). all is_byte t.arena ≡ true) k s o b w.arenas; texts = rw kind_store_texts w.texts }
