-- Document 01, parse.rs: the overlay, as it is lent: for each kind an id table and an arena; the strings; the used counts, the regression setting, and the sizes.
use Rattle.std.specs.Prelude.{ℕ, ◌*◌, List, [], ◌∷◌, Bool, eqb, length}
use Rattle.base.specs.Bytes.{both}
use Rattle.kind.specs.declared.Kind.{Kind}
use Rattle.kind.specs.declared.Kind.TheVariants.{Node, Way, Relation}
use Rattle.interner.specs.Strings.{Store}
use Rattle.interner.specs.Strings as Strings
use Rattle.interner.specs.Sound.{fresh_spans}
use Rattle.kind_store.specs.KindStore.{KindStore}
use Rattle.kind_store.specs.KindStore as KindStore
use Rattle.overlay_blocks.specs.declared.KindSize.{KindSize}
use Rattle.overlay_blocks.specs.declared.Sizes.{Sizes}
use Rattle.overlay_blocks.specs.Sizes.{Limits, sizes_in_range}

pub record Overlay : Type 0 where
  pub nodes : KindStore
  pub ways : KindStore
  pub relations : KindStore
  pub texts : Store
  -- 0 while regression is refused
  pub setting : ℕ
  -- as set-up was given them
  pub sizes : Sizes

-- what is lent for a kind
abbrev pub kind_store_of : Kind → Overlay → KindStore
kind_store_of Node o = o.nodes
kind_store_of Way o = o.ways
kind_store_of Relation o = o.relations

abbrev pub kind_size_of : Kind → Overlay → KindSize
kind_size_of Node o = o.sizes.nodes
kind_size_of Way o = o.sizes.ways
kind_size_of Relation o = o.sizes.relations

abbrev pub with_kind_store : Kind → KindStore → Overlay → Overlay
with_kind_store Node s o = record { nodes = s; ways = o.ways; relations = o.relations; texts = o.texts; setting = o.setting; sizes = o.sizes }
with_kind_store Way s o = record { nodes = o.nodes; ways = s; relations = o.relations; texts = o.texts; setting = o.setting; sizes = o.sizes }
with_kind_store Relation s o = record { nodes = o.nodes; ways = o.ways; relations = s; texts = o.texts; setting = o.setting; sizes = o.sizes }

abbrev pub with_texts : Store → Overlay → Overlay
with_texts t o = record { nodes = o.nodes; ways = o.ways; relations = o.relations; texts = t; setting = o.setting; sizes = o.sizes }

abbrev pub with_setting : ℕ → Overlay → Overlay
with_setting setting o = record { nodes = o.nodes; ways = o.ways; relations = o.relations; texts = o.texts; setting = setting; sizes = o.sizes }

abbrev pub with_sizes : Sizes → Overlay → Overlay
with_sizes z o = record { nodes = o.nodes; ways = o.ways; relations = o.relations; texts = o.texts; setting = o.setting; sizes = z }

-- ---- the sizes

-- a kind's id table has three words an id, its arena the bytes
unfoldable pub kind_tiled : KindSize → KindStore → Bool
kind_tiled z s = both (eqb (length s.table) (3 * z.ids)) (eqb (length s.arena) z.bytes)

-- two words a string, and the string bytes
unfoldable pub texts_tiled : Sizes → Store → Bool
texts_tiled z t = both (eqb (length t.spans) (2 * z.strings)) (eqb (length t.bytes) z.string_bytes)

unfoldable pub tiled : Overlay → Bool
tiled o =
    both (kind_tiled o.sizes.nodes o.nodes) (both (kind_tiled o.sizes.ways o.ways)
    (both (kind_tiled o.sizes.relations o.relations) (texts_tiled o.sizes o.texts)))

-- the sizes are in range, and each part is as long as they say
unfoldable pub sizes_fit : Limits → Overlay → Bool
sizes_fit l o = both (sizes_in_range l o.sizes) (tiled o)

-- ---- set-up

abbrev pub emptied : KindStore → KindStore
emptied s = KindStore.kind_store_with s.table 0 s.arena 0

-- an empty overlay: no id, no record, and the empty text alone. Only the counters and the span of handle 0 are written.
abbrev pub empty : ℕ → Overlay → Overlay
empty setting o =
    record {
      nodes = emptied o.nodes;
      ways = emptied o.ways;
      relations = emptied o.relations;
      texts = Strings.store_with (fresh_spans o.texts.spans) o.texts.bytes 1 0;
      setting = setting;
      sizes = o.sizes;
    }

-- ---- the counters

-- the sizes as words
abbrev pub size_words : Sizes → List ℕ
size_words z =
    z.nodes.ids ∷ z.ways.ids ∷ z.relations.ids ∷ z.nodes.bytes ∷ z.ways.bytes ∷ z.relations.bytes ∷ z.strings ∷ z.string_bytes ∷ []

-- of an overlay
abbrev pub counters_of : Overlay → List ℕ
counters_of o =
    o.nodes.ids ∷ o.ways.ids ∷ o.relations.ids ∷ o.nodes.used ∷ o.ways.used ∷ o.relations.used
    ∷ o.texts.strings ∷ o.texts.used ∷ o.setting ∷ size_words o.sizes

-- that set-up writes
abbrev pub fresh_counters : ℕ → Sizes → List ℕ
fresh_counters setting z = 0 ∷ 0 ∷ 0 ∷ 0 ∷ 0 ∷ 0 ∷ 1 ∷ 0 ∷ setting ∷ size_words z
