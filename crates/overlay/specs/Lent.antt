-- The overlay in what is lent: two blocks and the counters.
use Rattle.std.specs.Prelude.{ℕ, ◌+◌, ◌≡◌, List, length, drop, get_or}
use Rattle.base.specs.Bytes.{Bytes}
use Rattle.kind.specs.declared.Kind.{Kind}
use Rattle.kind.specs.declared.Kind.TheVariants.{Node, Way, Relation}
use Rattle.interner.specs.Strings.{Store, store_with}
use Rattle.kind_store.specs.KindStore.{KindStore, kind_store_with}
use Rattle.overlay_blocks.specs.declared.Sizes.{Sizes}
use Rattle.overlay_blocks.specs.declared.KindPart.{KindPart}
use Rattle.overlay_blocks.specs.declared.TextPart.{TextPart}
use Rattle.overlay_blocks.specs.Blocks.{cut, sizes_in, part_in, text_part_in}
use Rattle.overlay.specs.Overlay.{Overlay}
use Rattle.overlay.specs.declared.Storage.{Storage}
use Rattle.overlay.specs.declared.StorageMut.{StorageMut}
use Rattle.overlay.specs.declared.StorageTables.{StorageTables}

-- ---- in words, bytes and counters

-- what a kind's part holds
abbrev pub kind_store_in : KindPart → List ℕ → Bytes → List ℕ → KindStore
kind_store_in p words bytes counters =
    kind_store_with (cut p.from p.to words) (get_or counters p.at 0) (cut p.first p.end bytes) (get_or counters (p.at + 3) 0)

-- what the strings' part holds
abbrev pub texts_in : TextPart → List ℕ → Bytes → List ℕ → Store
texts_in t words bytes counters = store_with (drop t.spans words) (drop t.bytes bytes) (get_or counters 6 0) (get_or counters 7 0)

-- the overlay of given sizes, whatever they are
abbrev pub overlay_for : Sizes → List ℕ → Bytes → List ℕ → Overlay
overlay_for z words bytes counters =
    let part : Kind → KindPart = λ k. part_in k z (length words) (length bytes) in
    record {
      nodes = kind_store_in (part Node) words bytes counters;
      ways = kind_store_in (part Way) words bytes counters;
      relations = kind_store_in (part Relation) words bytes counters;
      texts = texts_in (text_part_in z (length words) (length bytes)) words bytes counters;
      setting = get_or counters 8 0;
      sizes = sizes_in counters;
    }

-- and of those that its counters name
abbrev pub overlay_in : List ℕ → Bytes → List ℕ → Overlay
overlay_in words bytes counters = overlay_for (sizes_in counters) words bytes counters

-- ---- lent

-- the overlay as a call is lent it, and as it leaves it: what its words, bytes and counters hold at its entry, and at its exit
abbrev pub lent : List ℕ → Bytes → List ℕ → Overlay
lent words bytes counters = overlay_in words bytes counters

abbrev pub left : List ℕ → Bytes → List ℕ → Overlay
left words bytes counters = overlay_in words bytes counters

-- for set-up, by the sizes that it is given
abbrev pub lent_for : Sizes → List ℕ → Bytes → List ℕ → Overlay
lent_for z words bytes counters = overlay_for z words bytes counters

abbrev pub left_for : Sizes → List ℕ → Bytes → List ℕ → Overlay
left_for z words bytes counters = overlay_for z words bytes counters

-- ---- in the structs that hold what is lent

-- the overlay that is read
abbrev pub overlay_seen : Storage → Overlay
overlay_seen s = overlay_in s.words.now s.bytes.now s.counters.now

-- the overlay that is written
abbrev pub overlay_held : StorageMut → Overlay
overlay_held s = overlay_in s.words.now s.bytes.now s.counters.now

-- the overlay whose words and counters are written
abbrev pub overlay_tabled : StorageTables → Overlay
overlay_tabled s = overlay_in s.words.now s.bytes.now s.counters.now

-- by the sizes that set-up is given
abbrev pub tabled_for : Sizes → StorageTables → Overlay
tabled_for z s = overlay_for z s.words.now s.bytes.now s.counters.now

-- the same memory: a method leaves its struct with the references that it was given
pub record IsSameStorage (a b : StorageMut) : Type 0 where
  pub words : a.words.ghost_name ≡ b.words.ghost_name
  pub bytes : a.bytes.ghost_name ≡ b.bytes.ghost_name
  pub counters : a.counters.ghost_name ≡ b.counters.ghost_name

-- and the bytes, which are not written, are as they were
pub record IsSameTables (a b : StorageTables) : Type 0 where
  pub words : a.words.ghost_name ≡ b.words.ghost_name
  pub bytes : a.bytes ≡ b.bytes
  pub counters : a.counters.ghost_name ≡ b.counters.ghost_name
