-- The blocks in which an overlay is lent, cut into its parts: of the words the id tables of nodes, ways, relations and then the spans; of the bytes their arenas and then the
-- string bytes. The ends are clamped: whatever the sizes say, the parts lie behind each other, apart, and are together all of the block.
use Rattle.std.specs.Prelude.{ℕ, ◌+◌, ◌-◌, ◌*◌, ◌≤◌, ◌<◌, min, List, take, drop, get_or}
use Rattle.kind.specs.declared.Kind.{Kind}
use Rattle.kind.specs.declared.Kind.TheVariants.{Node, Way, Relation}
use Rattle.overlay_blocks.specs.declared.KindSize.{KindSize}
use Rattle.overlay_blocks.specs.declared.Sizes.{Sizes}
use Rattle.overlay_blocks.specs.declared.Ends.{Ends}
use Rattle.overlay_blocks.specs.declared.KindPart.{KindPart}
use Rattle.overlay_blocks.specs.declared.TextPart.{TextPart}

-- ---- the sizes behind the counters

-- of a kind, by the place of its ids
abbrev pub kind_size_in : List ℕ → ℕ → KindSize
kind_size_in counters at = record { ids = get_or counters at 0; bytes = get_or counters (at + 3) 0 }

abbrev pub sizes_in : List ℕ → Sizes
sizes_in counters =
    record {
      nodes = kind_size_in counters 9;
      ways = kind_size_in counters 10;
      relations = kind_size_in counters 11;
      strings = get_or counters 15 0;
      string_bytes = get_or counters 16 0;
    }

-- ---- where the parts of the kinds end in a block

-- a part of a block
abbrev pub cut : ℕ → ℕ → List ℕ → List ℕ
cut from to l = take (to - from) (drop from l)

-- the end of a part that begins at a place: what the block does not have is missing
abbrev pub end_of : ℕ → ℕ → ℕ → ℕ
end_of at size block = at + min size (block - at)

-- three parts of these sizes, behind each other
unfoldable pub ends_of : ℕ → ℕ → ℕ → ℕ → Ends
ends_of nodes ways relations block =
    let a = min nodes block in
    let b = end_of a ways block in
    record { nodes = a; ways = b; relations = end_of b relations block }

pub record InOrder (e : Ends) (block : ℕ) : Type 0 where
  pub nodes : e.nodes ≤ e.ways
  pub ways : e.ways ≤ e.relations
  pub relations : e.relations ≤ block

-- "three words a row" of an id table
abbrev pub word_ends : Sizes → ℕ → Ends
word_ends z = ends_of (3 * z.nodes.ids) (3 * z.ways.ids) (3 * z.relations.ids)

abbrev pub byte_ends : Sizes → ℕ → Ends
byte_ends z = ends_of z.nodes.bytes z.ways.bytes z.relations.bytes

-- ---- the parts

-- of a kind: the place of its used ids among the counters, its words, its bytes
abbrev pub part_of : Kind → Ends → Ends → KindPart
part_of Node w b = record { at = 0; from = 0; to = w.nodes; first = 0; end = b.nodes }
part_of Way w b = record { at = 1; from = w.nodes; to = w.ways; first = b.nodes; end = b.ways }
part_of Relation w b = record { at = 2; from = w.ways; to = w.relations; first = b.ways; end = b.relations }

abbrev pub part_in : Kind → Sizes → ℕ → ℕ → KindPart
part_in k z words bytes = part_of k (word_ends z words) (byte_ends z bytes)

pub record Within (p : KindPart) (words bytes : ℕ) : Type 0 where
  pub at : p.at < 3
  pub from : p.from ≤ p.to
  pub to : p.to ≤ words
  pub first : p.first ≤ p.end
  pub end : p.end ≤ bytes

-- the strings'
abbrev pub text_part_of : Ends → Ends → TextPart
text_part_of w b = record { spans = w.relations; bytes = b.relations }

abbrev pub text_part_in : Sizes → ℕ → ℕ → TextPart
text_part_in z words bytes = text_part_of (word_ends z words) (byte_ends z bytes)
