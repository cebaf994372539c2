-- The ends of the parts are in order, for any sizes; a part of a kind lies within the blocks; and where a block has all of the parts, the ends are the sums of the sizes.
use Prim.Native.Nat.{ℕ, ◌+◌, ◌*◌, ◌≤◌, ◌<◌, min}
use mathlib.Core.Path.{◌≡◌, refl, ◌∙◌}
use native.Mathlib.Omega.{arith}
use Rattle.kind.specs.declared.Kind.{Kind}
use Rattle.kind.specs.declared.Kind.TheVariants.{Node, Way, Relation}
use Rattle.overlay_blocks.specs.declared.Ends.{Ends}
use Rattle.overlay_blocks.specs.declared.Sizes.{Sizes}
use Rattle.overlay_blocks.specs.declared.KindPart.{KindPart}
use Rattle.overlay_blocks.specs.Blocks.{end_of, ends_of, InOrder, word_ends, byte_ends, part_of, part_in, Within}

-- ---- in order

pub in_order : (nodes ways relations block : ℕ) → InOrder (ends_of nodes ways relations block) block
unfolding ends_of
in_order nodes ways relations block = record { nodes = omega arith; ways = omega arith; relations = omega arith }

-- sizes that are cut to the block before
min_twice : (size block : ℕ) → min (min size block) block ≡ min size block
min_twice size block = omega arith

end_twice : (at size block : ℕ) → end_of at (min size block) block ≡ end_of at size block
end_twice at size block = omega arith

pub ends_within : (nodes ways relations block : ℕ) → ends_of (min nodes block) (min ways block) (min relations block) block ≡ ends_of nodes ways relations block
unfolding ends_of
ends_within nodes ways relations block =
    let a = min nodes block in
    let b = end_of a ways block in
    rw (min_twice nodes block, end_twice a ways block, end_twice b relations block)

-- those of tables of so many rows, each cut to the block
pub ends_rows : (nodes ways relations block a b c : ℕ) → a ≡ min (3 * nodes) block → b ≡ min (3 * ways) block → c ≡ min (3 * relations) block
    → (e : Ends) → (e ≡ ends_of a b c block) × InOrder e block → (e ≡ ends_of (3 * nodes) (3 * ways) (3 * relations) block) × InOrder e block
ends_rows nodes ways relations block a b c f g h e k = (k.0 ∙ rw (f, g, h, ends_within (3 * nodes) (3 * ways) (3 * relations) block), k.1)

-- ---- the parts

pub within : (k : Kind) (w b : Ends) (words bytes : ℕ) → InOrder w words → InOrder b bytes → Within (part_of k w b) words bytes
within Node w b words bytes o i = record { at = omega arith; from = omega arith; to = omega arith; first = omega arith; end = omega arith }
within Way w b words bytes o i = record { at = omega arith; from = omega arith; to = omega arith; first = omega arith; end = omega arith }
within Relation w b words bytes o i = record { at = omega arith; from = omega arith; to = omega arith; first = omega arith; end = omega arith }

-- those of given sizes
module _ (z : Sizes) (words bytes : ℕ) where
  pub words_in_order : InOrder (word_ends z words) words
  words_in_order = in_order (3 * z.nodes.ids) (3 * z.ways.ids) (3 * z.relations.ids) words

  pub bytes_in_order : InOrder (byte_ends z bytes) bytes
  bytes_in_order = in_order z.nodes.bytes z.ways.bytes z.relations.bytes bytes

  pub part_within : (k : Kind) → Within (part_in k z words bytes) words bytes
  part_within k = within k (word_ends z words) (byte_ends z bytes) words bytes words_in_order bytes_in_order

-- the parts of two kinds lie apart: one is before the other
pub record Before (p q : KindPart) : Type 0 where
  pub at : p.at < q.at
  pub words : p.to ≤ q.from
  pub bytes : p.end ≤ q.first

pub by_order : {C : Type 0} (j k : Kind) (w b : Ends) (words bytes : ℕ) → InOrder w words → InOrder b bytes → (j ≡ k → ⊥)
    → (Before (part_of j w b) (part_of k w b) → C) → (Before (part_of k w b) (part_of j w b) → C) → C
by_order Node Node w b words bytes o i n f g = absurd (n refl)
by_order Node Way w b words bytes o i n f g = f (record { at = omega arith; words = omega arith; bytes = omega arith })
by_order Node Relation w b words bytes o i n f g = f (record { at = omega arith; words = omega arith; bytes = omega arith })
by_order Way Node w b words bytes o i n f g = g (record { at = omega arith; words = omega arith; bytes = omega arith })
by_order Way Way w b words bytes o i n f g = absurd (n refl)
by_order Way Relation w b words bytes o i n f g = f (record { at = omega arith; words = omega arith; bytes = omega arith })
by_order Relation Node w b words bytes o i n f g = g (record { at = omega arith; words = omega arith; bytes = omega arith })
by_order Relation Way w b words bytes o i n f g = g (record { at = omega arith; words = omega arith; bytes = omega arith })
by_order Relation Relation w b words bytes o i n f g = absurd (n refl)

-- and before what the strings have
pub before_texts : (k : Kind) (w b : Ends) (words bytes : ℕ) → InOrder w words → InOrder b bytes → ((part_of k w b).to ≤ w.relations) × ((part_of k w b).end ≤ b.relations)
before_texts Node w b words bytes o i = (omega arith, omega arith)
before_texts Way w b words bytes o i = (omega arith, omega arith)
before_texts Relation w b words bytes o i = (omega arith, omega arith)

-- ---- exact ends

-- where the block has all of the parts, the ends are the sums of the sizes
pub record Exact (n w r : ℕ) (e : Ends) : Type 0 where
  pub nodes : e.nodes ≡ n
  pub ways : e.ways ≡ n + w
  pub relations : e.relations ≡ n + w + r

end_exact : (at size block : ℕ) → at + size ≤ block → end_of at size block ≡ at + size
end_exact at size block h = omega arith

min_exact : (size block : ℕ) → size ≤ block → min size block ≡ size
min_exact size block h = omega arith

pub exact : (nodes ways relations block : ℕ) → nodes + ways + relations ≤ block → Exact nodes ways relations (ends_of nodes ways relations block)
unfolding ends_of
exact nodes ways relations block h =
    let a = min_exact nodes block (omega arith) in
    let b = end_exact nodes ways block (omega arith) in
    let c = end_exact (nodes + ways) relations block (omega arith) in
    record { nodes = a; ways = rw (a, b); relations = rw (a, b, c) }
