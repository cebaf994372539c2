-- The parts of a block tile it: each is as long as its size, exactly where the sizes sum up to the block.
use Prim.Native.Nat.{ℕ, ◌+◌, ◌-◌}
use mathlib.Core.Path.{◌≡◌}
use mathlib.Core.List.{List}
use native.Mathlib.Omega.{arith}
use lib.ListN.{length, drop, length-drop}
use borrow.Rule.Slice.PartMut.{mid_len}
use Rattle.overlay_blocks.specs.declared.Ends.{Ends}
use Rattle.overlay_blocks.specs.Blocks.{cut, ends_of, InOrder}
use Rattle.overlay_blocks.proofs.Orders.{in_order, exact}

-- the lengths of a block's parts
record Long (e : Ends) (block : List ℕ) : Type 0 where
  nodes : length (cut 0 e.nodes block) ≡ e.nodes - 0
  ways : length (cut e.nodes e.ways block) ≡ e.ways - e.nodes
  relations : length (cut e.ways e.relations block) ≡ e.relations - e.ways
  rest : length (drop e.relations block) ≡ length block - e.relations

long : (e : Ends) (block : List ℕ) → InOrder e (length block) → Long e block
long e block o =
    record {
      nodes = mid_len 0 e.nodes block (omega arith);
      ways = mid_len e.nodes e.ways block (omega arith);
      relations = mid_len e.ways e.relations block (omega arith);
      rest = length-drop _ block;
    }

-- three sizes and what lies behind them are all of a block, exactly where each part is as long as its size
pub record Whole (n w r rest : ℕ) (e : Ends) (block : List ℕ) : Type 0 where
  pub nodes : length (cut 0 e.nodes block) ≡ n
  pub ways : length (cut e.nodes e.ways block) ≡ w
  pub relations : length (cut e.ways e.relations block) ≡ r
  pub behind : length (drop e.relations block) ≡ rest

pub whole : (n w r rest : ℕ) (block : List ℕ) → n + w + r + rest ≡ length block → Whole n w r rest (ends_of n w r (length block)) block
whole n w r rest block h =
    let x = exact n w r (length block) (omega arith) in
    let l = long (ends_of n w r (length block)) block (in_order n w r (length block)) in
    record { nodes = omega arith; ways = omega arith; relations = omega arith; behind = omega arith }

pub of_whole : (n w r rest : ℕ) (block : List ℕ) → Whole n w r rest (ends_of n w r (length block)) block → n + w + r + rest ≡ length block
of_whole n w r rest block h =
    let o = in_order n w r (length block) in
    let l = long (ends_of n w r (length block)) block o in
    omega arith
