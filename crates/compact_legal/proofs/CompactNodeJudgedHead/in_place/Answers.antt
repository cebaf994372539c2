-- A node's place is in range.
use Rattle.compact.specs.Legal.{in_range}
use Rattle.compact.specs.Held.{node_head}
use Rattle.compact_legal.specs.Judge.{place_in_range}
use Rattle.base.proofs.Tests.{and_both}
use Rattle.compact_legal.proofs.CompactNodeJudgedHead.in_place.Goals as goal

pub returns : goal.returns
unfolding place_in_range in_range node_head
returns c = rw (and_both, c.within.ensures, c.within-2.ensures)
