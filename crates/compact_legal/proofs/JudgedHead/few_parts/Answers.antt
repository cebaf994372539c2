-- Counts and bytes within the limits.
use Rattle.compact_legal.specs.Judge.{few}
use Rattle.base.proofs.Tests.{and_both}
use Rattle.compact_legal.proofs.JudgedHead.few_parts.Goals as goal

pub returns : goal.returns
unfolding few
returns g c = simp (and_both, c.tag_count.ensures, c.few_items.ensures)
