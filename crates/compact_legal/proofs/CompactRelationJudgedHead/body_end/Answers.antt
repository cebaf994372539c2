-- Members one after the other.
use mathlib.Core.Path.{◌∙◌}
use Rattle.compact.specs.Held.{relation_head, counts_head}
use Rattle.compact_legal.proofs.Bodies.{body_members}
use Rattle.compact_legal.proofs.CompactRelationJudgedHead.body_end.Goals as goal

pub returns : goal.returns
unfolding relation_head counts_head
returns c = let a = c.args in let p = a.parts.now in c.members_end.ensures ∙ body_members p.strings (relation_head a.self) p.bytes.now a.at
