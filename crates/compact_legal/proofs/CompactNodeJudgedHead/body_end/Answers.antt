-- A node has neither refs nor members.
use Rattle.compact.specs.Held.{node_head}
use Rattle.compact_legal.proofs.Bodies.{body_node}
use Rattle.compact_legal.proofs.CompactNodeJudgedHead.body_end.Goals as goal

pub returns : goal.returns
returns c = let a = c.args in let p = a.parts.now in body_node p.strings (node_head a.self) p.bytes.now a.at c.requires
