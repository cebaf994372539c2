-- A head is read field by field, and where its bytes are there it is what a user reads.
use Rattle.little.proofs.Littles.{bytes_of}
use Rattle.kind.specs.declared.Kind.TheVariants.{Relation}
use Rattle.compact.specs.Held.{relation_bits}
use Rattle.compact.specs.View.{relation_at, head_at}
use Rattle.compact.proofs.Steps.{relation_same, head_there}
use Rattle.compact.proofs.CompactRelationRecordHead.read.Goals as goal

pub returns-clause-front : goal.returns-clause-front
unfolding relation_at
returns-clause-front c = rw (← c.get_u64.ensures, ← c.get_u32.ensures, ← c.get_u32-2.ensures)

pub returns-clause-says : goal.returns-clause-says
unfolding head_at relation_at
returns-clause-says c = rw (← c.get_u64.ensures, ← c.get_u32.ensures, ← c.get_u32-2.ensures)

pub returns-clause-same : goal.returns-clause-same
unfolding relation_at
returns-clause-same c =
    λ h. let s = c.args.bytes.now in
    let w = rw (relation_same s (bytes_of s (λ i l. (c.type_inv.bytes i).fits))) at (head_there relation_bits Relation s h) in
    rw (c.get_u64.ensures, c.get_u32.ensures, c.get_u32-2.ensures) w
