-- A member is read field by field.
use Rattle.compact.specs.View.{member_at}
use Rattle.compact.proofs.member_at.Goals as goal

pub returns : goal.returns
unfolding member_at
returns c = rw (← c.get_u64.ensures, ← c.get_u8.ensures, ← c.get_u32.ensures)
