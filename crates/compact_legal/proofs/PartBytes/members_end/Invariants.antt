-- So many members: the loop keeps that the members left from its offset on end where all of them end.
use Prim.Native.Nat.{◌-◌, ◌≤◌}
use mathlib.Core.Path.{◌≡◌}
use lib.ListN.{length}
use Rattle.compact_legal.specs.Judge.{members_end}
use Rattle.compact_legal.proofs.PartBytes.members_end.Given as goal

abbrev pub invariant-loop : goal.invariant-loop
invariant-loop l = (l.offset ≤ length l.self.bytes.now) × (members_end l.self.strings (l.n - l.counter) l.self.bytes.now l.offset ≡ members_end l.self.strings l.n l.self.bytes.now l.at)
