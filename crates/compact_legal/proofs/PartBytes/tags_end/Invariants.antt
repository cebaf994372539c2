-- So many tags: the loop keeps where the tags left from its offset on end, with what it saw of the values before.
use Prim.Native.Nat.{◌-◌, ◌≤◌}
use mathlib.Core.Path.{◌≡◌}
use lib.ListN.{length}
use Rattle.compact_legal.specs.Judge.{tags_end}
use Rattle.compact_legal.proofs.TagRuns.{after}
use Rattle.compact_legal.proofs.PartBytes.tags_end.Given as goal

abbrev pub invariant-loop : goal.invariant-loop
invariant-loop l = (l.offset ≤ length l.self.bytes.now) × (after l.text (tags_end l.self.strings (l.n - l.counter) l.self.bytes.now l.offset) ≡ tags_end l.self.strings l.n l.self.bytes.now l.at)
