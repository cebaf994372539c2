-- `has_room`: room for two words more and for the bytes.
use native.Mathlib.Omega.{arith}
use mathlib.Core.Path.{sym}
use Prim.Native.Nat.{◌+◌, ◌*◌}
use lib.ListN.{length}
use borrow.Author.Tests.{le-leb, lt-leb}
use Rattle.base.specs.Bytes.{both}
use Rattle.base.proofs.Split.{both_no_left}
use Rattle.interner.specs.Strings.{text_room}
use Rattle.interner.proofs.Strings.has_room.Goals as goal

pub returns-then-self : goal.returns-then-self
unfolding text_room
returns-then-self c = let s = c.args.self.now in sym (both_no_left _ _ (lt-leb (2 * s.count + 2) (length s.spans.now) (omega arith)))

pub returns : goal.returns
unfolding text_room both
returns c = let s = c.args.self.now in rw (le-leb (2 * s.count + 2) (length s.spans.now) (omega arith)) c.within.ensures
