-- Soundness is tested, and what is lent is within the bounds of its types.
use mathlib.Core.Path.{◌≡◌}
use native.Mathlib.Omega.{arith}
use borrow.Author.Rules.{rules}
use lib.ListN.{length}
use Rattle.overlay.proofs.Bounds.{lent_in_bytes}
use Rattle.file_reader.proofs.state_tested.Goals as goal

pub returns-clause-state_given : goal.returns-clause-state_given
returns-clause-state_given c =
    let s = c.args.state.now in
    let p = c.known_pending.ensures in
    let room : length s.parts.now ≡ 44432 = search rules in
    record {
      overlay = lent_in_bytes s.words.now s.bytes.now s.counters.now c.known_bytes.ensures;
      reader = record { head = p.head; meta = p.meta; bytes = c.known_bytes-2.ensures; room = omega (arith, room) };
    }
