-- `Table::rows` lends the first rows of all that the words hold.
use Prim.Native.Nat.{◌≤◌, ◌/◌}
use native.Mathlib.Omega.{arith}
use mathlib.Core.Path.{◌≡◌}
use lib.ListN.{length}
use Rattle.kind_table.specs.Words.{held}
use Rattle.kind_table.proofs.Chunks.{chunks_taken, chunks_length}
use Rattle.kind_table.proofs.Table.rows.Goals as goal

pub returns-clause-value : goal.returns-clause-value
unfolding held
returns-clause-value c =
    let ws = c.args.self.now.words.now in
    let n : c.min-n.result ≡ held ws c.args.self.now.count = omega (arith, c.min-n.ensures, c.as_chunks.ensures.front_len) in
    rw (c.as_chunks.ensures.front, n) (chunks_taken _ _ ws (omega arith))

pub returns-clause-len : goal.returns-clause-len
unfolding held
returns-clause-len c =
    let ws = c.args.self.now.words.now in
    let n : c.min-n.result ≡ held ws c.args.self.now.count = omega (arith, c.min-n.ensures, c.as_chunks.ensures.front_len) in
    let h : held ws c.args.self.now.count ≤ length ws / 3 = omega arith in
    rw (c.as_chunks.ensures.front, n, chunks_taken (held ws c.args.self.now.count) (length ws / 3) ws h) (chunks_length _ ws)
