-- The array holds the text whole.
use Rattle.reader_texts.proofs.Held.{held_whole}
use native.Mathlib.Omega.{arith}
use Rattle.reader_texts.proofs.resolved.Goals as goal

pub returns : goal.returns
returns g c =
    let v = c.args.value.now in
    λ short. held_whole c.args.room.now _ v.bytes.now _ _ (omega arith) short c.unescape_into-n.ensures c.min-end.ensures
