-- The array holds the ref's bytes whole.
use mathlib.Core.Path.{◌∙◌, sym}
use lib.ListN.{replicate, length-replicate}
use Prim.Native.Nat.{ℕ}
use Rattle.little.specs.Little.{le}
use Rattle.little.proofs.Littles.{length_le}
use Rattle.reader_stage.proofs.Gaps.{over_all}
use Rattle.reader_stage.proofs.ref_bytes.Goals as goal

pub returns : goal.returns
returns c =
    c.put_at.ensures ∙ over_all (replicate 8 0) (le 8 c.args.reference) (length_le 8 c.args.reference ∙ sym (length-replicate {A = ℕ} 8 0))
