-- The handle, and the length behind it.
use mathlib.Core.Path.{◌≡◌, ◌∙◌, sym}
use lib.ListN.{length, replicate, length-replicate, length-append}
use Prim.Native.Nat.{ℕ}
use Rattle.little.specs.Little.{le, over}
use Rattle.little.proofs.Littles.{length_le}
use Rattle.little.proofs.Overs.{over_over}
use Rattle.reader_stage.specs.Stage.{tag_numbers}
use Rattle.reader_stage.proofs.Gaps.{over_all}
use Rattle.reader_stage.proofs.tag_bytes.Goals as goal

pub returns : goal.returns
returns c =
    let a = c.args in
    let l : length (tag_numbers a.key a.value) ≡ 8 = simp (length-append, length_le) in
    let w : over (over (replicate 8 0) 0 (le 4 a.key)) 4 (le 4 a.value) ≡ over (replicate 8 0) 0 (tag_numbers a.key a.value) =
    simp length_le at (over_over (replicate 8 0) 0 (le 4 a.key) (le 4 a.value)) in
    rw (c.put_at-2.ensures, c.put_at.ensures, c.from.ensures) (w ∙ over_all (replicate 8 0) (tag_numbers a.key a.value) (l ∙ sym (length-replicate {A = ℕ} 8 0)))
