-- A member is written field after field.
use mathlib.Core.Path.{◌∙◌, sym}
use lib.ListN.{replicate, length-replicate}
use Prim.Native.Nat.{ℕ}
use Rattle.little.specs.Little.{le}
use Rattle.little.proofs.Littles.{length_le}
use Rattle.reader_stage.specs.Stage.{member_part}
use Rattle.reader_stage.proofs.Gaps.{three, over_all, length_member_part}
use Rattle.reader_stage.proofs.member_bytes.Goals as goal

pub returns : goal.returns
returns c =
    let m = c.args.member in
    rw (c.put_at-3.ensures, c.put_at-2.ensures, c.put_at.ensures, c.from.ensures, c.from-2.ensures)
    ((simp length_le at (three (replicate 13 0) (le 8 m.reference) (le 1 m.kind) (le 4 m.role)))
    ∙ over_all (replicate 13 0) (member_part m) (length_member_part m ∙ sym (length-replicate {A = ℕ} 13 0)))
