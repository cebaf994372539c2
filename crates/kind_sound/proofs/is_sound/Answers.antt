-- The used count and the table first, then the used bytes and the rows.
use mathlib.Core.Path.{sym, ◌∙◌}
use native.Mathlib.Omega.{arith}
use Rattle.kind_store.specs.Lent.{kind_seen}
use Rattle.kind_sound.proofs.Passing.{unsound_past, unsound_order, sound_by}
use Rattle.kind_sound.proofs.is_sound.Goals.{then-storage-n-via-then-storage-n, then-storage-n-via-else-storage-n+then-not-is_rising}
use Rattle.kind_sound.proofs.is_sound.Goals as goal

pub returns-then-storage-n : goal.returns-then-storage-n
returns-then-storage-n c =
    let s = c.args.storage.now in
    elim c.then-storage-n.branch [
      | then-storage-n-via-then-storage-n w ↦ unsound_past c.args.strings s.kind (kind_seen s) w.if-storage-n.true
      | then-storage-n-via-else-storage-n+then-not-is_rising w ↦
          unsound_order c.args.strings s.kind (kind_seen s) (rw (c.rows-table.ensures.0, c.rows-table.ensures.1) at (sym w.is_rising.ensures ∙ w.if-not-is_rising.true))
    ]

pub returns : goal.returns
returns c =
    let s = c.args.storage.now in
    sound_by c.args.strings s.kind (kind_seen s) (omega arith)
    (rw (c.rows-table.ensures.0, c.rows-table.ensures.1) at (sym c.is_rising.ensures ∙ c.if-not-is_rising.false))
    (rw (c.rows-table.ensures.0, c.rows-table.ensures.1) at c.used_passes.ensures)
