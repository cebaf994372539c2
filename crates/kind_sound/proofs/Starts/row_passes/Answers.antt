-- A row, test by test.
use mir.Syntax.{w64}
use mir.Val.{to_z}
use Rattle.little.specs.Little.{value_at}
use Rattle.kind_store.proofs.Settings.{live_offset, no_offset}
use Rattle.kind_sound.proofs.Ids.{same_rank}
use Rattle.kind_sound.proofs.Passing.{passes_there, passes_past, passes_deleted}
use Rattle.kind_sound.proofs.Starts.row_passes.Goals as goal

pub returns-in_default : goal.returns-in_default
returns-in_default c =
    let s = c.args.self.now.records in
    passes_deleted s.strings s.kind s.bytes.now c.args.row (no_offset c.args.row.offset c.in_default.ensures)

pub returns-then-at-self : goal.returns-then-at-self
returns-then-at-self c =
    let s = c.args.self.now.records in
    let k = c.rank_there in
    let l = live_offset c.args.row.offset c.in-Some.offset c.in-Some.ensures in
    passes_there s.strings s.kind s.bytes.now c.args.row l.1 (rw l.0 at c.if-at-self.true) _ c.starts_at.result
    (same_rank (to_z w64 (value_at 8 s.bytes.now c.args.row.offset)) k.result c.args.row.rank (rw l.0 at k.ensures.0) (rw l.0 at k.ensures.1)) (rw l.0 at c.starts_at.ensures)

pub returns : goal.returns
returns c =
    let s = c.args.self.now.records in
    let l = live_offset c.args.row.offset c.in-Some.offset c.in-Some.ensures in
    passes_past s.strings s.kind s.bytes.now c.args.row l.1 (rw l.0 at c.if-at-self.false)
