use Prim.Native.Nat.{◌<◌}
use mathlib.Core.Path.{◌≡◌, refl, sym, ◌∙◌, ap}
use mathlib.Core.List.{[]}
use native.Mathlib.Omega.{arith}
use lib.ListN.{length}
use Rattle.std.proofs.Common.{rules}
use Rattle.version_floor.specs.Version.{word_of}
use Rattle.kind_table.specs.Words.{row_at, held}
use Rattle.kind_table.proofs.Chunks.{chunks_length, row_of_chunk}
use Rattle.kind_store.specs.Lent.{kind_seen}
use Rattle.kind_reading.specs.Listed.{is_on}
use Rattle.overlay_ids.specs.Rows.{row_id}
use Rattle.overlay_ids.proofs.Known.{row_says}
use Rattle.overlay_ids.proofs.Writes.{onward_all, starts, id_fits, version_fits, puts, passes, ends}
use Rattle.overlay_ids.proofs.put_rows.Goals.{After-from-row, then-has, else-has}
use Rattle.overlay_ids.proofs.put_rows.Goals as goal

pub loop-words-init : goal.loop-words-init
loop-words-init c =
    let a = c.args in
    let h = a.held.now in
    let m = held h.table.now h.ids in
    let e = onward_all a.side h.table.now h.ids m refl in (
      rw (c.rows-table.ensures.0, c.rows-table.ensures.1) at c.rows-words-items.ensures.value,
      starts h.kind a.side (kind_seen h) a.ids.now a.versions.now m (rw e c.requires.1) (rw e c.requires.2),
    )

-- the row of the words that are gone over stands in the table
row_here : (c : After-from-row)
    → let h = c.args.held.now in
    (c.loop-words.words-index < held h.table.now h.ids) × (c.from-row.result ≡ row_at h.table.now c.loop-words.words-index)
row_here c =
    let h = c.args.held.now in
    let ws = h.table.now in
    let m = held ws h.ids in
    let l = c.loop-words in
    let len : length c.rows-words-items.result.now ≡ m = rw l.invariant.0 (chunks_length m ws) in
    let less : l.words-index < m = omega arith in
    (less, row_of_chunk m l.words-index ws [] c.from-row.result less (rw l.invariant.0 at c.from-row.ensures))

pub bounds-ids-n : goal.bounds-ids-n
bounds-ids-n c =
    let a = c.args in
    let h = a.held.now in
    let r = row_here search in
    let on = c.has.ensures ∙ ap (is_on a.side) r.1 in
    id_fits h.kind a.side (kind_seen h) a.ids.now a.versions.now _ r.0 c.loop-words.invariant.1 (sym on ∙ c.if-has.true)

pub bounds-versions-n : goal.bounds-versions-n
bounds-versions-n c =
    let a = c.args in
    let h = a.held.now in
    let r = row_here search in
    let on = c.has.ensures ∙ ap (is_on a.side) r.1 in
    version_fits h.kind a.side (kind_seen h) a.ids.now a.versions.now _ r.0 c.loop-words.invariant.1 (sym on ∙ c.if-has.true)

pub loop-words-preserved : goal.loop-words-preserved
loop-words-preserved c =
    let a = c.args in
    let h = a.held.now in
    let r = row_here search in
    let on = c.has.ensures ∙ ap (is_on a.side) r.1 in
    elim c.if-has.branch [
      | then-has w ↦
          let e = w.row_id.ensures ∙ ap row_id r.1 in (
            c.loop-words.invariant.0,
            rw (w.ids-is, w.versions-is, w.n-is)
                (puts h.kind a.side (kind_seen h) a.ids.now a.versions.now _ r.0 c.loop-words.invariant.1 (sym on ∙ w.if-has.true) _ _ e
                (w.version_word.ensures ∙ ap word_of w.row_version.ensures ∙ row_says h.kind (kind_seen h) c.requires.0 _ r.0 c.from-row.result r.1 (search rules))),
          )
      | else-has w ↦ (c.loop-words.invariant.0, rw (w.ids-is, w.versions-is, w.n-is) (passes h.kind a.side (kind_seen h) a.ids.now a.versions.now _ r.0 c.loop-words.invariant.1 (sym on ∙ w.if-has.false)))
    ]

pub returns : goal.returns
returns c =
    let a = c.args in
    let h = a.held.now in
    let m = held h.table.now h.ids in
    let l = c.loop-words in
    let len : length c.rows-words-items.result.now ≡ m = rw l.invariant.0 (chunks_length m h.table.now) in
    rw (← onward_all a.side h.table.now h.ids m refl)
    (ends h.kind a.side (kind_seen h) a.ids.now a.versions.now m (omega arith) l.invariant.1)
