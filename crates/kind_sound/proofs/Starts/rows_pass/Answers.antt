-- All rows pass where each row does.
use Rattle.std.proofs.Common.{rules, ◌≡◌, true, false}
use Rattle.std.proofs.lemmas.Iterator.{YieldsList-from_slice, cases_from_all}
use Rattle.kind_table.specs.Words.{row_of_words, held}
use Rattle.kind_sound.specs.Check.{row_passes}
use Rattle.kind_sound.proofs.Passing.{rows_decided}
use Rattle.kind_sound.proofs.Starts.rows_pass.Goals as goal

pub returns : goal.returns
returns c =
    let s = c.args.self.now.records in
    let t = c.args.table.now in
    rows_decided (row_passes s.strings s.kind s.bytes.now) t.words.now (held t.words.now t.count) c.all.result c.rows.result.now c.rows.ensures.value
    (cases_from_all _ _ c.all.result
    (λ w. row_passes s.strings s.kind s.bytes.now (row_of_words w) ≡ true)
    (λ w. row_passes s.strings s.kind s.bytes.now (row_of_words w) ≡ false)
    c.all.ensures.ran
    (YieldsList-from_slice c.rows.result.now c.iter.ensures.rest)
    (λ x q k. search rules)
    (λ x q k. search rules))
