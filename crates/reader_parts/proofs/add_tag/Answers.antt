-- A value without a backslash is the text; another is resolved.
use mathlib.Core.Path.{sym, ◌∙◌}
use Rattle.base.specs.Bytes.{Bytes}
use Rattle.event_scan.specs.Fields.{text_written}
use Rattle.event_scan.proofs.Pieces.{text_bare}
use Rattle.model.specs.Record.{Tag}
use Rattle.reader.specs.Lent.{state_held}
use Rattle.reader_parts.proofs.Steps.{tag_works}
use Rattle.reader_parts.proofs.add_tag.Goals as goal

pub returns-then-lacks-clause-works : goal.returns-then-lacks-clause-works
returns-then-lacks-clause-works g c =
    let s = state_held c.args.state.now in
    let t : Tag Bytes = record { key = text_written c.args.key.now; value = c.args.value.now.bytes.now } in
    let e = text_bare c.args.value.now.bytes.now (sym c.lacks.ensures ∙ c.if-lacks.true) in
    λ key value given. rw e (tag_works s (record { state = state_held c.tag_with.new.state; answer = c.tag_with.result }) t (c.tag_with.ensures.worked key given))

pub returns-clause-works : goal.returns-clause-works
returns-clause-works g c =
    let s = state_held c.args.state.now in
    let t : Tag Bytes = record { key = text_written c.args.key.now; value = text_written c.args.value.now } in
    λ key value given. tag_works s (record { state = state_held c.tag_resolved.new.state; answer = c.tag_resolved.result }) t (c.tag_resolved.ensures.worked key value given)
