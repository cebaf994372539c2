-- 22 or the stop mark, or all bytes.
use Rattle.std.proofs.lemmas.Result.{err_from_is_err_and}
use mathlib.Core.Path.{sym, ◌∙◌, ap, subst}
use Rattle.reader.specs.Given.{StateGiven}
use Rattle.reader_sound.proofs.Mark.{going_on}
use Rattle.file_reader.specs.Calls.{file_sound}
use Rattle.file_reader.specs.Held.{file_held}
use Rattle.file_reader.proofs.Answers.{seen_held, file_given, piece_first, piece_goes}
use Rattle.file_reader.proofs.piece_on.Goals as goal

pub returns-in_err-check_going-clause-value : goal.returns-in_err-check_going-clause-value
returns-in_err-check_going-clause-value c =
    let f = file_held c.args.state.now c.args.file.now in
    let v = c.view-2 in
    let e = c.file_tested-sound.ensures.value ∙ ap file_sound (seen_held c.view.result v.result c.args.state.now c.args.file.now c.view.ensures v.ensures.bytes v.ensures.lexer v.ensures.named) in
    let p = err_from_is_err_and c.from_residual.result c.from_residual.ensures.1 in
    rw (p.1, p.2) (piece_first f c.args.piece.now (rw e at (sym c.check_going.ensures ∙ c.in_err-check_going.was)))

pub returns-clause-value : goal.returns-clause-value
returns-clause-value c =
    let f = file_held c.args.state.now c.args.file.now in
    let v = c.view-2 in
    let e = c.file_tested-sound.ensures.value ∙ ap file_sound (seen_held c.view.result v.result c.args.state.now c.args.file.now c.view.ensures v.ensures.bytes v.ensures.lexer v.ensures.named) in
    let a = rw e at (sym c.check_going.ensures ∙ c.in_ok-check_going.was) in
    let g = file_given f (going_on (file_sound f) f.state.reader.stop a).0 (subst StateGiven c.view.ensures c.file_tested-sound.ensures.state_given) in
    piece_goes f c.args.piece.now a (c.piece_untested.ensures.value g)
