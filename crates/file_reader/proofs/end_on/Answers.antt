-- 22, the stop mark, 25 within a markup, or the end of a reader of events.
use Rattle.std.proofs.lemmas.Result.{err_from_is_err_and}
use Prim.Native.Nat.{◌<◌}
use mathlib.Core.Path.{sym, ◌∙◌, ap}
use native.Mathlib.Omega.{arith}
use Rattle.file_lexer.specs.Held.{where_of}
use Rattle.file_reader.specs.Held.{file_seen}
use Rattle.file_reader.proofs.Answers.{end_asked, end_between, end_within, feeds_count}
use Rattle.file_reader.proofs.end_on.Goals as goal

pub returns-in_err-check_going : goal.returns-in_err-check_going
returns-in_err-check_going c =
    let p = err_from_is_err_and c.from_residual.result c.from_residual.ensures.1 in
    rw (p.1, p.2) (end_asked (file_seen c.args.state.now c.args.file.now) (rw c.file_tested-sound.ensures.value at (sym c.check_going.ensures ∙ c.in_err-check_going.was)))

pub overflow_add-result : goal.overflow_add-result
overflow_add-result c =
    let l : c.args.file.now.lexer.feeds < 18446744073709551615 =
    feeds_count (file_seen c.args.state.now c.args.file.now) (rw c.file_tested-sound.ensures.value at (sym c.check_going.ensures ∙ c.in_ok-check_going.was)) _ (ap where_of c.in-Markup.is) in
    omega arith

pub returns-in-Text : goal.returns-in-Text
returns-in-Text c =
    end_between (file_seen c.args.state.now c.args.file.now) (rw c.file_tested-sound.ensures.value at (sym c.check_going.ensures ∙ c.in_ok-check_going.was)) c.in-Text.field-0
    (ap where_of c.in-Text.is) c.end_on.ensures

pub returns-in-Markup : goal.returns-in-Markup
returns-in-Markup c =
    end_within (file_seen c.args.state.now c.args.file.now) (rw c.file_tested-sound.ensures.value at (sym c.check_going.ensures ∙ c.in_ok-check_going.was)) _ (ap where_of c.in-Markup.is)
