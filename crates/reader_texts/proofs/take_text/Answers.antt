-- A value without a backslash is the text.
use mathlib.Core.Path.{sym, ◌∙◌}
use Rattle.event_scan.proofs.Pieces.{text_bare}
use Rattle.reader_texts.proofs.take_text.Goals as goal

pub returns-then-lacks-clause-taken : goal.returns-then-lacks-clause-taken
returns-then-lacks-clause-taken g c =
    λ short serve. rw (text_bare c.args.value.now.bytes.now (sym c.lacks.ensures ∙ c.if-lacks.true)) (c.intern.ensures.done serve)
