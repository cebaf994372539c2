-- A value without a backslash is the text.
use mathlib.Core.Path.{sym, ◌∙◌}
use Rattle.event_scan.proofs.Pieces.{text_bare}
use Rattle.reader_texts.proofs.text_handle.Goals as goal

pub returns-then-lacks : goal.returns-then-lacks
returns-then-lacks g c =
    λ short serve. rw (text_bare c.args.value.now.bytes.now (sym c.lacks.ensures ∙ c.if-lacks.true)) (c.handle.ensures serve)
