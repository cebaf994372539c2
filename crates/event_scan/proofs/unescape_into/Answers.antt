-- `unescape_into` writes where the escapes are right.
use mathlib.Core.Path.{sym, ◌∙◌}
use Rattle.little.proofs.Overs.{over_nothing}
use Rattle.event_scan.proofs.Pieces.{text_none}
use Rattle.event_scan.proofs.unescape_into.Goals as goal

pub write-requires : goal.write-requires
write-requires c = sym c.escapes_right.ensures ∙ c.if-escapes_right.true

pub returns : goal.returns
returns c =
    let a = c.args in
    let e = text_none a.value.now (sym c.escapes_right.ensures ∙ c.if-escapes_right.false) in
    (rw (e, over_nothing), rw e)
