-- A byte that names a kind.
use mathlib.Core.Path.{◌∙◌}
use Rattle.c_reader.proofs.Coded.{narrow, kind_named}
use Rattle.c_reader.proofs.kind_of.Goals as goal

pub returns : goal.returns
returns c =
    let n = narrow _ _ _ c.try_from.ensures c.in_ok-ok.ensures.value in
    rw (← n.1) (c.ok-2.ensures.value ∙ kind_named _ _ c.try_from-2.ensures)
