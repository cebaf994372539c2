-- `text::plain_together` meets its contract: a fold over the bytes tells whether each passes the test.
use mathlib.Core.Path.{◌∙◌}
use mathlib.Core.Bool.{true, ◌&&◌}
use Rattle.std.proofs.Common.{rules}
use Rattle.std.proofs.lemmas.Iterator.{YieldsList-from_slice}
use Rattle.std.proofs.lemmas.Iterator.Consumers.{fold_from_yields_List}
use Rattle.base.specs.Bytes.{both}
use Rattle.text.specs.Check.{is_plain}
use Rattle.text.proofs.PlainBytes.{fold_all}
use Rattle.text.proofs.plain_together.Goals as goal

pub returns : goal.returns
unfolding both
returns c =
    let s = c.args.s.now in
    fold_from_yields_List _ (λ o b. o && is_plain b) true c.fold.result c.fold.ensures.ran (YieldsList-from_slice s cc) (λ a x b q w. search rules)
    ∙ fold_all is_plain s true
