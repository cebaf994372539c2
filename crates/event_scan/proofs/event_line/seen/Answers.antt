-- `seen`: `any` over the names.
use Rattle.std.proofs.Common.{rules, ◌∙◌}
use Rattle.std.specs.Borrow.{Bor}
use Rattle.std.proofs.lemmas.Iterator.{YieldsList-from_slice}
use Rattle.std.proofs.lemmas.Iterator.Search.{any_from_yields_List}
use Rattle.base.specs.Bytes.{Bytes, same}
use Rattle.event_scan.proofs.Standing.{among_any}
use Rattle.event_scan.proofs.event_line.seen.Goals as goal

pub returns : goal.returns
returns c =
    any_from_yields_List (λ (k : Bor Bytes). same k.now c.args.name.now) _ _ _ c.any.ensures.ran (YieldsList-from_slice c.args.names.now cc) (λ x b q k. (search rules, search rules))
    ∙ among_any c.args.name.now c.args.names.now
