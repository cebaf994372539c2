-- `split` at the tabs gives the fields, and `nth` the one of the number.
use Rattle.std.proofs.Common.{rules, eqb}
use Rattle.std.proofs.lemmas.Iterator.Consumers.{nth_from_yields_List}
use Rattle.std.proofs.lemmas.Iterator.Splits.{YieldsList-from_slice_split}
use Rattle.replay.proofs.Tabs.{fields_split}
use Rattle.replay.proofs.fields.field.Goals as goal

pub returns : goal.returns
returns c =
    let k = c.split.ensures in
    let e =
    nth_from_yields_List c.nth.result c.nth.new.self c.args.n c.nth.ensures.ran
    (YieldsList-from_slice_split _ (λ b. eqb b 9) c.args.line.now k.rest k.done k.closure (λ x b q r. search rules)) in
    rw (fields_split c.args.line.now) e
