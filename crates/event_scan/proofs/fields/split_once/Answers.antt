-- `split_once`: by the first place of the byte.
use Rattle.std.proofs.Common.{rules, sym, ap, ◌∙◌}
use Rattle.std.proofs.lemmas.List.{take_rest}
use native.Mathlib.Numerals.{add-one}
use Rattle.event_scan.specs.Parts.{parts_seen}
use Rattle.event_scan.proofs.Parts.{parted_here, parted_nowhere}
use Rattle.event_scan.proofs.fields.split_once.Goals as goal

pub returns-in_err-i : goal.returns-in_err-i
returns-in_err-i c = let n = parted_nowhere c.args.byte c.args.s.now (search rules) in ap parts_seen c.from_residual.ensures ∙ sym n

pub returns : goal.returns
returns c =
    let p = parted_here c.args.byte c.args.s.now c.in_ok-i.i (search rules) (search rules) (search rules) in
    simp (take_rest, add-one) (sym p)
