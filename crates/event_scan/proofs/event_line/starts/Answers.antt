-- `starts`: a name, then attributes.
use Rattle.std.proofs.Common.{sym, ◌∙◌}
use Rattle.event_scan.proofs.Parts.{first_short}
use Rattle.event_scan.proofs.Standing.{stand_right, starts_nameless, starts_wrong, starts_right}
use Rattle.event_scan.proofs.event_line.starts.Goals as goal

pub returns-then-is_empty-clause-means : goal.returns-then-is_empty-clause-means
returns-then-is_empty-clause-means c = starts_nameless _ _ _ _ c.in-Some.ensures.steps (sym c.is_empty.ensures ∙ c.if-is_empty.true)

pub returns-then-attributes_stand : goal.returns-then-attributes_stand
returns-then-attributes_stand c =
    let stands = sym c.attributes_stand.ensures ∙ c.if-attributes_stand.true in
    record {
      means = starts_right _ _ _ _ c.in-Some.ensures.steps (sym c.is_empty.ensures ∙ c.if-is_empty.false) stands;
      in_bounds = let s = first_short _ _ _ c.in-Some.ensures.steps in (s.0, s.1, stand_right _ stands);
      written = c.in-Some.ensures.steps;
    }

pub returns-clause-means : goal.returns-clause-means
returns-clause-means c =
    starts_wrong _ _ _ _ c.in-Some.ensures.steps (sym c.is_empty.ensures ∙ c.if-is_empty.false) (sym c.attributes_stand.ensures ∙ c.if-attributes_stand.false)
