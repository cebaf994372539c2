-- `event`: by the first word.
use Rattle.std.proofs.Common.{drop, sym, ap, ◌∙◌}
use Rattle.distinct.proofs.Spelled.{spelled}
use Rattle.event_scan.proofs.Parts.{parts_short}
use Rattle.event_scan.proofs.Standing.{lies_wider, spells_equal}
use Rattle.event_scan.proofs.Lines.{event_opens, event_empties, event_longer, event_word}
use Rattle.event_scan.proofs.event_line.event.Goals as goal

pub returns-then-equal-clause-means : goal.returns-then-equal-clause-means
returns-then-equal-clause-means c =
    let h = sym (spelled _ _ c.as_slice.ensures c.equal.ensures) ∙ c.if-equal.true in
    c.starts.ensures.means ∙ event_opens c.args.text.now _ _ (sym c.new-rest.ensures ∙ c.in-Some.ensures.steps) h

pub returns-then-equal-clause-in_bounds : goal.returns-then-equal-clause-in_bounds
returns-then-equal-clause-in_bounds c =
    lies_wider _ (parts_short c.args.text.now _ _ (sym c.new-rest.ensures ∙ c.in-Some.ensures.steps)).1 c.starts.ensures.in_bounds

pub returns-then-equal-clause-written : goal.returns-then-equal-clause-written
returns-then-equal-clause-written c = spells_equal _ (ap (drop 1) (sym c.in-Some.ensures.steps ∙ c.new-rest.ensures)) c.starts.ensures.written

pub returns-then-equal-2-clause-means : goal.returns-then-equal-2-clause-means
returns-then-equal-2-clause-means c =
    let h = sym (spelled _ _ c.as_slice.ensures c.equal.ensures) ∙ c.if-equal.false in
    let k = sym (spelled _ _ c.as_slice-2.ensures c.equal-2.ensures) ∙ c.if-equal-2.true in
    c.starts-then-equal-2.ensures.means ∙ event_empties c.args.text.now _ _ (sym c.new-rest.ensures ∙ c.in-Some.ensures.steps) h k

pub returns-then-equal-2-clause-in_bounds : goal.returns-then-equal-2-clause-in_bounds
returns-then-equal-2-clause-in_bounds c =
    lies_wider _ (parts_short c.args.text.now _ _ (sym c.new-rest.ensures ∙ c.in-Some.ensures.steps)).1 c.starts-then-equal-2.ensures.in_bounds

pub returns-then-equal-2-clause-written : goal.returns-then-equal-2-clause-written
returns-then-equal-2-clause-written c = spells_equal _ (ap (drop 1) (sym c.in-Some.ensures.steps ∙ c.new-rest.ensures)) c.starts-then-equal-2.ensures.written

pub returns-in-Some-next-clause-means : goal.returns-in-Some-next-clause-means
returns-in-Some-next-clause-means c =
    let h = sym (spelled _ _ c.as_slice.ensures c.equal.ensures) ∙ c.if-equal.false in
    let k = sym (spelled _ _ c.as_slice-2.ensures c.equal-2.ensures) ∙ c.if-equal-2.false in
    event_longer c.args.text.now _ _ (sym c.new-rest.ensures ∙ c.in-Some.ensures.steps) _ _ h k c.in-Some-next.ensures.steps

pub returns-in-None-clause-means : goal.returns-in-None-clause-means
returns-in-None-clause-means c =
    let h = sym (spelled _ _ c.as_slice.ensures c.equal.ensures) ∙ c.if-equal.false in
    let k = sym (spelled _ _ c.as_slice-2.ensures c.equal-2.ensures) ∙ c.if-equal-2.false in
    c.alone.ensures.means ∙ event_word c.args.text.now _ _ (sym c.new-rest.ensures ∙ c.in-Some.ensures.steps) h k c.in-None.ensures.steps.0

pub returns-in-None-clause-in_bounds : goal.returns-in-None-clause-in_bounds
returns-in-None-clause-in_bounds c =
    lies_wider _ (parts_short c.args.text.now _ _ (sym c.new-rest.ensures ∙ c.in-Some.ensures.steps)).0 c.alone.ensures.in_bounds

pub returns-in-None-clause-written : goal.returns-in-None-clause-written
returns-in-None-clause-written c = c.alone.ensures.written _
