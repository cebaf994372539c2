-- `markup_skipped::declarations::keyword_step`: the letter that is due, or what stands behind the keyword.
use borrow.Author.Tests.{eq-eqb, ne_eqb}
use Rattle.markup.specs.Automaton.{declaration_step}
use Rattle.markup_skipped.specs.Declarations.{key_for, declaration_kept}
use Rattle.markup_skipped.proofs.Keywords.{none_due, letter_due}
use Rattle.markup_skipped.proofs.declarations.keyword_step.Goals as goal

pub returns-then-left-eq0 : goal.returns-then-left-eq0
unfolding declaration_step
returns-then-left-eq0 c =
    let due = none_due (key_for c.args.key) c.args.to_come c.min-left.result c.keyword_rest-rest.result.now c.keyword_rest-rest.ensures c.min-left.ensures c.if-left-eq0.true in
    rw due c.keyword_ended.ensures

pub returns-then-c-rest : goal.returns-then-c-rest
unfolding declaration_step declaration_kept
returns-then-c-rest c =
    let due = letter_due (key_for c.args.key) c.args.to_come c.min-left.result c.keyword_rest-rest.result.now c.keyword_rest-rest.ensures c.min-left.ensures c.if-left-eq0.false in
    rw (due, eq-eqb _ _ c.if-c-rest.true)

pub returns-else-c-rest : goal.returns-else-c-rest
unfolding declaration_step declaration_kept
returns-else-c-rest c =
    let due = letter_due (key_for c.args.key) c.args.to_come c.min-left.result c.keyword_rest-rest.result.now c.keyword_rest-rest.ensures c.min-left.ensures c.if-left-eq0.false in
    rw (due, ne_eqb _ _ c.if-c-rest.false)
