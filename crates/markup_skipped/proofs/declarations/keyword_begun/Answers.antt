-- `markup_skipped::declarations::keyword_begun`: each keyword by its first letter, where it may stand.
use lib.Dec.{eqb}
use Rattle.markup.specs.Automaton.{keyword_begun}
use Rattle.markup_skipped.specs.Declarations.{declaration_kept}
use Rattle.markup_skipped.proofs.Tests.{tested}
use Rattle.markup_skipped.proofs.declarations.keyword_begun.Goals as goal

pub returns-then-follows-c : goal.returns-then-follows-c
unfolding keyword_begun declaration_kept
returns-then-follows-c c = rw (tested _ _ (eqb c.args.c 118) _ c.follows.ensures c.if-follows-c.true)

pub returns-then-follows-c-2 : goal.returns-then-follows-c-2
unfolding keyword_begun declaration_kept
returns-then-follows-c-2 c =
    let version = tested _ _ (eqb c.args.c 118) _ c.follows.ensures c.if-follows-c.false in
    let encoding = tested _ _ (eqb c.args.c 101) _ c.follows-else-follows-c.ensures c.if-follows-c-2.true in
    rw (version, encoding)

pub returns-then-follows-c-3 : goal.returns-then-follows-c-3
unfolding keyword_begun declaration_kept
returns-then-follows-c-3 c =
    let version = tested _ _ (eqb c.args.c 118) _ c.follows.ensures c.if-follows-c.false in
    let encoding = tested _ _ (eqb c.args.c 101) _ c.follows-else-follows-c.ensures c.if-follows-c-2.false in
    let standalone = tested _ _ (eqb c.args.c 115) _ c.follows-else-follows-c-2.ensures c.if-follows-c-3.true in
    rw (version, encoding, standalone)

pub returns-else-follows-c-3 : goal.returns-else-follows-c-3
unfolding keyword_begun declaration_kept
returns-else-follows-c-3 c =
    let version = tested _ _ (eqb c.args.c 118) _ c.follows.ensures c.if-follows-c.false in
    let encoding = tested _ _ (eqb c.args.c 101) _ c.follows-else-follows-c.ensures c.if-follows-c-2.false in
    let standalone = tested _ _ (eqb c.args.c 115) _ c.follows-else-follows-c-2.ensures c.if-follows-c-3.false in
    rw (version, encoding, standalone)
