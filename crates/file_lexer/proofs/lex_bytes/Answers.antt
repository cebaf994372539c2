-- By what stands behind the plain bytes: nothing, or a byte, and what it comes to.
use Prim.Native.Nat.{◌+◌, ◌<◌, ◌≤◌}
use mathlib.Core.Path.{◌≡◌, sym, ◌∙◌}
use native.Mathlib.Omega.{arith}
use lib.ListN.{length, get_or, drop, length-drop, drop_of_length-le}
use Rattle.std.proofs.lemmas.List.{take_rest}
use Rattle.markup_steps.specs.Held.{ended_meaning}
use Rattle.file_lexer.specs.Lexing.{lex_run}
use Rattle.file_lexer.specs.Held.{lexing_of}
use Rattle.file_lexer.proofs.Runs.{run_goes_on, run_ends, run_stops, run_of_nothing, from_place, passed_on}
use Rattle.file_lexer.proofs.lex_bytes.Goals as goal

pub loop-at-preserved : goal.loop-at-preserved
loop-at-preserved c =
    let s = c.args.run.now in
    let l = c.loop-at in
    let p = c.pass-passed in
    let here = l.at + p.result.taken in
    let w = lexing_of c.args.first c.args.first_lines c.args.bytes.now in
    let before = lexing_of p.result.lexer p.result.lines p.new.bytes in
    let still : lex_run before (drop here s) ≡ lex_run w s =
    passed_on (lexing_of l.lexer l.lines l.bytes) before s l.at p.result.taken (lex_run w s) (rw take_rest at p.ensures.still) l.invariant.still in
    let r = c.lex_byte-step in
    let inside : here < length s = omega (arith, length-drop l.at s, rw take_rest at p.ensures.in_bounds, c.if-here-run.false) in
    let d = from_place s here inside in
    let behind = lexing_of r.result.lexer r.result.lines r.new.bytes in
    let e = rw c.in-More.is at r.ensures in
    record {
      in_bounds = omega arith;
      still = sym (run_goes_on before behind (get_or s here 0) (drop here s) (drop (here + 1) s) d e) ∙ still;
    }

pub returns-then-here-run-clause-value : goal.returns-then-here-run-clause-value
returns-then-here-run-clause-value c =
    let s = c.args.run.now in
    let l = c.loop-at in
    let p = c.pass-passed in
    let here = l.at + p.result.taken in
    let w = lexing_of c.args.first c.args.first_lines c.args.bytes.now in
    let before = lexing_of p.result.lexer p.result.lines p.new.bytes in
    let still : lex_run before (drop here s) ≡ lex_run w s =
    passed_on (lexing_of l.lexer l.lines l.bytes) before s l.at p.result.taken (lex_run w s) (rw take_rest at p.ensures.still) l.invariant.still in
    let whole : length s ≤ here = omega (arith, c.if-here-run.true) in
    sym (run_of_nothing before (drop here s) (drop_of_length-le s whole)) ∙ still

pub returns-in-Markup-clause-value : goal.returns-in-Markup-clause-value
returns-in-Markup-clause-value c =
    let s = c.args.run.now in
    let l = c.loop-at in
    let p = c.pass-passed in
    let here = l.at + p.result.taken in
    let w = lexing_of c.args.first c.args.first_lines c.args.bytes.now in
    let before = lexing_of p.result.lexer p.result.lines p.new.bytes in
    let still : lex_run before (drop here s) ≡ lex_run w s =
    passed_on (lexing_of l.lexer l.lines l.bytes) before s l.at p.result.taken (lex_run w s) (rw take_rest at p.ensures.still) l.invariant.still in
    let r = c.lex_byte-step in
    let inside : here < length s = omega (arith, length-drop l.at s, rw take_rest at p.ensures.in_bounds, c.if-here-run.false) in
    let d = from_place s here inside in
    let behind = lexing_of r.result.lexer r.result.lines r.new.bytes in
    let e = rw c.in-Markup.is at r.ensures in
    sym (run_ends before behind (get_or s here 0) (drop here s) (drop (here + 1) s) d (ended_meaning c.in-Markup.ended) e) ∙ still

pub returns-in-NotMarkup-clause-value : goal.returns-in-NotMarkup-clause-value
returns-in-NotMarkup-clause-value c =
    let s = c.args.run.now in
    let l = c.loop-at in
    let p = c.pass-passed in
    let here = l.at + p.result.taken in
    let w = lexing_of c.args.first c.args.first_lines c.args.bytes.now in
    let before = lexing_of p.result.lexer p.result.lines p.new.bytes in
    let still : lex_run before (drop here s) ≡ lex_run w s =
    passed_on (lexing_of l.lexer l.lines l.bytes) before s l.at p.result.taken (lex_run w s) (rw take_rest at p.ensures.still) l.invariant.still in
    let r = c.lex_byte-step in
    let inside : here < length s = omega (arith, length-drop l.at s, rw take_rest at p.ensures.in_bounds, c.if-here-run.false) in
    let d = from_place s here inside in
    let behind = lexing_of r.result.lexer r.result.lines r.new.bytes in
    let e = rw c.in-NotMarkup.is at r.ensures in
    sym (run_stops before behind (get_or s here 0) (drop here s) (drop (here + 1) s) d e) ∙ still

pub returns-clause-value : goal.returns-clause-value
returns-clause-value c =
    let s = c.args.run.now in
    let l = c.loop-at in
    sym (run_of_nothing (lexing_of l.lexer l.lines l.bytes) (drop l.at s) (drop_of_length-le s c.loop-at-test.false)) ∙ l.invariant.still
