use Rattle.std.proofs.Common.{◌≡◌, ◌-◌, ◌≤◌, length, drop}
use Rattle.file_lexer.specs.Lexing.{lex_run}
use Rattle.file_lexer.specs.Held.{lexing_of}
use Rattle.file_lexer.proofs.lex_bytes.Given as goal

-- what is left, from the lexer so far, comes to what the whole does
abbrev pub invariant-loop-at : goal.invariant-loop-at
invariant-loop-at l = record {
  in_bounds : l.at ≤ length l.run;
  still : lex_run (lexing_of l.lexer l.lines l.bytes) (drop l.at l.run) ≡ lex_run (lexing_of l.fn.first l.fn.first_lines l.initial.bytes) l.run;
}

abbrev pub decreases-loop-at : goal.decreases-loop-at
decreases-loop-at l = length l.run - l.at
