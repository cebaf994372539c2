-- What a character of a markup comes to where the markup goes on: by what is held of it, what becomes of the lexer.
use Prim.Native.Nat.{ℕ}
use mathlib.Core.Path.{◌≡◌}
use Rattle.base.proofs.Split.{no}
use Rattle.markup.specs.Markup.{Meaning}
use Rattle.markup.specs.Automaton.{Moved, continues, completes, malformed, MarkupState}
use Rattle.markup.specs.MarkupBytes.{at_char}
use Rattle.markup_steps.specs.Held.{markup_kept, markup_grown, markup_forgotten}
use Rattle.file_lexer.specs.Line.{Line, line_grown}
use Rattle.file_lexer.specs.Lexing.{within, Lexing, counted, more, LexedByte, char_taken}

pub char_goes_on : (b : ℕ) (p : MarkupState) (l : Lexing) (m : Moved MarkupState Meaning) (q : MarkupState) (x : Line) (n : ℕ)
    → continues q ≡ markup_forgotten m → x ≡ line_grown l.bytes l.used (markup_grown p m) → n ≡ counted b l.lines
    → ◌≡◌ {A = LexedByte} (record { lexing = record { place = within (at_char q); feeds = l.feeds; lines = n; bytes = x.bytes; used = x.used }; told = more }) (char_taken b p l m)
unfolding line_grown
char_goes_on b p l (continues r) q x n e g h = let k : q ≡ markup_kept r = cc in rw (k, g, h)
char_goes_on b p l (completes m) q x n e g h = no (cc)
char_goes_on b p l malformed q x n e g h = no (cc)
