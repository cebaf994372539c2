-- A legal markup where it stands is told at its end, with what is kept of its meaning and of its line.
use Prim.Native.Nat.{ℕ, min}
use mathlib.Core.Path.{◌≡◌, refl, ◌∙◌, ap}
use mathlib.Core.Bool.{true}
use mathlib.Core.List.{◌++◌}
use native.Mathlib.Omega.{arith}
use lib.ListN.{length, take, drop}
use Rattle.base.specs.Bytes.{Bytes}
use Rattle.text.specs.Text.{encoded}
use Rattle.markup.specs.Markup.{Markup, legal_markup_at, written_markup, meaning_of}
use Rattle.markup_tags.specs.Meanings.{meaning_kept}
use Rattle.markup_steps.specs.Held.{meant_line}
use Rattle.file_lexer.specs.declared.Before.{Before}
use Rattle.file_lexer.specs.Lexing.{is_first, between, LexedRun}
use Rattle.file_reader.specs.File.{FileState, lexing_in, with_lexing, markup_ended, bytes_onward, file_bytes}
use Rattle.file_reader.proofs.Runs.{told_behind, bytes_lexed}
use Rattle.file_events.specs.Passing.{markup_passed}
use Rattle.file_events.proofs.Lexes.{lex_markup}

-- what a file's reader between markups tells of one, at its end, with what follows
pub record MarkupTold (m : Markup) (rest : Bytes) (f : FileState) : Type 0 where
  pub bytes : Bytes
  pub used : ℕ
  pub told : file_bytes (encoded (written_markup m) ++ rest) f
      ≡ bytes_onward (file_bytes rest) (markup_ended (meaning_kept (meaning_of m)) (markup_passed m bytes used f)).answer (markup_ended (meaning_kept (meaning_of m)) (markup_passed m bytes used f)).file
  -- of a start tag all behind its first word, of an end tag its name
  pub line : take used (drop 6 bytes) ≡ take 16380 (meant_line (meaning_of m))
  pub used_is : used ≡ min 16380 (length (meant_line (meaning_of m)))
  pub room : length bytes ≡ 32771
  -- the name of an open element is as before
  pub name : drop 16387 bytes ≡ drop 16387 f.bytes

pub markup_told : (m : Markup) (rest : Bytes) (before : Before) (f : FileState) → f.place ≡ between before → length f.bytes ≡ 32771 → legal_markup_at (is_first before) m ≡ true → MarkupTold m rest f
markup_told m rest before f p r l =
    let w = lex_markup m rest before (lexing_in f) p l (omega (arith, r)) in
    record {
      bytes = w.bytes;
      used = min 16380 (length (meant_line (meaning_of m)));
      told = bytes_lexed (encoded (written_markup m) ++ rest) f ∙ ap (λ (x : LexedRun). told_behind x.told x.rest (with_lexing f x.lexing)) w.is;
      line = w.line.kept;
      used_is = refl;
      room = w.line.size ∙ r;
      name = w.line.behind;
    }
