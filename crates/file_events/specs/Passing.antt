-- What bytes of a file leave behind of its reader: the line feeds counted on, and where it stands.
use Rattle.std.specs.Prelude.{ℕ, [], ◌∷◌}
use Rattle.base.specs.Bytes.{Bytes}
use Rattle.text.specs.Text.{encoded}
use Rattle.markup.specs.Markup.{Markup, written_markup}
use Rattle.file_lexer.specs.declared.Before.{Before}
use Rattle.file_lexer.specs.declared.Before.TheVariants as B
use Rattle.file_lexer.specs.Lexing.{between, counted}
use Rattle.file_reader.specs.File.{FileState, with_lines}
use Rattle.file_events.specs.Parts.{before_text}

-- the line feeds of bytes, up to the largest number
unfoldable pub counted_on : Bytes → ℕ → ℕ
counted_on [] lines = lines
counted_on (b ∷ bs) lines = counted_on bs (counted b lines)

-- behind a text: the line feeds, and what stands before what comes next
abbrev pub text_passed : Before → Bytes → FileState → FileState
text_passed before s f =
    record {
      state = with_lines (counted_on s f.state.reader.lines) f.state;
      place = between (before_text before s);
      feeds = f.feeds;
      bytes = f.bytes;
      used = f.used;
      named = f.named;
    }

-- at the end of a markup, with what is kept of its line in the lent bytes
abbrev pub markup_passed : Markup → Bytes → ℕ → FileState → FileState
markup_passed m bytes used f =
    record {
      state = with_lines (counted_on (encoded (written_markup m)) f.state.reader.lines) f.state;
      place = between B.Text;
      feeds = f.state.reader.lines;
      bytes = bytes;
      used = used;
      named = f.named;
    }
