-- The C boundary of a file's reader: what each entry leaves and replies. Words that are no reader's, or no file reader's, are refused 22, and nothing changes.
use Rattle.std.specs.Prelude.{ℕ, List, None, Option, Some}
use Rattle.base.specs.Bytes.{Bytes}
use Rattle.overlay.specs.Overlay.{Overlay}
use Rattle.reader.specs.declared.EventReader.{EventReader}
use Rattle.file_lexer.specs.Held.{where_of}
use Rattle.file_reader.specs.File.{FileState, FileResult}
use Rattle.file_reader.specs.Calls.{piece_on, file_end_on}
use Rattle.c_reader.specs.Words.{words_of_reader, reader_of_words}
use Rattle.c_file.specs.Words.{words_of_file, file_of_words}
use Rattle.c_file.specs.declared.FileWords.{FileWords}
use Rattle.c_replies.specs.Readers.{answer_reply, no_reader}
use Rattle.c_replies.specs.declared.EventReply.{EventReply}

-- what a file's reader lends beside its overlay: a reader's words and its parts, a file reader's words and its bytes
pub record FileLent : Type 0 where
  pub words : List ℕ
  pub parts : Bytes
  pub file_words : List ℕ
  pub file_bytes : Bytes

-- the overlay and what is lent beside it, after a call, and its reply
pub record FileReplied : Type 0 where
  pub overlay : Overlay
  pub lent : FileLent
  pub reply : EventReply

abbrev pub file_lent : Overlay → EventReader → FileWords → FileLent → FileState
file_lent o r f x =
    record {
      state = record { overlay = o; reader = r; parts = x.parts };
      place = where_of f.lexer.place;
      feeds = f.lexer.feeds;
      bytes = x.file_bytes;
      used = f.lexer.used;
      named = f.named;
    }

abbrev pub file_left : FileState → FileLent
file_left f =
    record { words = words_of_reader f.state.reader; parts = f.state.parts; file_words = words_of_file f.place f.feeds f.used f.named; file_bytes = f.bytes }

abbrev pub replied_file : FileResult → FileReplied
replied_file x = record { overlay = x.file.state.overlay; lent = file_left x.file; reply = answer_reply x.answer }

abbrev pub piece_named : Option EventReader → Option FileWords → Bytes → Overlay → FileLent → FileReplied
piece_named (Some r) (Some f) piece o x = replied_file (piece_on piece (file_lent o r f x))
piece_named (Some r) None piece o x = record { overlay = o; lent = x; reply = no_reader }
piece_named None f piece o x = record { overlay = o; lent = x; reply = no_reader }

-- a piece of a file
unfoldable pub piece_reply : Bytes → Overlay → FileLent → FileReplied
piece_reply piece o x = piece_named (reader_of_words x.words) (file_of_words x.file_words) piece o x

-- ---- the end

abbrev pub file_end_named : Option EventReader → Option FileWords → Overlay → FileLent → EventReply
file_end_named (Some r) (Some f) o x = answer_reply (file_end_on (file_lent o r f x)).answer
file_end_named (Some r) None o x = no_reader
file_end_named None f o x = no_reader

unfoldable pub file_end_reply : Overlay → FileLent → EventReply
file_end_reply o x = file_end_named (reader_of_words x.words) (file_of_words x.file_words) o x
