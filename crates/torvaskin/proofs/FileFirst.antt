-- T4 at the C boundary of a file's reader: number, HELD and line of each reply are those of the first condition that holds, and 0 where none does. 22 for words that are no reader's,
-- and for words that are no file reader's; then the rows of the piece or of the end, for the file's reader that both words are.
use mathlib.Core.Path.{◌≡◌, ap}
use Rattle.base.specs.Bytes.{Bytes}
use Rattle.base.proofs.Split.{by_bool}
use Rattle.refusal.specs.First.{first_of}
use Rattle.overlay.specs.Overlay.{Overlay}
use Rattle.reader.specs.Table.{answer_by}
use Rattle.file_reader.specs.First.{piece_table, file_end_table}
use Rattle.file_reader.proofs.First.{piece_first, file_end_first}
use Rattle.c_reader.specs.Words.{is_reader, reader_of_words}
use Rattle.c_file.specs.Words.{is_file, file_of_words}
use Rattle.c_replies.specs.Readers.{answer_reply}
use Rattle.torvaskin.specs.First.{file_state_in, file_call_table}
use Rattle.torvaskin.specs.Files.{FileLent, piece_reply, file_end_reply}

module _ (o : Overlay) (x : FileLent) where
  pub piece_reply_first : (piece : Bytes) → (piece_reply piece o x).reply ≡ answer_reply (answer_by (first_of (file_call_table (piece_table piece) o x)))
  unfolding first_of piece_reply reader_of_words file_of_words
  piece_reply_first piece =
      by_bool (is_reader x.words)
      (λ i. by_bool (is_file x.file_words) (λ j. rw (i, j) (ap answer_reply (piece_first piece (file_state_in o x)))) (λ j. rw (i, j)))
      (λ i. rw i)

  pub file_end_reply_first : file_end_reply o x ≡ answer_reply (answer_by (first_of (file_call_table file_end_table o x)))
  unfolding first_of file_end_reply reader_of_words file_of_words
  file_end_reply_first =
      by_bool (is_reader x.words)
      (λ i. by_bool (is_file x.file_words) (λ j. rw (i, j) (ap answer_reply (file_end_first (file_state_in o x)))) (λ j. rw (i, j)))
      (λ i. rw i)
