-- What the entries of a file's reader leave and reply, from what a piece and an end leave and answer; and where words are no reader's, or no file reader's.
use Rattle.reader.specs.declared.RefusedAt.{RefusedAt}
use Rattle.std.specs.Prelude.{Result, Some, None}
use Prim.Native.Nat.{ℕ}
use mathlib.Core.Path.{◌≡◌, ◌∙◌, ap}
use mathlib.Core.Bool.{true, false}
use mathlib.Core.List.{List}
use Rattle.base.specs.Bytes.{Bytes}
use Rattle.base.proofs.Split.{by_bool}
use Rattle.overlay.specs.Overlay.{Overlay}
use Rattle.reader.specs.declared.EventReader.{EventReader}
use Rattle.file_lexer.specs.Lexing.{Where}
use Rattle.file_reader.specs.File.{FileState, FileResult}
use Rattle.file_reader.specs.Calls.{piece_on, file_end_on}
use Rattle.c_reader.specs.Words.{words_of_reader, reader_in, is_reader, reader_of_words}
use Rattle.c_file.specs.Words.{words_of_file, file_in, is_file, file_of_words}
use Rattle.c_file.specs.declared.FileWords.{FileWords}
use Rattle.c_file.proofs.Within.{coded, not_coded}
use Rattle.c_replies.specs.Readers.{answer_reply, no_reader}
use Rattle.c_replies.specs.declared.EventReply.{EventReply}
use Rattle.torvaskin.specs.Files.{FileLent, file_lent, replied_file, piece_reply, file_end_reply}

-- the file's reader that words are, or none
pub file_some : (w : List ℕ) {x : FileWords} → Some x ≡ file_of_words w → (is_file w ≡ true) × (x ≡ file_in w)
unfolding file_of_words
file_some w e = coded e

pub file_none : (w : List ℕ) → None ≡ file_of_words w → is_file w ≡ false
unfolding file_of_words
file_none w e = not_coded (file_in w) e

module _ (o : Overlay) (x : FileLent) where
  module _ (i : is_reader x.words ≡ true) (j : is_file x.file_words ≡ true) {r : EventReader} {h : FileWords} (e : r ≡ reader_in x.words) (f : h ≡ file_in x.file_words) where
    -- what a call makes of the file's reader is what it makes of that in the words
    in_words : {A : Type 0} (call : FileState → A) → call (file_lent o r h x) ≡ call (file_lent o (reader_in x.words) (file_in x.file_words) x)
    in_words call =
        ap (λ (v : FileWords). call (file_lent o r v x)) f ∙ ap (λ (v : EventReader). call (file_lent o v (file_in x.file_words) x)) e

    pub piece_is : (piece : Bytes) {q : Overlay} {t : EventReader} {ps bs : Bytes} {p : Where} {feeds used n : ℕ} {a : Result Unit RefusedAt} {ws fs : List ℕ} {y : EventReply}
        → ws ≡ words_of_reader t → fs ≡ words_of_file p feeds used n → y ≡ answer_reply a
        → record {
          file = record { state = record { overlay = q; reader = t; parts = ps }; place = p; feeds = feeds; bytes = bs; used = used; named = n };
          answer = a;
        } ≡ piece_on piece (file_lent o r h x)
        → record { overlay = q; lent = record { words = ws; parts = ps; file_words = fs; file_bytes = bs }; reply = y } ≡ piece_reply piece o x
    unfolding piece_reply reader_of_words file_of_words
    piece_is piece l m k g = rw (k, l, m, i, j) (ap replied_file (g ∙ in_words (piece_on piece)))

    pub file_end_is : {s : FileState} {a : Result Unit RefusedAt} {y : EventReply} → record { file = s; answer = a } ≡ file_end_on (file_lent o r h x) → y ≡ answer_reply a
        → y ≡ file_end_reply o x
    unfolding file_end_reply reader_of_words file_of_words
    file_end_is g k = rw (k, i, j) (ap (λ (z : FileResult). answer_reply z.answer) (g ∙ in_words file_end_on))

  module _ {y : EventReply} (k : y ≡ no_reader) where
    pub piece_no_reader : is_reader x.words ≡ false → (piece : Bytes) → record { overlay = o; lent = x; reply = y } ≡ piece_reply piece o x
    unfolding piece_reply reader_of_words
    piece_no_reader i piece = rw (k, i)

    pub piece_no_file : is_file x.file_words ≡ false → (piece : Bytes) → record { overlay = o; lent = x; reply = y } ≡ piece_reply piece o x
    unfolding piece_reply reader_of_words file_of_words
    piece_no_file j piece = by_bool (is_reader x.words) (λ i. rw (k, i, j)) (λ i. rw (k, i))

    pub end_no_reader : is_reader x.words ≡ false → y ≡ file_end_reply o x
    unfolding file_end_reply reader_of_words
    end_no_reader i = rw (k, i)

    pub end_no_file : is_file x.file_words ≡ false → y ≡ file_end_reply o x
    unfolding file_end_reply reader_of_words file_of_words
    end_no_file j = by_bool (is_reader x.words) (λ i. rw (k, i, j)) (λ i. rw (k, i))
