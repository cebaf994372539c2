-- The bytes of a piece, run by run: what a lexer tells of a run, done, and then what is left.
use Rattle.reader.specs.declared.RefusedAt.{RefusedAt}
use Rattle.std.specs.Prelude.{Ok, Err, Result}
use Rattle.std.specs.Result.{is_err}
use Prim.Native.Nat.{ℕ, ◌<◌}
use mathlib.Core.Path.{◌≡◌, refl, sym, ◌∙◌, ap}
use mathlib.Core.Bool.{Bool, true, false}
use mathlib.Core.List.{[], ◌∷◌}
use native.Mathlib.Omega.{arith}
use lib.ListN.{length}
use Rattle.base.specs.Bytes.{Bytes}
use Rattle.base.proofs.Split.{by_bool, no}
use Rattle.refusal.specs.declared.Refusal.TheVariants as R
use Rattle.text_index.specs.Chained.{HandleChains, StoreChained}
use Rattle.event.specs.Event.{starts, closes, others}
use Rattle.markup.specs.Markup.{Meaning, means_event, no_event}
use Rattle.file_lexer.specs.Lexing.{Told, more, markup, not_markup, Lexing, lex_byte, lex_run}
use Rattle.reader.specs.State.{state_sound}
use Rattle.reader.specs.Event.{EventResult, event_on}
use Rattle.reader_events.specs.Runs.{RunGiven}
use Rattle.file_reader.specs.File.{FileState, FileResult, lexing_in, with_lexing, at_markup, keeps_name, is_open, open_name, kept_line, tag_line, line_written, markup_event, close_line, markup_refused, behind_markup, named_behind, started, start_tag_ends, closed_behind, end_tag_ends, markup_ended, markup_malformed, file_byte, bytes_onward, file_bytes}
use Rattle.file_reader.proofs.Given.{Kept, kept_lines, kept_event, kept_markup_event, kept_refused}

-- ---- the cases

pub file_none : (f : FileState) → file_bytes [] f ≡ record { file = f; answer = Ok tt }
unfolding file_bytes
file_none f = refl

-- bytes that are no markup are refused
malformed_ends : (next : FileState → FileResult) (f : FileState) → bytes_onward next (markup_malformed f).answer (markup_malformed f).file ≡ markup_malformed f
unfolding markup_malformed
malformed_ends next f = by_bool (state_sound (at_markup f)) (λ u. rw u) (λ u. rw u)

-- what a run came to, done, and then what is left of it
abbrev pub told_behind : Told → Bytes → FileState → FileResult
told_behind more rest f = record { file = f; answer = Ok tt }
told_behind (markup m) rest f = bytes_onward (file_bytes rest) (markup_ended m f).answer (markup_ended m f).file
told_behind not_markup rest f = markup_malformed f

abbrev pub run_behind : Bytes → FileState → FileResult
run_behind run f = told_behind (lex_run (lexing_in f) run).told (lex_run (lexing_in f) run).rest (with_lexing f (lex_run (lexing_in f) run).lexing)

-- a byte, where the lemma holds of what follows it
byte_lexed : (b : ℕ) (bs : Bytes) (f : FileState) → ((g : FileState) → file_bytes bs g ≡ run_behind bs g) → file_bytes (b ∷ bs) f ≡ run_behind (b ∷ bs) f
unfolding file_bytes file_byte lex_run
byte_lexed b bs f ih = by_told (lex_byte (lexing_in f) b).told refl
  where
    by_told : (t : Told) → (lex_byte (lexing_in f) b).told ≡ t → file_bytes (b ∷ bs) f ≡ run_behind (b ∷ bs) f
    by_told more e = rw e (ih (with_lexing f (lex_byte (lexing_in f) b).lexing))
    by_told (markup m) e = rw e
    by_told not_markup e = rw e (malformed_ends (file_bytes bs) (with_lexing f (lex_byte (lexing_in f) b).lexing))

-- the bytes of a file, as a lexer reads them
pub bytes_lexed : (run : Bytes) (f : FileState) → file_bytes run f ≡ run_behind run f
unfolding file_bytes lex_run
bytes_lexed [] f = refl
bytes_lexed (b ∷ bs) f = byte_lexed b bs f (bytes_lexed bs)

-- a markup that ended has taken a byte
pub told_shorter : (l : Lexing) (run : Bytes) (m : Meaning) → (lex_run l run).told ≡ markup m → length (lex_run l run).rest < length run
unfolding lex_run
told_shorter l [] m e = no (cc)
told_shorter l (b ∷ bs) m e = byte_shorter (λ k. told_shorter k bs m) (lex_byte l b).told refl
  where
    byte_shorter : ((k : Lexing) → (lex_run k bs).told ≡ markup m → length (lex_run k bs).rest < length bs) → (t : Told) → (lex_byte l b).told ≡ t
        → length (lex_run l (b ∷ bs)).rest < length (b ∷ bs)
    byte_shorter ih more k = let z : (lex_run (lex_byte l b).lexing bs).told ≡ markup m = rw k at e in rw k (omega (arith, ih (lex_byte l b).lexing z))
    byte_shorter ih (markup n) k = rw k (omega arith)
    byte_shorter ih not_markup k = let z : not_markup ≡ markup m = rw k at e in no (cc)

-- ---- what is kept over a markup

module _ (c : HandleChains) (f : FileState) (k : Kept c f.state) where
  kept_at : Kept c (at_markup f)
  kept_at = kept_lines c f.feeds k

  kept_behind : (r : EventResult) → Kept c r.state → (b : Bytes) (n : ℕ) → Kept c (behind_markup f r b n).file.state
  kept_behind r w b n = kept_lines c f.state.reader.lines w

  kept_started : (b : Bytes) (r : EventResult) → Kept c r.state → (x : Result Unit RefusedAt) → Kept c (started f b r x).file.state
  kept_started b r w (Err a) = kept_behind r w b f.named
  kept_started b r w (Ok tt) = named (keeps_name r.state.reader.place.level)
    where
      named : (t : Bool) → Kept c (named_behind f b r t).file.state
      named false = kept_lines c f.state.reader.lines w
      named true = kept_lines c f.state.reader.lines w

  kept_start_tag : (empty : Bool) → Kept c (start_tag_ends empty f).file.state
  unfolding start_tag_ends
  kept_start_tag empty =
      let r = markup_event (tag_line empty f) (at_markup f) in
      kept_started (line_written empty f) r (kept_markup_event c (tag_line empty f) kept_at) r.answer

  kept_closed : (r : EventResult) → Kept c r.state → (x : Result Unit RefusedAt) → Kept c (closed_behind f r x).file.state
  kept_closed r w (Ok tt) = kept_behind r w f.bytes 0
  kept_closed r w (Err a) = kept_behind r w f.bytes f.named

  kept_end_tag : Kept c (end_tag_ends f).file.state
  unfolding end_tag_ends
  kept_end_tag =
      by_bool (is_open (kept_line f) (open_name f))
      (λ o. rw o (let r = event_on close_line (at_markup f) in kept_closed r (kept_event c close_line kept_at) r.answer))
      (λ o. rw o (let r = markup_refused R.UnmatchedEndTag (at_markup f) in kept_behind r (kept_refused c R.UnmatchedEndTag kept_at) f.bytes f.named))

  pub kept_markup : (m : Meaning) → Kept c (markup_ended m f).file.state
  unfolding markup_ended
  kept_markup (means_event (starts empty n attrs) m) = kept_start_tag empty
  kept_markup (means_event closes m) = kept_end_tag
  kept_markup (means_event others m) = k
  kept_markup no_event = k

-- ---- all bytes

-- what is left from the present place on, by chains for the texts before it
pub record Onward (c : HandleChains) (piece : Bytes) (f₀ : FileState) (rest : Bytes) (f : FileState) : Type 0 where
  pub total : file_bytes piece f₀ ≡ file_bytes rest f
  pub kept : Kept c f.state

pub onward_start : (c : HandleChains) (piece : Bytes) (f : FileState) → RunGiven f.state → StoreChained c f.state.overlay.texts → Onward c piece f piece f
onward_start c piece f g i = record { total = refl; kept = record { given = g; chained = i } }

accepted : (a : Result Unit RefusedAt) → is_err a ≡ false → a ≡ Ok tt
accepted (Ok tt) k = refl
accepted (Err a) k = no (cc)

refused : {C : Type 0} (a : Result Unit RefusedAt) → is_err a ≡ true → ((x : RefusedAt) → a ≡ Err x → C) → C
refused (Ok tt) k f = no (cc)
refused (Err a) k f = f a refl

-- a markup that is refused is the last
ended : (next : FileState → FileResult) (x : FileResult) (a : RefusedAt) → x.answer ≡ Err a → bytes_onward next x.answer x.file ≡ x
ended next x a e = (λ i. bytes_onward next (e i) x.file) ∙ (λ i. record { file = x.file; answer = sym e i })

module _ {c : HandleChains} {piece : Bytes} {f₀ : FileState} {run : Bytes} {f : FileState} (w : Onward c piece f₀ run f) where
  -- where the lexer stands behind a run
  module _ (g : FileState) (is : g ≡ with_lexing f (lex_run (lexing_in f) run).lexing) where
    lexed : (t : Told) → t ≡ (lex_run (lexing_in f) run).told → file_bytes piece f₀ ≡ told_behind t (lex_run (lexing_in f) run).rest g
    lexed t e = w.total ∙ (bytes_lexed run f ∙ (λ i. told_behind (sym e i) (lex_run (lexing_in f) run).rest (sym is i)))

    -- it is sound but for its count
    pub kept_lexed : (d : HandleChains) → (StoreChained c g.state.overlay.texts → StoreChained d g.state.overlay.texts) → Kept d g.state
    kept_lexed d h =
        let k : Kept c g.state = rw is (kept_lines c (lex_run (lexing_in f) run).lexing.lines w.kept) in
        record { given = k.given; chained = h k.chained }

    pub more_ends : more ≡ (lex_run (lexing_in f) run).told → record { file = g; answer = Ok tt } ≡ file_bytes piece f₀
    more_ends e = sym (lexed more e)

    pub not_markup_ends : not_markup ≡ (lex_run (lexing_in f) run).told → {x : FileResult} → x ≡ markup_malformed g → x ≡ file_bytes piece f₀
    not_markup_ends e h = h ∙ sym (lexed not_markup e)

    module _ (m : Meaning) (e : markup m ≡ (lex_run (lexing_in f) run).told) (x : FileResult) (h : x ≡ markup_ended m g) where
      pub markup_ends : is_err x.answer ≡ true → x ≡ file_bytes piece f₀
      markup_ends k =
          refused x.answer k
          (λ a u. let v : (markup_ended m g).answer ≡ Err a = ap (λ (z : FileResult). z.answer) (sym h) ∙ u in
          h ∙ sym (lexed (markup m) e ∙ ended (file_bytes (lex_run (lexing_in f) run).rest) (markup_ended m g) a v))

      pub markup_goes : is_err x.answer ≡ false → (d : HandleChains) → Kept d g.state → (rest : Bytes) → rest ≡ (lex_run (lexing_in f) run).rest → Onward d piece f₀ rest x.file
      markup_goes k d kept rest r =
          let v : (markup_ended m g).answer ≡ Ok tt = ap (λ (z : FileResult). z.answer) (sym h) ∙ accepted x.answer k in
          rw (h, r) (record { total = lexed (markup m) e ∙ rw v; kept = kept_markup d g kept m })
