-- A run that holds no more than is kept, and collects the line, tells what the automaton's run tells.
use Prim.Native.Nat.{ℕ}
use mathlib.Core.Path.{◌≡◌, refl, sym, ◌∙◌, ap}
use mathlib.Core.Bool.{Bool, true}
use mathlib.Core.List.{List, [], ◌∷◌, ◌++◌}
use mathlib.Core.Logic.{◌↔◌}
use Rattle.base.specs.Bytes.{Bytes, both, either, same}
use Rattle.base.proofs.Split.{no}
use Rattle.text.specs.Char.{from_to, xml_char, utf8}
use Rattle.text.specs.Check.{decoded}
use Rattle.text.specs.Text.{encoded}
use Rattle.markup.specs.Markup.{Markup, start_tag, end_tag, comment, instruction, declaration, legal_markup_at, written_markup, written_declaration, Meaning, meaning_of}
use Rattle.markup.specs.Automaton.{Moved, continues, completes, malformed, Lexed, incomplete, finished, not_well_formed, lexed_on, lexed, wrapped_step}
use Rattle.markup.specs.Automaton.{MarkupState, behind_less_than_sign, markup_step}
use Rattle.markup.specs.MarkupBytes.{begins_char, is_char, char_moved, char_step, BytesState, at_char, bytes_moved, bytes_step, markup_of_bytes}
use Rattle.markup.proofs.MarkupBytes.{BytesWritten, sound_bytes, complete_bytes, none_well_formed_bytes}
use Rattle.markup_tags.specs.Meanings.{meaning_kept}
use Rattle.markup_steps.specs.Held.{markup_line, markup_grown, meant_line, markup_kept, markup_forgotten}
use Rattle.markup_steps.proofs.Kept.{kept_step, line_grows, line_ends}

-- ---- the run

-- what is held of a markup's state, with the bytes so far of its next character, and the line so far
pub record HeldState : Type 0 where
  pub state : BytesState
  pub line : Bytes

-- what is told at its end: what is kept of its meaning, and the line
pub record HeldMeaning : Type 0 where
  pub meaning : Meaning
  pub line : Bytes

-- a character more, behind its last byte
abbrev pub held_char : MarkupState → Bytes → Moved MarkupState Meaning → Moved HeldState HeldMeaning
held_char p line (continues q) = continues (record { state = at_char (markup_kept q); line = line ++ markup_grown p (continues q) })
held_char p line (completes m) = completes (record { meaning = meaning_kept m; line = line })
held_char p line malformed = malformed

abbrev pub held_byte : MarkupState → Bytes → Moved Bytes ℕ → Moved HeldState HeldMeaning
held_byte p line (continues s) = continues (record { state = record { markup = p; bytes = s }; line = line })
held_byte p line (completes c) = held_char p line (markup_step p c)
held_byte p line malformed = malformed

-- a byte more
unfoldable pub held_step : HeldState → ℕ → Moved HeldState HeldMeaning
held_step h b = held_byte h.state.markup h.line (char_step h.state.bytes b)

-- ---- as the automaton's

abbrev pub held_of : BytesState → HeldState
held_of s = record { state = record { markup = markup_kept s.markup; bytes = s.bytes }; line = markup_line s.markup }

abbrev pub held_meaning : Meaning → HeldMeaning
held_meaning m = record { meaning = meaning_kept m; line = meant_line m }

abbrev pub held_moved : Moved BytesState Meaning → Moved HeldState HeldMeaning
held_moved (continues s) = continues (held_of s)
held_moved (completes m) = completes (held_meaning m)
held_moved malformed = malformed

abbrev pub held_lexed : Lexed BytesState Meaning → Lexed HeldState HeldMeaning
held_lexed (incomplete s) = incomplete (held_of s)
held_lexed (finished m rest) = finished (held_meaning m) rest
held_lexed not_well_formed = not_well_formed

char_held : (q : MarkupState) (c : ℕ) → held_char (markup_kept q) (markup_line q) (markup_step (markup_kept q) c) ≡ held_moved (wrapped_step at_char (markup_step q c))
char_held q c = go (markup_step q c) (markup_step (markup_kept q) c) (kept_step q c) (λ t e. line_grows q t c e) (λ m e. line_ends q c m e)
  where
    go : (m k : Moved MarkupState Meaning) → markup_forgotten m ≡ markup_forgotten k
        → ((t : MarkupState) → m ≡ continues t → markup_line t ≡ markup_line q ++ markup_grown (markup_kept q) k)
        → ((d : Meaning) → m ≡ completes d → markup_line q ≡ meant_line d)
        → held_char (markup_kept q) (markup_line q) k ≡ held_moved (wrapped_step at_char m)
    go (continues t) (continues u) f grows ends =
        let x : markup_kept u ≡ markup_kept t = cc f in
        let y = sym (grows t refl) in
        rw (x, y)
    go (completes d) (completes e) f grows ends =
        let x : meaning_kept e ≡ meaning_kept d = cc f in
        let y = ends d refl in
        rw (x, y)
    go malformed malformed f grows ends = refl
    go (continues t) (completes e) f grows ends = no (cc f)
    go (continues t) malformed f grows ends = no (cc f)
    go (completes d) (continues u) f grows ends = no (cc f)
    go (completes d) malformed f grows ends = no (cc f)
    go malformed (continues u) f grows ends = no (cc f)
    go malformed (completes e) f grows ends = no (cc f)

byte_held : (q : MarkupState) (m : Moved Bytes ℕ) → held_byte (markup_kept q) (markup_line q) m ≡ held_moved (bytes_moved q m)
byte_held q (continues s) = refl
byte_held q (completes c) = char_held q c
byte_held q malformed = refl

pub held_step_is : (s : BytesState) (b : ℕ) → held_step (held_of s) b ≡ held_moved (bytes_step s b)
unfolding held_step bytes_step
held_step_is s b = byte_held s.markup (char_step s.bytes b)

pub held_run : (bs : Bytes) (s : BytesState) → lexed held_step (held_of s) bs ≡ held_lexed (lexed bytes_step s bs)
unfolding lexed
held_run [] s = refl
held_run (b ∷ bs) s = rw (held_step_is s b) (go (bytes_step s b) (held_run bs))
  where
    go : (m : Moved BytesState Meaning) → ((t : BytesState) → lexed held_step (held_of t) bs ≡ held_lexed (lexed bytes_step t bs))
        → lexed_on (λ p. lexed held_step p bs) bs (held_moved m) ≡ held_lexed (lexed_on (λ p. lexed bytes_step p bs) bs m)
    go (continues t) ih = ih t
    go (completes d) ih = refl
    go malformed ih = refl

-- ---- a markup from behind its `<`

abbrev pub held_begun : Bool → HeldState
held_begun first = record { state = at_char (behind_less_than_sign first); line = [] }

sign_read : char_moved (60 ∷ []) ≡ completes 60
unfolding begins_char is_char from_to xml_char decoded utf8 same both either
sign_read = refl

pub behind_sign : (first : Bool) (s : Bytes) → markup_of_bytes first (60 ∷ s) ≡ lexed bytes_step (at_char (behind_less_than_sign first)) s
unfolding lexed bytes_step char_step markup_step
behind_sign first s = rw sign_read

pub begun_run : (first : Bool) (s : Bytes) → lexed held_step (held_begun first) s ≡ held_lexed (markup_of_bytes first (60 ∷ s))
unfolding markup_kept markup_line
begun_run first s = held_run s (at_char (behind_less_than_sign first)) ∙ ap held_lexed (sym (behind_sign first s))

-- a run of bytes begins, behind a `<`, with the encoding of a legal markup, and this is what is told of it
pub record HeldWritten (first : Bool) (s rest : Bytes) (h : HeldMeaning) : Type 0 where
  pub markup : Markup
  pub legal : legal_markup_at first markup ≡ true
  pub text : 60 ∷ s ≡ encoded (written_markup markup) ++ rest
  pub told : h ≡ held_meaning (meaning_of markup)

held_sound : (first : Bool) (s rest : Bytes) (h : HeldMeaning) → lexed held_step (held_begun first) s ≡ finished h rest → HeldWritten first s rest h
held_sound first s rest h e = go (markup_of_bytes first (60 ∷ s)) refl (sym (begun_run first s) ∙ e)
  where
    go : (r : Lexed BytesState Meaning) → markup_of_bytes first (60 ∷ s) ≡ r → held_lexed r ≡ finished h rest → HeldWritten first s rest h
    go (incomplete t) x y = no (cc y)
    go not_well_formed x y = no (cc y)
    go (finished m tail) x y =
        let u : held_meaning m ≡ h = cc y in
        let v : tail ≡ rest = cc y in
        let w = sound_bytes first (60 ∷ s) tail m x in
        record { markup = w.markup; legal = w.legal; text = w.text ∙ ap (λ z. encoded (written_markup w.markup) ++ z) v; told = sym u ∙ ap held_meaning w.meaning }

held_complete : (first : Bool) (s rest : Bytes) (h : HeldMeaning) → HeldWritten first s rest h → lexed held_step (held_begun first) s ≡ finished h rest
held_complete first s rest h w =
    begun_run first s
    ∙ (ap (λ z. held_lexed (markup_of_bytes first z)) w.text
    ∙ (ap held_lexed (complete_bytes first w.markup rest w.legal) ∙ ap (λ z. finished z rest) (sym w.told)))

-- the run ends exactly behind a legal markup, and tells what is kept of its meaning and the line of its event
pub held_exactly : (first : Bool) (s rest : Bytes) (h : HeldMeaning) → (lexed held_step (held_begun first) s ≡ finished h rest) ↔ HeldWritten first s rest h
held_exactly first s rest h = (held_sound first s rest h, held_complete first s rest h)

-- where it is refused, no legal markup begins so, however the bytes go on
pub held_refused : (first : Bool) (s t rest : Bytes) (m : Meaning) → lexed held_step (held_begun first) s ≡ not_well_formed → BytesWritten first (60 ∷ (s ++ t)) rest m → ⊥
held_refused first s t rest m e w = go (markup_of_bytes first (60 ∷ s)) refl (sym (begun_run first s) ∙ e)
  where
    go : (r : Lexed BytesState Meaning) → markup_of_bytes first (60 ∷ s) ≡ r → held_lexed r ≡ not_well_formed → ⊥
    go (incomplete q) x y = no (cc y)
    go (finished d tail) x y = no (cc y)
    go not_well_formed x y = none_well_formed_bytes first (60 ∷ s) t rest m x w

-- each markup is written behind a `<`
pub behind_written : (m : Markup) → (s : List ℕ) × (written_markup m ≡ 60 ∷ s)
unfolding written_markup written_declaration
behind_written (start_tag empty n xs gap) = (_, refl)
behind_written (end_tag n gap) = (_, refl)
behind_written (comment ps) = (_, refl)
behind_written (instruction t gap cs) = (_, refl)
behind_written (declaration d) = (_, refl)

sign_written : (s : List ℕ) → encoded (60 ∷ s) ≡ 60 ∷ encoded s
unfolding encoded utf8
sign_written s = refl

-- the bytes of a legal markup behind its `<` are read to their end
pub held_markup : (first : Bool) (m : Markup) (rest : Bytes) → legal_markup_at first m ≡ true
    → (s : Bytes) × ((encoded (written_markup m) ≡ 60 ∷ s) × (lexed held_step (held_begun first) (s ++ rest) ≡ finished (held_meaning (meaning_of m)) rest))
held_markup first m rest l =
    let w = behind_written m in
    let x : encoded (written_markup m) ≡ 60 ∷ encoded w.0 = ap encoded w.1 ∙ sign_written w.0 in (
      encoded w.0,
      (
        x,
        held_complete first (encoded w.0 ++ rest) rest (held_meaning (meaning_of m)) (record {
          markup = m;
          legal = l;
          text = ap (λ z. z ++ rest) (sym x);
          told = refl;
        }),
      ),
    )
