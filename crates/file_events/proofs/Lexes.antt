-- A lexer within a markup tells what the run of its held bytes tells, and keeps at the front of the lent bytes as much of the line as it has room for.
use Prim.Native.Nat.{ℕ, ◌+◌, ◌-◌, ◌≤◌, min}
use mathlib.Core.Path.{◌≡◌, refl, sym, ◌∙◌, ap}
use mathlib.Core.Bool.{true, false}
use mathlib.Core.List.{List, [], ◌∷◌, ◌++◌, append-nil, append_assoc, append_cancel_right}
use native.Mathlib.Omega.{arith}
use borrow.Author.Tests.{leb-true, ne_eqb}
use lib.Dec.{eqb, ltb, leb}
use lib.ListN.{length, take, drop, length-append, length-drop, length-take}
use lib.Seq.{take_all, take-append-le, take-append-add, drop-append_seam}
use Rattle.base.specs.Ascii.{ascii}
use Rattle.base.specs.Bytes.{Bytes, both}
use Rattle.base.proofs.Split.{by_bool, by_le, both_left, both_right, both_no_left, no}
use Rattle.little.proofs.Overs.{length_over, rest_over, used_over, drop_over}
use Rattle.text.specs.Char.{from_to, utf8}
use Rattle.text.specs.Text.{encoded}
use Rattle.text.proofs.Texts.{encoded_append}
use Rattle.markup.specs.Markup.{each_written, written_attribute, written_comment_part}
use Rattle.markup.specs.Markup.{version_key, encoding_key, standalone_key, written_item, written_optional, written_declaration}
use Rattle.markup.specs.Markup.{Markup, start_tag, end_tag, comment, instruction, declaration, legal_markup_at, written_markup, Meaning, meaning_of}
use Rattle.markup.specs.Automaton.{Moved, continues, completes, malformed, Lexed, incomplete, finished, not_well_formed, lexed_on, lexed}
use Rattle.markup.specs.Automaton.{MarkupState, behind_less_than_sign, markup_step}
use Rattle.markup.specs.MarkupBytes.{second_byte, begins_char, is_char, BytesState, at_char, char_step}
use Rattle.markup.proofs.Lexing.{moved_char}
use Rattle.markup_tags.specs.Meanings.{meaning_kept}
use Rattle.markup_steps.specs.Held.{markup_grown, meant_line, markup_kept}
use Rattle.markup_steps.proofs.Runs.{HeldState, HeldMeaning, held_step, held_byte, held_char, held_meaning, held_markup}
use Rattle.file_lexer.specs.declared.Before.{Before}
use Rattle.file_lexer.specs.declared.Before.TheVariants as B
use Rattle.file_lexer.specs.Lexing.{is_first, Where, between, within, Lexing, counted, line_put, line_used, more, markup, not_markup, byte_taken, char_taken}
use Rattle.file_lexer.specs.Lexing.{lex_byte, LexedRun, lexed_onward, lex_run}
use Rattle.file_events.specs.Passing.{counted_on}

-- ---- the line as it is kept

-- bytes at whose front, behind room for a word, as much of a line stands as is kept of it; what is behind that room is as it was lent
pub record LineKept (lent line bytes : Bytes) : Type 0 where
  pub kept : take (min 16380 (length line)) (drop 6 bytes) ≡ take 16380 line
  pub size : length bytes ≡ length lent
  pub behind : drop 16387 bytes ≡ drop 16387 lent

pub nothing_kept : (lent : Bytes) → LineKept lent [] lent
nothing_kept lent = record { kept = refl; size = refl; behind = refl }

more_used : (line x : Bytes) → line_used (min 16380 (length line)) x ≡ min 16380 (length (line ++ x))
more_used line x = omega (arith, length-append line x)

-- what is kept of a line and of more behind it
more_taken : (line x : Bytes) → take 16380 line ++ take (16380 - min 16380 (length line)) x ≡ take 16380 (line ++ x)
more_taken line x =
    by_le (length line) 16380
    (λ h. let a : min 16380 (length line) ≡ length line = omega (arith, h) in
    let n : length line + (16380 - length line) ≡ 16380 = omega (arith, h) in
    let t : take (length line + (16380 - length line)) (line ++ x) ≡ line ++ take (16380 - length line) x = take-append-add line x (16380 - length line) in
    rw (a, take_all 16380 line h) (sym (rw n at t)))
    (λ h. let a : 16380 - min 16380 (length line) ≡ 0 = omega (arith, h) in
    rw (a, append-nil (take 16380 line)) (sym (take-append-le 16380 line x (omega (arith, h)))))

line_more : (lent line x bytes : Bytes) → 16387 ≤ length lent → LineKept lent line bytes → LineKept lent (line ++ x) (line_put bytes (min 16380 (length line)) x)
line_more lent line x bytes r k =
    let used : ℕ = min 16380 (length line) in
    let t : Bytes = take (16380 - used) x in
    let l : length t ≡ min (16380 - used) (length x) = length-take (16380 - used) x in
    let s = k.size in
    let fits : used + length t ≤ length (drop 6 bytes) = omega (arith, length-drop 6 bytes, l, s, r) in
    let n : min 16380 (length (line ++ x)) ≡ used + length t = omega (arith, l, length-append line x) in
    record {
      kept = rw (n, rest_over bytes 6 used t) (used_over (drop 6 bytes) used t fits ∙ (ap (λ y. y ++ t) k.kept ∙ more_taken line x));
      size = length_over bytes (6 + used) t ∙ s;
      behind = drop_over 16387 bytes (6 + used) t (omega (arith, l)) ∙ k.behind;
    }

-- ---- a run within a markup

-- a lexer of which as much is kept of a line as there is room for
abbrev pub lexing_at : Where → ℕ → ℕ → Bytes → Bytes → Lexing
lexing_at place feeds lines bytes line = record { place = place; feeds = feeds; lines = lines; bytes = bytes; used = min 16380 (length line) }

-- the bytes ended within the markup
pub record RunGoesOn (lent : Bytes) (feeds lines : ℕ) (bs : Bytes) (h : HeldState) (r : LexedRun) : Type 0 where
  pub bytes : Bytes
  pub is : r ≡ record { lexing = lexing_at (within h.state) feeds (counted_on bs lines) bytes h.line; told = more; rest = [] }
  pub line : LineKept lent h.line bytes

-- the markup ended behind the byte `last`, which is no line feed
pub record RunEnds (lent : Bytes) (feeds lines : ℕ) (bs : Bytes) (m : HeldMeaning) (rest : Bytes) (r : LexedRun) : Type 0 where
  pub bytes : Bytes
  pub taken : Bytes
  pub last : ℕ
  pub text : bs ≡ taken ++ (last ∷ rest)
  pub is : r ≡ record { lexing = lexing_at (between B.Text) feeds (counted_on taken lines) bytes m.line; told = markup m.meaning; rest = rest }
  pub line : LineKept lent m.line bytes

-- a byte with which no legal markup goes on was not taken
pub record RunStops (lent : Bytes) (feeds : ℕ) (r : LexedRun) : Type 0 where
  pub told : r.told ≡ not_markup
  pub feeds_same : r.lexing.feeds ≡ feeds
  pub size : length r.lexing.bytes ≡ length lent
  pub behind : drop 16387 r.lexing.bytes ≡ drop 16387 lent

-- what a run tells, by what is told of what is held
abbrev pub RunTells : Bytes → ℕ → ℕ → Bytes → Lexed HeldState HeldMeaning → LexedRun → Type 0
RunTells lent feeds lines bs (incomplete h) r = RunGoesOn lent feeds lines bs h r
RunTells lent feeds lines bs (finished m rest) r = RunEnds lent feeds lines bs m rest r
RunTells lent feeds lines bs not_well_formed r = RunStops lent feeds r

-- a byte before a run
one_more : (lent : Bytes) (feeds lines b : ℕ) (bs : Bytes) (x : Lexed HeldState HeldMeaning) (r : LexedRun)
    → RunTells lent feeds (counted b lines) bs x r → RunTells lent feeds lines (b ∷ bs) x r
unfolding counted_on
one_more lent feeds lines b bs (incomplete h) r w = record { bytes = w.bytes; is = w.is; line = w.line }
one_more lent feeds lines b bs (finished m rest) r w =
    record { bytes = w.bytes; taken = b ∷ w.taken; last = w.last; text = ap (λ z. b ∷ z) w.text; is = w.is; line = w.line }
one_more lent feeds lines b bs not_well_formed r w = w

-- a byte with which a character begins and does not end is no line feed
begun_high : (s : Bytes) (b : ℕ) → begins_char (s ++ (b ∷ [])) ≡ true → 0x80 ≤ b
unfolding begins_char second_byte from_to
begun_high [] b h = omega (arith, leb-true 0xc2 b (both_left (leb 0xc2 b) _ h))
begun_high (a ∷ []) b h =
    let k = both_left _ _ (both_right _ _ h) in
    by_bool (eqb a 0xe0)
    (λ e. omega (arith, leb-true 0xa0 b (rw e at k)))
    (λ e. by_bool (eqb a 0xf0)
    (λ f. omega (arith, leb-true 0x90 b (rw (e, f) at k)))
    (λ f. leb-true 0x80 b (rw (e, f) at k)))
begun_high (a ∷ c ∷ []) b h = leb-true 0x80 b (both_left (leb 0x80 b) _ (both_right _ _ (both_right _ _ h)))
begun_high (a ∷ c ∷ d ∷ []) b h = no (cc h)
begun_high (a ∷ c ∷ d ∷ e ∷ s) b h = no (cc h)

high_uncounted : (b n : ℕ) → 0x80 ≤ b → counted b n ≡ n
unfolding counted
high_uncounted b n h =
    let e : eqb b 10 ≡ false = ne_eqb b 10 (λ q. omega (arith, h, q)) in
    rw (both_no_left (eqb b 10) (ltb n 18446744073709551615) e)

begun_uncounted : (s t : Bytes) (b n : ℕ) → char_step s b ≡ continues t → counted b n ≡ n
unfolding char_step
begun_uncounted s t b n h =
    by_bool (begins_char (s ++ (b ∷ [])))
    (λ e. high_uncounted b n (begun_high s b e))
    (λ e. by_bool (is_char (s ++ (b ∷ [])))
    (λ f. no (cc (rw (e, f) at h)))
    (λ f. no (cc (rw (e, f) at h))))

-- that of a run from any place within a markup
abbrev pub RunsTell : Bytes → ℕ → Bytes → Type 0
RunsTell lent feeds bs =
    (s : BytesState) (lines : ℕ) (line bytes : Bytes) → LineKept lent line bytes
    → RunTells lent feeds lines bs (lexed held_step (record { state = s; line = line }) bs) (lex_run (lexing_at (within s) feeds lines bytes line) bs)

-- within a markup a run of the lexer tells what the run of what is held tells
pub run_tells : (lent : Bytes) (feeds : ℕ) → 16387 ≤ length lent → (bs : Bytes) → RunsTell lent feeds bs
unfolding lexed held_step lex_run lex_byte counted_on
run_tells lent feeds r [] s lines line bytes k = record { bytes = bytes; is = refl; line = k }
run_tells lent feeds r (b ∷ bs) s lines line bytes k = go (char_step s.bytes b) refl (run_tells lent feeds r bs)
  where
    on : (m : Moved MarkupState Meaning)
        → RunsTell lent feeds bs
        → RunTells lent feeds lines (b ∷ bs) (lexed_on (λ q. lexed held_step q bs) bs (held_char s.markup line m))
        (lexed_onward (λ j. lex_run j bs) b bs (char_taken b s.markup (lexing_at (within s) feeds lines bytes line) m))
    on (continues q) ih =
        let x : Bytes = markup_grown s.markup (continues q) in
        one_more lent feeds lines b bs _ _
        (rw (more_used line x) (ih (at_char (markup_kept q)) (counted b lines) (line ++ x) (line_put bytes (min 16380 (length line)) x) (line_more lent line x bytes r k)))
    on (completes m) ih = record { bytes = bytes; taken = []; last = b; text = refl; is = refl; line = k }
    on malformed ih = record { told = refl; feeds_same = refl; size = k.size; behind = k.behind }

    go : (m : Moved Bytes ℕ) → char_step s.bytes b ≡ m
        → RunsTell lent feeds bs
        → RunTells lent feeds lines (b ∷ bs) (lexed_on (λ q. lexed held_step q bs) bs (held_byte s.markup line m))
        (lexed_onward (λ j. lex_run j bs) b bs (byte_taken b s.markup (lexing_at (within s) feeds lines bytes line) m))
    go (continues t) e ih = one_more lent feeds lines b bs _ _ (rw (begun_uncounted s.bytes t b lines e) (ih (record { markup = s.markup; bytes = t }) lines line bytes k))
    go (completes c) e ih = on (markup_step s.markup c) ih
    go malformed e ih = record { told = refl; feeds_same = refl; size = k.size; behind = k.behind }

-- ---- a markup

ended_so : (xs ys : List ℕ) → (zs : List ℕ) × (xs ++ (ys ++ (62 ∷ [])) ≡ zs ++ (62 ∷ []))
ended_so xs ys = (xs ++ ys, sym (append_assoc xs ys (62 ∷ [])))

-- each is written with a `>` at its end
ended_written : (m : Markup) → (xs : List ℕ) × (written_markup m ≡ xs ++ (62 ∷ []))
unfolding written_markup written_declaration
ended_written (start_tag false n xs gap) = (ascii "<" ++ n ++ each_written written_attribute xs ++ gap, refl)
ended_written (start_tag true n xs gap) = ended_so (ascii "<" ++ n ++ each_written written_attribute xs ++ gap) (47 ∷ [])
ended_written (end_tag n gap) = (ascii "</" ++ n ++ gap, refl)
ended_written (comment ps) = ended_so (ascii "<!--" ++ each_written written_comment_part ps) (45 ∷ 45 ∷ [])
ended_written (instruction t gap cs) = ended_so (ascii "<?" ++ t ++ gap ++ cs) (63 ∷ [])
ended_written (declaration d) =
    ended_so (ascii "<?xml" ++ written_item version_key d.version ++ written_optional encoding_key d.encoding ++ written_optional standalone_key d.standalone ++ d.gap) (63 ∷ [])

last_same : (xs ys : Bytes) (a b : ℕ) → xs ++ (a ∷ []) ≡ ys ++ (b ∷ []) → a ≡ b
last_same xs ys a b e =
    let p : length (xs ++ (a ∷ [])) ≡ length (ys ++ (b ∷ [])) = ap length e in
    let n : length xs ≡ length ys = omega (arith, p, length-append xs (a ∷ []), length-append ys (b ∷ [])) in
    let d : drop (length xs) (xs ++ (a ∷ [])) ≡ a ∷ [] = drop-append_seam xs (a ∷ []) in
    let f : drop (length ys) (ys ++ (b ∷ [])) ≡ b ∷ [] = drop-append_seam ys (b ∷ []) in
    let g : a ∷ [] ≡ b ∷ [] = sym d ∙ (ap (drop (length xs)) e ∙ ((rw (← n) at f))) in
    cc g

last_written : (m : Markup) (s : Bytes) (b : ℕ) → encoded (written_markup m) ≡ s ++ (b ∷ []) → b ≡ 62
unfolding encoded utf8
last_written m s b e =
    let w = ended_written m in
    let x : encoded (written_markup m) ≡ encoded w.0 ++ (62 ∷ []) = ap encoded w.1 ∙ encoded_append w.0 (62 ∷ []) in
    last_same s (encoded w.0) b 62 (sym e ∙ x)

ended_counted : (s : Bytes) (n : ℕ) → counted_on (s ++ (62 ∷ [])) n ≡ counted_on s n
unfolding counted_on counted both
ended_counted [] n = refl
ended_counted (b ∷ s) n = ended_counted s (counted b n)

begun_counted : (s : Bytes) (n : ℕ) → counted_on (60 ∷ s) n ≡ counted_on s n
unfolding counted_on counted both
begun_counted s n = refl

-- the line feeds of a markup, whose ends are none
markup_counted : (m : Markup) (s taken rest : Bytes) (last n : ℕ) → encoded (written_markup m) ≡ 60 ∷ s → s ++ rest ≡ taken ++ (last ∷ rest)
    → counted_on taken n ≡ counted_on (encoded (written_markup m)) n
markup_counted m s taken rest last n e t =
    let x : s ≡ taken ++ (last ∷ []) = append_cancel_right s (taken ++ (last ∷ [])) rest (t ∙ moved_char taken last rest) in
    let y : last ≡ 62 = last_written m (60 ∷ taken) last (e ∙ ap (λ z. 60 ∷ z) x) in
    let z : encoded (written_markup m) ≡ 60 ∷ (taken ++ (62 ∷ [])) = e ∙ ap (λ z. 60 ∷ z) (x ∙ ap (λ z. taken ++ (z ∷ [])) y) in
    rw z (sym (begun_counted (taken ++ (62 ∷ [])) n ∙ ended_counted taken n))

-- a markup that was told, with the line of its event, or the name of an end tag, as it is kept
pub record MarkupTold (m : Markup) (rest : Bytes) (l : Lexing) (r : LexedRun) : Type 0 where
  pub bytes : Bytes
  pub is : r ≡ record {
    lexing = lexing_at (between B.Text) l.lines (counted_on (encoded (written_markup m)) l.lines) bytes (meant_line (meaning_of m));
    told = markup (meaning_kept (meaning_of m));
    rest = rest;
  }
  pub line : LineKept l.bytes (meant_line (meaning_of m)) bytes

-- at its `<`
pub sign_lexed : (before : Before) (l : Lexing) (s : Bytes) → l.place ≡ between before
    → lex_run l (60 ∷ s) ≡ lex_run (lexing_at (within (at_char (behind_less_than_sign (is_first before)))) l.lines l.lines l.bytes []) s
unfolding lex_run lex_byte
sign_lexed before l s p = rw p

told_at_end : (m : Markup) (rest : Bytes) (before : Before) (l : Lexing) (s : Bytes) → l.place ≡ between before → encoded (written_markup m) ≡ 60 ∷ s
    → RunEnds l.bytes l.lines l.lines (s ++ rest) (held_meaning (meaning_of m)) rest
    (lex_run (lexing_at (within (at_char (behind_less_than_sign (is_first before)))) l.lines l.lines l.bytes []) (s ++ rest))
    → MarkupTold m rest l (lex_run l (encoded (written_markup m) ++ rest))
told_at_end m rest before l s p e w =
    let c = markup_counted m s w.taken rest w.last l.lines e w.text in
    record {
      bytes = w.bytes;
      is = ap (λ z. lex_run l (z ++ rest)) e ∙ (sign_lexed before l (s ++ rest) p ∙ (w.is ∙ rw c));
      line = w.line;
    }

-- a legal markup where it stands is told at its end, with its line and its line feeds
pub lex_markup : (m : Markup) (rest : Bytes) (before : Before) (l : Lexing) → l.place ≡ between before → legal_markup_at (is_first before) m ≡ true → 16387 ≤ length l.bytes
    → MarkupTold m rest l (lex_run l (encoded (written_markup m) ++ rest))
lex_markup m rest before l p legal room =
    let h = held_markup (is_first before) m rest legal in
    let t = run_tells l.bytes l.lines room (h.0 ++ rest) (at_char (behind_less_than_sign (is_first before))) l.lines [] l.bytes (nothing_kept l.bytes) in
    told_at_end m rest before l h.0 p h.1.0 (rw h.1.1 at t)
