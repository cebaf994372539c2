-- Runs of plain bytes: a run of them is one step to the lexer behind it.
use Prim.Native.Nat.{ℕ, zero, suc, ◌+◌, ◌<◌, ◌≤◌, min}
use mathlib.Core.Path.{◌≡◌, refl, sym, ◌∙◌, ap}
use mathlib.Core.Bool.{Bool, true, false, cond, not}
use mathlib.Core.List.{[], ◌∷◌, ◌++◌, append-nil}
use native.Mathlib.Omega.{arith}
use lib.Dec.{eqb}
use native.Mathlib.Numerals.{add-one}
use lib.ListN.{length, get_or, take, drop, take-append-drop}
use lib.Seq.{take-suc}
use borrow.Author.Tests.{ne_eqb, eqb-true, eqb-false, not-true, lt-ltb, le-ltb}
use Rattle.std.specs.List.{count_by}
use Rattle.std.proofs.lemmas.List.Sums.{sum_by-cons}
use Rattle.base.specs.Bytes.{Bytes, both, either, all}
use Rattle.base.proofs.Split.{by_bool, by_lt, by_eq, by_either, both_left, both_right, either_left, either_right}
use Rattle.base.proofs.Lists.{all_nil, all_cons, all_head, all_tail, all_append}
use Rattle.text.specs.Char.{from_to, xml_char}
use Rattle.text.specs.Text.{encoded}
use Rattle.text.specs.Escape.{escape}
use Rattle.text.proofs.Xml.{legal_low}
use Rattle.text.proofs.Chars.{utf8_1}
use Rattle.xml_chars.proofs.Bytes.{within}
use Rattle.xml_chars.proofs.Steps.{first_ascii}
use Rattle.markup.specs.Markup.{QuoteMark, mark_char}
use Rattle.markup.specs.Names.{white_space, name_start_char, name_char}
use Rattle.markup.specs.Automaton.{continues, completes, MarkupState, in_start_tag, in_attribute_value, in_value}
use Rattle.markup.specs.Automaton.{value_step, start_tag_step, in_name, in_attribute_name, in_end_tag, in_end_name, end_tag_step, comment_step, instruction_step, markup_step}
use Rattle.markup.specs.MarkupBytes.{char_step}
use Rattle.markup_tags.specs.StartTags.{attrs_line, start_tag_line, start_tag_kept, no_parts}
use Rattle.markup_tags.specs.EndTags.{end_tag_line, end_tag_kept}
use Rattle.markup_skipped.specs.Instructions.{instruction_kept}
use Rattle.markup_steps.specs.Held.{markup_line, markup_kept, markup_grown}
use Rattle.file_lexer.specs.Line.{Line, line_grown}
use Rattle.file_lexer.specs.Lexing.{counted, before_step, more, LexedByte, lex_byte, lex_run}
use Rattle.file_lexer.specs.Plain.{plain_but, plain_of_value, plain_of_name, counted_on, in_text, in_markup, value_state, name_state}
use Rattle.file_lexer.specs.Plain.{attribute_name_state, end_name_state, comment_state, data_state}
use Rattle.file_lexer.proofs.Growths.{escape_itself, escape_low}
use Rattle.file_lexer.proofs.Lines.{grown_nothing, grown_again}
use Rattle.file_lexer.proofs.Moves.{char_goes_on}
use Rattle.file_lexer.proofs.Runs.{run_goes_on}

-- ---- a byte with which a markup goes on in the same place, and what it adds to the line

pub record Passes (p : MarkupState) (b : ℕ) (x : Bytes) : Type 0 where
  pub whole : char_step [] b ≡ completes b
  pub next : MarkupState
  pub step : markup_step p b ≡ continues next
  pub kept : p ≡ markup_kept next
  pub grown : x ≡ markup_grown p (continues next)
  pub no_feed : eqb b 10 ≡ false

not_counted : (b lines : ℕ) → eqb b 10 ≡ false → lines ≡ counted b lines
unfolding counted both
not_counted b lines h = rw h

byte_passes : (p : MarkupState) (f n : ℕ) (w : Line) (b : ℕ) (x : Bytes) → Passes p b x
    → ◌≡◌ {A = LexedByte} (record { lexing = in_markup p f n (line_grown w.bytes w.used x); told = more }) (lex_byte (in_markup p f n w) b)
unfolding lex_byte
byte_passes p f n w b x h =
    let g : line_grown w.bytes w.used x ≡ line_grown w.bytes w.used (markup_grown p (continues h.next)) = ap (line_grown w.bytes w.used) h.grown in
    rw (h.whole, h.step)
    (char_goes_on b p (in_markup p f n w) (continues h.next) p (line_grown w.bytes w.used x) n (ap continues h.kept) g (not_counted b n h.no_feed))

-- ---- a run of them

-- what a run adds where its bytes are copied, and where they are not
abbrev pub copied : Bool → Bytes → Bytes
copied true s = s
copied false s = []

copied_on : (k : Bool) (b : ℕ) (s : Bytes) → copied k (b ∷ []) ++ copied k s ≡ copied k (b ∷ s)
copied_on true b s = refl
copied_on false b s = refl

module _ (p : MarkupState) (f n : ℕ) (k : Bool) (test : ℕ → Bool) (passes : (b : ℕ) → test b ≡ true → Passes p b (copied k (b ∷ []))) where
  pub run_passes : (w : Line) (b : ℕ) (s t : Bytes) → all test (b ∷ s) ≡ true
      → lex_run (in_markup p f n (line_grown w.bytes w.used (copied k (b ∷ s)))) t ≡ lex_run (in_markup p f n w) (b ∷ s ++ t)
  run_passes w b [] t h =
      sym (run_goes_on (in_markup p f n w) (in_markup p f n (line_grown w.bytes w.used (copied k (b ∷ [])))) b (b ∷ t) t refl
      (byte_passes p f n w b (copied k (b ∷ [])) (passes b (all_head test b [] h))))
  run_passes w b (c ∷ s) t h =
      let v : Line = line_grown w.bytes w.used (copied k (b ∷ [])) in
      let one = run_goes_on (in_markup p f n w) (in_markup p f n v) b (b ∷ c ∷ s ++ t) (c ∷ s ++ t) refl
      (byte_passes p f n w b (copied k (b ∷ [])) (passes b (all_head test b (c ∷ s) h))) in
      let g : line_grown v.bytes v.used (copied k (c ∷ s)) ≡ line_grown w.bytes w.used (copied k (b ∷ []) ++ copied k (c ∷ s)) =
      grown_again w.bytes w.used (copied k (b ∷ [])) (copied k (c ∷ s)) v refl in
      let e : line_grown w.bytes w.used (copied k (b ∷ c ∷ s)) ≡ line_grown v.bytes v.used (copied k (c ∷ s)) =
      ap (line_grown w.bytes w.used) (sym (copied_on k b (c ∷ s))) ∙ sym g in
      ap (λ (x : Line). lex_run (in_markup p f n x) t) e ∙ (run_passes v c s t (all_tail test b (c ∷ s) h) ∙ sym one)

  -- the same where they lie
  pub run_over : (w : Line) (s : Bytes) (i : ℕ) → 0 < i → i ≤ length s → all test (take i s) ≡ true
      → lex_run (in_markup p f n (line_grown w.bytes w.used (copied k (take i s)))) (drop i s) ≡ lex_run (in_markup p f n w) s
  run_over w s zero h g t = absurd (omega arith)
  run_over w [] (suc i) h g t = absurd (omega arith)
  run_over w (b ∷ s) (suc i) h g t =
      run_passes w b (take i s) (drop i s) t ∙ ap (λ u. lex_run (in_markup p f n w) (b ∷ u)) (take-append-drop i s)

-- the same of bytes that add nothing: what is kept of the line is no more than there is room for
pub skipped_over : (p : MarkupState) (f n : ℕ) (test : ℕ → Bool) → ((b : ℕ) → test b ≡ true → Passes p b [])
    → (m : Bytes) (u v : ℕ) (s : Bytes) (i : ℕ) → i ≤ length s → all test (take i s) ≡ true → (i ≡ 0 → v ≡ u) → (0 < i → v ≡ min 16380 u)
    → lex_run (in_markup p f n (record { bytes = m; used = v })) (drop i s) ≡ lex_run (in_markup p f n (record { bytes = m; used = u })) s
skipped_over p f n test passes m u v s zero g t none some = rw (none refl)
skipped_over p f n test passes m u v s (suc i) g t none some =
    let k : 0 < suc i = omega arith in
    rw (some k)
    (ap (λ (x : Line). lex_run (in_markup p f n x) (drop (suc i) s)) (grown_nothing m u)
    ∙ run_over p f n false test passes (record { bytes = m; used = u }) s (suc i) k g t)

-- the same of bytes that are copied, where none are too
pub copied_over : (p : MarkupState) (f n : ℕ) (test : ℕ → Bool) → ((b : ℕ) → test b ≡ true → Passes p b (b ∷ []))
    → (w v : Line) (s : Bytes) (i : ℕ) → i ≤ length s → all test (take i s) ≡ true → (i ≡ 0 → v ≡ w) → (0 < i → v ≡ line_grown w.bytes w.used (take i s))
    → lex_run (in_markup p f n v) (drop i s) ≡ lex_run (in_markup p f n w) s
copied_over p f n test passes w v s zero g t none some = ap (λ (x : Line). lex_run (in_markup p f n x) s) (none refl)
copied_over p f n test passes w v s (suc i) g t none some =
    let k : 0 < suc i = omega arith in
    ap (λ (x : Line). lex_run (in_markup p f n x) (drop (suc i) s)) (some k) ∙ run_over p f n true test passes w s (suc i) k g t

-- one more that passes a test
pub test_on : (test : ℕ → Bool) (s : Bytes) (n : ℕ) → n < length s → all test (take n s) ≡ true → test (get_or s n 0) ≡ true → all test (take (n + 1) s) ≡ true
test_on test s n h g t =
    rw (add-one, take-suc s n 0 h) (all_append test (take n s) (get_or s n 0 ∷ []) g (all_cons test (get_or s n 0) [] t (all_nil test)))

-- ---- a character from the blank to the tilde

record Plain (stop b : ℕ) : Type 0 where
  low : 0x20 ≤ b
  high : b ≤ 0x7e
  other : eqb b stop ≡ false

plain : (stop b : ℕ) → plain_but stop b ≡ true → Plain stop b
unfolding plain_but
plain stop b h =
    let w = within 0x20 0x7e b (both_left _ _ h) in
    record { low = w.low; high = w.high; other = not-true _ (both_right (from_to 0x20 0x7e b) _ h) }

plain_legal : (b : ℕ) → 0x20 ≤ b → b ≤ 0x7e → xml_char b ≡ true
plain_legal b l h = legal_low b l (omega arith)

plain_whole : (b : ℕ) → 0x20 ≤ b → b ≤ 0x7e → char_step [] b ≡ completes b
plain_whole b l h = first_ascii b (omega arith) ∙ rw (plain_legal b l h)

no_break : (b : ℕ) → 0x20 ≤ b → eqb b 10 ≡ false
no_break b l = ne_eqb b 10 (λ e. omega arith)

pub comment_passes : (b : ℕ) → plain_but 45 b ≡ true → Passes comment_state b []
unfolding markup_step comment_step markup_kept markup_line
comment_passes b h =
    let w = plain 45 b h in
    record {
      whole = plain_whole b w.low w.high;
      next = comment_state;
      step = rw (w.other, plain_legal b w.low w.high);
      kept = refl;
      grown = refl;
      no_feed = no_break b w.low;
    }

pub data_passes : (b : ℕ) → plain_but 63 b ≡ true → Passes data_state b []
unfolding markup_step instruction_step markup_kept instruction_kept markup_line both
data_passes b h =
    let w = plain 63 b h in
    record {
      whole = plain_whole b w.low w.high;
      next = data_state;
      step = rw (plain_legal b w.low w.high, w.other);
      kept = refl;
      grown = refl;
      no_feed = no_break b w.low;
    }

-- ---- in a value

blank_stays : (b : ℕ) → 0x20 ≤ b → cond (white_space b) 0x20 b ≡ b
unfolding white_space either
blank_stays b l =
    by_eq b 0x20 (λ e. rw e) (λ n. rw (ne_eqb b 0x20 n, ne_eqb b 0x9 (λ e. omega arith), ne_eqb b 0xd (λ e. omega arith), ne_eqb b 0xa (λ e. omega arith)))

stands_for_itself : (b : ℕ) → 0x20 ≤ b → b ≤ 0x7e → eqb b 92 ≡ false → b ∷ [] ≡ escape (encoded (b ∷ []))
unfolding encoded
stands_for_itself b l h n =
    let e = escape_itself b (λ e. omega arith) (λ e. omega arith) (λ e. omega arith) (eqb-false b 92 n) in
    rw (append-nil, utf8_1 b (omega arith)) (sym (escape_low b e))

value_steps : (q : QuoteMark) (b : ℕ) → 0x20 ≤ b → xml_char b ≡ true → eqb b (mark_char q) ≡ false → eqb b 38 ≡ false → eqb b 60 ≡ false
    → markup_step (value_state q) b ≡ continues (in_start_tag (in_attribute_value no_parts [] q (in_value false (b ∷ []))))
unfolding markup_step start_tag_step value_step both
value_steps q b l legal nq na nl = rw (nq, na, nl, legal, ne_eqb b 13 (λ e. omega arith), blank_stays b l)

pub value_passes : (q : QuoteMark) (b : ℕ) → plain_of_value (mark_char q) b ≡ true → Passes (value_state q) b (b ∷ [])
unfolding plain_of_value markup_kept start_tag_kept markup_line start_tag_line attrs_line encoded escape
value_passes q b h =
    let h3 = both_left _ _ h in
    let h2 = both_left _ _ h3 in
    let w = plain (mark_char q) b (both_left _ _ h2) in
    let na = not-true _ (both_right (plain_but (mark_char q) b) _ h2) in
    let nl = not-true _ (both_right (both (plain_but (mark_char q) b) (not (eqb b 38))) _ h3) in
    let nb = not-true _ (both_right (both (both (plain_but (mark_char q) b) (not (eqb b 38))) (not (eqb b 60))) _ h) in
    record {
      whole = plain_whole b w.low w.high;
      next = in_start_tag (in_attribute_value no_parts [] q (in_value false (b ∷ [])));
      step = value_steps q b w.low (plain_legal b w.low w.high) w.other na nl;
      kept = refl;
      grown = stands_for_itself b w.low w.high nb;
      no_feed = no_break b w.low;
    }

-- ---- in a name

record OfName (b : ℕ) : Type 0 where
  low : 0x20 ≤ b
  high : b ≤ 0x7e
  named : name_char b ≡ true

of_name : (b : ℕ) → plain_of_name b ≡ true → OfName b
unfolding plain_of_name name_char name_start_char
of_name b h =
    by_either (either (from_to 0x61 0x7a b) (from_to 0x41 0x5a b)) (eqb b 0x5f) h
    (λ l. by_either (from_to 0x61 0x7a b) (from_to 0x41 0x5a b) l
    (λ t. let w = within 0x61 0x7a b t in
    record {
      low = omega (arith, w.low);
      high = omega (arith, w.high);
      named = either_left _ _ (either_left _ _ (either_right (eqb b 0x3a) (either_right (from_to 0x41 0x5a b) (either_right (eqb b 0x5f) t))));
    })
    (λ t. let w = within 0x41 0x5a b t in
    record { low = omega (arith, w.low); high = omega (arith, w.high); named = either_left _ _ (either_left _ _ (either_right (eqb b 0x3a) (either_left _ _ t))) }))
    (λ t. let e = eqb-true b 0x5f t in
    record {
      low = omega arith;
      high = omega arith;
      named = either_left _ _ (either_left _ _ (either_right (eqb b 0x3a) (either_right (from_to 0x41 0x5a b) (either_left _ _ t))));
    })

plain_encoded : (b : ℕ) → b ≤ 0x7e → b ∷ [] ≡ encoded (b ∷ [])
unfolding encoded
plain_encoded b h = rw (append-nil, utf8_1 b (omega arith))

pub name_passes : (b : ℕ) → plain_of_name b ≡ true → Passes name_state b (b ∷ [])
unfolding markup_step start_tag_step markup_kept start_tag_kept markup_line start_tag_line encoded
name_passes b h =
    let w = of_name b h in
    record {
      whole = plain_whole b w.low w.high;
      next = in_start_tag (in_name (b ∷ []));
      step = rw w.named;
      kept = refl;
      grown = plain_encoded b w.high;
      no_feed = no_break b w.low;
    }

pub attribute_name_passes : (b : ℕ) → plain_of_name b ≡ true → Passes attribute_name_state b (b ∷ [])
unfolding markup_step start_tag_step markup_kept start_tag_kept markup_line start_tag_line attrs_line encoded
attribute_name_passes b h =
    let w = of_name b h in
    record {
      whole = plain_whole b w.low w.high;
      next = in_start_tag (in_attribute_name no_parts (b ∷ []));
      step = rw w.named;
      kept = refl;
      grown = plain_encoded b w.high;
      no_feed = no_break b w.low;
    }

pub end_name_passes : (b : ℕ) → plain_of_name b ≡ true → Passes end_name_state b (b ∷ [])
unfolding markup_step end_tag_step markup_kept end_tag_kept markup_line end_tag_line encoded
end_name_passes b h =
    let w = of_name b h in
    record {
      whole = plain_whole b w.low w.high;
      next = in_end_tag (in_end_name (b ∷ []));
      step = rw w.named;
      kept = refl;
      grown = plain_encoded b w.high;
      no_feed = no_break b w.low;
    }

-- ---- between markups

text_goes_on : (f n : ℕ) (w : Line) (b : ℕ) → (b ≡ 60 → ⊥) → ◌≡◌ {A = LexedByte} (record { lexing = in_text f (counted b n) w; told = more }) (lex_byte (in_text f n w) b)
unfolding lex_byte before_step
text_goes_on f n w b h = rw (ne_eqb b 60 h)

pub text_passes : (f n : ℕ) (w : Line) (s : Bytes) (i : ℕ) → i ≤ length s → ((k : ℕ) → k < i → get_or s k 0 ≡ 60 → ⊥)
    → lex_run (in_text f (counted_on n (take i s)) w) (drop i s) ≡ lex_run (in_text f n w) s
unfolding counted_on
text_passes f n w s zero h g = refl
text_passes f n w [] (suc i) h g = absurd (omega arith)
text_passes f n w (b ∷ s) (suc i) h g =
    text_passes f (counted b n) w s i (omega arith) (λ k l. g (suc k) (omega arith))
    ∙ sym (run_goes_on (in_text f n w) (in_text f (counted b n) w) b (b ∷ s) s refl (text_goes_on f n w b (g 0 (omega arith))))

-- the line feeds of a run
feeds_more : (b : ℕ) (s : Bytes) → count_by (λ c. eqb c 10) (b ∷ s) ≡ cond (eqb b 10) 1 0 + count_by (λ c. eqb c 10) s
feeds_more b s = sum_by-cons (λ c. cond (eqb c 10) 1 0) b s

counted_feed : (b n : ℕ) → n ≤ 18446744073709551615 → counted b n ≡ min 18446744073709551615 (n + cond (eqb b 10) 1 0)
unfolding counted both
counted_feed b n h =
    by_bool (eqb b 10)
    (λ e. by_lt n 18446744073709551615
    (λ l. rw (e, lt-ltb n 18446744073709551615 l) (omega arith))
    (λ l. rw (e, le-ltb n 18446744073709551615 l) (omega arith)))
    (λ e. rw e (omega arith))

pub counted_total : (n : ℕ) (s : Bytes) → n ≤ 18446744073709551615 → counted_on n s ≡ min 18446744073709551615 (n + count_by (λ b. eqb b 10) s)
unfolding counted_on
counted_total n [] h = omega arith
counted_total n (b ∷ s) h =
    let c = counted_feed b n h in
    let ih = counted_total (counted b n) s (omega (arith, c)) in
    omega (arith, c, ih, feeds_more b s)
