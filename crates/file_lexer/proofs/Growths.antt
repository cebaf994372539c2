-- What a legal character adds to the line are bytes.
use Prim.Native.Nat.{ℕ, ◌+◌, ◌/◌, ◌<◌}
use mathlib.Core.Path.{◌≡◌, refl}
use mathlib.Core.Bool.{Bool, true, false, cond}
use mathlib.Core.List.{List, [], ◌∷◌, ◌++◌, append-nil}
use native.Mathlib.Omega.{arith}
use lib.Dec.{eqb, leb}
use borrow.Author.Tests.{lt-ltb, ltb-true, leb-true, ne_eqb}
use Rattle.base.specs.Bytes.{Bytes, both, all, same, is_digit}
use Rattle.base.proofs.Split.{by_bool, by_lt, by_eq, no}
use Rattle.base.proofs.Lists.{all_nil, all_cons, all_head, all_tail, all_append}
use Rattle.little.specs.Little.{is_byte}
use Rattle.text.specs.Char.{xml_char, utf8}
use Rattle.text.specs.Text.{encoded}
use Rattle.text.specs.Escape.{escaped, escape}
use Rattle.text.proofs.Xml.{legal_low, legal_top}
use Rattle.text.proofs.Chars.{utf8_1, utf8_2, utf8_3, utf8_4, by_size, utf8_high}
use Rattle.markup.specs.Markup as X
use Rattle.markup.specs.Markup.{Meaning, mark_char}
use Rattle.markup.specs.References.{entity_name, ampersand, less_than, greater_than, apostrophe, quotation_mark, hex_digit}
use Rattle.markup.specs.Names.{white_space, name_start_char, name_char}
use Rattle.markup.specs.Automaton.{Moved, continues, completes, malformed, ReferenceState, begins_entity, entity_of, letter_taken, digit_taken, referred_char, reference_step}
use Rattle.markup.specs.Automaton.{behind_ampersand, in_entity, behind_hash, in_decimal, behind_x, in_hex, ValueState, in_value, in_reference, value_step, inner_step}
use Rattle.markup.specs.Automaton.{wrapped_step, with_attr, StartTagState, part_ended, attribute_name_ended, start_tag_step, in_name, behind_part, in_attribute_name}
use Rattle.markup.specs.Automaton.{behind_attribute_name, behind_equals_sign, in_attribute_value, behind_slash, EndTagState, end_name_ended, end_tag_step, behind_end_slash}
use Rattle.markup.specs.Automaton.{in_end_name, behind_end_name, CommentState, comment_step, InstructionState, instruction_step, MarkupState, behind_less_than_sign}
use Rattle.markup.specs.Automaton.{in_start_tag, in_end_tag, in_bang, in_instruction, markup_begun, markup_step}
use Rattle.markup_tags.specs.StartTags.{attrs_line, start_tag_line, start_tag_grown, no_parts, mark_for, start_tag_for}
use Rattle.markup_tags.specs.EndTags.{end_tag_line, end_tag_grown, end_tag_for}
use Rattle.markup_tags.specs.References.{reference_for}
use Rattle.markup_tags.specs.declared.start_tags.StartTagPlace.{StartTagPlace}
use Rattle.markup_tags.specs.declared.start_tags.StartTagPlace.TheVariants as S
use Rattle.markup_tags.specs.declared.end_tags.EndTagPlace.{EndTagPlace}
use Rattle.markup_tags.specs.declared.end_tags.EndTagPlace.TheVariants as E
use Rattle.markup_steps.specs.declared.MarkupPlace.{MarkupPlace}
use Rattle.markup_steps.specs.declared.MarkupPlace.TheVariants as M
use Rattle.markup_steps.specs.Held.{markup_line, markup_grown, markup_for}

-- ---- bytes

byte_yes : (b : ℕ) → b < 256 → is_byte b ≡ true
unfolding is_byte
byte_yes b h = lt-ltb b 256 h

byte_most : (b : ℕ) → is_byte b ≡ true → b < 256
unfolding is_byte
byte_most b h = ltb-true b 256 h

none : all is_byte [] ≡ true
none = all_nil is_byte

one_more : (b : ℕ) (s : Bytes) → b < 256 → all is_byte s ≡ true → all is_byte (b ∷ s) ≡ true
one_more b s h k = all_cons is_byte b s (byte_yes b h) k

utf8_bytes : (c : ℕ) → c < 4194304 → all is_byte (utf8 c) ≡ true
utf8_bytes c h =
    by_size c
    (λ a. rw (utf8_1 c a) (one_more c _ (omega arith) none))
    (λ l a. rw (utf8_2 c l a) (one_more _ _ (omega arith) (one_more _ _ (omega arith) none)))
    (λ l a. rw (utf8_3 c l a) (one_more _ _ (omega arith) (one_more _ _ (omega arith) (one_more _ _ (omega arith) none))))
    (λ l. rw (utf8_4 c l) (one_more _ _ (omega arith) (one_more _ _ (omega arith) (one_more _ _ (omega arith) (one_more _ _ (omega arith) none)))))

pub utf8_most : (c : ℕ) → all is_byte (utf8 c) ≡ true → c < 4194304
utf8_most c h =
    by_lt c 0x10000 (λ a. omega arith) (λ l. omega (arith, byte_most (0xf0 + c / 262144) (all_head is_byte _ _ (rw (utf8_4 c l) at h))))

-- ---- escaped bytes

escaped_bytes : (b : ℕ) → b < 256 → all is_byte (escaped b) ≡ true
unfolding escaped
escaped_bytes b h =
    by_eq b 9 (λ e. rw e (one_more _ _ (omega arith) (one_more _ _ (omega arith) none)))
    (λ n9. by_eq b 10 (λ e. rw e (one_more _ _ (omega arith) (one_more _ _ (omega arith) none)))
    (λ n10. by_eq b 13 (λ e. rw e (one_more _ _ (omega arith) (one_more _ _ (omega arith) none)))
    (λ n13. by_eq b 92 (λ e. rw e (one_more _ _ (omega arith) (one_more _ _ (omega arith) none)))
    (λ n92. rw (ne_eqb b 9 n9, ne_eqb b 10 n10, ne_eqb b 13 n13, ne_eqb b 92 n92) (one_more b [] h none)))))

escape_bytes : (s : Bytes) → all is_byte s ≡ true → all is_byte (escape s) ≡ true
unfolding escape
escape_bytes [] h = h
escape_bytes (b ∷ s) h =
    all_append is_byte (escaped b) (escape s) (escaped_bytes b (byte_most b (all_head is_byte b s h))) (escape_bytes s (all_tail is_byte b s h))

pub escape_itself : (b : ℕ) → (b ≡ 9 → ⊥) → (b ≡ 10 → ⊥) → (b ≡ 13 → ⊥) → (b ≡ 92 → ⊥) → escaped b ≡ b ∷ []
unfolding escaped
escape_itself b n9 n10 n13 n92 = rw (ne_eqb b 9 n9, ne_eqb b 10 n10, ne_eqb b 13 n13, ne_eqb b 92 n92)

escape_high : (s : Bytes) → all (leb 0x80) s ≡ true → escape s ≡ s
unfolding escape
escape_high [] h = refl
escape_high (b ∷ s) h =
    let l = leb-true 0x80 b (all_head (leb 0x80) b s h) in
    rw (escape_itself b (λ e. omega arith) (λ e. omega arith) (λ e. omega arith) (λ e. omega arith), escape_high s (all_tail (leb 0x80) b s h))

pub escape_low : (b : ℕ) → escaped b ≡ b ∷ [] → escape (b ∷ []) ≡ b ∷ []
unfolding escape
escape_low b e = rw e

-- a character that is no tab, line feed, carriage return or backslash stands for itself
pub escape_char : (c : ℕ) → (c ≡ 9 → ⊥) → (c ≡ 10 → ⊥) → (c ≡ 13 → ⊥) → (c ≡ 92 → ⊥) → escape (utf8 c) ≡ utf8 c
escape_char c n9 n10 n13 n92 =
    by_lt c 0x80 (λ a. rw (utf8_1 c a) (escape_low c (escape_itself c n9 n10 n13 n92))) (λ l. escape_high (utf8 c) (utf8_high c l))

pub escape_most : (c : ℕ) → all is_byte (escape (utf8 c)) ≡ true → c < 4194304
unfolding escape
escape_most c h =
    by_lt c 0x10000 (λ a. omega arith)
    (λ l. let i = escape_itself (0xf0 + c / 262144) (λ e. omega arith) (λ e. omega arith) (λ e. omega arith) (λ e. omega arith) in
    omega (arith, byte_most (0xf0 + c / 262144) (all_head is_byte _ _ (rw (utf8_4 c l, i) at h))))

-- ---- what a character adds

plain : (c : ℕ) → xml_char c ≡ true → all is_byte (encoded (c ∷ [])) ≡ true
unfolding encoded
plain c legal = rw append-nil (utf8_bytes c (omega (arith, legal_top c legal)))

tabbed : (c : ℕ) → xml_char c ≡ true → all is_byte (9 ∷ encoded (c ∷ [])) ≡ true
tabbed c legal = one_more 9 _ (omega arith) (plain c legal)

equals : all is_byte (61 ∷ []) ≡ true
equals = one_more 61 [] (omega arith) none

valued : (c : ℕ) → xml_char c ≡ true → all is_byte (escape (encoded (c ∷ []))) ≡ true
valued c legal = escape_bytes _ (plain c legal)

-- a choice of two
way : {A : Type 0} (P : A → Type 0) (t : Bool) (x y : A) → P x → P y → P (cond t x y)
way P true x y p q = p
way P false x y p q = q

-- ---- a reference completes a legal character

blank_legal : xml_char 32 ≡ true
blank_legal = legal_low 32 (omega arith) (omega arith)

abbrev Refers : Moved ReferenceState ℕ → Type 0
Refers m = (d : ℕ) → m ≡ completes d → xml_char d ≡ true

goes_on : (r : ReferenceState) → Refers (continues r)
goes_on r d e = no (cc)

is_none : Refers malformed
is_none d e = no (cc)

is_char : (a : ℕ) → xml_char a ≡ true → Refers (completes a)
is_char a h d e = let q : a ≡ d = cc in rw (← q) h

letter_refers : (s : List ℕ) → Refers (letter_taken s)
letter_refers s = way Refers (begins_entity s) _ _ (goes_on (in_entity s)) is_none

digit_refers : (wrap : ℕ → ReferenceState) (v : ℕ) → Refers (digit_taken wrap v)
digit_refers wrap v = way Refers (leb v 0x10ffff) _ _ (goes_on (wrap v)) is_none

number_refers : (v : ℕ) → Refers (referred_char v)
number_refers v d e =
    by_bool (xml_char v) (λ t. let x : v ≡ d = cc (rw t at e) in rw (← x) t) (λ f. no (cc (rw f at e)))

entity_refers : (s : List ℕ) → Refers (entity_of s)
unfolding entity_of
entity_refers s =
    way Refers (same s (entity_name ampersand)) _ _ (is_char 38 (legal_low 38 (omega arith) (omega arith)))
    (way Refers (same s (entity_name less_than)) _ _ (is_char 60 (legal_low 60 (omega arith) (omega arith)))
    (way Refers (same s (entity_name greater_than)) _ _ (is_char 62 (legal_low 62 (omega arith) (omega arith)))
    (way Refers (same s (entity_name apostrophe)) _ _ (is_char 39 (legal_low 39 (omega arith) (omega arith)))
    (way Refers (same s (entity_name quotation_mark)) _ _ (is_char 34 (legal_low 34 (omega arith) (omega arith)))
    is_none))))

reference_refers : (r : ReferenceState) (c : ℕ) → Refers (reference_step r c)
unfolding reference_step
reference_refers behind_ampersand c = way Refers (eqb c 35) _ _ (goes_on behind_hash) (letter_refers (c ∷ []))
reference_refers (in_entity s) c = way Refers (eqb c 59) _ _ (entity_refers s) (letter_refers (s ++ (c ∷ [])))
reference_refers behind_hash c = way Refers (eqb c 120) _ _ (goes_on behind_x) (way Refers (is_digit c) _ _ (digit_refers in_decimal _) is_none)
reference_refers (in_decimal v) c = way Refers (eqb c 59) _ _ (number_refers v) (way Refers (is_digit c) _ _ (digit_refers in_decimal _) is_none)
reference_refers behind_x c = way Refers (hex_digit c) _ _ (digit_refers in_hex _) is_none
reference_refers (in_hex v) c = way Refers (eqb c 59) _ _ (number_refers v) (way Refers (hex_digit c) _ _ (digit_refers in_hex _) is_none)

-- ---- a start tag

abbrev StartAdds : StartTagState → Moved StartTagState Meaning → Type 0
StartAdds s m = all is_byte (start_tag_grown s m) ≡ true

module _ (c : ℕ) (legal : xml_char c ≡ true) where
  -- behind the name or an attribute nothing is in the line that is held
  part_adds : (s : StartTagState) (spaced : Bool) → start_tag_line s ≡ [] → StartAdds s (part_ended no_parts spaced c)
  unfolding part_ended start_tag_line attrs_line encoded
  part_adds s spaced e =
      way (StartAdds s) (white_space c) _ _ (rw e none)
      (way (StartAdds s) (eqb c 47) _ _ (rw e none)
      (way (StartAdds s) (eqb c 62) _ _ none
      (way (StartAdds s) (both spaced (name_start_char c)) _ _ (rw e (tabbed c legal))
      none)))

  attribute_name_adds : StartAdds (in_attribute_name no_parts []) (attribute_name_ended no_parts [] c)
  unfolding attribute_name_ended start_tag_line attrs_line encoded
  attribute_name_adds =
      let P = StartAdds (in_attribute_name no_parts []) in
      way P (white_space c) _ _ equals (way P (eqb c 61) _ _ equals none)

  behind_attribute_name_adds : StartAdds (behind_attribute_name no_parts []) (attribute_name_ended no_parts [] c)
  unfolding attribute_name_ended start_tag_line attrs_line encoded
  behind_attribute_name_adds =
      let P = StartAdds (behind_attribute_name no_parts []) in
      way P (white_space c) _ _ none (way P (eqb c 61) _ _ none none)

  equals_sign_adds : StartAdds (behind_equals_sign no_parts []) (start_tag_step (behind_equals_sign no_parts []) c)
  unfolding start_tag_step start_tag_line attrs_line encoded escape
  equals_sign_adds =
      let P = StartAdds (behind_equals_sign no_parts []) in
      way P (white_space c) _ _ none (way P (eqb c 34) _ _ none (way P (eqb c 39) _ _ none none))

  -- a value
  abbrev ValueAdds : X.QuoteMark → ValueState → Moved ValueState (List ℕ) → Type 0
  ValueAdds q v m =
      StartAdds (in_attribute_value no_parts [] q v) (inner_step (in_attribute_value no_parts [] q) (λ w. behind_part (with_attr no_parts [] w) false) m)

  blank_or_not : xml_char (cond (white_space c) 32 c) ≡ true
  blank_or_not = way (λ d. xml_char d ≡ true) (white_space c) _ _ blank_legal legal

  value_adds : (q : X.QuoteMark) (cr : Bool) → ValueAdds q (in_value cr []) (value_step q (in_value cr []) c)
  unfolding value_step start_tag_line attrs_line encoded escape
  value_adds q cr =
      let P = ValueAdds q (in_value cr []) in
      way P (eqb c (mark_char q)) _ _ none
      (way P (eqb c 38) _ _ none
      (way P (eqb c 60) _ _ none
      (way P (xml_char c) _ _ (way P (both cr (eqb c 10)) _ _ none (valued (cond (white_space c) 32 c) blank_or_not))
      none)))

  referred_adds : (q : X.QuoteMark) (r : ReferenceState) (m : Moved ReferenceState ℕ) → reference_step r c ≡ m
      → ValueAdds q (in_reference [] r) (inner_step (in_reference []) (λ d. in_value false ([] ++ (d ∷ []))) m)
  unfolding start_tag_line attrs_line encoded escape
  referred_adds q r (continues s) e = none
  referred_adds q r (completes d) e = valued d (reference_refers r c d e)
  referred_adds q r malformed e = none

  reference_adds : (q : X.QuoteMark) (r : ReferenceState) → ValueAdds q (in_reference [] r) (value_step q (in_reference [] r) c)
  unfolding value_step
  reference_adds q r = referred_adds q r (reference_step r c) refl

  start_adds : (place : StartTagPlace) → StartAdds (start_tag_for place) (start_tag_step (start_tag_for place) c)
  unfolding start_tag_step
  start_adds S.Name =
      way (StartAdds (in_name [])) (name_char c) _ _ (unfold start_tag_line in unfold encoded in plain c legal)
      (part_adds (in_name []) false (unfold start_tag_line in unfold encoded in refl))
  start_adds (S.Behind spaced) = part_adds (behind_part no_parts spaced) spaced (unfold start_tag_line in unfold encoded in unfold attrs_line in refl)
  start_adds S.AttributeName =
      way (StartAdds (in_attribute_name no_parts [])) (name_char c) _ _ (unfold start_tag_line in unfold encoded in unfold attrs_line in plain c legal) attribute_name_adds
  start_adds S.BehindAttributeName = behind_attribute_name_adds
  start_adds S.BehindEqualsSign = equals_sign_adds
  start_adds (S.Value mark cr) = value_adds (mark_for mark) cr
  start_adds (S.Reference mark place) = reference_adds (mark_for mark) (reference_for place)
  start_adds S.Slash = way (StartAdds (behind_slash no_parts)) (eqb c 62) _ _ none none

-- ---- an end tag

abbrev EndAdds : EndTagState → Moved EndTagState Meaning → Type 0
EndAdds s m = all is_byte (end_tag_grown s m) ≡ true

module _ (c : ℕ) (legal : xml_char c ≡ true) where
  end_name_adds : (s : EndTagState) → end_tag_line s ≡ [] → EndAdds s (end_name_ended [] c)
  unfolding end_name_ended end_tag_line encoded
  end_name_adds s e = way (EndAdds s) (white_space c) _ _ (rw e none) (way (EndAdds s) (eqb c 62) _ _ none none)

  end_adds : (place : EndTagPlace) → EndAdds (end_tag_for place) (end_tag_step (end_tag_for place) c)
  unfolding end_tag_step end_tag_line encoded
  end_adds E.Slash = way (EndAdds behind_end_slash) (name_start_char c) _ _ (plain c legal) none
  end_adds E.Name = way (EndAdds (in_end_name [])) (name_char c) _ _ (plain c legal) (end_name_adds (in_end_name []) refl)
  end_adds E.Behind = end_name_adds (behind_end_name []) refl

-- ---- a markup

abbrev Adds : MarkupState → Moved MarkupState Meaning → Type 0
Adds s m = all is_byte (markup_grown s m) ≡ true

in_start : (s : StartTagState) (m : Moved StartTagState Meaning) → StartAdds s m → Adds (in_start_tag s) (wrapped_step in_start_tag m)
unfolding markup_line
in_start s (continues t) h = h
in_start s (completes a) h = none
in_start s malformed h = none

in_end : (s : EndTagState) (m : Moved EndTagState Meaning) → EndAdds s m → Adds (in_end_tag s) (wrapped_step in_end_tag m)
unfolding markup_line
in_end s (continues t) h = h
in_end s (completes a) h = none
in_end s malformed h = none

in_comment : (s : CommentState) (m : Moved CommentState Meaning) → Adds (in_bang s) (wrapped_step in_bang m)
unfolding markup_line
in_comment s (continues t) = none
in_comment s (completes a) = none
in_comment s malformed = none

in_other : (s : InstructionState) (m : Moved InstructionState Meaning) → Adds (in_instruction s) (wrapped_step in_instruction m)
unfolding markup_line
in_other s (continues t) = none
in_other s (completes a) = none
in_other s malformed = none

begun_adds : (first : Bool) (c : ℕ) → xml_char c ≡ true → Adds (behind_less_than_sign first) (markup_begun first c)
unfolding markup_begun markup_line start_tag_line end_tag_line encoded
begun_adds first c legal =
    let P = Adds (behind_less_than_sign first) in
    way P (eqb c 47) _ _ none (way P (eqb c 33) _ _ none (way P (eqb c 63) _ _ none (way P (name_start_char c) _ _ (plain c legal) none)))

pub adds_bytes : (place : MarkupPlace) (c : ℕ) → xml_char c ≡ true → all is_byte (markup_grown (markup_for place) (markup_step (markup_for place) c)) ≡ true
unfolding markup_step
adds_bytes (M.Begun first) c legal = begun_adds first c legal
adds_bytes (M.StartTag place) c legal = in_start (start_tag_for place) (start_tag_step (start_tag_for place) c) (start_adds c legal place)
adds_bytes (M.EndTag place) c legal = in_end (end_tag_for place) (end_tag_step (end_tag_for place) c) (end_adds c legal place)
adds_bytes (M.Bang place) c legal = in_comment _ (comment_step _ c)
adds_bytes (M.Instruction place) c legal = in_other _ (instruction_step _ c)
