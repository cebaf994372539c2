-- What is not refused yet can still become a legal markup: the automaton refuses at the first character with which none begins.
use Rattle.std.specs.Prelude.{None, Option}
use Rattle.base.specs.Ascii.{ascii}
use Rattle.markup.specs.Automaton.{Moved, continues, completes, malformed, Lexed, incomplete, finished, not_well_formed, lexed_on, lexed, wrapped_step, inner_step, ReferenceState, behind_ampersand, in_entity, behind_hash, in_decimal, behind_x, in_hex, begins_entity, entity_of, letter_taken, digit_taken, referred_char, reference_step, ValueState, in_value, in_reference, raw_step, value_step, ElementParts, StartTagState, in_name, behind_part, in_attribute_name, behind_attribute_name, behind_equals_sign, in_attribute_value, behind_slash, with_attr, part_ended, attribute_name_ended, start_tag_step, EndTagState, end_tag_step, CommentState, comment_step, DeclarationState, between_items, in_keyword, behind_keyword, behind_key_equals, in_key_value, behind_items, item_follows, version_read, begins_key_value, begins_version, keyword_begun, keyword_ended, declaration_step, InstructionState, behind_question_mark, in_target, behind_target, in_data, in_declaration, target_ended, reserved_ended, instruction_step, MarkupState, before_markup, behind_less_than_sign, in_start_tag, in_end_tag, in_bang, in_instruction, markup_begun, markup_step, markup_of}
use Rattle.markup.specs.Names.{white_space, name_start_char, name_char}
use Rattle.markup.specs.References.{ampersand, less_than, greater_than, apostrophe, quotation_mark, entity_name, hex_digit, digit_value}
use Rattle.markup.specs.Markup.{QuoteMark, mark_char, DeclarationKey, version_key, encoding_key, standalone_key, key_value, reserved_target, Meaning}
use Rattle.markup.proofs.Markups.{MarkupWritten, sound, markup_pieces, none_well_formed}
use Prim.Native.Nat.{ℕ, ◌+◌, ◌*◌}
use mathlib.Core.Path.{◌≡◌, refl, ◌∙◌}
use mathlib.Core.Bool.{Bool, true, false}
use mathlib.Core.Logic.{◌↔◌}
use mathlib.Core.List.{List, [], ◌∷◌, ◌++◌, append-nil}
use lib.Dec.{eqb, leb}
use Rattle.base.specs.Bytes.{both, either, same, is_digit}
use Rattle.base.proofs.Split.{no, by_bool}
use Rattle.text.specs.Char.{xml_char}
use Rattle.text.specs.Check.{begins}
use Rattle.markup.proofs.Continued.{viable_reference, viable_value, viable_start_tag, viable_declaration, viable_instruction, viable, continued}

-- ---- each step leads to a state that can be continued

abbrev Leads : {S A : Type 0} → (S → Bool) → Moved S A → Type 0
Leads p (continues q) = p q ≡ true
Leads p (completes a) = Unit {0}
Leads p malformed = Unit {0}

digits_lead : (wrap : ℕ → ReferenceState) (v : ℕ) → (leb v 0x10ffff ≡ true → viable_reference (wrap v) ≡ true) → Leads viable_reference (digit_taken wrap v)
digits_lead wrap v h = by_bool (leb v 0x10ffff) (λ t. rw t (h t)) (λ t. rw t tt)

letters_lead : (n : List ℕ) → Leads viable_reference (letter_taken n)
unfolding viable_reference
letters_lead n = by_bool (begins_entity n) (λ t. rw t t) (λ t. rw t tt)

char_leads : (v : ℕ) → Leads viable_reference (referred_char v)
char_leads v = by_bool (xml_char v) (λ t. rw t tt) (λ t. rw t tt)

entity_leads : (n : List ℕ) → Leads viable_reference (entity_of n)
unfolding entity_of
entity_leads n =
    by_bool (same n (entity_name ampersand)) (λ t. rw t tt)
    (λ a. by_bool (same n (entity_name less_than)) (λ t. rw (a, t) tt)
    (λ b. by_bool (same n (entity_name greater_than)) (λ t. rw (a, b, t) tt)
    (λ d. by_bool (same n (entity_name apostrophe)) (λ t. rw (a, b, d, t) tt)
    (λ f. by_bool (same n (entity_name quotation_mark)) (λ t. rw (a, b, d, f, t) tt) (λ t. rw (a, b, d, f, t) tt)))))

reference_leads : (r : ReferenceState) (c : ℕ) → Leads viable_reference (reference_step r c)
unfolding reference_step viable_reference
reference_leads behind_ampersand c = by_bool (eqb c 35) (λ t. rw t refl) (λ t. rw t (letters_lead (c ∷ [])))
reference_leads (in_entity n) c = by_bool (eqb c 59) (λ t. rw t (entity_leads n)) (λ t. rw t (letters_lead (n ++ (c ∷ []))))
reference_leads behind_hash c =
    by_bool (eqb c 120) (λ t. rw t refl)
    (λ x. by_bool (is_digit c) (λ t. rw (x, t) (digits_lead in_decimal (digit_value c) (λ h. h))) (λ t. rw (x, t) tt))
reference_leads (in_decimal v) c =
    by_bool (eqb c 59) (λ t. rw t (char_leads v))
    (λ x. by_bool (is_digit c) (λ t. rw (x, t) (digits_lead in_decimal (v * 10 + digit_value c) (λ h. h))) (λ t. rw (x, t) tt))
reference_leads behind_x c = by_bool (hex_digit c) (λ t. rw t (digits_lead in_hex (digit_value c) (λ h. h))) (λ t. rw t tt)
reference_leads (in_hex v) c =
    by_bool (eqb c 59) (λ t. rw t (char_leads v))
    (λ x. by_bool (hex_digit c) (λ t. rw (x, t) (digits_lead in_hex (v * 16 + digit_value c) (λ h. h))) (λ t. rw (x, t) tt))

raw_leads : (cr : Bool) (v : List ℕ) (c : ℕ) → Leads viable_value (raw_step cr v c)
unfolding viable_value
raw_leads cr v c = by_bool (both cr (eqb c 10)) (λ t. rw t refl) (λ t. rw t refl)

in_reference_leads : (v : List ℕ) (m : Moved ReferenceState ℕ) → Leads viable_reference m → Leads viable_value (inner_step {B = List ℕ} (in_reference v) (λ d. in_value false (v ++ (d ∷ []))) m)
unfolding viable_value
in_reference_leads v (continues r) h = h
in_reference_leads v (completes d) h = refl
in_reference_leads v malformed h = tt

value_leads : (q : QuoteMark) (w : ValueState) (c : ℕ) → Leads viable_value (value_step q w c)
unfolding value_step viable_value viable_reference
value_leads q (in_value cr v) c =
    by_bool (eqb c (mark_char q)) (λ t. rw t tt)
    (λ m. by_bool (eqb c 38) (λ t. rw (m, t) refl)
    (λ a. by_bool (eqb c 60) (λ t. rw (m, a, t) tt)
    (λ l. by_bool (xml_char c) (λ t. rw (m, a, l, t) (raw_leads cr v c)) (λ t. rw (m, a, l, t) tt))))
value_leads q (in_reference v r) c = in_reference_leads v (reference_step r c) (reference_leads r c)

part_leads : (e : ElementParts) (spaced : Bool) (c : ℕ) → Leads viable_start_tag (part_ended e spaced c)
unfolding part_ended viable_start_tag
part_leads e spaced c =
    by_bool (white_space c) (λ t. rw t refl)
    (λ w. by_bool (eqb c 47) (λ t. rw (w, t) refl)
    (λ s. by_bool (eqb c 62) (λ t. rw (w, s, t) tt)
    (λ g. by_bool (both spaced (name_start_char c)) (λ t. rw (w, s, g, t) refl) (λ t. rw (w, s, g, t) tt))))

attribute_name_leads : (e : ElementParts) (a : List ℕ) (c : ℕ) → Leads viable_start_tag (attribute_name_ended e a c)
unfolding attribute_name_ended viable_start_tag
attribute_name_leads e a c = by_bool (white_space c) (λ t. rw t refl) (λ w. by_bool (eqb c 61) (λ t. rw (w, t) refl) (λ t. rw (w, t) tt))

in_value_leads : (e : ElementParts) (a : List ℕ) (q : QuoteMark) (m : Moved ValueState (List ℕ)) → Leads viable_value m
    → Leads viable_start_tag (inner_step {B = Meaning} (in_attribute_value e a q) (λ w. behind_part (with_attr e a w) false) m)
unfolding viable_start_tag
in_value_leads e a q (continues v) h = h
in_value_leads e a q (completes w) h = refl
in_value_leads e a q malformed h = tt

start_tag_leads : (s : StartTagState) (c : ℕ) → Leads viable_start_tag (start_tag_step s c)
unfolding start_tag_step viable_start_tag viable_value
start_tag_leads (in_name n) c = by_bool (name_char c) (λ t. rw t refl) (λ t. rw t (part_leads (record { name = n; attrs = [] }) false c))
start_tag_leads (behind_part e spaced) c = part_leads e spaced c
start_tag_leads (in_attribute_name e a) c = by_bool (name_char c) (λ t. rw t refl) (λ t. rw t (attribute_name_leads e a c))
start_tag_leads (behind_attribute_name e a) c = attribute_name_leads e a c
start_tag_leads (behind_equals_sign e a) c =
    by_bool (white_space c) (λ t. rw t refl)
    (λ w. by_bool (eqb c 34) (λ t. rw (w, t) refl)
    (λ d. by_bool (eqb c 39) (λ t. rw (w, d, t) refl) (λ t. rw (w, d, t) tt)))
start_tag_leads (in_attribute_value e a q v) c = in_value_leads e a q (value_step q v c) (value_leads q v c)
start_tag_leads (behind_slash e) c = by_bool (eqb c 62) (λ t. rw t tt) (λ t. rw t tt)

begun_leads : (last : Option DeclarationKey) (c : ℕ) → Leads viable_declaration (keyword_begun last c)
unfolding keyword_begun viable_declaration
begun_leads last c =
    by_bool (both (item_follows last version_key) (eqb c 118)) (λ t. rw t refl)
    (λ v. by_bool (both (item_follows last encoding_key) (eqb c 101)) (λ t. rw (v, t) refl)
    (λ e. by_bool (both (item_follows last standalone_key) (eqb c 115)) (λ t. rw (v, e, t) refl) (λ t. rw (v, e, t) tt)))

keyword_leads : (key : DeclarationKey) (c : ℕ) → Leads viable_declaration (keyword_ended key c)
unfolding keyword_ended viable_declaration
keyword_leads key c = by_bool (white_space c) (λ t. rw t refl) (λ w. by_bool (eqb c 61) (λ t. rw (w, t) refl) (λ t. rw (w, t) tt))

none_begins : (key : DeclarationKey) → begins_key_value key [] ≡ true
unfolding begins_key_value begins_version begins same either
none_begins version_key = refl
none_begins encoding_key = refl
none_begins standalone_key = refl

declaration_leads : (d : DeclarationState) (c : ℕ) → Leads viable_declaration (declaration_step d c)
unfolding declaration_step viable_declaration
declaration_leads (between_items last spaced) c =
    by_bool (white_space c) (λ t. rw t refl)
    (λ w. by_bool (both (version_read last) (eqb c 63)) (λ t. rw (w, t) refl)
    (λ q. by_bool spaced (λ t. rw (w, q, t) (begun_leads last c)) (λ t. rw (w, q, t) tt)))
declaration_leads (in_keyword key []) c = keyword_leads key c
declaration_leads (in_keyword key (l ∷ ls)) c = by_bool (eqb c l) (λ t. rw t refl) (λ t. rw t tt)
declaration_leads (behind_keyword key) c = keyword_leads key c
declaration_leads (behind_key_equals key) c =
    by_bool (white_space c) (λ t. rw t refl)
    (λ w. by_bool (eqb c 34) (λ t. rw (w, t) (none_begins key))
    (λ d. by_bool (eqb c 39) (λ t. rw (w, d, t) (none_begins key)) (λ t. rw (w, d, t) tt)))
declaration_leads (in_key_value key q v) c =
    by_bool (eqb c (mark_char q))
    (λ m. by_bool (key_value key v) (λ t. rw (m, t) refl) (λ t. rw (m, t) tt))
    (λ m. by_bool (begins_key_value key (v ++ (c ∷ []))) (λ t. rw (m, t) t) (λ t. rw (m, t) tt))
declaration_leads behind_items c = by_bool (eqb c 62) (λ t. rw t tt) (λ t. rw t tt)

in_declaration_leads : (m : Moved DeclarationState Meaning) → Leads viable_declaration m → Leads viable_instruction (wrapped_step in_declaration m)
unfolding viable_instruction
in_declaration_leads (continues d) h = h
in_declaration_leads (completes e) h = tt
in_declaration_leads malformed h = tt

target_leads : (c : ℕ) → Leads viable_instruction (target_ended c)
unfolding target_ended viable_instruction
target_leads c = by_bool (white_space c) (λ t. rw t refl) (λ w. by_bool (eqb c 63) (λ t. rw (w, t) refl) (λ t. rw (w, t) tt))

reserved_leads : (f : Bool) (t : List ℕ) (c : ℕ) → Leads viable_instruction (reserved_ended f t c)
reserved_leads f t c =
    by_bool (both f (same t (ascii "xml")))
    (λ b. rw b (in_declaration_leads (declaration_step (between_items None false) c) (declaration_leads (between_items None false) c)))
    (λ b. rw b tt)

instruction_leads : (s : InstructionState) (c : ℕ) → Leads viable_instruction (instruction_step s c)
unfolding instruction_step viable_instruction
instruction_leads (behind_question_mark f) c = by_bool (name_start_char c) (λ t. rw t refl) (λ t. rw t tt)
instruction_leads (in_target f t) c =
    by_bool (name_char c) (λ k. rw k refl)
    (λ k. by_bool (reserved_target t) (λ r. rw (k, r) (reserved_leads f t c)) (λ r. rw (k, r) (target_leads c)))
instruction_leads behind_target c = by_bool (eqb c 62) (λ t. rw t tt) (λ t. rw t tt)
instruction_leads (in_data question) c =
    by_bool (both question (eqb c 62)) (λ t. rw t tt)
    (λ n. by_bool (xml_char c) (λ t. rw (n, t) refl) (λ t. rw (n, t) tt))
instruction_leads (in_declaration d) c = in_declaration_leads (declaration_step d c) (declaration_leads d c)

markup_begun_leads : (first : Bool) (c : ℕ) → Leads viable (markup_begun first c)
unfolding markup_begun viable viable_instruction viable_start_tag
markup_begun_leads first c =
    by_bool (eqb c 47) (λ t. rw t refl)
    (λ a. by_bool (eqb c 33) (λ t. rw (a, t) refl)
    (λ b. by_bool (eqb c 63) (λ t. rw (a, b, t) refl)
    (λ d. by_bool (name_start_char c) (λ t. rw (a, b, d, t) refl) (λ t. rw (a, b, d, t) tt))))

in_start_tag_leads : (m : Moved StartTagState Meaning) → Leads viable_start_tag m → Leads viable (wrapped_step in_start_tag m)
unfolding viable
in_start_tag_leads (continues d) h = h
in_start_tag_leads (completes e) h = tt
in_start_tag_leads malformed h = tt

in_end_tag_leads : (m : Moved EndTagState Meaning) → Leads viable (wrapped_step in_end_tag m)
unfolding viable
in_end_tag_leads (continues d) = refl
in_end_tag_leads (completes e) = tt
in_end_tag_leads malformed = tt

in_bang_leads : (m : Moved CommentState Meaning) → Leads viable (wrapped_step in_bang m)
unfolding viable
in_bang_leads (continues d) = refl
in_bang_leads (completes e) = tt
in_bang_leads malformed = tt

in_instruction_leads : (m : Moved InstructionState Meaning) → Leads viable_instruction m → Leads viable (wrapped_step in_instruction m)
unfolding viable
in_instruction_leads (continues d) h = h
in_instruction_leads (completes e) h = tt
in_instruction_leads malformed h = tt

markup_leads : (q : MarkupState) (c : ℕ) → Leads viable (markup_step q c)
unfolding markup_step viable
markup_leads (before_markup first) c = by_bool (eqb c 60) (λ t. rw t refl) (λ t. rw t tt)
markup_leads (behind_less_than_sign first) c = markup_begun_leads first c
markup_leads (in_start_tag s) c = in_start_tag_leads (start_tag_step s c) (start_tag_leads s c)
markup_leads (in_end_tag s) c = in_end_tag_leads (end_tag_step s c)
markup_leads (in_bang s) c = in_bang_leads (comment_step s c)
markup_leads (in_instruction s) c = in_instruction_leads (instruction_step s c) (instruction_leads s c)

stays_viable : (s : List ℕ) (q r : MarkupState) → viable q ≡ true → lexed markup_step q s ≡ incomplete r → viable r ≡ true
unfolding lexed
stays_viable [] q r h e = let k : q ≡ r = cc e in rw (← k) h
stays_viable (c ∷ s) q r h e = go (markup_step q c) (markup_leads q c) (stays_viable s) e
  where
    go : (m : Moved MarkupState Meaning) → Leads viable m → ((p t : MarkupState) → viable p ≡ true → lexed markup_step p s ≡ incomplete t → viable t ≡ true)
        → lexed_on (λ p. lexed markup_step p s) s m ≡ incomplete r → viable r ≡ true
    go (continues p) l h e = h p r l e
    go (completes a) l h e = no (cc e)
    go malformed l h e = no (cc e)

-- ---- what is not refused can still become a legal markup

pub unfinished_continued : (first : Bool) (s : List ℕ) (q : MarkupState) → markup_of first s ≡ incomplete q → (t : List ℕ) × ((e : Meaning) × MarkupWritten first (s ++ t) [] e)
unfolding viable
unfinished_continued first s q h =
    let c = continued q (stays_viable s (before_markup first) q refl h) in
    let k : markup_of first (s ++ c.more) ≡ finished c.value [] = markup_pieces first s c.more ∙ rw h c.read in
    (c.more, (c.value, sound first (s ++ c.more) [] c.value k))

-- "25 markup not well formed by itself or unsupported, judged as it is reached": refused exactly where no legal markup begins so, however the characters go on
pub refused_exactly : (first : Bool) (s : List ℕ) → (markup_of first s ≡ not_well_formed) ↔ ((t rest : List ℕ) (e : Meaning) → MarkupWritten first (s ++ t) rest e → ⊥)
refused_exactly first s = (λ r t rest e w. none_well_formed first s t rest e r w, λ n. go (markup_of first s) refl n)
  where
    go : (m : Lexed MarkupState Meaning) → markup_of first s ≡ m → ((t rest : List ℕ) (e : Meaning) → MarkupWritten first (s ++ t) rest e → ⊥) → m ≡ not_well_formed
    go (incomplete q) h n = let k = unfinished_continued first s q h in absurd (n k.0 [] k.1.0 k.1.1)
    go (finished e rest) h n = absurd (n [] rest e (rw append-nil (sound first s rest e h)))
    go not_well_formed h n = refl
