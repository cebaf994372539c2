-- The automaton that reads one markup, character by character. A character more moves it to its next state, completes the markup, or cannot be taken: then no markup is written so.
use Rattle.std.specs.Prelude.{ℕ, ◌+◌, ◌*◌, Bool, true, false, cond, List, [], ◌∷◌, ◌++◌, eqb, leb, map, None, Option, Some}
use Rattle.base.specs.Ascii.{ascii}
use Rattle.base.specs.Bytes.{both, either, all, same, is_digit}
use Rattle.base.specs.Chars.{line_feed, carriage_return, equals_sign}
use Rattle.text.specs.Char.{xml_char}
use Rattle.text.specs.Check.{begins}
use Rattle.text.specs.Text.{encoded}
use Rattle.event.specs.Event.{Attr, starts, closes}
use Rattle.markup.specs.Names.{white_space, name_start_char, name_char}
use Rattle.markup.specs.References.{ampersand, less_than, greater_than, apostrophe, quotation_mark, entity_name, entity_char, hex_digit, digit_value}
use Rattle.markup.specs.Markup.{QuoteMark, double_mark, single_mark, mark_char, DeclarationKey, version_key, encoding_key, standalone_key, upper_case, key_value, reserved_target, Meaning, means_event, no_event}
use Rattle.markup.specs.Signs.{ampersand_sign, double_quote, exclamation_mark, greater_than_sign, hyphen_sign, less_than_sign, letter_small_e, letter_small_s, letter_small_v, number_sign, question_mark, semicolon, single_quote, slash_sign}

-- what a character more comes to, for an automaton with states S that reads an A
pub data Moved (S A : Type 0) : Type 0 where
  continues : S → Moved S A
  completes : A → Moved S A
  malformed : Moved S A

-- what a run of characters comes to: the state at its end, an A and what follows it, or no A
pub data Lexed (S A : Type 0) : Type 0 where
  incomplete : S → Lexed S A
  finished : A → List ℕ → Lexed S A
  not_well_formed : Lexed S A

abbrev pub lexed_on : {S A : Type 0} → (S → Lexed S A) → List ℕ → Moved S A → Lexed S A
lexed_on next cs (continues s) = next s
lexed_on next cs (completes a) = finished a cs
lexed_on next cs malformed = not_well_formed

module _ {S A : Type 0} (step : S → ℕ → Moved S A) where
  unfoldable pub lexed : S → List ℕ → Lexed S A
  lexed s [] = incomplete s
  lexed s (c ∷ cs) = lexed_on (λ q. lexed q cs) cs (step s c)

-- a step of an automaton that is a part of another
abbrev pub wrapped_step : {S T A : Type 0} → (S → T) → Moved S A → Moved T A
wrapped_step wrap (continues s) = continues (wrap s)
wrapped_step wrap (completes a) = completes a
wrapped_step wrap malformed = malformed

-- the same, where what the part reads is not the end
abbrev pub inner_step : {S T A B : Type 0} → (S → T) → (A → T) → Moved S A → Moved T B
inner_step wrap behind (continues s) = continues (wrap s)
inner_step wrap behind (completes a) = continues (behind a)
inner_step wrap behind malformed = malformed

-- ---- a reference, behind its `&`

-- the number so far is that of the digits read
pub data ReferenceState : Type 0 where
  behind_ampersand : ReferenceState
  in_entity : List ℕ → ReferenceState
  behind_hash : ReferenceState
  in_decimal : ℕ → ReferenceState
  behind_x : ReferenceState
  in_hex : ℕ → ReferenceState

-- letters begin the name of an entity
unfoldable pub begins_entity : List ℕ → Bool
begins_entity s =
    either (begins s (entity_name ampersand))
    (either (begins s (entity_name less_than))
    (either (begins s (entity_name greater_than))
    (either (begins s (entity_name apostrophe))
    (begins s (entity_name quotation_mark)))))

-- the entity of a name
unfoldable pub entity_of : List ℕ → Moved ReferenceState ℕ
entity_of s =
    cond (same s (entity_name ampersand)) (completes (entity_char ampersand))
    (cond (same s (entity_name less_than)) (completes (entity_char less_than))
    (cond (same s (entity_name greater_than)) (completes (entity_char greater_than))
    (cond (same s (entity_name apostrophe)) (completes (entity_char apostrophe))
    (cond (same s (entity_name quotation_mark)) (completes (entity_char quotation_mark))
    malformed))))

abbrev pub letter_taken : List ℕ → Moved ReferenceState ℕ
letter_taken s = cond (begins_entity s) (continues (in_entity s)) malformed

-- a number past the last character of Unicode stays past it, whatever digits follow
abbrev pub digit_taken : (ℕ → ReferenceState) → ℕ → Moved ReferenceState ℕ
digit_taken wrap v = cond (leb v 0x10ffff) (continues (wrap v)) malformed

abbrev pub referred_char : ℕ → Moved ReferenceState ℕ
referred_char v = cond (xml_char v) (completes v) malformed

unfoldable pub reference_step : ReferenceState → ℕ → Moved ReferenceState ℕ
reference_step behind_ampersand c = cond (eqb c number_sign) (continues behind_hash) (letter_taken (c ∷ []))
reference_step (in_entity s) c = cond (eqb c semicolon) (entity_of s) (letter_taken (s ++ (c ∷ [])))
reference_step behind_hash c = cond (eqb c 120) (continues behind_x) (cond (is_digit c) (digit_taken in_decimal (digit_value c)) malformed)
reference_step (in_decimal v) c = cond (eqb c 59) (referred_char v) (cond (is_digit c) (digit_taken in_decimal (v * 10 + digit_value c)) malformed)
reference_step behind_x c = cond (hex_digit c) (digit_taken in_hex (digit_value c)) malformed
reference_step (in_hex v) c = cond (eqb c 59) (referred_char v) (cond (hex_digit c) (digit_taken in_hex (v * 16 + digit_value c)) malformed)

-- ---- an attribute's value, behind its quote mark

-- the normalized value so far; the test says that the character before it is a raw carriage return
pub data ValueState : Type 0 where
  in_value : Bool → List ℕ → ValueState
  in_reference : List ℕ → ReferenceState → ValueState

abbrev pub raw_step : Bool → List ℕ → ℕ → Moved ValueState (List ℕ)
raw_step cr v c =
    cond (both cr (eqb c line_feed)) (continues (in_value false v))
    (continues (in_value (eqb c carriage_return) (v ++ (cond (white_space c) 0x20 c ∷ []))))

unfoldable pub value_step : QuoteMark → ValueState → ℕ → Moved ValueState (List ℕ)
value_step q (in_value cr v) c =
    cond (eqb c (mark_char q)) (completes v)
    (cond (eqb c ampersand_sign) (continues (in_reference v behind_ampersand))
    (cond (eqb c less_than_sign) malformed
    (cond (xml_char c) (raw_step cr v c)
    malformed)))
value_step q (in_reference v r) c = inner_step (in_reference v) (λ d. in_value false (v ++ (d ∷ []))) (reference_step r c)

-- ---- a start tag or an empty-element tag, behind its `<`

-- an element's name and its attributes so far
pub record ElementParts : Type 0 where
  pub name : List ℕ
  pub attrs : List Attr

pub data StartTagState : Type 0 where
  in_name : List ℕ → StartTagState
  -- behind the name or an attribute; the test says that white space stands before
  behind_part : ElementParts → Bool → StartTagState
  in_attribute_name : ElementParts → List ℕ → StartTagState
  behind_attribute_name : ElementParts → List ℕ → StartTagState
  behind_equals_sign : ElementParts → List ℕ → StartTagState
  in_attribute_value : ElementParts → List ℕ → QuoteMark → ValueState → StartTagState
  behind_slash : ElementParts → StartTagState

abbrev pub with_attr : ElementParts → List ℕ → List ℕ → ElementParts
with_attr e a v = record { name = e.name; attrs = e.attrs ++ (record { name = encoded a; value = encoded v } ∷ []) }

abbrev pub start_meant : Bool → ElementParts → Meaning
start_meant empty e = means_event (starts empty (encoded e.name) e.attrs) (encoded e.name)

-- behind the name or an attribute, and what ends one
unfoldable pub part_ended : ElementParts → Bool → ℕ → Moved StartTagState Meaning
part_ended e spaced c =
    cond (white_space c) (continues (behind_part e true))
    (cond (eqb c slash_sign) (continues (behind_slash e))
    (cond (eqb c greater_than_sign) (completes (start_meant false e))
    (cond (both spaced (name_start_char c)) (continues (in_attribute_name e (c ∷ [])))
    malformed)))

unfoldable pub attribute_name_ended : ElementParts → List ℕ → ℕ → Moved StartTagState Meaning
attribute_name_ended e a c =
    cond (white_space c) (continues (behind_attribute_name e a))
    (cond (eqb c equals_sign) (continues (behind_equals_sign e a))
    malformed)

unfoldable pub start_tag_step : StartTagState → ℕ → Moved StartTagState Meaning
start_tag_step (in_name n) c = cond (name_char c) (continues (in_name (n ++ (c ∷ [])))) (part_ended (record { name = n; attrs = [] }) false c)
start_tag_step (behind_part e spaced) c = part_ended e spaced c
start_tag_step (in_attribute_name e a) c = cond (name_char c) (continues (in_attribute_name e (a ++ (c ∷ [])))) (attribute_name_ended e a c)
start_tag_step (behind_attribute_name e a) c = attribute_name_ended e a c
start_tag_step (behind_equals_sign e a) c =
    cond (white_space c) (continues (behind_equals_sign e a))
    (cond (eqb c double_quote) (continues (in_attribute_value e a double_mark (in_value false [])))
    (cond (eqb c single_quote) (continues (in_attribute_value e a single_mark (in_value false [])))
    malformed))
start_tag_step (in_attribute_value e a q v) c = inner_step (in_attribute_value e a q) (λ w. behind_part (with_attr e a w) false) (value_step q v c)
start_tag_step (behind_slash e) c = cond (eqb c greater_than_sign) (completes (start_meant true e)) malformed

-- ---- an end tag, behind its `</`

pub data EndTagState : Type 0 where
  behind_end_slash : EndTagState
  in_end_name : List ℕ → EndTagState
  behind_end_name : List ℕ → EndTagState

unfoldable pub end_name_ended : List ℕ → ℕ → Moved EndTagState Meaning
end_name_ended n c =
    cond (white_space c) (continues (behind_end_name n))
    (cond (eqb c greater_than_sign) (completes (means_event closes (encoded n)))
    malformed)

unfoldable pub end_tag_step : EndTagState → ℕ → Moved EndTagState Meaning
end_tag_step behind_end_slash c = cond (name_start_char c) (continues (in_end_name (c ∷ []))) malformed
end_tag_step (in_end_name n) c = cond (name_char c) (continues (in_end_name (n ++ (c ∷ [])))) (end_name_ended n c)
end_tag_step (behind_end_name n) c = end_name_ended n c

-- ---- a comment, behind its `<!`

pub data CommentState : Type 0 where
  behind_bang : CommentState
  behind_bang_hyphen : CommentState
  -- the test says that a hyphen stands before
  in_comment : Bool → CommentState
  behind_two_hyphens : CommentState

unfoldable pub comment_step : CommentState → ℕ → Moved CommentState Meaning
comment_step behind_bang c = cond (eqb c hyphen_sign) (continues behind_bang_hyphen) malformed
comment_step behind_bang_hyphen c = cond (eqb c hyphen_sign) (continues (in_comment false)) malformed
comment_step (in_comment hyphen) c =
    cond (eqb c hyphen_sign) (continues (cond hyphen behind_two_hyphens (in_comment true)))
    (cond (xml_char c) (continues (in_comment false))
    malformed)
comment_step behind_two_hyphens c = cond (eqb c greater_than_sign) (completes no_event) malformed

-- ---- the XML declaration, behind its `<?xml`

pub data DeclarationState : Type 0 where
  -- behind the items up to one of a key, or before them; the test says that white space stands before
  between_items : Option DeclarationKey → Bool → DeclarationState
  -- the rest of the keyword is to come
  in_keyword : DeclarationKey → List ℕ → DeclarationState
  behind_keyword : DeclarationKey → DeclarationState
  behind_key_equals : DeclarationKey → DeclarationState
  in_key_value : DeclarationKey → QuoteMark → List ℕ → DeclarationState
  behind_items : DeclarationState

-- which item may stand behind which
abbrev pub item_follows : Option DeclarationKey → DeclarationKey → Bool
item_follows None version_key = true
item_follows None encoding_key = false
item_follows None standalone_key = false
item_follows (Some version_key) version_key = false
item_follows (Some version_key) encoding_key = true
item_follows (Some version_key) standalone_key = true
item_follows (Some encoding_key) version_key = false
item_follows (Some encoding_key) encoding_key = false
item_follows (Some encoding_key) standalone_key = true
item_follows (Some standalone_key) key = false

abbrev pub version_read : Option DeclarationKey → Bool
version_read None = false
version_read (Some key) = true

-- characters begin a value of a key
unfoldable pub begins_version : List ℕ → Bool
begins_version [] = true
begins_version (c ∷ []) = eqb c 49
begins_version (c ∷ d ∷ ds) = both (both (eqb c 49) (eqb d 46)) (all is_digit ds)

unfoldable pub begins_key_value : DeclarationKey → List ℕ → Bool
begins_key_value version_key v = begins_version v
begins_key_value encoding_key v = begins (map upper_case v) (ascii "UTF-8")
begins_key_value standalone_key v = either (begins v (ascii "yes")) (begins v (ascii "no"))

unfoldable pub keyword_begun : Option DeclarationKey → ℕ → Moved DeclarationState Meaning
keyword_begun last c =
    cond (both (item_follows last version_key) (eqb c letter_small_v)) (continues (in_keyword version_key (ascii "ersion")))
    (cond (both (item_follows last encoding_key) (eqb c letter_small_e)) (continues (in_keyword encoding_key (ascii "ncoding")))
    (cond (both (item_follows last standalone_key) (eqb c letter_small_s)) (continues (in_keyword standalone_key (ascii "tandalone")))
    malformed))

unfoldable pub keyword_ended : DeclarationKey → ℕ → Moved DeclarationState Meaning
keyword_ended key c =
    cond (white_space c) (continues (behind_keyword key))
    (cond (eqb c equals_sign) (continues (behind_key_equals key))
    malformed)

unfoldable pub declaration_step : DeclarationState → ℕ → Moved DeclarationState Meaning
declaration_step (between_items last spaced) c =
    cond (white_space c) (continues (between_items last true))
    (cond (both (version_read last) (eqb c question_mark)) (continues behind_items)
    (cond spaced (keyword_begun last c)
    malformed))
declaration_step (in_keyword key []) c = keyword_ended key c
declaration_step (in_keyword key (l ∷ ls)) c = cond (eqb c l) (continues (in_keyword key ls)) malformed
declaration_step (behind_keyword key) c = keyword_ended key c
declaration_step (behind_key_equals key) c =
    cond (white_space c) (continues (behind_key_equals key))
    (cond (eqb c double_quote) (continues (in_key_value key double_mark []))
    (cond (eqb c single_quote) (continues (in_key_value key single_mark []))
    malformed))
declaration_step (in_key_value key q v) c =
    cond (eqb c (mark_char q)) (cond (key_value key v) (continues (between_items (Some key) false)) malformed)
    (cond (begins_key_value key (v ++ (c ∷ []))) (continues (in_key_value key q (v ++ (c ∷ []))))
    malformed)
declaration_step behind_items c = cond (eqb c greater_than_sign) (completes no_event) malformed

-- ---- an instruction or, where the test says that nothing stands before it, the declaration, behind its `<?`

pub data InstructionState : Type 0 where
  behind_question_mark : Bool → InstructionState
  in_target : Bool → List ℕ → InstructionState
  -- a `?` right behind the target
  behind_target : InstructionState
  -- the test says that a `?` stands before
  in_data : Bool → InstructionState
  in_declaration : DeclarationState → InstructionState

unfoldable pub target_ended : ℕ → Moved InstructionState Meaning
target_ended c =
    cond (white_space c) (continues (in_data false))
    (cond (eqb c question_mark) (continues behind_target)
    malformed)

-- `<?xml` is the declaration's
abbrev pub reserved_ended : Bool → List ℕ → ℕ → Moved InstructionState Meaning
reserved_ended first t c = cond (both first (same t (ascii "xml"))) (wrapped_step in_declaration (declaration_step (between_items None false) c)) malformed

unfoldable pub instruction_step : InstructionState → ℕ → Moved InstructionState Meaning
instruction_step (behind_question_mark first) c = cond (name_start_char c) (continues (in_target first (c ∷ []))) malformed
instruction_step (in_target first t) c =
    cond (name_char c) (continues (in_target first (t ++ (c ∷ []))))
    (cond (reserved_target t) (reserved_ended first t c)
    (target_ended c))
instruction_step behind_target c = cond (eqb c greater_than_sign) (completes no_event) malformed
instruction_step (in_data question) c =
    cond (both question (eqb c greater_than_sign)) (completes no_event)
    (cond (xml_char c) (continues (in_data (eqb c question_mark)))
    malformed)
instruction_step (in_declaration d) c = wrapped_step in_declaration (declaration_step d c)

-- ---- a markup

pub data MarkupState : Type 0 where
  -- the test says that nothing stands before the markup
  before_markup : Bool → MarkupState
  behind_less_than_sign : Bool → MarkupState
  in_start_tag : StartTagState → MarkupState
  in_end_tag : EndTagState → MarkupState
  in_bang : CommentState → MarkupState
  in_instruction : InstructionState → MarkupState

unfoldable pub markup_begun : Bool → ℕ → Moved MarkupState Meaning
markup_begun first c =
    cond (eqb c slash_sign) (continues (in_end_tag behind_end_slash))
    (cond (eqb c exclamation_mark) (continues (in_bang behind_bang))
    (cond (eqb c question_mark) (continues (in_instruction (behind_question_mark first)))
    (cond (name_start_char c) (continues (in_start_tag (in_name (c ∷ []))))
    malformed)))

unfoldable pub markup_step : MarkupState → ℕ → Moved MarkupState Meaning
markup_step (before_markup first) c = cond (eqb c less_than_sign) (continues (behind_less_than_sign first)) malformed
markup_step (behind_less_than_sign first) c = markup_begun first c
markup_step (in_start_tag s) c = wrapped_step in_start_tag (start_tag_step s c)
markup_step (in_end_tag s) c = wrapped_step in_end_tag (end_tag_step s c)
markup_step (in_bang s) c = wrapped_step in_bang (comment_step s c)
markup_step (in_instruction s) c = wrapped_step in_instruction (instruction_step s c)

-- the markup that a run of characters begins with; the test says that nothing stands before it
abbrev pub markup_of : Bool → List ℕ → Lexed MarkupState Meaning
markup_of first s = lexed markup_step (before_markup first) s
