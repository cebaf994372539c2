-- What has been read of a markup and not refused can be completed, from each state that a step leads to.
use Rattle.std.specs.Prelude.{None, Option, Some}
use Rattle.base.specs.Ascii.{ascii}
use Rattle.markup.specs.Automaton.{Moved, finished, lexed, ReferenceState, behind_ampersand, in_entity, behind_hash, in_decimal, behind_x, in_hex, begins_entity, entity_of, reference_step, ValueState, in_value, in_reference, value_step, ElementParts, StartTagState, in_name, behind_part, in_attribute_name, behind_attribute_name, behind_equals_sign, in_attribute_value, behind_slash, with_attr, start_meant, start_tag_step, EndTagState, behind_end_slash, in_end_name, behind_end_name, end_tag_step, CommentState, behind_bang, behind_bang_hyphen, in_comment, behind_two_hyphens, comment_step, DeclarationState, between_items, in_keyword, behind_keyword, behind_key_equals, in_key_value, behind_items, begins_key_value, begins_version, declaration_step, InstructionState, behind_question_mark, in_target, behind_target, in_data, in_declaration, target_ended, instruction_step, MarkupState, before_markup, behind_less_than_sign, in_start_tag, in_end_tag, in_bang, in_instruction, markup_begun, markup_step}
use Rattle.markup.specs.Names.{white_space, name_start_char, name_char, is_name, some_space}
use Rattle.markup.specs.References.{Entity, ampersand, less_than, greater_than, apostrophe, quotation_mark, entity_name, entity_char, hex_digit, digit_value, digits_value, legal_reference}
use Rattle.markup.specs.Markup.{each_written, normal_ends, normal_chars, QuoteMark, double_mark, single_mark, mark_char, DeclarationKey, version_key, encoding_key, standalone_key, version_num, upper_case, key_value, DeclarationItem, legal_item, written_item, unended_data, reserved_target, legal_markup, no_event}
use Rattle.markup.proofs.Lexing.{pieces, inner_lexed, part_lexed}
use Rattle.markup.proofs.Names.{end_unnamed, equals_unnamed, question_unnamed, question_black}
use Rattle.markup.proofs.References.{digits_read, entity_read, decimal_read, hex_read, ten, sixteen, digit_other, hex_other}
use Rattle.markup.proofs.StartTags as Start
use Rattle.markup.proofs.EndTags as End
use Rattle.markup.proofs.Declarations as Declared
use Rattle.markup.proofs.Instructions as Instructed
use Prim.Native.Nat.{ℕ, zero, suc, ◌+◌, ◌*◌, ◌≤◌}
use mathlib.Core.Path.{◌≡◌, refl, sym, ◌∙◌}
use mathlib.Core.Bool.{Bool, true, false, not}
use mathlib.Core.List.{List, [], ◌∷◌, ◌++◌, append_assoc, append-nil, map, map-append}
use native.Mathlib.Omega.{arith}
use lib.Dec.{eqb, leb}
use lib.ListN.{length, take, drop, length-map, take-append-drop}
use borrow.Author.Tests.{eq-eqb, le-leb, leb-true, not-true}
use Rattle.base.specs.Bytes.{both, either, all, same, is_digit}
use Rattle.base.proofs.Split.{clash, by_bool, by_either, by_lt, by_le, both_left, both_right, both_of, either_left, either_right}
use Rattle.base.proofs.Lists.{all_nil, all_head, all_right, same_refl}
use Rattle.text.specs.Char.{from_to, xml_char}
use Rattle.text.specs.Check.{begins}
use Rattle.text.proofs.Lengths.{begins_append, begins_yes}

-- more characters complete what has been read
pub record Continued {S A : Type 0} (step : S → ℕ → Moved S A) (q : S) : Type 0 where
  pub more : List ℕ
  pub value : A
  pub read : lexed step q more ≡ finished value []

-- with a rest behind them
with_rest : {S A : Type 0} (step : S → ℕ → Moved S A) (q : S) (more : List ℕ) (a : A) (rest : List ℕ) → lexed step q more ≡ finished a [] → lexed step q (more ++ rest) ≡ finished a rest
with_rest step q more a rest e = pieces step more q rest ∙ rw e

-- ---- references

unfoldable pub viable_reference : ReferenceState → Bool
viable_reference behind_ampersand = true
viable_reference (in_entity n) = begins_entity n
viable_reference behind_hash = true
viable_reference (in_decimal v) = leb v 0x10ffff
viable_reference behind_x = true
viable_reference (in_hex v) = leb v 0x10ffff

char_low : (x : ℕ) → 32 ≤ x → x ≤ 0xd7ff → xml_char x ≡ true
unfolding xml_char from_to
char_low x l h = either_right _ (either_left _ _ (both_of (le-leb 32 x l) (le-leb x 0xd7ff h)))

char_high : (x : ℕ) → 0x10000 ≤ x → x ≤ 0x10ffff → xml_char x ≡ true
unfolding xml_char from_to
char_high x l h = either_right _ (either_right _ (either_right _ (both_of (le-leb 0x10000 x l) (le-leb x 0x10ffff h))))

-- the numbers from 32 on that are no characters
no_char : (v : ℕ) → xml_char v ≡ false → 32 ≤ v → v ≤ 0x10ffff → (0xd800 ≤ v) × (v ≤ 0xffff)
no_char v f l h =
    by_le v 0xd7ff
    (λ m. clash (char_low v l m) f)
    (λ m. by_le 0x10000 v
    (λ n. clash (char_high v n h) f)
    (λ n. (omega arith, omega arith)))

-- digits that make a number a character's
decimal_more : (v : ℕ) → v ≤ 0x10ffff → (ds : List ℕ) × ((all is_digit ds ≡ true) × (xml_char (digits_value 10 v ds) ≡ true))
unfolding digits_value digit_value is_digit both all
decimal_more v h =
    by_bool (xml_char v)
    (λ t. ([], (refl, t)))
    (λ f. by_lt v 32
    (λ l. (54 ∷ (53 ∷ []), (refl, char_low ((v * 10 + 6) * 10 + 5) (omega arith) (omega arith))))
    (λ l. let k = no_char v f l h in (48 ∷ [], (refl, char_high (v * 10 + 0) (omega arith) (omega arith)))))

hex_more : (v : ℕ) → v ≤ 0x10ffff → (ds : List ℕ) × ((all hex_digit ds ≡ true) × (xml_char (digits_value 16 v ds) ≡ true))
unfolding digits_value digit_value hex_digit is_digit both either all
hex_more v h =
    by_bool (xml_char v)
    (λ t. ([], (refl, t)))
    (λ f. by_lt v 32
    (λ l. (52 ∷ (49 ∷ []), (refl, char_low ((v * 16 + 4) * 16 + 1) (omega arith) (omega arith))))
    (λ l. let k = no_char v f l h in (48 ∷ [], (refl, char_high (v * 16 + 0) (omega arith) (omega arith)))))

-- letters that make an entity's name
letter_other : (e : Entity) → all (λ c. not (eqb c 59)) (entity_name e) ≡ true
unfolding all both
letter_other ampersand = refl
letter_other less_than = refl
letter_other greater_than = refl
letter_other apostrophe = refl
letter_other quotation_mark = refl

entity_ends : (e : Entity) (rest : List ℕ) → lexed reference_step (in_entity (entity_name e)) (59 ∷ rest) ≡ finished (entity_char e) rest
unfolding lexed reference_step entity_of same both
entity_ends ampersand rest = refl
entity_ends less_than rest = refl
entity_ends greater_than rest = refl
entity_ends apostrophe rest = refl
entity_ends quotation_mark rest = refl

name_begins : (e : Entity) (n : List ℕ) → begins n (entity_name e) ≡ true → begins_entity n ≡ true
unfolding begins_entity
name_begins ampersand n b = either_left _ _ b
name_begins less_than n b = either_right _ (either_left _ _ b)
name_begins greater_than n b = either_right _ (either_right _ (either_left _ _ b))
name_begins apostrophe n b = either_right _ (either_right _ (either_right _ (either_left _ _ b)))
name_begins quotation_mark n b = either_right _ (either_right _ (either_right _ (either_right _ b)))

begins_name : (n : List ℕ) → begins_entity n ≡ true → (e : Entity) × (begins n (entity_name e) ≡ true)
unfolding begins_entity
begins_name n b =
    by_either _ _ b (λ t. (ampersand, t))
    (λ l. by_either _ _ l (λ t. (less_than, t))
    (λ g. by_either _ _ g (λ t. (greater_than, t))
    (λ a. by_either _ _ a (λ t. (apostrophe, t)) (λ t. (quotation_mark, t)))))

entity_walk : (u : List ℕ) (n : List ℕ) (e : Entity) → n ++ u ≡ entity_name e → lexed reference_step (in_entity n) (u ++ (59 ∷ [])) ≡ finished (entity_char e) []
unfolding lexed reference_step
entity_walk [] n e h = let k : n ≡ entity_name e = sym (append-nil n) ∙ h in rw k (entity_ends e [])
entity_walk (c ∷ u) n e h =
    let a : all (λ d. not (eqb d 59)) (n ++ (c ∷ u)) ≡ true = rw h (letter_other e) in
    let o : eqb c 59 ≡ false = not-true (eqb c 59) (all_head (λ d. not (eqb d 59)) c u (all_right (λ d. not (eqb d 59)) n (c ∷ u) a)) in
    let w : (n ++ (c ∷ [])) ++ u ≡ entity_name e = append_assoc n (c ∷ []) u ∙ h in
    let b : begins_entity (n ++ (c ∷ [])) ≡ true = name_begins e (n ++ (c ∷ [])) (rw (← w) (begins_append (n ++ (c ∷ [])) u)) in
    rw (o, b) (entity_walk u (n ++ (c ∷ [])) e w)

reference_continued : (r : ReferenceState) → viable_reference r ≡ true → Continued reference_step r
unfolding reference_step viable_reference legal_reference hex_digit is_digit from_to digits_value digit_value xml_char both either all
reference_continued behind_ampersand v = record { more = entity_name less_than ++ (59 ∷ []); value = 60; read = entity_read less_than [] }
reference_continued (in_entity n) v =
    let p = begins_name n v in
    let w = begins_yes n (entity_name p.0) p.1 in
    record { more = drop (length n) (entity_name p.0) ++ (59 ∷ []); value = entity_char p.0; read = entity_walk (drop (length n) (entity_name p.0)) n p.0 (sym w) }
reference_continued behind_hash v = record { more = (54 ∷ (53 ∷ [])) ++ (59 ∷ []); value = _; read = decimal_read (54 ∷ (53 ∷ [])) [] refl }
reference_continued (in_decimal n) v =
    let p = decimal_more n (leb-true n 0x10ffff v) in
    record { more = p.0 ++ (59 ∷ []); value = digits_value 10 n p.0; read = digits_read is_digit 10 in_decimal ten digit_other (λ w c. refl) p.0 [] n p.1.0 p.1.1 }
reference_continued behind_x v = record { more = (52 ∷ (49 ∷ [])) ++ (59 ∷ []); value = _; read = hex_read (52 ∷ (49 ∷ [])) [] refl }
reference_continued (in_hex n) v =
    let p = hex_more n (leb-true n 0x10ffff v) in
    record { more = p.0 ++ (59 ∷ []); value = digits_value 16 n p.0; read = digits_read hex_digit 16 in_hex sixteen hex_other (λ w c. refl) p.0 [] n p.1.0 p.1.1 }

-- ---- values and start tags

unfoldable pub viable_value : ValueState → Bool
viable_value (in_value cr v) = true
viable_value (in_reference v r) = viable_reference r

value_continued : (q : QuoteMark) (w : ValueState) → viable_value w ≡ true → Continued (value_step q) w
unfolding lexed value_step viable_value
value_continued q (in_value cr v) h = record { more = mark_char q ∷ []; value = v; read = rw (eq-eqb (mark_char q) (mark_char q) refl) }
value_continued q (in_reference v r) h =
    let c = reference_continued r h in
    let w = v ++ (c.value ∷ []) in
    let i = inner_lexed reference_step (value_step q) (in_reference v) (λ d. in_value false (v ++ (d ∷ []))) (λ p d. refl) (c.more ++ (mark_char q ∷ [])) r (mark_char q ∷ []) c.value
    (with_rest reference_step r c.more c.value (mark_char q ∷ []) c.read) in
    record { more = c.more ++ (mark_char q ∷ []); value = w; read = i ∙ rw (eq-eqb (mark_char q) (mark_char q) refl) }

unfoldable pub viable_start_tag : StartTagState → Bool
viable_start_tag (in_name n) = true
viable_start_tag (behind_part e spaced) = true
viable_start_tag (in_attribute_name e a) = true
viable_start_tag (behind_attribute_name e a) = true
viable_start_tag (behind_equals_sign e a) = true
viable_start_tag (in_attribute_value e a q v) = viable_value v
viable_start_tag (behind_slash e) = true

empty_value : (e : ElementParts) (a : List ℕ) → lexed start_tag_step (behind_equals_sign e a) (34 ∷ (34 ∷ (62 ∷ []))) ≡ finished (start_meant false (with_attr e a [])) []
unfolding each_written normal_ends normal_chars
empty_value e a = Start.mark_walk double_mark e a (34 ∷ (62 ∷ [])) ∙ (Start.value_walk e a double_mark [] (62 ∷ []) (all_nil _) ∙ Start.tag_ends false false (with_attr e a []) [])

slash_end : (e : ElementParts) → lexed start_tag_step (behind_slash e) (62 ∷ []) ≡ finished (start_meant true e) []
unfolding lexed start_tag_step
slash_end e = refl

start_tag_continued : (s : StartTagState) → viable_start_tag s ≡ true → Continued start_tag_step s
unfolding viable_start_tag start_tag_step
start_tag_continued (in_name n) h = record { more = 62 ∷ []; value = _; read = Start.name_ends n (62 ∷ []) end_unnamed ∙ Start.tag_ends false false _ [] }
start_tag_continued (behind_part e spaced) h = record { more = 62 ∷ []; value = _; read = Start.tag_ends false spaced e [] }
start_tag_continued (in_attribute_name e a) h =
    record {
      more = 61 ∷ (34 ∷ (34 ∷ (62 ∷ [])));
      value = _;
      read = Start.attribute_name_ends e a (61 ∷ (34 ∷ (34 ∷ (62 ∷ [])))) equals_unnamed ∙ (Start.equals_walk e a _ ∙ empty_value e a);
    }
start_tag_continued (behind_attribute_name e a) h = record { more = 61 ∷ (34 ∷ (34 ∷ (62 ∷ []))); value = _; read = Start.equals_walk e a _ ∙ empty_value e a }
start_tag_continued (behind_equals_sign e a) h = record { more = 34 ∷ (34 ∷ (62 ∷ [])); value = _; read = empty_value e a }
start_tag_continued (in_attribute_value e a q v) h =
    let c = value_continued q v h in
    record {
      more = c.more ++ (62 ∷ []);
      value = _;
      read = inner_lexed (value_step q) start_tag_step (in_attribute_value e a q) (λ w. behind_part (with_attr e a w) false) (λ p d. refl) (c.more ++ (62 ∷ [])) v (62 ∷ []) c.value
          (with_rest (value_step q) v c.more c.value (62 ∷ []) c.read)
          ∙ Start.tag_ends false false (with_attr e a c.value) [];
    }
start_tag_continued (behind_slash e) h = record { more = 62 ∷ []; value = start_meant true e; read = slash_end e }

-- ---- end tags and comments

end_tag_continued : (s : EndTagState) → Continued end_tag_step s
unfolding legal_markup is_name name_start_char from_to either both all
end_tag_continued behind_end_slash = record { more = 97 ∷ (62 ∷ []); value = _; read = End.end_tag_read (97 ∷ []) [] [] refl }
end_tag_continued (in_end_name n) = record { more = 62 ∷ []; value = _; read = End.name_ends n (62 ∷ []) end_unnamed ∙ End.gap_walk [] n [] (all_nil white_space) }
end_tag_continued (behind_end_name n) = record { more = 62 ∷ []; value = _; read = End.gap_walk [] n [] (all_nil white_space) }

comment_continued : (s : CommentState) → Continued comment_step s
unfolding lexed comment_step
comment_continued behind_bang = record { more = ascii "---->"; value = no_event; read = refl }
comment_continued behind_bang_hyphen = record { more = ascii "--->"; value = no_event; read = refl }
comment_continued (in_comment false) = record { more = ascii "-->"; value = no_event; read = refl }
comment_continued (in_comment true) = record { more = ascii "->"; value = no_event; read = refl }
comment_continued behind_two_hyphens = record { more = ascii ">"; value = no_event; read = refl }

-- ---- the declaration

unfoldable pub viable_declaration : DeclarationState → Bool
viable_declaration (between_items last spaced) = true
viable_declaration (in_keyword key rest) = true
viable_declaration (behind_keyword key) = true
viable_declaration (behind_key_equals key) = true
viable_declaration (in_key_value key q v) = begins_key_value key v
viable_declaration behind_items = true

-- what makes the beginning of a value a value
version_more : (v : List ℕ) → begins_version v ≡ true → (u : List ℕ) × ((version_num (v ++ u) ≡ true) × (all Declared.unmarked u ≡ true))
unfolding begins_version version_num Declared.unmarked is_digit both all
version_more [] b = (49 ∷ (46 ∷ (48 ∷ [])), (refl, refl))
version_more (c ∷ []) b = (46 ∷ (48 ∷ []), (rw b, refl))
version_more (c ∷ d ∷ []) b = (48 ∷ [], (rw (both_left (both (eqb c 49) (eqb d 46)) true b), refl))
version_more (c ∷ d ∷ x ∷ ds) b =
    let t = both_left (both (eqb c 49) (eqb d 46)) (all is_digit (x ∷ ds)) b in
    let u = both_right (both (eqb c 49) (eqb d 46)) (all is_digit (x ∷ ds)) b in
    ([], (rw (t, append-nil ds) u, refl))

same_more : (v x : List ℕ) → begins v x ≡ true → same (v ++ drop (length v) x) x ≡ true
same_more v x b = rw (← (begins_yes v x b)) (same_refl x)

drop_unmarked : (n : ℕ) (x : List ℕ) → all Declared.unmarked x ≡ true → all Declared.unmarked (drop n x) ≡ true
drop_unmarked n x h = all_right Declared.unmarked (take n x) (drop n x) (rw take-append-drop h)

map_drop : (f : ℕ → ℕ) (n : ℕ) (x : List ℕ) → map f (drop n x) ≡ drop n (map f x)
map_drop f zero x = refl
map_drop f (suc n) [] = refl
map_drop f (suc n) (c ∷ x) = map_drop f n x

upper_more : (v : List ℕ) → begins (map upper_case v) (ascii "UTF-8") ≡ true → same (map upper_case (v ++ drop (length v) (ascii "UTF-8"))) (ascii "UTF-8") ≡ true
unfolding from_to both
upper_more v b =
    let k = same_more (map upper_case v) (ascii "UTF-8") b in
    let l : length (map upper_case v) ≡ length v = length-map v upper_case in
    rw (map-append, map_drop upper_case (length v) (ascii "UTF-8")) (rw l at k)

value_more : (key : DeclarationKey) (v : List ℕ) → begins_key_value key v ≡ true → (u : List ℕ) × ((key_value key (v ++ u) ≡ true) × (all Declared.unmarked u ≡ true))
unfolding begins_key_value key_value Declared.unmarked both all
value_more version_key v b = version_more v b
value_more encoding_key v b = (drop (length v) (ascii "UTF-8"), (upper_more v b, drop_unmarked (length v) (ascii "UTF-8") refl))
value_more standalone_key v b =
    by_either _ _ b
    (λ y. (drop (length v) (ascii "yes"), (either_left _ _ (same_more v (ascii "yes") y), drop_unmarked (length v) (ascii "yes") refl)))
    (λ n. (drop (length v) (ascii "no"), (either_right _ (same_more v (ascii "no") n), drop_unmarked (length v) (ascii "no") refl)))

-- a value that each key may have
abbrev a_value : DeclarationKey → List ℕ
a_value version_key = ascii "1.0"
a_value encoding_key = ascii "UTF-8"
a_value standalone_key = ascii "no"

a_value_legal : (key : DeclarationKey) → key_value key (a_value key) ≡ true
unfolding key_value version_num is_digit from_to same both either all
a_value_legal version_key = refl
a_value_legal encoding_key = refl
a_value_legal standalone_key = refl

module _ (key : DeclarationKey) where
  abbrev value_to_end : List ℕ
  value_to_end = a_value key ++ (39 ∷ (63 ∷ (62 ∷ [])))

  value_ended : (q : QuoteMark) (v u : List ℕ) → key_value key (v ++ u) ≡ true → all Declared.unmarked u ≡ true
      → lexed declaration_step (in_key_value key q v) (u ++ (mark_char q ∷ (63 ∷ (62 ∷ [])))) ≡ finished no_event []
  value_ended q v u l m = Declared.value_walk u key q v _ l m ∙ Declared.end_walk key false []

  equals_ended : lexed declaration_step (behind_key_equals key) (39 ∷ value_to_end) ≡ finished no_event []
  equals_ended = Declared.mark_walk single_mark key value_to_end ∙ value_ended single_mark [] (a_value key) (a_value_legal key) (Declared.value_unmarked key (a_value key) (a_value_legal key))

  keyword_ended_so : lexed declaration_step (behind_keyword key) (61 ∷ (39 ∷ value_to_end)) ≡ finished no_event []
  keyword_ended_so = Declared.before_walk [] key (39 ∷ value_to_end) (all_nil white_space) ∙ equals_ended

-- ` version='1.0'`
abbrev a_version : DeclarationItem
a_version = record { gap = ascii " "; eq = record { before = []; behind = [] }; quote = single_mark; value = a_value version_key }

a_version_legal : legal_item version_key a_version ≡ true
unfolding legal_item key_value version_num is_digit some_space white_space both either all
a_version_legal = refl

items_continued : (last : Option DeclarationKey) (spaced : Bool) → Continued declaration_step (between_items last spaced)
items_continued None spaced =
    record {
      more = written_item version_key a_version ++ (63 ∷ (62 ∷ []));
      value = no_event;
      read = Declared.item_walk None spaced version_key a_version (63 ∷ (62 ∷ [])) refl a_version_legal ∙ Declared.end_walk version_key false [];
    }
items_continued (Some key) spaced = record { more = 63 ∷ (62 ∷ []); value = no_event; read = Declared.end_walk key spaced [] }

items_end : lexed declaration_step behind_items (62 ∷ []) ≡ finished no_event []
unfolding lexed declaration_step
items_end = refl

declaration_continued : (d : DeclarationState) → viable_declaration d ≡ true → Continued declaration_step d
unfolding viable_declaration
declaration_continued (between_items last spaced) h = items_continued last spaced
declaration_continued (in_keyword key rest) h =
    record {
      more = rest ++ (61 ∷ (39 ∷ value_to_end key));
      value = no_event;
      read = Declared.keyword_walk rest key _ ∙ (Declared.keyword_ends [] key (39 ∷ value_to_end key) ∙ keyword_ended_so key);
    }
declaration_continued (behind_keyword key) h = record { more = 61 ∷ (39 ∷ value_to_end key); value = no_event; read = keyword_ended_so key }
declaration_continued (behind_key_equals key) h = record { more = 39 ∷ value_to_end key; value = no_event; read = equals_ended key }
declaration_continued (in_key_value key q v) h =
    let u = value_more key v h in
    record { more = u.0 ++ (mark_char q ∷ (63 ∷ (62 ∷ []))); value = no_event; read = value_ended key q v u.0 u.1.0 u.1.1 }
declaration_continued behind_items h = record { more = 62 ∷ []; value = no_event; read = items_end }

-- ---- instructions

unfoldable pub viable_instruction : InstructionState → Bool
viable_instruction (behind_question_mark f) = true
viable_instruction (in_target f t) = true
viable_instruction behind_target = true
viable_instruction (in_data question) = true
viable_instruction (in_declaration d) = viable_declaration d

-- a target of four letters is not reserved
four_letters : (t : List ℕ) → reserved_target t ≡ true → reserved_target (t ++ (97 ∷ [])) ≡ false
unfolding reserved_target
four_letters [] r = clash r refl
four_letters (x ∷ []) r = clash r refl
four_letters (x ∷ m ∷ []) r = clash r refl
four_letters (x ∷ m ∷ l ∷ []) r = refl
four_letters (x ∷ m ∷ l ∷ c ∷ cs) r = clash r refl

letter_named : name_char 97 ≡ true
unfolding name_char name_start_char from_to either both
letter_named = refl

letter_starts : name_start_char 97 ≡ true
unfolding name_start_char from_to either both
letter_starts = refl

target_letter : (f : Bool) (t s : List ℕ) → lexed instruction_step (in_target f t) (97 ∷ s) ≡ lexed instruction_step (in_target f (t ++ (97 ∷ []))) s
unfolding lexed instruction_step
target_letter f t s = rw letter_named

target_end : (f : Bool) (t : List ℕ) → reserved_target t ≡ false → lexed instruction_step (in_target f t) (63 ∷ (62 ∷ [])) ≡ finished no_event []
unfolding lexed instruction_step target_ended
target_end f t r = rw (question_unnamed, r, question_black)

target_begun : (f : Bool) (s : List ℕ) → lexed instruction_step (behind_question_mark f) (97 ∷ s) ≡ lexed instruction_step (in_target f (97 ∷ [])) s
unfolding lexed instruction_step
target_begun f s = rw letter_starts

one_letter : reserved_target (97 ∷ []) ≡ false
unfolding reserved_target
one_letter = refl

after_target : lexed instruction_step behind_target (62 ∷ []) ≡ finished no_event []
unfolding lexed instruction_step
after_target = refl

data_continued : (question : Bool) → Continued instruction_step (in_data question)
unfolding unended_data
data_continued question = record { more = 63 ∷ (62 ∷ []); value = no_event; read = Instructed.data_walk question [] [] refl }

instruction_continued : (s : InstructionState) → viable_instruction s ≡ true → Continued instruction_step s
unfolding viable_instruction instruction_step
instruction_continued (behind_question_mark f) h = record { more = 97 ∷ (63 ∷ (62 ∷ [])); value = no_event; read = target_begun f _ ∙ target_end f (97 ∷ []) one_letter }
instruction_continued (in_target f t) h =
    by_bool (reserved_target t)
    (λ r. record { more = 97 ∷ (63 ∷ (62 ∷ [])); value = no_event; read = target_letter f t _ ∙ target_end f (t ++ (97 ∷ [])) (four_letters t r) })
    (λ r. record { more = 63 ∷ (62 ∷ []); value = no_event; read = target_end f t r })
instruction_continued behind_target h = record { more = 62 ∷ []; value = no_event; read = after_target }
instruction_continued (in_data question) h = data_continued question
instruction_continued (in_declaration d) h =
    let c = declaration_continued d h in
    record { more = c.more; value = c.value; read = part_lexed declaration_step instruction_step in_declaration (λ q e. refl) c.more d [] c.value c.read }

-- ---- markups

unfoldable pub viable : MarkupState → Bool
viable (before_markup first) = true
viable (behind_less_than_sign first) = true
viable (in_start_tag q) = viable_start_tag q
viable (in_end_tag q) = true
viable (in_bang q) = true
viable (in_instruction q) = viable_instruction q

end_tag_begun : (first : Bool) (s : List ℕ) → lexed markup_step (before_markup first) (60 ∷ (47 ∷ s)) ≡ lexed markup_step (in_end_tag behind_end_slash) s
unfolding lexed markup_step markup_begun
end_tag_begun first s = refl

slash_begun : (first : Bool) (s : List ℕ) → lexed markup_step (behind_less_than_sign first) (47 ∷ s) ≡ lexed markup_step (in_end_tag behind_end_slash) s
unfolding lexed markup_step markup_begun
slash_begun first s = refl

end_tag_whole : (q : EndTagState) → Continued markup_step (in_end_tag q)
unfolding markup_step
end_tag_whole q =
    let c = end_tag_continued q in
    record { more = c.more; value = c.value; read = part_lexed end_tag_step markup_step in_end_tag (λ p e. refl) c.more q [] c.value c.read }

pub continued : (q : MarkupState) → viable q ≡ true → Continued markup_step q
unfolding viable markup_step
continued (before_markup first) h =
    let c = end_tag_whole behind_end_slash in record { more = 60 ∷ (47 ∷ c.more); value = c.value; read = end_tag_begun first c.more ∙ c.read }
continued (behind_less_than_sign first) h =
    let c = end_tag_whole behind_end_slash in record { more = 47 ∷ c.more; value = c.value; read = slash_begun first c.more ∙ c.read }
continued (in_start_tag q) h =
    let c = start_tag_continued q h in
    record { more = c.more; value = c.value; read = part_lexed start_tag_step markup_step in_start_tag (λ p e. refl) c.more q [] c.value c.read }
continued (in_end_tag q) h = end_tag_whole q
continued (in_bang q) h =
    let c = comment_continued q in
    record { more = c.more; value = c.value; read = part_lexed comment_step markup_step in_bang (λ p e. refl) c.more q [] c.value c.read }
continued (in_instruction q) h =
    let c = instruction_continued q h in
    record { more = c.more; value = c.value; read = part_lexed instruction_step markup_step in_instruction (λ p e. refl) c.more q [] c.value c.read }
