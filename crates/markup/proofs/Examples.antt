-- Some markups, computed from the definitions: what the automaton makes of each run of characters.
use Rattle.base.specs.Ascii.{ascii}
use Rattle.base.specs.Bytes.{both, either, all, same, is_digit}
use Rattle.event.specs.Event.{starts, closes}
use Rattle.markup.specs.Automaton.{finished, not_well_formed, lexed, begins_entity, entity_of, reference_step, value_step, part_ended, attribute_name_ended, start_tag_step, end_name_ended, end_tag_step, comment_step, begins_version, begins_key_value, keyword_begun, keyword_ended, declaration_step, target_ended, instruction_step, markup_begun, markup_step, markup_of}
use Rattle.markup.specs.Markup.{version_num, key_value, reserved_target, means_event, no_event}
use Rattle.markup.specs.Names.{white_space, name_start_char, name_char}
use Rattle.markup.specs.References.{hex_digit, digit_value}
use Rattle.text.specs.Char.{from_to, xml_char, utf8}
use Rattle.text.specs.Check.{begins}
use Rattle.text.specs.Text.{encoded}
use mathlib.Core.Path.{◌≡◌, refl}
use mathlib.Core.Bool.{true, false}
use mathlib.Core.List.{[], ◌∷◌}

-- ---- tags

pub empty_tag : markup_of false (ascii "<a b = 'c\"d'\n/>x") ≡ finished (means_event (starts true (ascii "a") (record { name = ascii "b"; value = ascii "c\"d" } ∷ [])) (ascii "a")) (ascii "x")
unfolding lexed markup_step markup_begun start_tag_step part_ended attribute_name_ended value_step name_start_char name_char white_space xml_char from_to both either encoded utf8
empty_tag = refl

pub open_tag : markup_of false (ascii "<osmChange version=\"0.6\" >") ≡ finished (means_event (starts false (ascii "osmChange") (record { name = ascii "version"; value = ascii "0.6" } ∷ [])) (ascii "osmChange")) []
unfolding lexed markup_step markup_begun start_tag_step part_ended attribute_name_ended value_step name_start_char name_char white_space xml_char from_to both either encoded utf8
open_tag = refl

pub end_tag : markup_of false (ascii "</a >") ≡ finished (means_event closes (ascii "a")) []
unfolding lexed markup_step markup_begun end_tag_step end_name_ended name_start_char name_char white_space from_to both either encoded utf8
end_tag = refl

pub end_tag_with_attribute : markup_of false (ascii "</b c>") ≡ not_well_formed
unfolding lexed markup_step markup_begun end_tag_step end_name_ended name_start_char name_char white_space from_to both either encoded utf8
end_tag_with_attribute = refl

pub no_space_between : markup_of false (ascii "<a b='c'd='e'/>") ≡ not_well_formed
unfolding lexed markup_step markup_begun start_tag_step part_ended attribute_name_ended value_step name_start_char name_char white_space xml_char from_to both either encoded utf8
no_space_between = refl

pub space_behind_slash : markup_of false (ascii "<a/ >") ≡ not_well_formed
unfolding lexed markup_step markup_begun start_tag_step part_ended attribute_name_ended value_step name_start_char name_char white_space xml_char from_to both either encoded utf8
space_behind_slash = refl

pub digit_first : markup_of false (ascii "<1a/>") ≡ not_well_formed
unfolding lexed markup_step markup_begun start_tag_step part_ended attribute_name_ended value_step name_start_char name_char white_space xml_char from_to both either encoded utf8
digit_first = refl

-- ---- values

pub five_entities : markup_of false (ascii "<a b='&amp;&lt;&gt;&apos;&quot;'/>") ≡ finished (means_event (starts true (ascii "a") (record { name = ascii "b"; value = ascii "&<>'\"" } ∷ [])) (ascii "a")) []
unfolding lexed markup_step markup_begun start_tag_step part_ended attribute_name_ended value_step reference_step begins_entity entity_of begins same digit_value hex_digit is_digit name_start_char name_char white_space xml_char from_to both either encoded utf8
five_entities = refl

pub character_references : markup_of false (ascii "<a b='&#0065;&#x4a;'/>") ≡ finished (means_event (starts true (ascii "a") (record { name = ascii "b"; value = ascii "AJ" } ∷ [])) (ascii "a")) []
unfolding lexed markup_step markup_begun start_tag_step part_ended attribute_name_ended value_step reference_step begins_entity entity_of begins same digit_value hex_digit is_digit name_start_char name_char white_space xml_char from_to both either encoded utf8
character_references = refl

pub another_entity : markup_of false (ascii "<a b='&nbsp;'/>") ≡ not_well_formed
unfolding lexed markup_step markup_begun start_tag_step part_ended attribute_name_ended value_step reference_step begins_entity entity_of begins same digit_value hex_digit is_digit name_start_char name_char white_space xml_char from_to both either encoded utf8
another_entity = refl

pub null_reference : markup_of false (ascii "<a b='&#0;'/>") ≡ not_well_formed
unfolding lexed markup_step markup_begun start_tag_step part_ended attribute_name_ended value_step reference_step begins_entity entity_of begins same digit_value hex_digit is_digit name_start_char name_char white_space xml_char from_to both either encoded utf8
null_reference = refl

-- 2 ^ 32 + 65
pub reference_that_wraps : markup_of false (ascii "<a b='&#4294967361;'/>") ≡ not_well_formed
unfolding lexed markup_step markup_begun start_tag_step part_ended attribute_name_ended value_step reference_step begins_entity entity_of begins same digit_value hex_digit is_digit name_start_char name_char white_space xml_char from_to both either encoded utf8
reference_that_wraps = refl

pub capital_x : markup_of false (ascii "<a b='&#X41;'/>") ≡ not_well_formed
unfolding lexed markup_step markup_begun start_tag_step part_ended attribute_name_ended value_step reference_step begins_entity entity_of begins same digit_value hex_digit is_digit name_start_char name_char white_space xml_char from_to both either encoded utf8
capital_x = refl

pub less_than_in_value : markup_of false (ascii "<a b='<'/>") ≡ not_well_formed
unfolding lexed markup_step markup_begun start_tag_step part_ended attribute_name_ended value_step name_start_char name_char white_space xml_char from_to both either encoded utf8
less_than_in_value = refl

-- a tab, a line feed, a carriage return with one, and the same by reference
pub white_space_in_value : markup_of false (ascii "<a b='1\t2\n3\r\n4&#13;&#10;'/>") ≡ finished (means_event (starts true (ascii "a") (record { name = ascii "b"; value = 49 ∷ 32 ∷ 50 ∷ 32 ∷ 51 ∷ 32 ∷ 52 ∷ 13 ∷ 10 ∷ [] } ∷ [])) (ascii "a")) []
unfolding lexed markup_step markup_begun start_tag_step part_ended attribute_name_ended value_step reference_step begins_entity entity_of begins same digit_value hex_digit is_digit name_start_char name_char white_space xml_char from_to both either encoded utf8
white_space_in_value = refl

-- ---- comments

pub short_comments : markup_of false (ascii "<!-->-->") ≡ finished no_event []
unfolding lexed markup_step markup_begun comment_step xml_char from_to both either
short_comments = refl

pub one_hyphen : markup_of false (ascii "<!-- - -->") ≡ finished no_event []
unfolding lexed markup_step markup_begun comment_step xml_char from_to both either
one_hyphen = refl

pub two_hyphens : markup_of false (ascii "<!-- -- -->") ≡ not_well_formed
unfolding lexed markup_step markup_begun comment_step xml_char from_to both either
two_hyphens = refl

pub hyphen_before_end : markup_of false (ascii "<!-- --->") ≡ not_well_formed
unfolding lexed markup_step markup_begun comment_step xml_char from_to both either
hyphen_before_end = refl

pub doctype : markup_of false (ascii "<!DOCTYPE a>") ≡ not_well_formed
unfolding lexed markup_step markup_begun comment_step xml_char from_to both either
doctype = refl

-- ---- instructions

pub two_question_marks : markup_of false (ascii "<?a b??>") ≡ finished no_event []
unfolding lexed markup_step markup_begun instruction_step target_ended reserved_target same name_start_char name_char white_space xml_char from_to both either
two_question_marks = refl

pub target_alone : markup_of false (ascii "<?a?>") ≡ finished no_event []
unfolding lexed markup_step markup_begun instruction_step target_ended reserved_target same name_start_char name_char white_space xml_char from_to both either
target_alone = refl

pub target_and_question_mark : markup_of false (ascii "<?a?b?>") ≡ not_well_formed
unfolding lexed markup_step markup_begun instruction_step target_ended reserved_target same name_start_char name_char white_space xml_char from_to both either
target_and_question_mark = refl

pub capital_target : markup_of true (ascii "<?XML a?>") ≡ not_well_formed
unfolding lexed markup_step markup_begun instruction_step target_ended reserved_target same name_start_char name_char white_space xml_char from_to both either
capital_target = refl

-- ---- the declaration

pub small_encoding : markup_of true (ascii "<?xml version='1.0' encoding='utf-8'?>") ≡ finished no_event []
unfolding lexed markup_step markup_begun instruction_step target_ended reserved_target declaration_step keyword_begun keyword_ended key_value begins_key_value version_num begins_version begins same all is_digit name_start_char name_char white_space from_to both either
small_encoding = refl

pub other_encoding : markup_of true (ascii "<?xml version='1.0' encoding='US-ASCII'?>") ≡ not_well_formed
unfolding lexed markup_step markup_begun instruction_step target_ended reserved_target declaration_step keyword_begun keyword_ended key_value begins_key_value version_num begins_version begins same all is_digit name_start_char name_char white_space from_to both either
other_encoding = refl

pub standalone_first : markup_of true (ascii "<?xml version='1.0' standalone='yes' encoding='UTF-8'?>") ≡ not_well_formed
unfolding lexed markup_step markup_begun instruction_step target_ended reserved_target declaration_step keyword_begun keyword_ended key_value begins_key_value version_num begins_version begins same all is_digit name_start_char name_char white_space from_to both either
standalone_first = refl

pub no_version : markup_of true (ascii "<?xml encoding='UTF-8'?>") ≡ not_well_formed
unfolding lexed markup_step markup_begun instruction_step target_ended reserved_target declaration_step keyword_begun keyword_ended key_value begins_key_value version_num begins_version begins same all is_digit name_start_char name_char white_space from_to both either
no_version = refl

-- not where it stands first
pub declaration_behind : markup_of false (ascii "<?xml version='1.0'?>") ≡ not_well_formed
unfolding lexed markup_step markup_begun instruction_step target_ended reserved_target declaration_step keyword_begun keyword_ended key_value begins_key_value version_num begins_version begins same all is_digit name_start_char name_char white_space from_to both either
declaration_behind = refl
