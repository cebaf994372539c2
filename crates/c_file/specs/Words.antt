-- A file's reader as C holds it beside a reader's 19 words, in 7 words more: 0 where in the file it stands, 1 and 2 what that place has beside its number;
-- 3 the bytes so far of a character that is not whole; 4 the line feeds before the markup; 5 the bytes kept of its line; 6 those of the name of the open element.
-- So 7 zeros are before the first byte of a file.
use Rattle.std.specs.Prelude.{ℕ, ◌+◌, ◌-◌, ◌/◌, ◌%◌, Bool, true, false, cond, List, [], ◌∷◌, leb, ltb, eqb, get_or, map, drop, length, None, Option, Some}
use Rattle.base.specs.Bytes.{both, same}
use Rattle.xml_chars.specs.declared.CharBytes.{CharBytes}
use Rattle.xml_chars.specs.declared.CharBytes.TheVariants as C
use Rattle.xml_chars.specs.Chars.{bytes_in, begun}
use Rattle.markup_tags.specs.declared.references.EntityLetters.{EntityLetters}
use Rattle.markup_tags.specs.declared.references.EntityLetters.TheVariants as E
use Rattle.markup_tags.specs.declared.references.ReferencePlace.TheVariants as F
use Rattle.markup_tags.specs.declared.start_tags.QuoteMark.{QuoteMark}
use Rattle.markup_tags.specs.declared.start_tags.QuoteMark.TheVariants as Q
use Rattle.markup_tags.specs.declared.start_tags.StartTagPlace.{StartTagPlace}
use Rattle.markup_tags.specs.declared.start_tags.StartTagPlace.TheVariants as S
use Rattle.markup_tags.specs.declared.end_tags.EndTagPlace.{EndTagPlace}
use Rattle.markup_tags.specs.declared.end_tags.EndTagPlace.TheVariants as N
use Rattle.markup_skipped.specs.declared.comments.CommentPlace.{CommentPlace}
use Rattle.markup_skipped.specs.declared.comments.CommentPlace.TheVariants as M
use Rattle.markup_skipped.specs.declared.declarations.DeclarationKey.{DeclarationKey}
use Rattle.markup_skipped.specs.declared.declarations.DeclarationKey.TheVariants as K
use Rattle.markup_skipped.specs.declared.declarations.ValueLetters.{ValueLetters}
use Rattle.markup_skipped.specs.declared.declarations.ValueLetters.TheVariants as V
use Rattle.markup_skipped.specs.declared.declarations.DeclarationPlace.{DeclarationPlace}
use Rattle.markup_skipped.specs.declared.declarations.DeclarationPlace.TheVariants as D
use Rattle.markup_skipped.specs.declared.instructions.TargetLetters.{TargetLetters}
use Rattle.markup_skipped.specs.declared.instructions.TargetLetters.TheVariants as T
use Rattle.markup_skipped.specs.declared.instructions.InstructionPlace.{InstructionPlace}
use Rattle.markup_skipped.specs.declared.instructions.InstructionPlace.TheVariants as I
use Rattle.markup_steps.specs.declared.MarkupPlace.{MarkupPlace}
use Rattle.markup_steps.specs.declared.MarkupPlace.TheVariants as P
use Rattle.file_lexer.specs.declared.Before.{Before}
use Rattle.file_lexer.specs.declared.Before.TheVariants as B
use Rattle.file_lexer.specs.declared.FilePlace.{FilePlace}
use Rattle.file_lexer.specs.declared.FilePlace.TheVariants as W
use Rattle.markup.specs.Markup as X
use Rattle.markup.specs.Automaton.{ReferenceState, behind_ampersand, in_entity, behind_hash, in_decimal, behind_x, in_hex, ValueState, in_value, in_reference, StartTagState}
use Rattle.markup.specs.Automaton.{in_name, behind_part, in_attribute_name, behind_attribute_name, behind_equals_sign, in_attribute_value, behind_slash, EndTagState}
use Rattle.markup.specs.Automaton.{behind_end_slash, in_end_name, behind_end_name, CommentState, behind_bang, behind_bang_hyphen, in_comment, behind_two_hyphens}
use Rattle.markup.specs.Automaton.{DeclarationState, between_items, in_keyword, behind_keyword, behind_key_equals, in_key_value, behind_items, InstructionState}
use Rattle.markup.specs.Automaton.{behind_question_mark, in_target, behind_target, in_data, in_declaration, MarkupState, before_markup, behind_less_than_sign, in_start_tag}
use Rattle.markup.specs.Automaton.{in_end_tag, in_bang, in_instruction}
use Rattle.markup_tags.specs.References.{letters_in}
use Rattle.markup_skipped.specs.Declarations.{value_letters}
use Rattle.markup_skipped.specs.Instructions.{target_letters}
use Rattle.file_lexer.specs.Lexing.{Where, between, within}
use Rattle.little.specs.Little.{value}
use Rattle.c_file.specs.declared.FileWords.{FileWords}
use Rattle.c_file.specs.declared.PlaceWords.{PlaceWords}

-- ---- codes, in the order of their numbers

-- what a word names; one past the last names what stands behind the list
abbrev pub before_in : ℕ → Before
before_in n = get_or (B.Nothing ∷ B.MarkFirst ∷ B.MarkSecond ∷ B.Mark ∷ []) n B.Text

abbrev pub all_letters : List EntityLetters
all_letters = E.A ∷ E.Am ∷ E.Amp ∷ E.Ap ∷ E.Apo ∷ E.Apos ∷ E.L ∷ E.Lt ∷ E.G ∷ E.Gt ∷ E.Q ∷ E.Qu ∷ E.Quo ∷ E.Quot ∷ []

abbrev pub letters_of : ℕ → EntityLetters
letters_of n = get_or all_letters n E.A

abbrev pub targets : List TargetLetters
targets = T.X ∷ T.Xm ∷ T.Xml ∷ T.UpperX ∷ T.UpperXm ∷ T.UpperXml ∷ T.Other ∷ []

abbrev pub target_in : ℕ → TargetLetters
target_in n = get_or targets n T.Other

abbrev pub values : List ValueLetters
values =
    V.Version0 ∷ V.Version1 ∷ V.Version2 ∷ V.Version3 ∷ V.Encoding0 ∷ V.Encoding1 ∷ V.Encoding2 ∷ V.Encoding3 ∷ V.Encoding4 ∷ V.Encoding5
    ∷ V.Standalone0 ∷ V.Y ∷ V.Ye ∷ V.Yes ∷ V.N ∷ V.No ∷ []

abbrev pub value_in : ℕ → ValueLetters
value_in n = get_or values n V.No

abbrev pub key_in : ℕ → DeclarationKey
key_in n = get_or (K.Version ∷ K.Encoding ∷ []) n K.Standalone

-- the last item of the declaration so far, if there is one
abbrev pub last_in : ℕ → Option DeclarationKey
last_in n = cond (eqb n 0) None (Some (key_in (n - 1)))

abbrev pub flag_in : ℕ → Bool
flag_in n = eqb n 1

abbrev pub mark_in : ℕ → QuoteMark
mark_in n = cond (eqb n 0) Q.Double Q.Single

-- ---- the places of each kind of markup, one after the other, by the two words beside their number; the last is named behind the list

-- from 2
unfoldable pub start_tag_in : ℕ → ℕ → ℕ → StartTagPlace
start_tag_in i a b =
    get_or (
    S.Name
    ∷ S.Behind (flag_in a)
    ∷ S.AttributeName
    ∷ S.BehindAttributeName
    ∷ S.BehindEqualsSign
    ∷ S.Value (mark_in a) (flag_in b)
    ∷ S.Reference (mark_in a) F.Ampersand
    ∷ S.Reference (mark_in a) (F.Entity (letters_of b))
    ∷ S.Reference (mark_in a) F.Hash
    ∷ S.Reference (mark_in a) (F.Decimal b)
    ∷ S.Reference (mark_in a) F.HexBegun
    ∷ S.Reference (mark_in a) (F.Hex b)
    ∷ []
    ) i S.Slash

-- from 15
unfoldable pub end_tag_in : ℕ → EndTagPlace
end_tag_in i = get_or (N.Slash ∷ N.Name ∷ []) i N.Behind

-- from 18
unfoldable pub comment_in : ℕ → ℕ → CommentPlace
comment_in i a = get_or (M.Bang ∷ M.Hyphen ∷ M.Inside (flag_in a) ∷ []) i M.TwoHyphens

-- from 22
unfoldable pub instruction_in : ℕ → ℕ → ℕ → InstructionPlace
instruction_in i a b = get_or (I.Question (flag_in a) ∷ I.Target (flag_in a) (target_in b) ∷ I.BehindTarget ∷ []) i (I.Data (flag_in a))

-- from 26
unfoldable pub declaration_in : ℕ → ℕ → ℕ → DeclarationPlace
declaration_in i a b =
    get_or (
    D.Between (last_in a) (flag_in b)
    ∷ D.Keyword K.Version a
    ∷ D.Keyword K.Encoding a
    ∷ D.Keyword K.Standalone a
    ∷ D.BehindKeyword (key_in a)
    ∷ D.EqualsSign (key_in a)
    ∷ D.Value (mark_in a) (value_in b)
    ∷ []
    ) i D.Behind

-- a place in a markup, by its number from 1 to 33
unfoldable pub markup_in : ℕ → ℕ → ℕ → MarkupPlace
markup_in n a b =
    cond (leb n 1) (P.Begun (flag_in a))
    (cond (leb n 14) (P.StartTag (start_tag_in (n - 2) a b))
    (cond (leb n 17) (P.EndTag (end_tag_in (n - 15)))
    (cond (leb n 21) (P.Bang (comment_in (n - 18) a))
    (cond (leb n 25) (P.Instruction (instruction_in (n - 22) a b))
    (P.Instruction (I.Declaration (declaration_in (n - 26) a b)))))))

-- the largest of the two words beside each number, from 0 on: a number of a reference is at most the last character's, and of a keyword there is no more to come than
-- it has behind its first letter
abbrev pub first_most : List ℕ
first_most =
    4 ∷ 1 ∷ 0 ∷ 1 ∷ 0 ∷ 0 ∷ 0 ∷ 1 ∷ 1 ∷ 1 ∷ 1 ∷ 1 ∷ 1 ∷ 1 ∷ 0 ∷ 0 ∷ 0
    ∷ 0 ∷ 0 ∷ 0 ∷ 1 ∷ 0 ∷ 1 ∷ 1 ∷ 0 ∷ 1 ∷ 3 ∷ 6 ∷ 7 ∷ 9 ∷ 2 ∷ 2 ∷ 1 ∷ 0 ∷ []

abbrev pub second_most : List ℕ
second_most =
    0 ∷ 0 ∷ 0 ∷ 0 ∷ 0 ∷ 0 ∷ 0 ∷ 1 ∷ 0 ∷ 13 ∷ 0 ∷ 0x10ffff ∷ 0 ∷ 0x10ffff ∷ 0 ∷ 0 ∷ 0
    ∷ 0 ∷ 0 ∷ 0 ∷ 0 ∷ 0 ∷ 0 ∷ 6 ∷ 0 ∷ 0 ∷ 1 ∷ 0 ∷ 0 ∷ 0 ∷ 0 ∷ 0 ∷ 15 ∷ 0 ∷ []

-- each number is one of a place, and the words beside it are within what that place has
unfoldable pub detailed : ℕ → ℕ → ℕ → Bool
detailed n a b = both (leb n 33) (both (leb a (get_or first_most n 0)) (leb b (get_or second_most n 0)))

-- ---- words of a place

abbrev pub flag_word : Bool → ℕ
flag_word false = 0
flag_word true = 1

abbrev pub before_word : Before → ℕ
before_word B.Nothing = 0
before_word B.MarkFirst = 1
before_word B.MarkSecond = 2
before_word B.Mark = 3
before_word B.Text = 4

abbrev pub mark_word : X.QuoteMark → ℕ
mark_word X.double_mark = 0
mark_word X.single_mark = 1

abbrev pub key_word : X.DeclarationKey → ℕ
key_word X.version_key = 0
key_word X.encoding_key = 1
key_word X.standalone_key = 2

abbrev pub last_word : Option X.DeclarationKey → ℕ
last_word None = 0
last_word (Some key) = 1 + key_word key

-- which of a list some letters are, from 0
unfoldable pub place_among : List (List ℕ) → List ℕ → ℕ
place_among [] s = 0
place_among (t ∷ ts) s = cond (same s t) 0 (1 + place_among ts s)

-- a value's letters, behind those of the keys before its own
abbrev pub value_word : X.DeclarationKey → List ℕ → ℕ
value_word X.version_key v = place_among (map value_letters values) v
value_word X.encoding_key v = 4 + place_among (drop 4 (map value_letters values)) v
value_word X.standalone_key v = 10 + place_among (drop 10 (map value_letters values)) v

-- the number of a place, and the two words beside it
abbrev pub coded : ℕ → ℕ → ℕ → PlaceWords
coded n a b = record { number = n; first = a; second = b }

abbrev pub reference_words : ℕ → ReferenceState → PlaceWords
reference_words mark behind_ampersand = coded 8 mark 0
reference_words mark (in_entity s) = coded 9 mark (place_among (map letters_in all_letters) s)
reference_words mark behind_hash = coded 10 mark 0
reference_words mark (in_decimal v) = coded 11 mark v
reference_words mark behind_x = coded 12 mark 0
reference_words mark (in_hex v) = coded 13 mark v

abbrev pub value_words : ℕ → ValueState → PlaceWords
value_words mark (in_value cr v) = coded 7 mark (flag_word cr)
value_words mark (in_reference v r) = reference_words mark r

abbrev pub start_tag_words : StartTagState → PlaceWords
start_tag_words (in_name n) = coded 2 0 0
start_tag_words (behind_part e spaced) = coded 3 (flag_word spaced) 0
start_tag_words (in_attribute_name e a) = coded 4 0 0
start_tag_words (behind_attribute_name e a) = coded 5 0 0
start_tag_words (behind_equals_sign e a) = coded 6 0 0
start_tag_words (in_attribute_value e a q v) = value_words (mark_word q) v
start_tag_words (behind_slash e) = coded 14 0 0

abbrev pub end_tag_words : EndTagState → PlaceWords
end_tag_words behind_end_slash = coded 15 0 0
end_tag_words (in_end_name n) = coded 16 0 0
end_tag_words (behind_end_name n) = coded 17 0 0

abbrev pub comment_words : CommentState → PlaceWords
comment_words behind_bang = coded 18 0 0
comment_words behind_bang_hyphen = coded 19 0 0
comment_words (in_comment hyphen) = coded 20 (flag_word hyphen) 0
comment_words behind_two_hyphens = coded 21 0 0

abbrev pub declaration_words : DeclarationState → PlaceWords
declaration_words (between_items last spaced) = coded 26 (last_word last) (flag_word spaced)
declaration_words (in_keyword key rest) = coded (27 + key_word key) (length rest) 0
declaration_words (behind_keyword key) = coded 30 (key_word key) 0
declaration_words (behind_key_equals key) = coded 31 (key_word key) 0
declaration_words (in_key_value key q v) = coded 32 (mark_word q) (value_word key v)
declaration_words behind_items = coded 33 0 0

abbrev pub instruction_words : InstructionState → PlaceWords
instruction_words (behind_question_mark first) = coded 22 (flag_word first) 0
instruction_words (in_target first t) = coded 23 (flag_word first) (place_among (map target_letters targets) t)
instruction_words behind_target = coded 24 0 0
instruction_words (in_data question) = coded 25 (flag_word question) 0
instruction_words (in_declaration d) = declaration_words d

-- `before_markup` is no place between two bytes
unfoldable pub markup_words : MarkupState → PlaceWords
markup_words (before_markup first) = coded 1 (flag_word first) 0
markup_words (behind_less_than_sign first) = coded 1 (flag_word first) 0
markup_words (in_start_tag s) = start_tag_words s
markup_words (in_end_tag s) = end_tag_words s
markup_words (in_bang s) = comment_words s
markup_words (in_instruction s) = instruction_words s

abbrev pub words_from : PlaceWords → ℕ → ℕ → ℕ → ℕ → List ℕ
words_from p chars feeds used named = p.number ∷ p.first ∷ p.second ∷ chars ∷ feeds ∷ used ∷ named ∷ []

-- of a character the bytes so far, the first the lowest
unfoldable pub words_of_file : Where → ℕ → ℕ → ℕ → List ℕ
words_of_file (between before) feeds used named = words_from (coded 0 (before_word before) 0) 0 feeds used named
words_of_file (within s) feeds used named = words_from (markup_words s.markup) (value s.bytes) feeds used named

-- ---- words read back

abbrev pub word_at : List ℕ → ℕ → ℕ
word_at w i = get_or w i 0

abbrev pub chars_in : ℕ → CharBytes
chars_in n =
    cond (eqb n 0) C.None (cond (ltb n 256) (C.One n) (cond (ltb n 65536) (C.Two (n % 256) (n / 256)) (C.Three (n % 256) (n / 256 % 256) (n / 65536))))

-- bytes with which a character begins, in one word
unfoldable pub chars_coded : ℕ → Bool
chars_coded n = both (ltb n 16777216) (begun (bytes_in (chars_in n)))

abbrev pub place_in : ℕ → ℕ → ℕ → ℕ → FilePlace
place_in n a b chars = cond (eqb n 0) (W.Text (before_in a)) (W.Markup (markup_in n a b) (chars_in chars))

-- between markups there are no bytes of a character
unfoldable pub place_coded : ℕ → ℕ → ℕ → ℕ → Bool
place_coded n a b chars = both (detailed n a b) (cond (eqb n 0) (eqb chars 0) (chars_coded chars))

abbrev pub file_in : List ℕ → FileWords
file_in w =
    record {
      lexer = record { place = place_in (word_at w 0) (word_at w 1) (word_at w 2) (word_at w 3); feeds = word_at w 4; used = word_at w 5 };
      named = word_at w 6;
    }

unfoldable pub is_file : List ℕ → Bool
is_file w = place_coded (word_at w 0) (word_at w 1) (word_at w 2) (word_at w 3)

-- words that are no file reader's stand for none
abbrev pub if_coded : {A : Type 0} → Bool → A → Option A
if_coded t x = cond t (Some x) None

unfoldable pub file_of_words : List ℕ → Option FileWords
file_of_words w = if_coded (is_file w) (file_in w)
