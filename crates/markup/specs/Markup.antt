-- XML 1.0, fifth edition: the markup that document 02, request 2, reads, how it is written, which of it is legal, and what event it means. Characters are code points.
-- "DOCTYPE, CDATA and a declared encoding other than UTF-8 (case ignored) are unsupported": no markup here is written so.
use Rattle.std.specs.Prelude.{ℕ, ◌-◌, Bool, true, false, cond, not, List, [], ◌∷◌, ◌++◌, eqb, map, None, Option, Some}
use Rattle.base.specs.Ascii.{ascii}
use Rattle.base.specs.Bytes.{Bytes, both, either, all, same, is_digit}
use Rattle.base.specs.Chars.{line_feed, carriage_return}
use Rattle.text.specs.Char.{from_to, xml_char}
use Rattle.text.specs.Text.{encoded}
use Rattle.event.specs.Event.{Attr, Event, starts, closes}
use Rattle.markup.specs.Names.{white_space, is_name, no_chars, optional_space, some_space}
use Rattle.markup.specs.References.{Reference, legal_reference, written_reference, referred}
use Rattle.markup.specs.Signs.{ampersand_sign, double_quote, greater_than_sign, hyphen_sign, less_than_sign, question_mark, single_quote}

-- what a list of parts writes, one after the other
unfoldable pub each_written : {A : Type 0} → (A → List ℕ) → List A → List ℕ
each_written f [] = []
each_written f (x ∷ xs) = f x ++ each_written f xs

-- ---- an attribute

-- "both quote marks"
pub data QuoteMark : Type 0 where
  double_mark : QuoteMark
  single_mark : QuoteMark

abbrev pub mark_char : QuoteMark → ℕ
mark_char double_mark = double_quote
mark_char single_mark = single_quote

-- [10] AttValue ::= '"' ([^<&"] | Reference)* '"' | "'" ([^<&'] | Reference)* "'"
pub data ValuePart : Type 0 where
  raw_char : ℕ → ValuePart
  reference : Reference → ValuePart

unfoldable pub legal_part : QuoteMark → ValuePart → Bool
legal_part q (raw_char c) = both (xml_char c) (not (either (eqb c less_than_sign) (either (eqb c ampersand_sign) (eqb c (mark_char q)))))
legal_part q (reference r) = legal_reference r

unfoldable pub written_part : ValuePart → List ℕ
written_part (raw_char c) = c ∷ []
written_part (reference r) = written_reference r

-- 2.11: "translating both the two-character sequence #xD #xA and any #xD that is not followed by #xA to a single #xA character"; the test says that a #xD stands before
unfoldable pub normal_ends : Bool → List ValuePart → List ValuePart
normal_ends cr [] = []
normal_ends cr (raw_char c ∷ ps) =
    cond (both cr (eqb c line_feed)) (normal_ends false ps)
    (cond (eqb c carriage_return) (raw_char line_feed ∷ normal_ends true ps)
    (raw_char c ∷ normal_ends false ps))
normal_ends cr (reference r ∷ ps) = reference r ∷ normal_ends false ps

-- 3.3.3: "For a character reference, append the referenced character to the normalized value." "For a white space character (#x20, #xD, #xA, #x9), append a space character (#x20) to the
-- normalized value." "For another character, append the character to the normalized value." Each of the five entities comes to a character reference (4.6).
unfoldable pub normal_chars : List ValuePart → List ℕ
normal_chars [] = []
normal_chars (raw_char c ∷ ps) = cond (white_space c) 0x20 c ∷ normal_chars ps
normal_chars (reference r ∷ ps) = referred r ∷ normal_chars ps

abbrev pub value_chars : List ValuePart → List ℕ
value_chars ps = normal_chars (normal_ends false ps)

-- [25] Eq ::= S? '=' S?
pub record XmlEq : Type 0 where
  pub before : List ℕ
  pub behind : List ℕ

abbrev pub legal_eq : XmlEq → Bool
legal_eq e = both (optional_space e.before) (optional_space e.behind)

abbrev pub written_eq : XmlEq → List ℕ
written_eq e = e.before ++ ascii "=" ++ e.behind

-- S Attribute, of [40] and [44]; [41] Attribute ::= Name Eq AttValue
pub record XmlAttribute : Type 0 where
  pub gap : List ℕ
  pub name : List ℕ
  pub eq : XmlEq
  pub quote : QuoteMark
  pub value : List ValuePart

unfoldable pub legal_attribute : XmlAttribute → Bool
legal_attribute a = both (both (some_space a.gap) (is_name a.name)) (both (legal_eq a.eq) (all (legal_part a.quote) a.value))

unfoldable pub written_attribute : XmlAttribute → List ℕ
written_attribute a = a.gap ++ a.name ++ written_eq a.eq ++ (mark_char a.quote ∷ []) ++ each_written written_part a.value ++ (mark_char a.quote ∷ [])

abbrev pub attr_meant : XmlAttribute → Attr
attr_meant a = record { name = encoded a.name; value = encoded (value_chars a.value) }

unfoldable pub attrs_meant : List XmlAttribute → List Attr
attrs_meant [] = []
attrs_meant (a ∷ xs) = attr_meant a ∷ attrs_meant xs

-- ---- comments and instructions

-- [15] Comment ::= '<!--' ((Char - '-') | ('-' (Char - '-')))* '-->'
pub data CommentPart : Type 0 where
  unhyphened : ℕ → CommentPart
  hyphened : ℕ → CommentPart

abbrev pub unhyphened_char : ℕ → Bool
unhyphened_char c = both (not (eqb c hyphen_sign)) (xml_char c)

unfoldable pub legal_comment_part : CommentPart → Bool
legal_comment_part (unhyphened c) = unhyphened_char c
legal_comment_part (hyphened c) = unhyphened_char c

unfoldable pub written_comment_part : CommentPart → List ℕ
written_comment_part (unhyphened c) = c ∷ []
written_comment_part (hyphened c) = ascii "-" ++ (c ∷ [])

-- (('X' | 'x') ('M' | 'm') ('L' | 'l'))
unfoldable pub reserved_target : List ℕ → Bool
reserved_target [] = false
reserved_target (x ∷ []) = false
reserved_target (x ∷ m ∷ []) = false
reserved_target (x ∷ m ∷ l ∷ []) = both (either (eqb x 88) (eqb x 120)) (both (either (eqb m 77) (eqb m 109)) (either (eqb l 76) (eqb l 108)))
reserved_target (x ∷ m ∷ l ∷ c ∷ cs) = false

-- [17] PITarget ::= Name - (('X' | 'x') ('M' | 'm') ('L' | 'l'))
unfoldable pub is_target : List ℕ → Bool
is_target t = both (is_name t) (not (reserved_target t))

-- (Char* - (Char* '?>' Char*)); the test says that a `?` stands before
unfoldable pub unended_data : Bool → List ℕ → Bool
unended_data question [] = true
unended_data question (c ∷ cs) = both (not (both question (eqb c greater_than_sign))) (both (xml_char c) (unended_data (eqb c question_mark) cs))

-- (S (Char* - (Char* '?>' Char*)))?
unfoldable pub legal_data : List ℕ → List ℕ → Bool
legal_data gap cs = either (both (no_chars gap) (no_chars cs)) (both (some_space gap) (unended_data false cs))

-- ---- the XML declaration

-- [24] VersionInfo ::= S 'version' Eq ("'" VersionNum "'" | '"' VersionNum '"')
-- [80] EncodingDecl ::= S 'encoding' Eq ('"' EncName '"' | "'" EncName "'" )
-- [32] SDDecl ::= S 'standalone' Eq (("'" ('yes' | 'no') "'") | ('"' ('yes' | 'no') '"'))
pub data DeclarationKey : Type 0 where
  version_key : DeclarationKey
  encoding_key : DeclarationKey
  standalone_key : DeclarationKey

abbrev pub keyword : DeclarationKey → List ℕ
keyword version_key = ascii "version"
keyword encoding_key = ascii "encoding"
keyword standalone_key = ascii "standalone"

-- [26] VersionNum ::= '1.' [0-9]+
unfoldable pub version_num : List ℕ → Bool
version_num [] = false
version_num (c ∷ []) = false
version_num (c ∷ d ∷ ds) = both (both (eqb c 49) (eqb d 46)) (both (not (no_chars ds)) (all is_digit ds))

abbrev pub upper_case : ℕ → ℕ
upper_case c = cond (from_to 97 122 c) (c - 32) c

-- "a declared encoding other than UTF-8 (case ignored)": of [81] EncName this one is left
unfoldable pub key_value : DeclarationKey → List ℕ → Bool
key_value version_key v = version_num v
key_value encoding_key v = same (map upper_case v) (ascii "UTF-8")
key_value standalone_key v = either (same v (ascii "yes")) (same v (ascii "no"))

pub record DeclarationItem : Type 0 where
  pub gap : List ℕ
  pub eq : XmlEq
  pub quote : QuoteMark
  pub value : List ℕ

unfoldable pub legal_item : DeclarationKey → DeclarationItem → Bool
legal_item key i = both (some_space i.gap) (both (legal_eq i.eq) (key_value key i.value))

unfoldable pub written_item : DeclarationKey → DeclarationItem → List ℕ
written_item key i = i.gap ++ keyword key ++ written_eq i.eq ++ (mark_char i.quote ∷ []) ++ i.value ++ (mark_char i.quote ∷ [])

-- [23] XMLDecl ::= '<?xml' VersionInfo EncodingDecl? SDDecl? S? '?>'
pub record XmlDeclaration : Type 0 where
  pub version : DeclarationItem
  pub encoding : Option DeclarationItem
  pub standalone : Option DeclarationItem
  pub gap : List ℕ

abbrev pub legal_optional : DeclarationKey → Option DeclarationItem → Bool
legal_optional key None = true
legal_optional key (Some i) = legal_item key i

abbrev pub written_optional : DeclarationKey → Option DeclarationItem → List ℕ
written_optional key None = []
written_optional key (Some i) = written_item key i

unfoldable pub legal_declaration : XmlDeclaration → Bool
legal_declaration d =
    both (both (legal_item version_key d.version) (legal_optional encoding_key d.encoding))
    (both (legal_optional standalone_key d.standalone) (optional_space d.gap))

unfoldable pub written_declaration : XmlDeclaration → List ℕ
written_declaration d =
    ascii "<?xml" ++ written_item version_key d.version ++ written_optional encoding_key d.encoding ++ written_optional standalone_key d.standalone ++ d.gap ++ ascii "?>"

-- ---- markup

-- [40] STag ::= '<' Name (S Attribute)* S? '>' and, where the test is true, [44] EmptyElemTag ::= '<' Name (S Attribute)* S? '/>'
-- [42] ETag ::= '</' Name S? '>'
-- [15] Comment
-- [16] PI ::= '<?' PITarget (S (Char* - (Char* '?>' Char*)))? '?>'
-- [23] XMLDecl
-- What more than one markup decides is not asked here: Element Type Match (3), and that one name has one attribute, Unique Att Spec (3.1), which the event's line shows.
pub data Markup : Type 0 where
  start_tag : Bool → List ℕ → List XmlAttribute → List ℕ → Markup
  end_tag : List ℕ → List ℕ → Markup
  comment : List CommentPart → Markup
  instruction : List ℕ → List ℕ → List ℕ → Markup
  declaration : XmlDeclaration → Markup

abbrev pub start_tag_end : Bool → List ℕ
start_tag_end false = ascii ">"
start_tag_end true = ascii "/>"

unfoldable pub written_markup : Markup → List ℕ
written_markup (start_tag empty n xs gap) = ascii "<" ++ n ++ each_written written_attribute xs ++ gap ++ start_tag_end empty
written_markup (end_tag n gap) = ascii "</" ++ n ++ gap ++ ascii ">"
written_markup (comment ps) = ascii "<!--" ++ each_written written_comment_part ps ++ ascii "-->"
written_markup (instruction t gap cs) = ascii "<?" ++ t ++ gap ++ cs ++ ascii "?>"
written_markup (declaration d) = written_declaration d

unfoldable pub legal_markup : Markup → Bool
legal_markup (start_tag empty n xs gap) = both (is_name n) (both (all legal_attribute xs) (optional_space gap))
legal_markup (end_tag n gap) = both (is_name n) (optional_space gap)
legal_markup (comment ps) = all legal_comment_part ps
legal_markup (instruction t gap cs) = both (is_target t) (legal_data gap cs)
legal_markup (declaration d) = legal_declaration d

-- [22] prolog ::= XMLDecl? Misc* (doctypedecl Misc*)?: the declaration stands at the beginning of a file alone, which the test says
unfoldable pub may_stand : Bool → Markup → Bool
may_stand first (start_tag empty n xs gap) = true
may_stand first (end_tag n gap) = true
may_stand first (comment ps) = true
may_stand first (instruction t gap cs) = true
may_stand first (declaration d) = first

-- a legal markup where it stands
abbrev pub legal_markup_at : Bool → Markup → Bool
legal_markup_at first m = both (may_stand first m) (legal_markup m)

-- what a markup means: an event, with the name of its element, or none
pub data Meaning : Type 0 where
  means_event : Event → Bytes → Meaning
  no_event : Meaning

unfoldable pub meaning_of : Markup → Meaning
meaning_of (start_tag empty n xs gap) = means_event (starts empty (encoded n) (attrs_meant xs)) (encoded n)
meaning_of (end_tag n gap) = means_event closes (encoded n)
meaning_of (comment ps) = no_event
meaning_of (instruction t gap cs) = no_event
meaning_of (declaration d) = no_event
