-- The XML declaration as it is held: where in it a reader stands. Of a value that is read no more is held than what may still follow it.
use Rattle.std.specs.Prelude.{ℕ, ◌-◌, false, cond, List, [], map, length, drop, None, Option, Some}
use Rattle.base.specs.Ascii.{ascii}
use Rattle.markup.specs.Markup as X
use Rattle.markup.specs.Markup.{Meaning, no_event, version_key, encoding_key, standalone_key, version_num, upper_case, key_value}
use Rattle.markup.specs.Automaton.{Moved, continues, completes, malformed, DeclarationState, between_items, in_keyword, behind_keyword, behind_key_equals, in_key_value, behind_items, begins_key_value}
use Rattle.markup_tags.specs.StartTags.{mark_for}
use Rattle.markup_skipped.specs.declared.Moved as Held
use Rattle.markup_skipped.specs.declared.Moved.TheVariants as M
use Rattle.markup_skipped.specs.declared.declarations.DeclarationKey.{DeclarationKey}
use Rattle.markup_skipped.specs.declared.declarations.DeclarationKey.TheVariants as K
use Rattle.markup_skipped.specs.declared.declarations.ValueLetters.{ValueLetters}
use Rattle.markup_skipped.specs.declared.declarations.ValueLetters.TheVariants as V
use Rattle.markup_skipped.specs.declared.declarations.DeclarationPlace.{DeclarationPlace}
use Rattle.markup_skipped.specs.declared.declarations.DeclarationPlace.TheVariants as P

-- a value with a character more, which is no quote mark
abbrev pub value_grown : X.DeclarationKey → X.QuoteMark → List ℕ → Moved DeclarationState Meaning
value_grown key q v = cond (begins_key_value key v) (continues (in_key_value key q v)) malformed

-- a value with its quote mark behind it
abbrev pub value_end : X.DeclarationKey → List ℕ → Moved DeclarationState Meaning
value_end key v = cond (key_value key v) (continues (between_items (Some key) false)) malformed

-- ---- what is forgotten

-- any whole version stands for any other, and an encoding in capitals for one in another case
unfoldable pub value_kept : X.DeclarationKey → List ℕ → List ℕ
value_kept version_key v = cond (version_num v) (ascii "1.0") v
value_kept encoding_key v = map upper_case v
value_kept standalone_key v = v

unfoldable pub declaration_kept : DeclarationState → DeclarationState
declaration_kept (between_items last spaced) = between_items last spaced
declaration_kept (in_keyword key rest) = in_keyword key rest
declaration_kept (behind_keyword key) = behind_keyword key
declaration_kept (behind_key_equals key) = behind_key_equals key
declaration_kept (in_key_value key q v) = in_key_value key q (value_kept key v)
declaration_kept behind_items = behind_items

abbrev pub declaration_forgotten : Moved DeclarationState Meaning → Moved DeclarationState Meaning
declaration_forgotten (continues s) = continues (declaration_kept s)
declaration_forgotten (completes m) = completes m
declaration_forgotten malformed = malformed

-- ---- what is held

abbrev pub key_for : DeclarationKey → X.DeclarationKey
key_for K.Version = version_key
key_for K.Encoding = encoding_key
key_for K.Standalone = standalone_key

abbrev pub last_for : Option DeclarationKey → Option X.DeclarationKey
last_for None = None
last_for (Some key) = Some (key_for key)

-- a keyword behind its first letter, which tells it from the others
abbrev pub keyword_rest : X.DeclarationKey → List ℕ
keyword_rest version_key = ascii "ersion"
keyword_rest encoding_key = ascii "ncoding"
keyword_rest standalone_key = ascii "tandalone"

-- its last letters, as many as are still to come
abbrev pub keyword_end : X.DeclarationKey → ℕ → List ℕ
keyword_end key n = drop (length (keyword_rest key) - n) (keyword_rest key)

abbrev pub value_key : ValueLetters → X.DeclarationKey
value_key V.Version0 = version_key
value_key V.Version1 = version_key
value_key V.Version2 = version_key
value_key V.Version3 = version_key
value_key V.Encoding0 = encoding_key
value_key V.Encoding1 = encoding_key
value_key V.Encoding2 = encoding_key
value_key V.Encoding3 = encoding_key
value_key V.Encoding4 = encoding_key
value_key V.Encoding5 = encoding_key
value_key V.Standalone0 = standalone_key
value_key V.Y = standalone_key
value_key V.Ye = standalone_key
value_key V.Yes = standalone_key
value_key V.N = standalone_key
value_key V.No = standalone_key

abbrev pub value_letters : ValueLetters → List ℕ
value_letters V.Version0 = []
value_letters V.Version1 = ascii "1"
value_letters V.Version2 = ascii "1."
value_letters V.Version3 = ascii "1.0"
value_letters V.Encoding0 = []
value_letters V.Encoding1 = ascii "U"
value_letters V.Encoding2 = ascii "UT"
value_letters V.Encoding3 = ascii "UTF"
value_letters V.Encoding4 = ascii "UTF-"
value_letters V.Encoding5 = ascii "UTF-8"
value_letters V.Standalone0 = []
value_letters V.Y = ascii "y"
value_letters V.Ye = ascii "ye"
value_letters V.Yes = ascii "yes"
value_letters V.N = ascii "n"
value_letters V.No = ascii "no"

abbrev pub declaration_for : DeclarationPlace → DeclarationState
declaration_for (P.Between last spaced) = between_items (last_for last) spaced
declaration_for (P.Keyword key n) = in_keyword (key_for key) (keyword_end (key_for key) n)
declaration_for (P.BehindKeyword key) = behind_keyword (key_for key)
declaration_for (P.EqualsSign key) = behind_key_equals (key_for key)
declaration_for (P.Value mark letters) = in_key_value (value_key letters) (mark_for mark) (value_letters letters)
declaration_for P.Behind = behind_items

abbrev pub declaration_moved : Held.Moved DeclarationPlace → Moved DeclarationState Meaning
declaration_moved (M.Continues place) = continues (declaration_for place)
declaration_moved M.Completes = completes no_event
declaration_moved M.Malformed = malformed
