-- The places that words can have, which are those that a reader of files comes to: the number of a reference is at most the last character's, of a keyword there is
-- no more to come than it has behind its first letter, and a character begins with the bytes so far.
use Rattle.std.specs.Prelude.{Bool, true, leb, length}
use Rattle.base.specs.Bytes.{both}
use Rattle.xml_chars.specs.Chars.{bytes_in, begun}
use Rattle.markup_tags.specs.declared.references.ReferencePlace.{ReferencePlace}
use Rattle.markup_tags.specs.declared.references.ReferencePlace.TheVariants as F
use Rattle.markup_tags.specs.declared.start_tags.StartTagPlace.{StartTagPlace}
use Rattle.markup_tags.specs.declared.start_tags.StartTagPlace.TheVariants as S
use Rattle.markup_skipped.specs.Declarations.{key_for, keyword_rest}
use Rattle.markup_skipped.specs.declared.declarations.DeclarationPlace.{DeclarationPlace}
use Rattle.markup_skipped.specs.declared.declarations.DeclarationPlace.TheVariants as D
use Rattle.markup_skipped.specs.declared.instructions.InstructionPlace.{InstructionPlace}
use Rattle.markup_skipped.specs.declared.instructions.InstructionPlace.TheVariants as I
use Rattle.markup_steps.specs.declared.MarkupPlace.{MarkupPlace}
use Rattle.markup_steps.specs.declared.MarkupPlace.TheVariants as P
use Rattle.file_lexer.specs.declared.FilePlace.{FilePlace}
use Rattle.file_lexer.specs.declared.FilePlace.TheVariants as W

abbrev pub reference_fits : ReferencePlace → Bool
reference_fits F.Ampersand = true
reference_fits (F.Entity letters) = true
reference_fits F.Hash = true
reference_fits (F.Decimal v) = leb v 0x10ffff
reference_fits F.HexBegun = true
reference_fits (F.Hex v) = leb v 0x10ffff

abbrev pub start_tag_fits : StartTagPlace → Bool
start_tag_fits S.Name = true
start_tag_fits (S.Behind spaced) = true
start_tag_fits S.AttributeName = true
start_tag_fits S.BehindAttributeName = true
start_tag_fits S.BehindEqualsSign = true
start_tag_fits (S.Value mark returned) = true
start_tag_fits (S.Reference mark place) = reference_fits place
start_tag_fits S.Slash = true

abbrev pub declaration_fits : DeclarationPlace → Bool
declaration_fits (D.Between last spaced) = true
declaration_fits (D.Keyword key to_come) = leb to_come (length (keyword_rest (key_for key)))
declaration_fits (D.BehindKeyword key) = true
declaration_fits (D.EqualsSign key) = true
declaration_fits (D.Value mark letters) = true
declaration_fits D.Behind = true

abbrev pub instruction_fits : InstructionPlace → Bool
instruction_fits (I.Question first) = true
instruction_fits (I.Target first letters) = true
instruction_fits I.BehindTarget = true
instruction_fits (I.Data question) = true
instruction_fits (I.Declaration place) = declaration_fits place

abbrev pub markup_fits : MarkupPlace → Bool
markup_fits (P.Begun first) = true
markup_fits (P.StartTag place) = start_tag_fits place
markup_fits (P.EndTag place) = true
markup_fits (P.Bang place) = true
markup_fits (P.Instruction place) = instruction_fits place

unfoldable pub is_held : FilePlace → Bool
is_held (W.Text before) = true
is_held (W.Markup place chars) = both (markup_fits place) (begun (bytes_in chars))
