-- A reference's state as it is held: the same as the automaton's, since it has no names and no values.
use Rattle.std.specs.Prelude.{ℕ, List}
use Rattle.base.specs.Ascii.{ascii}
use Rattle.markup.specs.Automaton.{Moved, continues, completes, malformed, ReferenceState, behind_ampersand, in_entity, behind_hash, in_decimal, behind_x, in_hex}
use Rattle.markup_tags.specs.declared.references.EntityLetters.{EntityLetters}
use Rattle.markup_tags.specs.declared.references.EntityLetters.TheVariants as E
use Rattle.markup_tags.specs.declared.references.ReferencePlace.{ReferencePlace}
use Rattle.markup_tags.specs.declared.references.ReferencePlace.TheVariants as P
use Rattle.markup_tags.specs.declared.references.ReferenceMoved.{ReferenceMoved}
use Rattle.markup_tags.specs.declared.references.ReferenceMoved.TheVariants as M

abbrev pub letters_in : EntityLetters → List ℕ
letters_in E.A = ascii "a"
letters_in E.Am = ascii "am"
letters_in E.Amp = ascii "amp"
letters_in E.Ap = ascii "ap"
letters_in E.Apo = ascii "apo"
letters_in E.Apos = ascii "apos"
letters_in E.L = ascii "l"
letters_in E.Lt = ascii "lt"
letters_in E.G = ascii "g"
letters_in E.Gt = ascii "gt"
letters_in E.Q = ascii "q"
letters_in E.Qu = ascii "qu"
letters_in E.Quo = ascii "quo"
letters_in E.Quot = ascii "quot"

abbrev pub reference_for : ReferencePlace → ReferenceState
reference_for P.Ampersand = behind_ampersand
reference_for (P.Entity letters) = in_entity (letters_in letters)
reference_for P.Hash = behind_hash
reference_for (P.Decimal v) = in_decimal v
reference_for P.HexBegun = behind_x
reference_for (P.Hex v) = in_hex v

abbrev pub reference_moved : ReferenceMoved → Moved ReferenceState ℕ
reference_moved (M.Continues place) = continues (reference_for place)
reference_moved (M.Completes c) = completes c
reference_moved M.Malformed = malformed
