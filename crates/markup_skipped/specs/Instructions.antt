-- An instruction as it is held: where in it a reader stands. Of its target no more is held than whether it is reserved, or may become so, and whether it is the declaration's.
use Rattle.std.specs.Prelude.{ℕ, cond, List, map}
use Rattle.base.specs.Ascii.{ascii}
use Rattle.text.specs.Check.{begins}
use Rattle.markup.specs.Markup.{Meaning, no_event, upper_case}
use Rattle.markup.specs.Automaton.{Moved, continues, completes, malformed, InstructionState, behind_question_mark, in_target, behind_target, in_data, in_declaration}
use Rattle.markup_skipped.specs.Declarations.{declaration_kept, declaration_for}
use Rattle.markup_skipped.specs.declared.Moved as Held
use Rattle.markup_skipped.specs.declared.Moved.TheVariants as M
use Rattle.markup_skipped.specs.declared.instructions.TargetLetters.{TargetLetters}
use Rattle.markup_skipped.specs.declared.instructions.TargetLetters.TheVariants as T
use Rattle.markup_skipped.specs.declared.instructions.InstructionPlace.{InstructionPlace}
use Rattle.markup_skipped.specs.declared.instructions.InstructionPlace.TheVariants as P

-- ---- what is forgotten

-- a beginning of `xml` is kept, one in another case in capitals; any other target is a name of one letter
unfoldable pub target_kept : List ℕ → List ℕ
target_kept t = cond (begins (map upper_case t) (ascii "XML")) (cond (begins t (ascii "xml")) t (map upper_case t)) (ascii "a")

unfoldable pub instruction_kept : InstructionState → InstructionState
instruction_kept (behind_question_mark first) = behind_question_mark first
instruction_kept (in_target first t) = in_target first (target_kept t)
instruction_kept behind_target = behind_target
instruction_kept (in_data question) = in_data question
instruction_kept (in_declaration d) = in_declaration (declaration_kept d)

abbrev pub instruction_forgotten : Moved InstructionState Meaning → Moved InstructionState Meaning
instruction_forgotten (continues s) = continues (instruction_kept s)
instruction_forgotten (completes m) = completes m
instruction_forgotten malformed = malformed

-- ---- what is held

abbrev pub target_letters : TargetLetters → List ℕ
target_letters T.X = ascii "x"
target_letters T.Xm = ascii "xm"
target_letters T.Xml = ascii "xml"
target_letters T.UpperX = ascii "X"
target_letters T.UpperXm = ascii "XM"
target_letters T.UpperXml = ascii "XML"
target_letters T.Other = ascii "a"

abbrev pub instruction_for : InstructionPlace → InstructionState
instruction_for (P.Question first) = behind_question_mark first
instruction_for (P.Target first letters) = in_target first (target_letters letters)
instruction_for P.BehindTarget = behind_target
instruction_for (P.Data question) = in_data question
instruction_for (P.Declaration place) = in_declaration (declaration_for place)

abbrev pub instruction_moved : Held.Moved InstructionPlace → Moved InstructionState Meaning
instruction_moved (M.Continues place) = continues (instruction_for place)
instruction_moved M.Completes = completes no_event
instruction_moved M.Malformed = malformed
