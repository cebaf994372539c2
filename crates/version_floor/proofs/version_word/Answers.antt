-- `version_floor::version_word` meets its contract.
use mathlib.Core.Path.{ap, ◌∙◌}
use mir.Syntax.{w32}
use mir.Val.{SFits, of_z}
use mir.Facts.{to_z-of_z}
use borrow.Author.Rules.{rules}
use Rattle.version_floor.specs.Version.{word_of}
use Rattle.version_floor.proofs.version_word.Goals as goal

pub returns-in-Some : goal.returns-in-Some
unfolding word_of
returns-in-Some c =
    let f : SFits w32 c.in-Some.n = search rules in
    rw c.in-Some.is (c.from.ensures ∙ (c.cast_unsigned.ensures ∙ ap (of_z w32) (to_z-of_z f)))

pub returns-in-None : goal.returns-in-None
unfolding word_of
returns-in-None c = rw c.in-None.is
