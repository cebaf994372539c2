use mathlib.Core.Path.{◌∙◌, ap}
use Rattle.version_floor.specs.Version.{word_of}
use Rattle.torvaskin.proofs.numbers.tvk_version_raise.Goals as goal

pub returns : goal.returns
returns c = c.version_word.ensures ∙ ap word_of (c.higher_of-raised.ensures ∙ rw (c.version_of_word.ensures, c.version_of_word-highest.ensures))
