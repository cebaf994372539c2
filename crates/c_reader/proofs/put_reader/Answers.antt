-- Each word in its place.
use Rattle.c_reader.specs.Words.{words_of_reader}
use Rattle.c_reader.proofs.put_reader.Goals as goal

pub returns : goal.returns
unfolding words_of_reader
returns c = rw (c.level_word.ensures, c.section_word.ensures, c.from-2.ensures, c.from.ensures, c.from-mark.ensures)
