-- The place of the first four words, or none.
use Rattle.c_file.specs.Words.{is_file, file_of_words}
use Rattle.c_file.proofs.Within.{coded, not_coded}
use Rattle.c_file.proofs.file_of.Goals as goal

pub returns-in_err-place : goal.returns-in_err-place
unfolding file_of_words is_file
returns-in_err-place c = rw (c.from_residual.ensures, not_coded _ c.in_err-place.ensures)

pub returns : goal.returns
unfolding file_of_words is_file
returns c = let h = coded c.in_ok-place.ensures in rw (h.0, h.1)
