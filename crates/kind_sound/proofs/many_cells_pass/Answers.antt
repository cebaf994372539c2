-- The cells begin empty.
use mathlib.Core.Path.{refl}
use Rattle.kind_sound.proofs.Passing.{empty}
use Rattle.kind_sound.proofs.many_cells_pass.Goals as goal

pub cells_pass-requires : goal.cells_pass-requires
cells_pass-requires c = empty 23302 _ refl
