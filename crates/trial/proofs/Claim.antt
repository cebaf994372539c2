-- The trial rows hold, all of them.
use mathlib.Core.Path.{◌≡◌, refl}
use mathlib.Core.Bool.{true}
use Rattle.base.specs.Bytes.{all}
use Rattle.trial.specs.Rows.{right, rows}
use Rattle.trial.specs.Stops.{leaves_number, stop_rows}
use Rattle.trial.proofs.Opened.{opened}

-- one computation
pub claim : all right rows ≡ true
unfolding opened
claim = refl

-- the stop marks are left, each of them
pub stops_claim : all leaves_number stop_rows ≡ true
unfolding opened
stops_claim = refl
