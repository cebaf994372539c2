-- `node_coordinates`: latitude, then longitude.
use Rattle.event_values.proofs.Values.{handed_on}
use Rattle.event_values.proofs.node_coordinates.Goals as goal

pub returns-in_err-lat : goal.returns-in_err-lat
returns-in_err-lat g c = rw (handed_on c.from_residual.ensures, ← c.in_err-lat.ensures)

pub returns-in_err-lon : goal.returns-in_err-lon
returns-in_err-lon g c = rw (handed_on c.from_residual-in_err-lon.ensures, ← c.in_ok-lat.ensures, ← c.in_err-lon.ensures)

pub returns : goal.returns
returns g c = rw (← c.in_ok-lat.ensures, ← c.in_ok-lon.ensures)
