-- The larger of the live version and the floor.
use Rattle.kind_store.specs.KindStore.{known_of}
use Rattle.kind_store.proofs.KindStorage.row_version.Goals as goal

pub returns : goal.returns
unfolding known_of
returns c = rw (← c.live_version.ensures, ← c.version_of_word-floor.ensures) c.higher_of.ensures
