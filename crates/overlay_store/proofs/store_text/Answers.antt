-- `store_text`: no chains serve for any strings.
use Rattle.text_index.proofs.Laws.{none_serve}
use Rattle.overlay_store.proofs.store_text.Goals as goal

pub returns-clause-done : goal.returns-clause-done
returns-clause-done c = c.intern.ensures.done (none_serve _ c.none.ensures _)
