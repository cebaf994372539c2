-- What is held of a markup's meaning where it ends: which event it is. The name and the attributes are in the line.
use Rattle.std.specs.Prelude.{[]}
use Rattle.event.specs.Event.{starts, closes, others}
use Rattle.markup.specs.Markup.{Meaning, means_event, no_event}

abbrev pub meaning_kept : Meaning → Meaning
meaning_kept (means_event (starts empty n attrs) m) = means_event (starts empty [] []) []
meaning_kept (means_event closes m) = means_event closes []
meaning_kept (means_event others m) = no_event
meaning_kept no_event = no_event
