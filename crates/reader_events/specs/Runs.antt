-- What the loop over lines needs, apart from what a run comes to (Events): what is tested once for all of them.
use Rattle.std.specs.Prelude.{◌≡◌, true}
use Rattle.overlay.specs.Sound.{is_sound}
use Rattle.reader.specs.State.{State, pending_sound}
use Rattle.reader.specs.Given.{StateGiven}

-- a state that is sound but for its count of lines; its bytes and numbers are within the bounds of their types. It is a premise in the clauses, for the reason that stands at
-- `StepGiven` (reader_parts)
pub record RunGiven (s : State) : Type 0 where
  pub overlay : is_sound s.overlay ≡ true
  pub pending : pending_sound s.overlay.texts.strings s.reader.place.kind s.parts s.reader.pending ≡ true
  pub bounds : StateGiven s
