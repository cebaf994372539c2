-- The state of a reader and its overlay, as a call is lent it and as it leaves it.
use Rattle.std.specs.Prelude.{ℕ, ◌≡◌, List}
use Rattle.base.specs.Bytes.{Bytes}
use Rattle.overlay.specs.Lent.{overlay_in, lent, left}
use Rattle.reader.specs.declared.EventReader.{EventReader}
use Rattle.reader.specs.declared.ReaderView.{ReaderView}
use Rattle.reader.specs.declared.ReaderState.{ReaderState}
use Rattle.reader.specs.State.{State}

abbrev pub state_lent : List ℕ → Bytes → List ℕ → Bytes → EventReader → State
state_lent words bytes counters parts reader = record { overlay = lent words bytes counters; reader = reader; parts = parts }

abbrev pub state_left : List ℕ → Bytes → List ℕ → Bytes → EventReader → State
state_left words bytes counters parts reader = record { overlay = left words bytes counters; reader = reader; parts = parts }

-- ---- in the structs that hold what is lent

-- the state that is read
abbrev pub state_seen : ReaderView → State
state_seen s = record { overlay = overlay_in s.words.now s.bytes.now s.counters.now; reader = s.reader; parts = s.parts.now }

-- the state that is written
abbrev pub state_held : ReaderState → State
state_held s = record { overlay = overlay_in s.words.now s.bytes.now s.counters.now; reader = s.reader; parts = s.parts.now }

-- the same memory: a call leaves its struct with the references that it was given
pub record IsSameState (a b : ReaderState) : Type 0 where
  pub words : a.words.ghost_name ≡ b.words.ghost_name
  pub bytes : a.bytes.ghost_name ≡ b.bytes.ghost_name
  pub counters : a.counters.ghost_name ≡ b.counters.ghost_name
  pub parts : a.parts.ghost_name ≡ b.parts.ghost_name
