-- What taking a text in answers.
use Rattle.std.specs.Prelude.{ℕ}

pub data Interned : Type 0 where
  -- the text was held: its handle
  Held : ℕ → Interned
  -- it is held from now on: its handle
  New : ℕ → Interned
  -- there is no room for it
  Full : Interned
