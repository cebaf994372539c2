-- What it gives that words are a reader's.
use Prim.Native.Nat.{ℕ, ◌<◌}
use mathlib.Core.Path.{◌≡◌}
use mathlib.Core.Bool.{true}
use mathlib.Core.List.{List}
use borrow.Author.Tests.{ltb-true}
use Rattle.base.proofs.Split.{both_left, both_right}
use Rattle.c_reader.specs.Words.{word_at, place_coded, stop_coded, is_reader}

module _ (w : List ℕ) (e : is_reader w ≡ true) where
  pub place_of : place_coded w ≡ true
  unfolding is_reader
  place_of = both_left _ _ e

  pub stop_of : stop_coded (word_at w 16) (word_at w 17) (word_at w 18) ≡ true
  unfolding is_reader
  stop_of = both_right _ _ (both_right _ _ (both_right _ _ e))

pub held_within : (number line held : ℕ) → stop_coded number line held ≡ true → held < 4294967296
unfolding stop_coded
held_within number line held e = ltb-true _ _ (both_left _ _ (both_right _ _ (both_right _ _ e)))
