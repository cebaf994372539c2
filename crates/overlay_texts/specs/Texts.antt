-- Texts that lie end to end in bytes, with the length of each.
use Rattle.std.specs.Prelude.{ℕ, Bool, List, [], ◌∷◌, eqb, length, take, drop}
use Rattle.std.specs.List.{sum}
use Rattle.base.specs.Bytes.{Bytes}

-- the texts, by their lengths
unfoldable pub cut_texts : List ℕ → Bytes → List Bytes
cut_texts [] s = []
cut_texts (n ∷ ns) s = take n s ∷ cut_texts ns (drop n s)

-- the lengths add up to the bytes
unfoldable pub lengths_fit : List ℕ → Bytes → Bool
lengths_fit ns s = eqb (sum ns) (length s)
