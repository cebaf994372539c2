-- What the check of the strings goes by, handle by handle. Soundness itself is Sound.
use Rattle.std.specs.Prelude.{ℕ, ◌<◌, ◌≡◌, Bool, true, false, List, get_or, None, Option, Some}
use Rattle.base.specs.Bytes.{Bytes, both}
use Rattle.text.specs.Check.{is_text}
use Rattle.distinct.specs.Distinct.{run_in}
use Rattle.interner.specs.Strings.{spanned, bytes_at, find_in}

abbrev pub is_not : Option ℕ → Bool
is_not None = true
is_not (Some h) = false

-- the string of a handle lies within the bytes, is legal text, and no handle before it has an equal one
unfoldable pub new_at : List ℕ → Bytes → ℕ → Bool
new_at spans bytes h =
    both (spanned spans bytes h) (both (is_text (bytes_at spans bytes h)) (is_not (find_in spans bytes h (bytes_at spans bytes h))))

-- the string of a handle lies within the bytes and is legal text
unfoldable pub legal_at : List ℕ → Bytes → ℕ → Bool
legal_at spans bytes h = both (spanned spans bytes h) (is_text (bytes_at spans bytes h))

-- the words of the strings before a handle
abbrev pub WordsNoted : List ℕ → Bytes → List ℕ → ℕ → Type 0
WordsNoted spans bytes words h = (j : ℕ) → j < h → run_in bytes (get_or words j 0) ≡ bytes_at spans bytes j
