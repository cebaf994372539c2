-- All live or all deleted ids of a kind in one call, each with its known version: the readings by number, one after the other, over the first words of two
-- lent lists. 22 first; then 19 where one of the lists is shorter than the ids are many; at a refusal no word is written.
use Rattle.std.specs.Prelude.{ℕ, zero, suc, min, cond, List, [], ◌∷◌, ◌++◌, leb, length, drop, Err, Ok, Result}
use Rattle.std.specs.Int.{w64}
use Rattle.std.proofs.Common.{to_z}
use Rattle.kind.specs.declared.Kind.{Kind}
use Rattle.refusal.specs.declared.Refusal.{Refusal}
use Rattle.refusal.specs.declared.Refusal.TheVariants as R
use Rattle.kind_reading.specs.declared.Side.{Side}
use Rattle.overlay.specs.Overlay.{Overlay}
use Rattle.overlay_reading.specs.Reading.{count_on, id_on, known_on}

-- the two lists, and the answer: how many ids were written
pub record AllIds : Type 0 where
  pub ids : List ℕ
  pub versions : List ℕ
  pub answer : Result ℕ Refusal

-- the number that was read; below the count no reading is refused
abbrev pub number_read : Result ℕ Refusal → ℕ
number_read (Ok n) = n
number_read (Err r) = 0

-- what is read for each of n numbers, from a number on
unfoldable pub each_number : (ℕ → ℕ) → ℕ → ℕ → List ℕ
each_number f i zero = []
each_number f i (suc n) = f i ∷ each_number f (suc i) n

-- the id of a number, and its known version
abbrev pub id_of_number : Kind → Side → Overlay → ℕ → ℕ
id_of_number k side o n = number_read (id_on k side n o)

abbrev pub version_of_number : Kind → Side → Overlay → ℕ → ℕ
version_of_number k side o n = number_read (known_on k (to_z w64 (id_of_number k side o n)) o)

-- words over the first words of a list
abbrev pub first_words : List ℕ → List ℕ → List ℕ
first_words list words = words ++ drop (length words) list

abbrev pub not_written : List ℕ → List ℕ → Refusal → AllIds
not_written ids versions r = record { ids = ids; versions = versions; answer = Err r }

-- by the count
abbrev pub all_ids_of : Kind → Side → List ℕ → List ℕ → Overlay → Result ℕ Refusal → AllIds
all_ids_of k side ids versions o (Ok n) =
    cond (leb n (min (length ids) (length versions)))
    (record {
      ids = first_words ids (each_number (id_of_number k side o) 0 n);
      versions = first_words versions (each_number (version_of_number k side o) 0 n);
      answer = Ok n;
    })
    (not_written ids versions R.ShortOutput)
all_ids_of k side ids versions o (Err r) = not_written ids versions r

unfoldable pub all_ids_on : Kind → Side → List ℕ → List ℕ → Overlay → AllIds
all_ids_on k side ids versions o = all_ids_of k side ids versions o (count_on k side o)
