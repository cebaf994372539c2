-- What the check of sorted runs goes by.
use Rattle.std.specs.Prelude.{ℕ, ◌+◌, ◌<◌, ◌≤◌, ◌≡◌, Bool, false, List, length, get_or, take, Option, Some, None}
use Rattle.std.specs.Ordering.{nat_cmp, ordering_then}
use Rattle.std.specs.Cmp.Lexicographic.{slice_cmp}
use Rattle.std.specs.declared.cmp.Ordering.{Ordering}
use Rattle.std.specs.declared.cmp.Ordering.TheVariants.{Less}
use Rattle.base.specs.Bytes.{Bytes}
use Rattle.distinct.specs.Distinct.{distinct, run_in, runs_in}

-- shorter runs first, those of one length as in a dictionary
abbrev pub run_cmp : Bytes → Bytes → Ordering
run_cmp a b = ordering_then (nat_cmp (length a) (length b)) (slice_cmp nat_cmp a b)

-- the run of an index
abbrev pub run_at : Bytes → List ℕ → ℕ → Bytes
run_at bytes words h = run_in bytes (get_or words h 0)

-- the first n runs rise
abbrev pub Rises : Bytes → List ℕ → ℕ → Type 0
Rises bytes words n = (i : ℕ) → i + 1 < n → run_cmp (run_at bytes words i) (run_at bytes words (i + 1)) ≡ Less

-- what is noted of runs is right of a test
abbrev pub NotedAs : Bytes → List ℕ → Option ℕ → Bool → Type 0
NotedAs bytes words (Some n) told = n ≤ length words → told ≡ distinct (runs_in bytes (take n words))
NotedAs bytes words None told = told ≡ false
