-- Lists of calls in which runs of lines stand too. A run is one event of its reader for each of its lines: the whole ones, and what is left of it where that is too long for a line.
use Rattle.std.specs.Prelude.{ℕ, List, [], ◌∷◌, ◌++◌, map}
use Rattle.base.specs.Bytes.{Bytes}
use Rattle.reader_events.specs.Events.{run_lines, run_on}
use Rattle.calls.specs.Ask.{Ask, reads, Storage, state_of, with_state, leaves}

-- a call, or a run of lines for a reader
pub data Request : Type 0 where
  asks : Ask → Request
  runs : ℕ → Bytes → Request

-- what it leaves
abbrev pub request_leaves : Request → Storage → Storage
request_leaves (asks c) l = leaves c l
request_leaves (runs n run) l = with_state n (run_on run (state_of n l)).state l

unfoldable pub after_requests : Storage → List Request → Storage
after_requests l [] = l
after_requests l (r ∷ rs) = after_requests (request_leaves r l) rs

-- the calls that it is
abbrev pub calls_in : Request → List Ask
calls_in (asks c) = c ∷ []
calls_in (runs n run) = map (reads n) (run_lines run)

unfoldable pub asked : List Request → List Ask
asked [] = []
asked (r ∷ rs) = calls_in r ++ asked rs
