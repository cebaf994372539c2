-- Document 01: "Domain of comparison with the Rust: legal lines and calls that by the table meet none of 10, 13 to 17, 20 to 22." It is told by the tables of conditions and by what was told
-- before, and not by the reply of the call itself.
use Rattle.reader.specs.declared.RefusedAt.{RefusedAt}
use Rattle.std.specs.Prelude.{ℕ, suc, Bool, true, false, not, List, [], ◌∷◌, ◌==◌, nat_lt, None, Option, Some}
use Rattle.std.specs.Int.{w64}
use Rattle.std.proofs.Common.{to_z}
use Rattle.base.specs.Bytes.{both, either, all}
use Rattle.refusal.specs.First.{first_of}
use Rattle.refusal.specs.Refusal.{number_of}
use Rattle.refusal.specs.declared.Refusal.{Refusal}
use Rattle.compact.specs.Held.{meta_of}
use Rattle.overlay.specs.First.{allow_table}
use Rattle.overlay_direct.specs.First.{intern_table, push_table, delete_table}
use Rattle.reader.specs.Table.{event_table, end_table}
use Rattle.calls.specs.Ask.{Ask, interns, pushes, deletes, reads, ends, allows, Storage, state_of, put_at}
use Rattle.refines.specs.Told.{Told, handle, done, refused}

-- ---- by the table

-- "10, 13 to 17, 20 to 22"; document 02: 24 "left out of the comparison". Of an event 10 is compared all the same: what reads a coordinate is a parameter of the Rust (`NotPublished`). 22 is not left out: in a list from set-up on it is
-- never given, but for the count of a reader's lines (`going`).
abbrev pub event_outside : List ℕ
event_outside = 13 ∷ 14 ∷ 15 ∷ 16 ∷ 17 ∷ 20 ∷ 21 ∷ 24 ∷ []

-- of a direct call 3 too: a text that is UTF-8 and no XML is refused 3 here and taken there (DIFFERENCES, D3)
abbrev pub direct_outside : List ℕ
direct_outside = 3 ∷ 10 ∷ event_outside

unfoldable pub inside_of : List ℕ → ℕ → Bool
inside_of numbers number = all (λ n. not (n == number)) numbers

-- the first row that holds is none of these, or no row holds
abbrev pub first_inside : Option Refusal → Bool
first_inside None = true
first_inside (Some r) = inside_of direct_outside (number_of r)

abbrev pub first_at_inside : Option RefusedAt → Bool
first_at_inside None = true
first_at_inside (Some t) = inside_of event_outside (number_of t.refusal)

abbrev pub by_table : Ask → Storage → Bool
by_table (interns t) l = first_inside (first_of (intern_table t l.overlay))
by_table (pushes k h m parts) l = first_inside (first_of (push_table k h m parts l.overlay))
by_table (deletes k id m) l = first_inside (first_of (delete_table k (to_z w64 id) (meta_of m) l.overlay))
by_table (reads n line) l = first_at_inside (first_of (event_table line (state_of n l)))
by_table (ends n) l = first_at_inside (first_of (end_table (state_of n l)))
by_table (allows setting) l = first_inside (first_of (allow_table l.overlay))

-- ---- by what was told before

-- of each reader: whether one of its events was refused, and how many were accepted
pub record Past : Type 0 where
  pub stopped : ℕ → Bool
  pub lines : ℕ → ℕ

abbrev pub no_past : Past
no_past = record { stopped = λ n. false; lines = λ n. 0 }

-- "a refused event, except for 22, stops its reader"
abbrev pub event_past : ℕ → Told → Past → Past
event_past n (handle h) p = p
event_past n done p = record { stopped = p.stopped; lines = put_at n (suc (p.lines n)) p.lines }
event_past n (refused number held) p = record { stopped = put_at n (either (p.stopped n) (not (number == 22))) p.stopped; lines = p.lines }

abbrev pub past_after : Ask → Told → Past → Past
past_after (interns x) t p = p
past_after (pushes k h m parts) t p = p
past_after (deletes k id m) t p = p
past_after (reads n line) t p = event_past n t p
past_after (ends n) t p = p
past_after (allows setting) t p = p

-- "A reader after its stop: the Rust's driver has returned by then" (DIFFERENCES); "line count (u64) below its largest"
abbrev pub reader_going : ℕ → Past → Bool
reader_going n p = both (not (p.stopped n)) (nat_lt (p.lines n) 18446744073709551615)

abbrev pub going : Ask → Past → Bool
going (interns t) p = true
going (pushes k h m parts) p = true
going (deletes k id m) p = true
going (reads n line) p = reader_going n p
going (ends n) p = reader_going n p
going (allows setting) p = true

abbrev pub in_domain : Ask → Past → Storage → Bool
in_domain c p l = both (going c p) (by_table c l)
