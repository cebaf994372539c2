-- Document 01, "The listing": a program "prints the listing, or `refused⇥NUMBER⇥LINE⇥HELD`: line from 1 (for 18 and 19 one past the last), HELD the known version for 12,
-- else `-`."
use Rattle.reader.specs.declared.RefusedAt.{RefusedAt}
use Rattle.std.specs.Prelude.{ℕ, ◌++◌, cond, leb, length, drop, Option, None, Some, Ok, Err, Result}
use Rattle.base.specs.Bytes.{Bytes}
use Rattle.refusal.specs.declared.Refusal.{Refusal}
use Rattle.refusal.specs.declared.Refusal.TheVariants as R
use Rattle.overlay.specs.Overlay.{Overlay}
use Rattle.listing.specs.Call.{page_of}
use Rattle.roadlist_report.specs.Report.{refused_line}
use Rattle.reader.specs.State.{State, next_line}

-- what is printed, and the refusal that it tells, none where it is the listing
pub record Ending : Type 0 where
  pub text : Bytes
  pub refusal : Option Refusal

abbrev pub refused_ending : Refusal → ℕ → Ending
refused_ending r line = record { text = refused_line r line; refusal = Some r }

-- the listing of an overlay, or 19 at that line where it is longer than the output, which has room for so many bytes
unfoldable pub page_ending : ℕ → Overlay → ℕ → Ending
page_ending room o line = cond (leb (length (page_of o)) room) (record { text = page_of o; refusal = None }) (refused_ending R.ShortOutput line)

-- by an end's answer in a state
abbrev pub ending_by : ℕ → Result Unit RefusedAt → State → Ending
ending_by room (Ok tt) s = page_ending room s.overlay (next_line s)
ending_by room (Err a) s = refused_ending a.refusal a.line

-- the output with what is printed at its start, how many bytes that is, and the refusal that it tells
pub record EndOutput : Type 0 where
  pub out : Bytes
  pub written : ℕ
  pub refusal : Option Refusal

abbrev pub end_output : Bytes → Ending → EndOutput
end_output out x = record { out = x.text ++ drop (length x.text) out; written = length x.text; refusal = x.refusal }
