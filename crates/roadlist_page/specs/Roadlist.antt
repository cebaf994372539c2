-- Document 01, "The listing": "Program `roadlist` reads event lines from standard input and prints the listing, or `refused⇥NUMBER⇥LINE⇥HELD`: line from 1 (for 18 and 19 one
-- past the last), HELD the known version for 12, else `-`. It lends 512 ids and 8,192 arena bytes a kind, 512 strings, 8,192 string bytes, 65,536 output bytes."
use Rattle.std.specs.Prelude.{replicate}
use Rattle.base.specs.Bytes.{Bytes}
use Rattle.overlay.specs.Overlay.{Overlay}
use Rattle.overlay.specs.Lent.{overlay_for}
use Rattle.overlay_blocks.specs.declared.KindSize.{KindSize}
use Rattle.overlay_blocks.specs.declared.Sizes.{Sizes}
use Rattle.overlay.specs.Calls.{set_up}
use Rattle.input_lines.specs.Stream.{after_input}
use Rattle.reader.specs.State.{State, fresh_reader}
use Rattle.reader.specs.Event.{end_on}
use Rattle.input_pieces.specs.Feed.{after_event}
use Rattle.program_ending.specs.Ending.{Ending, ending_by}

abbrev pub program_sizes : Sizes
program_sizes =
    let kind : KindSize = record { ids = 512; bytes = 8192 } in
    record { nodes = kind; ways = kind; relations = kind; strings = 512; string_bytes = 8192 }

-- what is lent, all of it 0 at first: three words an id and two a string, the bytes, the counters
unfoldable pub program_lends : Overlay
program_lends = overlay_for program_sizes (replicate 5632 0) (replicate 32768 0) (replicate 17 0)

-- an empty overlay, regression refused (setting 0), and one fresh reader
unfoldable pub start_on : Overlay → Bytes → State
start_on o parts = record { overlay = (set_up program_sizes 0 o).overlay; reader = fresh_reader; parts = parts }

unfoldable pub program_start : State
program_start = start_on program_lends (replicate 44432 0)

-- by what the end answers in a state: a refused event stopped its reader, so the end repeats that refusal
unfoldable pub ending_at : State → Ending
ending_at s = ending_by 65536 (end_on s).answer s

-- What the program prints for a whole input: each line an event, then the end, then the listing.
-- 22 cannot occur below 2^64 - 1 lines (proofs/Starts, `no_22`). Of an input that is longer the first 2^64 - 1 lines are taken in, where none is refused; the line count is then
-- at its largest, each further event and the end answer 22 and change nothing, and `refused⇥22⇥0⇥-` is printed.
unfoldable pub roadlist_of : Bytes → Bytes
roadlist_of input = (ending_at (after_input after_event program_start input)).text
