-- Document 02, request 2: "Read the change file itself": what the program `roadfile` lends, and what it prints for a file. Its sizes are the largest that an overlay can
-- have, and its output has 2,097,152 bytes.
use Rattle.std.specs.Prelude.{ℕ, ◌+◌, cond, List, [], ◌∷◌, eqb, replicate, Ok, Err, Result}
use Rattle.reader.specs.declared.RefusedAt.{RefusedAt}
use Rattle.base.specs.Bytes.{Bytes}
use Rattle.base.specs.Chars.{line_feed}
use Rattle.overlay.specs.Overlay.{Overlay}
use Rattle.overlay.specs.Lent.{overlay_for}
use Rattle.overlay.specs.Calls.{set_up}
use Rattle.overlay_blocks.specs.declared.KindSize.{KindSize}
use Rattle.overlay_blocks.specs.declared.Sizes.{Sizes}
use Rattle.reader.specs.State.{fresh_reader}
use Rattle.file_lexer.specs.declared.Before.TheVariants as B
use Rattle.file_lexer.specs.Lexing.{between}
use Rattle.file_reader.specs.File.{FileState, file_bytes}
use Rattle.file_reader.specs.Calls.{file_end_on}
use Rattle.program_ending.specs.Ending.{Ending, ending_by}

-- ---- the start

abbrev pub program_sizes : Sizes
program_sizes =
    let kind : KindSize = record { ids = 4096; bytes = 1048576 } in
    record { nodes = kind; ways = kind; relations = kind; strings = 4096; string_bytes = 65536 }

-- an empty overlay, regression refused (setting 0), and one file's reader before the first byte, which is fresh
unfoldable pub start_on : Overlay → Bytes → Bytes → FileState
start_on o parts bytes =
    record {
      state = record { overlay = (set_up program_sizes 0 o).overlay; reader = fresh_reader; parts = parts };
      place = between B.Nothing;
      feeds = 0;
      bytes = bytes;
      used = 0;
      named = 0;
    }

-- what is lent, all of it 0 at first: three words an id and two a string, the bytes, the counters
unfoldable pub program_lends : Overlay
program_lends = overlay_for program_sizes (replicate 45056 0) (replicate 3211264 0) (replicate 17 0)

unfoldable pub program_start : FileState
program_start = start_on program_lends (replicate 44432 0) (replicate 32771 0)

-- ---- pieces, up to the first in which a markup is refused: the program reads no further

abbrev pub onward_read : (FileState → FileState) → Result Unit RefusedAt → FileState → FileState
onward_read next (Ok tt) f = next f
onward_read next (Err a) f = f

unfoldable pub read_on : List Bytes → FileState → FileState
read_on [] f = f
read_on (p ∷ ps) f = onward_read (read_on ps) (file_bytes p f).answer (file_bytes p f).file

-- ---- the end

-- by what the end answers: a refused markup stopped its reader, so the end repeats that refusal
unfoldable pub file_ending : FileState → Ending
file_ending f = ending_by 2097152 (file_end_on f).answer f.state

-- What the program prints for a whole file: its bytes, up to the first markup that is refused, then the end, then the listing or the `refused` line.
-- 22 cannot occur below 2^64 - 1 line feeds (proofs/Starts, `no_22`).
unfoldable pub roadfile_of : Bytes → Bytes
roadfile_of file = (file_ending (file_bytes file program_start).file).text

unfoldable pub line_feeds : Bytes → ℕ
line_feeds [] = 0
line_feeds (b ∷ bs) = cond (eqb b line_feed) 1 0 + line_feeds bs
