-- The name is moved behind the room of the line.
use mathlib.Core.Path.{◌≡◌, ◌∙◌}
use Prim.Native.Nat.{◌-◌, min}
use lib.ListN.{length}
use Rattle.file_reader.proofs.Names.{name_kept}
use Rattle.file_reader.proofs.tags.keep_name.Goals as goal

pub returns-clause-bytes : goal.returns-clause-bytes
returns-clause-bytes c =
    let s = c.args.bytes.now in
    let n = c.name_length-named in
    let e = c.part.ensures in
    let name = rw e at n.ensures.name in
    let within = rw e at n.ensures.in_bounds in
    let fits : c.min-kept.result ≡ min n.result (length s - 16387) = c.min-kept.ensures in
    c.copy_within.ensures.after ∙ name_kept s _ c.args.used n.result c.min-kept.result name within fits c.requires.room
