-- A number below a limit.
use Rattle.reader_parts.proofs.Adds.{below_one_more}
use Rattle.reader_parts.proofs.part_fits.Goals as goal

pub returns : goal.returns
returns c =
    below_one_more c.args.pending.head.count c.args.limit
