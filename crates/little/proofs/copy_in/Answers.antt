use Rattle.little.proofs.Overs.{over_cut}
use Rattle.little.proofs.copy_in.Goals as goal

pub returns : goal.returns
returns c = rw (over_cut c.args.out.now c.args.s.now c.min-end.result c.min-end.ensures, c.copy_from_slice.ensures.after)
