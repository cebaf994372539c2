-- The bits of the metadata, and the user that it names.
use Rattle.std.specs.Prelude.{is_some}
use Rattle.reader_step.proofs.Steps.{flags_kept}
use Rattle.reader_step.proofs.act_of.Goals as goal

pub returns-clause-means : goal.returns-clause-means
returns-clause-means c =
    let m = c.args.metadata.now in
    rw (c.flags.ensures, c.unwrap_or.ensures, flags_kept m.given m.hidden (is_some m.user) (is_some m.version))
