-- The sum of the flags that are set.
use Rattle.event_metadata.specs.Values.{flags_of}
use Rattle.reader_step.proofs.flags.Goals as goal

pub returns : goal.returns
unfolding flags_of
returns c = rw (c.mark.ensures.value, c.mark-2.ensures.value, c.mark-3.ensures.value, c.mark-4.ensures.value, c.is_some.ensures, c.is_some-2.ensures)
