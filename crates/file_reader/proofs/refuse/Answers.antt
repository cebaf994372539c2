-- 22, or the reader stops.
use Rattle.reader.specs.Lent.{state_held}
use Rattle.file_reader.proofs.Steps.{refused_stops, refused_22}
use Rattle.file_reader.proofs.refuse.Goals as goal

pub returns-then-state-lt18446744073709551615-clause-value : goal.returns-then-state-lt18446744073709551615-clause-value
returns-then-state-lt18446744073709551615-clause-value c = λ g. refused_stops c.args.refusal (state_held c.args.state.now) g c.if-state-lt18446744073709551615.true

pub returns-clause-value : goal.returns-clause-value
returns-clause-value c = λ g. refused_22 c.args.refusal (state_held c.args.state.now) g c.if-state-lt18446744073709551615.false
