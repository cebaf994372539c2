-- The ids of a list of the kind, counted; or 22, else 17.
use Rattle.std.proofs.Common.{rules}
use Rattle.kind.specs.declared.Kind.{Kind}
use Rattle.refusal.specs.declared.Refusal.{Refusal}
use Rattle.std.specs.Prelude.{ℕ, Result}
use Rattle.overlay.specs.Lent.{lent}
use Rattle.overlay_reading.specs.Reading.{count_on}
use Rattle.torvaskin.specs.Readings.{count_number}
use Rattle.torvaskin.proofs.readings.side_count.Goals as goal

pub returns : goal.returns
unfolding count_number
returns c =
    let o = lent c.args.words.now c.args.bytes.now c.args.counters.now in
    let f : Kind → Result ℕ Refusal = λ k. count_on k c.args.side o in
    rw (c.from.ensures, c.of_kind.ensures f (λ k r p. search rules))
