-- The n-th id of a list of the kind; or 22, else 17.
use Rattle.std.proofs.Common.{rules}
use Rattle.kind.specs.declared.Kind.{Kind}
use Rattle.refusal.specs.declared.Refusal.{Refusal}
use Rattle.std.specs.Prelude.{ℕ, Result}
use Rattle.overlay.specs.Lent.{lent}
use Rattle.overlay_reading.specs.Reading.{id_on}
use Rattle.torvaskin.specs.Readings.{id_number}
use Rattle.torvaskin.proofs.readings.side_id.Goals as goal

pub returns : goal.returns
unfolding id_number
returns c =
    let o = lent c.args.words.now c.args.bytes.now c.args.counters.now in
    let f : Kind → Result ℕ Refusal = λ k. id_on k c.args.side c.args.n o in
    rw (c.from.ensures, c.of_kind.ensures f (λ k r p. search rules))
