-- Where the record of the n-th live id of the kind lies; or 22, else 17.
use Rattle.std.proofs.Common.{rules}
use Rattle.kind.specs.declared.Kind.{Kind}
use Rattle.kind_reading.specs.Listed.{View}
use Rattle.overlay.specs.Lent.{lent}
use Rattle.overlay_reading.specs.Reading.{record_on}
use Rattle.torvaskin.specs.Readings.{record_part}
use Rattle.torvaskin.proofs.readings.tvk_record.Goals as goal

pub returns : goal.returns
unfolding record_part
returns c =
    let o = lent c.args.words.now c.args.bytes.now c.args.counters.now in
    let f : Kind → View = λ k. record_on k c.args.n o in
    rw (c.from.ensures, c.of_kind.ensures f (λ k r p. search rules))
