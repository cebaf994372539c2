-- Where the record of the id lies, if it is live; or 22, else 17.
use Rattle.std.proofs.Common.{rules}
use Rattle.kind.specs.declared.Kind.{Kind}
use Rattle.kind_reading.specs.Listed.{View}
use Rattle.overlay.specs.Lent.{lent}
use Rattle.overlay_reading.specs.Reading.{get_on}
use Rattle.torvaskin.specs.Readings.{get_part}
use Rattle.signed.proofs.Bits.{bits_back}
use Rattle.torvaskin.proofs.readings.tvk_get.Goals as goal

pub returns : goal.returns
unfolding get_part
returns c =
    let o = lent c.args.words.now c.args.bytes.now c.args.counters.now in
    let f : Kind → View = λ k. get_on k c.args.id o in
    let d = bits_back c.ranges.id c.cast_unsigned-bits.ensures in
    rw (c.from.ensures, c.of_kind.ensures f (λ k r p. search rules))
