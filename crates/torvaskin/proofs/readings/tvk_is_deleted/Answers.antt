-- Whether the id is deleted; or 22, else 17.
use Rattle.std.proofs.Common.{rules}
use Rattle.kind.specs.declared.Kind.{Kind}
use Rattle.refusal.specs.declared.Refusal.{Refusal}
use Rattle.std.specs.Prelude.{ℕ, Result}
use Rattle.overlay.specs.Lent.{lent}
use Rattle.overlay_reading.specs.Reading.{is_deleted_on}
use Rattle.torvaskin.specs.Readings.{is_deleted_number}
use Rattle.signed.proofs.Bits.{bits_back}
use Rattle.torvaskin.proofs.readings.tvk_is_deleted.Goals as goal

pub returns : goal.returns
unfolding is_deleted_number
returns c =
    let o = lent c.args.words.now c.args.bytes.now c.args.counters.now in
    let f : Kind → Result ℕ Refusal = λ k. is_deleted_on k c.args.id o in
    let d = bits_back c.ranges.id c.cast_unsigned-bits.ensures in
    rw (c.from.ensures, c.of_kind.ensures f (λ k r p. search rules))
