-- The bytes move up, and the part is written where they stood.
use mathlib.Core.Path.{◌∙◌}
use mathlib.Core.List.{◌++◌}
use native.Mathlib.Nat.{zero-add}
use native.Mathlib.Omega.{arith}
use lib.ListN.{length-append}
use Rattle.little.proofs.Overs.{length_over, over_over, over_lent_start}
use Rattle.reader_stage.proofs.Gaps.{put_before_lem}
use Rattle.reader_stage.proofs.put_before.Goals as goal

pub returns : goal.returns
returns c =
    let a = c.args in
    let moved = c.copy_within.new.self in
    let long = length_over moved 0 a.numbers.now in
    over_lent_start c.copy_in.new.out c.copy_in-2.new.out _ a.value.now (omega (arith, long, c.copy_within.ensures.len)) c.copy_in-2.ensures
    ∙ rw c.copy_in.ensures (rw zero-add at (over_over moved 0 a.numbers.now a.value.now))
    ∙ put_before_lem a.room.now moved (a.numbers.now ++ a.value.now) _ (length-append a.numbers.now a.value.now) c.requires c.copy_within.ensures.after
