-- Where there are such a place and room, the part is put before the bytes from the place on.
use mathlib.Core.List.{◌++◌}
use lib.ListN.{length-append}
use Rattle.reader_stage.proofs.Gaps.{put_in, no_place, no_room, end_told, none_told}
use Rattle.reader_stage.proofs.Staged.insert.Goals as goal

pub returns-in-Some-clause-staged : goal.returns-in-Some-clause-staged
returns-in-Some-clause-staged c =
    let a = c.args in
    let s = a.self.now in
    let t = end_told _ _ _ c.end_within.ensures c.in-Some.is in
    rw t.0 (put_in s.parts.now s.used a.at _ (a.numbers.now ++ a.value.now) (length-append a.numbers.now a.value.now) c.if-at-used.true t.1 (rw t.0 at c.put_before.ensures))

pub returns-in_default-clause-staged : goal.returns-in_default-clause-staged
returns-in_default-clause-staged c =
    let a = c.args in
    no_room a.self.now.parts.now a.self.now.used a.at _ (a.numbers.now ++ a.value.now) (length-append a.numbers.now a.value.now) (none_told _ _ _ c.end_within.ensures c.in_default.is)

pub returns-else-at-used-clause-staged : goal.returns-else-at-used-clause-staged
returns-else-at-used-clause-staged c =
    let a = c.args in
    no_place a.self.now.parts.now a.self.now.used a.at _ (a.numbers.now ++ a.value.now) (length-append a.numbers.now a.value.now) c.if-at-used.false
