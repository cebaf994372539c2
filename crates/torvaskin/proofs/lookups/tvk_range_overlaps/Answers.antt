-- 1 or 0 for yes or no, or 20.
use mir.Facts.{to_z-of_z}
use Rattle.std.specs.Prelude.{◌≡◌, ℕ, Bool, Ok, Err, Result}
use Rattle.std.specs.Result.{MatchResult, IsOkAnd}
use Rattle.refusal.specs.declared.Refusal.{Refusal}
use Rattle.c_replies.specs.Numbers.{truth}
use Rattle.c_replies.specs.Lookups.{overlap_number}
use Rattle.c_replies.specs.Readings.{read_number}
use Rattle.torvaskin.proofs.lookups.tvk_range_overlaps.Goals as goal

told : (x : Result Bool Refusal) (y : Result ℕ Refusal) → MatchResult x (λ b. IsOkAnd y (λ n. n ≡ truth b)) (λ r. y ≡ Err r) → read_number y ≡ overlap_number x
told (Ok b) (Ok n) e = rw e
told (Ok b) (Err r) e = absurd e
told (Err r) y e = rw e

pub returns : goal.returns
returns c =
    rw (← rw (to_z-of_z c.ranges.min, to_z-of_z c.ranges.max) at c.range_overlaps.ensures, c.from.ensures)
    (told c.range_overlaps.result c.map.result c.map.ensures.cases)
