-- The test of the range as facts.
use Prim.Native.Nat.{◌≤◌}
use mathlib.Core.Path.{◌≡◌}
use mathlib.Core.Bool.{true}
use borrow.Author.Tests.{leb-true}
use Rattle.base.proofs.Split.{both_left, both_right}
use Rattle.overlay_blocks.specs.declared.KindSize.{KindSize}
use Rattle.overlay_blocks.specs.declared.Sizes.{Sizes}
use Rattle.overlay_blocks.specs.Sizes.{largest, kind_fits, strings_fit, sizes_in_range, SmallKind, Small}

small_kind : (z : KindSize) → kind_fits largest z ≡ true → SmallKind z
unfolding kind_fits
small_kind z h = record { ids = leb-true _ _ (both_left _ _ (both_right _ _ h)); bytes = leb-true _ _ (both_right _ _ (both_right _ _ h)) }

pub small : (z : Sizes) → sizes_in_range largest z ≡ true → Small z
unfolding sizes_in_range strings_fit
small z h =
    let h2 = both_right _ _ h in
    let h3 = both_right _ _ h2 in
    let s = both_right _ _ h3 in
    record {
      nodes = small_kind z.nodes (both_left _ _ h);
      ways = small_kind z.ways (both_left _ _ h2);
      relations = small_kind z.relations (both_left _ _ h3);
      strings = leb-true _ _ (both_left _ _ (both_right _ _ s));
      string_bytes = leb-true _ _ (both_right _ _ (both_right _ _ s));
    }

-- one string is lent at least
pub one_string : (z : Sizes) → sizes_in_range largest z ≡ true → 1 ≤ z.strings
unfolding sizes_in_range strings_fit
one_string z h = leb-true _ _ (both_left _ _ (both_right _ _ (both_right _ _ (both_right _ _ h))))
