-- The call is refused by the first condition of its table that holds, and answered where none holds; at a refusal both lists are as they were.
use Prim.Native.Nat.{ℕ, min}
use mathlib.Core.Path.{◌≡◌}
use mathlib.Core.List.{List}
use lib.ListN.{length}
use borrow.Author.Tests.{le-leb, lt-leb, lt-ltb, le-ltb}
use Rattle.base.proofs.Split.{by_bool, by_le}
use Rattle.kind.specs.declared.Kind.{Kind}
use Rattle.refusal.specs.First.{first_of}
use Rattle.kind_reading.specs.declared.Side.{Side}
use Rattle.overlay.specs.Overlay.{Overlay, kind_store_of}
use Rattle.overlay.specs.Sound.{is_sound}
use Rattle.overlay_reading.specs.Reading.{count_in, count_on}
use Rattle.overlay_reading.specs.First.{read_refusal}
use Rattle.overlay_ids.specs.Bulk.{all_ids_on}
use Rattle.overlay_ids.specs.First.{all_ids_table}

module _ (k : Kind) (side : Side) (ids versions : List ℕ) (o : Overlay) where
  pub all_ids_first : read_refusal (all_ids_on k side ids versions o).answer ≡ first_of (all_ids_table k side ids versions o)
  unfolding first_of all_ids_on count_on
  all_ids_first =
      let n = count_in side (kind_store_of k o) in
      let m = min (length ids) (length versions) in
      by_bool (is_sound o)
      (λ s. by_le n m (λ h. rw (s, le-leb n m h, le-ltb m n h)) (λ h. rw (s, lt-leb n m h, lt-ltb m n h)))
      (λ s. rw s)
