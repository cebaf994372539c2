-- The test decides `Sound` of an overlay, both ways.
use mathlib.Core.Path.{◌≡◌}
use mathlib.Core.Logic.{◌↔◌}
use mathlib.Core.Bool.{true}
use Rattle.base.proofs.Split.{both_left, both_right, both_of}
use Rattle.kind.specs.declared.Kind.{Kind}
use Rattle.kind.specs.declared.Kind.TheVariants.{Node, Way, Relation}
use Rattle.kind_sound.proofs.Decides as KindStore
use Rattle.overlay.specs.Overlay.{Overlay, kind_store_of}
use Rattle.overlay.specs.Given.{InBytes}
use Rattle.overlay.specs.Sound.{Sound, sound_of, kind_stores_sound, is_sound}

module _ (o : Overlay) where
  each_sound : kind_stores_sound o ≡ true → (k : Kind) → sound_of k o ≡ true
  unfolding kind_stores_sound
  each_sound h Node = both_left _ _ h
  each_sound h Way = both_left _ _ (both_right _ _ h)
  each_sound h Relation = both_right _ _ (both_right _ _ h)

  all_sound : ((k : Kind) → sound_of k o ≡ true) → kind_stores_sound o ≡ true
  unfolding kind_stores_sound
  all_sound h = both_of (h Node) (both_of (h Way) (h Relation))

  accepted : InBytes o → is_sound o ≡ true → Sound o
  unfolding is_sound
  accepted b h =
      let u = both_right _ _ h in
      record {
        sizes = both_left _ _ h;
        strings = both_left _ _ u;
        kind_stores = λ k. (KindStore.decides o.texts.strings k (kind_store_of k o) (b.arenas k)).0 (each_sound (both_right _ _ u) k);
      }

  kept : InBytes o → Sound o → is_sound o ≡ true
  unfolding is_sound
  kept b w =
      both_of w.sizes (both_of w.strings
      (all_sound (λ k. (KindStore.decides o.texts.strings k (kind_store_of k o) (b.arenas k)).1 (w.kind_stores k))))

  -- the test accepts what is sound, and nothing else
  pub decides : InBytes o → (is_sound o ≡ true) ↔ Sound o
  decides b = (accepted b, kept b)
