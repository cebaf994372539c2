-- Document 01, "Sound", of an overlay: "counts within lent sizes; string spans within the used bytes, legal text, no two texts equal, handle 0 empty; each arena's
-- used bytes whole records that pass 3, 10, 16, 17, end to end; every handle held; known ids strictly in OSM order, each live with an offset where a record
-- of that id starts, or deleted". A lent size that set-up would refuse is unsound too.
use Rattle.std.specs.Prelude.{◌≡◌, Bool, true}
use Rattle.base.specs.Bytes.{both}
use Rattle.kind.specs.declared.Kind.{Kind}
use Rattle.kind.specs.declared.Kind.TheVariants.{Node, Way, Relation}
use Rattle.interner.specs.Sound.{sound_strings}
use Rattle.kind_sound.specs.Sound.{SoundKindStore}
use Rattle.kind_sound.specs.Check.{sound_kind_store}
use Rattle.overlay_blocks.specs.Sizes.{largest}
use Rattle.overlay.specs.Overlay.{Overlay, kind_store_of, sizes_fit}

pub record Sound (o : Overlay) : Type 0 where
  pub sizes : sizes_fit largest o ≡ true
  pub strings : sound_strings o.texts ≡ true
  pub kind_stores : (k : Kind) → SoundKindStore o.texts.strings k (kind_store_of k o)

-- the same as a test, total for any storage; proofs/Decides shows that it holds exactly where the overlay is sound
abbrev pub sound_of : Kind → Overlay → Bool
sound_of k o = sound_kind_store o.texts.strings k (kind_store_of k o)

unfoldable pub kind_stores_sound : Overlay → Bool
kind_stores_sound o = both (sound_of Node o) (both (sound_of Way o) (sound_of Relation o))

unfoldable pub is_sound : Overlay → Bool
is_sound o = both (sizes_fit largest o) (both (sound_strings o.texts) (kind_stores_sound o))
