-- What `intern` goes by: a text that is stored, and the chains that it takes.
use mathlib.Core.Path.{◌≡◌}
use mathlib.Core.Bool.{true}
use Rattle.base.specs.Bytes.{Bytes}
use Rattle.base.proofs.Split.{both_left, both_right}
use Rattle.interner.specs.Sound.{texts_of}
use Rattle.text_index.specs.Chained.{HandleChains, none_chained, StoreChained}
use Rattle.text_index.proofs.Laws.{chained_none}
use Rattle.text.specs.Check.{is_text}
use Rattle.overlay.specs.Overlay.{Overlay}
use Rattle.overlay.specs.Sound.{is_sound}
use Rattle.overlay_store.specs.Calls.{Interning, store_text}
use Rattle.overlay_direct.specs.Calls.{intern_on}

-- a text that is stored
pub intern_text : (o : Overlay) (t : Bytes) → is_sound o ≡ true → is_text t ≡ true → (x : Interning) → x ≡ store_text t o → x ≡ intern_on t o
unfolding intern_on
intern_text o t e f x w = rw (e, f) w

-- no chains serve for strings that are sound
pub no_chains_given : (c : HandleChains) → c ≡ none_chained → (o : Overlay) → is_sound o ≡ true → StoreChained c o.texts
unfolding is_sound
no_chains_given c e o s = rw e (record { sound = both_left _ _ (both_right _ _ s); chains = chained_none (texts_of o.texts) })
