-- What the loop over texts needs, apart from what they come to (Calls): what is tested once for all of them.
use Rattle.std.specs.Prelude.{◌≡◌, true, List}
use Rattle.base.specs.Bytes.{Bytes, all}
use Rattle.little.specs.Little.{is_byte}
use Rattle.overlay.specs.Overlay.{Overlay}
use Rattle.overlay.specs.Given.{InBytes}
use Rattle.overlay.specs.Sound.{is_sound}

-- a sound overlay and texts, all of bytes
pub record TextsGiven (ts : List Bytes) (o : Overlay) : Type 0 where
  pub sound : is_sound o ≡ true
  pub overlay : InBytes o
  pub texts : all (all is_byte) ts ≡ true
