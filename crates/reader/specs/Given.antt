-- What a reader's numbers and the bytes lent to it always are: within the bounds of their types, and as many as the parts of an element within the limits take.
use Rattle.std.specs.Prelude.{◌≡◌, true, length}
use Rattle.base.specs.Bytes.{Bytes, all}
use Rattle.little.specs.Little.{is_byte}
use Rattle.overlay.specs.Given.{InBytes, head_fits, meta_fits}
use Rattle.reader.specs.declared.EventReader.{EventReader}
use Rattle.reader.specs.State.{State}

-- 2,000 members of 13 bytes, 256 tags of 8 and 16,384 value bytes
pub record ReaderGiven (r : EventReader) (parts : Bytes) : Type 0 where
  pub head : head_fits r.pending.head ≡ true
  pub meta : meta_fits r.pending.meta ≡ true
  pub bytes : all is_byte parts ≡ true
  pub room : length parts ≡ 44432

pub record StateGiven (s : State) : Type 0 where
  pub overlay : InBytes s.overlay
  pub reader : ReaderGiven s.reader s.parts
