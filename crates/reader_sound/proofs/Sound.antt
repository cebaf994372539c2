-- The soundness of a reader, test by test, and what it gives the steps of an event.
use Rattle.std.specs.Prelude.{is_ok}
use Prim.Native.Nat.{ℕ, ◌<◌, ◌≤◌}
use mathlib.Core.Path.{◌≡◌}
use mathlib.Core.Bool.{true, false}
use native.Mathlib.Omega.{arith}
use lib.ListN.{length, take}
use borrow.Author.Tests.{ltb-true, leb-true, le-leb, lt-leb}
use Rattle.base.specs.Bytes.{Bytes, both}
use Rattle.base.proofs.Split.{both_left, both_right}
use Rattle.kind.specs.declared.Kind.{Kind}
use Rattle.compact.specs.Cut.{pushed_record}
use Rattle.compact.specs.Held.{meta_of, head_in}
use Rattle.compact_legal.specs.Judge.{fault_for}
use Rattle.overlay.specs.Sound.{is_sound}
use Rattle.reader.proofs.Acts.{strings_few}
use Rattle.reader.specs.declared.Pending.{Pending}
use Rattle.reader.specs.State.{State, pending_record, pending_sound, reader_sound, state_sound}

module _ (strings : ℕ) (k : Kind) (parts : Bytes) (x : Pending) where
  pub pending_faulted : x.used ≤ length parts → is_ok (fault_for strings (pushed_record k (head_in k x.head) (meta_of x.meta) (take x.used parts))) ≡ pending_sound strings k parts x
  unfolding pending_sound pending_record both
  pending_faulted h = rw (le-leb x.used (length parts) h)

  pub pending_beyond : length parts < x.used → false ≡ pending_sound strings k parts x
  unfolding pending_sound pending_record both
  pending_beyond h = rw (lt-leb x.used (length parts) h)

-- ---- what soundness gives

module _ (s : State) (e : state_sound s ≡ true) where
  sound_reader : reader_sound s ≡ true
  unfolding state_sound
  sound_reader = both_right _ _ e

  pub sound_overlay : is_sound s.overlay ≡ true
  unfolding state_sound
  sound_overlay = both_left _ _ e

  -- the staged parts lie within the lent bytes
  pub sound_used : s.reader.pending.used ≤ length s.parts
  unfolding reader_sound pending_sound
  sound_used = leb-true _ _ (both_left _ _ (both_left _ _ sound_reader))

  -- there is a next line
  pub sound_lines : s.reader.lines < 18446744073709551615
  unfolding reader_sound
  sound_lines = ltb-true _ _ (both_right _ _ sound_reader)

  -- a handle fits 32 bits
  pub sound_strings_lem : s.overlay.texts.strings < 4294967296
  sound_strings_lem = omega (arith, strings_few s.overlay sound_overlay)
