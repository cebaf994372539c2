-- What a caller of the library is told.
use Rattle.reader.specs.declared.RefusedAt.{RefusedAt}
use Rattle.std.specs.Prelude.{ℕ, ℤ, Err, Ok, Result}
use Rattle.std.specs.Int.{w64}
use Rattle.std.proofs.Common.{to_z}
use Rattle.refusal.specs.Refusal.{number_of, held_of}
use Rattle.refusal.specs.declared.Refusal.{Refusal}
use Rattle.compact.specs.Held.{meta_of}
use Rattle.overlay.specs.Calls.{allow_on}
use Rattle.overlay_direct.specs.Calls.{push_on, delete_on, intern_on}
use Rattle.reader.specs.Event.{event_on, end_on}
use Rattle.calls.specs.Ask.{Ask, interns, pushes, deletes, reads, ends, allows, Storage, state_of}

-- a handle; that the call was done; or a refusal's number and HELD. LINE has no counterpart in the Rust.
pub data Told : Type 0 where
  handle : ℕ → Told
  done : Told
  refused : ℕ → ℤ → Told

abbrev pub refused_told : Refusal → Told
refused_told r = refused (number_of r) (held_of r)

abbrev pub handle_told : Result ℕ Refusal → Told
handle_told (Ok n) = handle n
handle_told (Err r) = refused_told r

abbrev pub kept_told : Result Unit Refusal → Told
kept_told (Ok tt) = done
kept_told (Err r) = refused_told r

abbrev pub answer_told : Result Unit RefusedAt → Told
answer_told (Ok tt) = done
answer_told (Err a) = refused_told a.refusal

abbrev pub told : Ask → Storage → Told
told (interns t) l = handle_told (intern_on t l.overlay).answer
told (pushes k h m parts) l = kept_told (push_on k h m parts l.overlay).answer
told (deletes k id m) l = kept_told (delete_on k (to_z w64 id) (meta_of m) l.overlay).answer
told (reads n line) l = answer_told (event_on line (state_of n l)).answer
told (ends n) l = answer_told (end_on (state_of n l)).answer
told (allows setting) l = kept_told (allow_on setting l.overlay).answer
