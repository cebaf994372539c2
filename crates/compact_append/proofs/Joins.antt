-- What an append leaves, and that the record which was pushed is read from the view of it.
use Rattle.std.specs.Prelude.{None, Some}
use Prim.Native.Nat.{ℕ, ◌+◌, ◌-◌, ◌≤◌, ◌<◌}
use mathlib.Core.Path.{◌≡◌, refl, sym, ◌∙◌, ap}
use mathlib.Core.Bool.{true}
use mathlib.Core.List.{[], ◌++◌, append-nil}
use native.Mathlib.Omega.{arith}
use lib.ListN.{length, take, drop}
use Rattle.base.specs.Bytes.{Bytes, all}
use Rattle.base.proofs.Split.{by_le, no}
use Rattle.little.specs.Little.{is_byte, over}
use Rattle.little.proofs.Overs.{length_over, take_over, drop_over, read_back, used_over}
use Rattle.kind.specs.declared.Kind.{Kind}
use Rattle.model.specs.Record.{Meta, Record}
use Rattle.compact.specs.Layout.{Head}
use Rattle.compact.specs.Cut.{pushed_record}
use Rattle.compact.specs.Fits.{fits_head, fits_meta}
use Rattle.compact.specs.Legal.{legal_texts}
use Rattle.compact_append.specs.Append.{record_written, ArenaAfter, append}
use Rattle.compact_append.proofs.Writes.{fits_is, full_is}
use Rattle.compact.proofs.Cuts.{pushed_bytes}
use Rattle.compact.proofs.Back.{Found, read_record_lem}

-- the bytes t stand from the used ones on up to `end`, and all else is as it was
pub record Joined (s : Bytes) (used : ℕ) (t a : Bytes) (end : ℕ) : Type 0 where
  pub end_is : end ≡ used + length t
  pub room : end ≤ length s
  pub same_length : length a ≡ length s
  pub before : take used a ≡ take used s
  pub view : take (end - used) (drop used a) ≡ t
  pub after : drop end a ≡ drop end s
  pub used_bytes : take end a ≡ take used s ++ t

module _ (s : Bytes) (used : ℕ) (t a : Bytes) where
  joined_over : used + length t ≤ length s → Joined s used t (over s used t) (used + length t)
  joined_over h =
      let n : used + length t - used ≡ length t = omega arith in
      record {
        end_is = refl;
        room = h;
        same_length = length_over s used t;
        before = take_over used s used t (omega arith);
        view = rw n (read_back s used t h);
        after = drop_over (used + length t) s used t (omega arith);
        used_bytes = used_over s used t h;
      }

  pub appended : (end : ℕ) → append s used t ≡ record { arena = a; answer = Some end } → Joined s used t a end
  appended end e =
      let x = ap (λ (z : ArenaAfter). z.arena) e in
      let y = ap (λ (z : ArenaAfter). z.answer) e in
      by_le (used + length t) (length s)
      (λ h. let v : over s used t ≡ a = sym (ap (λ (z : ArenaAfter). z.arena) (fits_is s used t h)) ∙ x in
      let w : Some (used + length t) ≡ Some end = sym (ap (λ (z : ArenaAfter). z.answer) (fits_is s used t h)) ∙ y in
      let u : used + length t ≡ end = cc in rw (← v, ← u) (joined_over h))
      (λ h. let w : None ≡ Some end = sym (ap (λ (z : ArenaAfter). z.answer) (full_is s used t h)) ∙ y in no cc)

  -- 15: nothing has changed, and there was no room
  pub refused : append s used t ≡ record { arena = a; answer = None } → (a ≡ s) × (length s < used + length t)
  refused e =
      let x = ap (λ (z : ArenaAfter). z.arena) e in
      let y = ap (λ (z : ArenaAfter). z.answer) e in
      by_le (used + length t) (length s)
      (λ h. let w : Some (used + length t) ≡ None = sym (ap (λ (z : ArenaAfter). z.answer) (fits_is s used t h)) ∙ y in no cc)
      (λ h. (sym x ∙ ap (λ (z : ArenaAfter). z.arena) (full_is s used t h), h))

-- T6 through the view: the record that a push's head, metadata and parts make is read from the bytes that its append wrote
pub read_view : (k : Kind) (h : Head) (m : Meta ℕ) (parts : Bytes) (r : Record ℕ) (s : Bytes) (used : ℕ) (a : Bytes) (end : ℕ)
    → all is_byte parts ≡ true → fits_head k h ≡ true → fits_meta m ≡ true → pushed_record k h m parts ≡ Some r → legal_texts r ≡ true
    → append s used (record_written k h m parts) ≡ record { arena = a; answer = Some end } → Found h.id r (take (end - used) (drop used a))
read_view k h m parts r s used a end b f g p l e =
    let w = pushed_bytes k h m parts r b f g p in
    let j = appended s used (record_written k h m parts) a end e in
    rw (j.view, w.0) (rw append-nil at (read_record_lem h.id r [] w.1 l))
