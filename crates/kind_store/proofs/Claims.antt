-- The version that a record claims: read from bytes that stay, from a record that was joined, and of 32 bits.
use Rattle.std.specs.Prelude.{None, Option, Some}
use Prim.Native.Nat.{ℕ, ◌+◌, ◌^◌, ◌<◌, ◌≤◌}
use mathlib.Core.Path.{◌≡◌, refl, sym, ◌∙◌, ap}
use mathlib.Core.Bool.{true}
use mathlib.Core.List.{◌++◌, append_assoc}
use native.Mathlib.Omega.{arith}
use lib.IntN.{ℤ}
use lib.ListN.{length, take, drop}
use lib.Seq.{take-take, take-add, drop-drop, take_at, drop_at, drop-append_seam, length-take-le}
use mir.Syntax.{w32}
use mir.Val.{SFits, of_z, to_z}
use mir.Facts.{Fits-of_lt, sfits_to_z}
use borrow.Author.Tests.{ltb-true}
use Rattle.base.specs.Bytes.{Bytes, all}
use Rattle.base.proofs.Split.{by_bool, both_left, both_right, no}
use Rattle.little.specs.Little.{is_byte, le, value, value_at, over}
use Rattle.little.proofs.Littles.{length_le, value_at_within, value_back}
use Rattle.little.proofs.Overs.{over_fits}
use Rattle.kind.specs.declared.Kind.{Kind}
use Rattle.version_floor.specs.Version.{higher}
use Rattle.version_floor.proofs.Versions.{by_higher}
use Rattle.model.specs.Record.{Meta, flagged, claim_of}
use Rattle.compact.specs.Layout.{Head, head_len, head_bytes, meta_bytes}
use Rattle.compact.specs.Held.{meta_of}
use Rattle.compact.specs.View.{meta_at}
use Rattle.compact.specs.Fits.{fits_number, fits_signed, fits_meta}
use Rattle.compact.proofs.Format.{signed_again}
use Rattle.compact.proofs.Lengths.{length_head}
use Rattle.kind_store.specs.KindStore.{version_at}

-- ---- the version that a record claims

-- a number within bytes that two arenas share
value_same : (n : ℕ) (a b : Bytes) (used at : ℕ) → at + n ≤ used → take used a ≡ take used b → value_at n a at ≡ value_at n b at
unfolding value_at
value_same n a b used at h e =
    let cut : (m : ℕ) → m ≤ used → take m a ≡ take m b = λ m l. sym (take-take m used a l) ∙ ap (take m) e ∙ take-take m used b l in
    let part : (l : Bytes) → take n (drop at l) ≡ drop (length (take at l)) (take (at + n) l) = λ l. rw (take-add at n l) (sym (drop-append_seam (take at l) (take n (drop at l)))) in
    ap value (part a ∙ rw (cut at (omega arith), cut (at + n) h) (sym (part b)))

pub version_same : (k : Kind) (a b : Bytes) (used offset : ℕ) → offset + (head_len k + 29) ≤ used → take used a ≡ take used b → version_at k a offset ≡ version_at k b offset
unfolding version_at claim_of meta_of meta_at
version_same k a b used offset h e =
    rw (value_same 1 a b used (offset + head_len k) (omega arith) e, value_same 4 a b used (offset + head_len k + 1) (omega arith) e)

-- the version of metadata that stands at an offset
claim_there : (s : Bytes) (at : ℕ) (m : Meta ℕ) (r : Bytes) → fits_meta m ≡ true → drop at s ≡ meta_bytes m ++ r → claim_of (meta_of (meta_at s at)) ≡ claim_of m
unfolding claim_of meta_of meta_at meta_bytes fits_meta fits_number value_at
claim_there s at m r h e =
    let g = signed_again w32 4 refl m.version (both_left _ _ (both_right _ _ h)) in
    let x = simp append_assoc at e in
    let f : value (take 1 (drop at s)) ≡ m.flags = rw (x, take_at (le 1 m.flags) _ 1 (length_le 1 m.flags)) (value_back 1 m.flags (ltb-true m.flags (256 ^ 1) (both_left _ _ h))) in
    let v : value (take 4 (drop (at + 1) s)) ≡ of_z w32 m.version =
    rw (← drop-drop, x, drop_at (le 1 m.flags) _ 1 (length_le 1 m.flags), take_at (le 4 (of_z w32 m.version)) _ 4 (length_le 4 (of_z w32 m.version)))
    (value_back 4 (of_z w32 m.version) (ltb-true (of_z w32 m.version) (256 ^ 4) g.1)) in
    rw (f, v, g.0)

behind_head : (k : Kind) (h : Head) (m : Meta ℕ) (parts rest : Bytes) → drop (head_len k) ((head_bytes k h ++ meta_bytes m ++ parts) ++ rest) ≡ meta_bytes m ++ (parts ++ rest)
behind_head k h m parts rest = simp append_assoc (drop_at (head_bytes k h) (meta_bytes m ++ (parts ++ rest)) (head_len k) (length_head k h))

-- a record that was joined claims its own version
pub version_joined : (k : Kind) (h : Head) (m : Meta ℕ) (parts s : Bytes) (used : ℕ) → fits_meta m ≡ true → used + length (head_bytes k h ++ meta_bytes m ++ parts) ≤ length s
    → version_at k (over s used (head_bytes k h ++ meta_bytes m ++ parts)) used ≡ claim_of m
unfolding version_at
version_joined k h m parts s used f l =
    let t = head_bytes k h ++ meta_bytes m ++ parts in
    let n : length (take used s) ≡ used = length-take-le used s (omega arith) in
    claim_there (over s used t) (used + head_len k) m (parts ++ drop (used + length t) s) f
    (rw (over_fits s used t l, ← drop-drop (head_len k) used, drop_at (take used s) (t ++ drop (used + length t) s) used n) (behind_head k h m parts (drop (used + length t) s)))

-- ---- versions are of 32 bits

abbrev pub Narrow : Option ℤ → Type 0
Narrow v = (x : ℤ) → v ≡ Some x → SFits w32 x

pub narrow_none : Narrow None
narrow_none x e = no (cc)

pub narrow_higher : (v w : Option ℤ) → Narrow v → Narrow w → Narrow (higher v w)
narrow_higher v w f g x e = by_higher v w (λ h. f x (sym h ∙ e)) (λ h. g x (sym h ∙ e))

-- of metadata that fits
pub given_claim : (m : Meta ℕ) → fits_meta m ≡ true → Narrow (claim_of m)
unfolding claim_of fits_meta fits_signed
given_claim m h x e =
    by_bool (flagged 8 m.flags)
    (λ t. let q : m.version ≡ x = cc (rw t at e) in rw (← q) (record { sfits = ltb-true _ _ (both_left _ _ (both_right _ _ h)) }))
    (λ t. no (cc (rw t at e)))

pub narrow_at : (k : Kind) (arena : Bytes) (offset : ℕ) → all is_byte arena ≡ true → Narrow (version_at k arena offset)
unfolding version_at claim_of meta_of meta_at
narrow_at k arena offset h x e =
    let n = value_at 4 arena (offset + head_len k + 1) in
    let l : n < 2 ^ 32 = value_at_within 4 arena (offset + head_len k + 1) h in
    by_bool (flagged 8 (value_at 1 arena (offset + head_len k)))
    (λ t. let d : to_z w32 n ≡ x = cc (rw t at e) in rw d at (sfits_to_z {w = w32} (Fits-of_lt l)))
    (λ t. no (cc (rw t at e)))
