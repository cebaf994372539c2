-- A record's view: it ends past its start.
use Rattle.std.specs.Prelude.{None, Ok, Option, Some}
use Prim.Native.Nat.{ℕ, zero, suc, ◌+◌, ◌-◌, ◌<◌, ◌≤◌, min}
use mathlib.Core.Path.{◌≡◌, refl, sym, ◌∙◌, ap}
use mathlib.Core.List.{[], ◌∷◌}
use native.Mathlib.Omega.{arith}
use lib.ListN.{length, take, drop, length-append, length-take, length-drop}
use lib.Seq.{take_all, take-length, take-take, take-append_seam}
use Rattle.base.specs.Bytes.{Bytes}
use Rattle.base.proofs.Split.{by_le, no}
use Rattle.kind.specs.declared.Kind.{Kind}
use Rattle.compact.specs.Cut.{KeptRecord}
use Rattle.compact.specs.Legal.{legal}
use Rattle.compact_legal.specs.Judge.{record_end}
use Rattle.compact_legal.specs.Whole.{kept_bytes, Whole, record_at}
use Rattle.compact_legal.proofs.Wholes.{kept_long}
use Rattle.compact_legal.proofs.Starts.{record_passes, bytes_there, start_ends}
use Rattle.compact_legal.proofs.Fronts.{end_tells, end_past}
use Rattle.kind_reading.specs.Listed.{view_to, view_at}

pub end_later : (strings : ℕ) (k : Kind) (s : Bytes) (at e : ℕ) → Some e ≡ record_end strings k s at → at < e
end_later strings k s at e t =
    by_le at (length s)
    (λ l. (end_tells strings k s at l e (sym t)).1.1.1.1.0)
    (λ l. let z : None ≡ Some e = end_past strings k s at (omega arith) ∙ sym t in no (cc))

-- the used bytes, as far as the arena goes
take_most : (n : ℕ) (s : Bytes) → take (min n (length s)) s ≡ take n s
take_most n s =
    by_le n (length s)
    (λ l. let e : min n (length s) ≡ n = omega arith in rw e)
    (λ l. let e : min n (length s) ≡ length s = omega arith in rw e (take-length s ∙ sym (take_all n s (omega arith))))

pub view_to_lem : (strings : ℕ) (k : Kind) (arena : Bytes) (used at n : ℕ) (x : Option ℕ) → n ≡ min used (length arena) → x ≡ record_end strings k (take n arena) at
    → view_to at x ≡ view_at strings k arena used at
unfolding view_at
view_to_lem strings k arena used at n x e h = ap (view_to at) (h ∙ ap (λ s. record_end strings k s at) (ap (λ m. take m arena) e ∙ take_most used arena))

-- a part of the used bytes
pub part_used : (at n used : ℕ) (s : Bytes) → at + n ≤ used → take n (drop at (take used s)) ≡ take n (drop at s)
part_used zero n used s h = take-take n used s (omega arith)
part_used (suc at) n zero s h = absurd (omega arith)
part_used (suc at) n (suc used) [] h = refl
part_used (suc at) n (suc used) (b ∷ s) h = part_used at n used s (omega arith)

-- ---- in an arena of whole records the view at a start is its record

module _ (strings : ℕ) (k : Kind) (arena : Bytes) (used : ℕ) (w : Whole strings k (take used arena)) (at : ℕ) (x : KeptRecord) (h : record_at at w.kept ≡ Some x) where
  pub view_is : view_at strings k arena used at ≡ Ok (Some (record { start = at; len = length (kept_bytes x) }))
  unfolding view_at
  view_is =
      let l = record_passes (λ (y : KeptRecord). legal strings y.held) at w.kept x w.legals h in
      let e : at + length (kept_bytes x) - at ≡ length (kept_bytes x) = omega arith in
      rw (w.same, start_ends k strings at w.kept x w.fits h l, e)

  -- it lies within the used bytes
  pub view_within : at + length (kept_bytes x) ≤ length (take used arena)
  view_within =
      let b = bytes_there k at w.kept x w.fits h in
      let n = kept_long x in
      let m = length-append (kept_bytes x) b.0 in
      let d = length-drop at (take used arena) in
      let e = ap length (ap (drop at) w.same ∙ b.1.0) in
      omega arith

  -- its bytes are those of the record
  pub view_bytes : take (length (kept_bytes x)) (drop at arena) ≡ kept_bytes x
  view_bytes =
      let b = bytes_there k at w.kept x w.fits h in
      let n = view_within in
      let m = length-take used arena in
      sym (part_used at (length (kept_bytes x)) used arena (omega arith)) ∙ rw (w.same, b.1.0) (take-append_seam (kept_bytes x) b.0)
