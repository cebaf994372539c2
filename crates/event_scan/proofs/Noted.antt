-- The names of a text's attributes by their places in it, and whether they are distinct.
use Prim.Native.Nat.{ℕ, ◌+◌, ◌-◌, ◌<◌, ◌≤◌}
use mathlib.Core.Path.{◌≡◌, sym, ◌∙◌, ap}
use mathlib.Core.List.{List, [], ◌∷◌, ◌++◌, append-nil}
use native.Mathlib.Numerals.{add-one}
use native.Mathlib.Omega.{arith}
use lib.ListN.{length, take, drop, set}
use lib.Seq.{slice, take-suc-set, take-take, append_snoc}
use Rattle.base.specs.Bytes.{Bytes}
use Rattle.base.proofs.Lists.{slice_take}
use Rattle.base.proofs.Split.{by_le}
use Rattle.distinct.specs.Distinct.{run_in, runs_in}
use Rattle.event_scan.specs.Names.{names_of}
use Rattle.event_scan.specs.Parts.{attributes_in}
use Rattle.event_scan.specs.Scan.{UpTo, fields_at}
use Rattle.event_scan.proofs.Names.{runs_snoc}
use Rattle.event_scan.proofs.Places.{up_within, tab_at, tab_within, field_here, field_length, fields_past}

-- ---- the field at a place

pub record Placed (t : Bytes) (at : ℕ) (f : Bytes) (gs : List Bytes) : Type 0 where
  pub within : at + length f ≤ length t
  pub field : f ≡ take (length f) (drop at t)
  pub rest : gs ≡ fields_at t (at + (length f + 1))

pub placed : (t : Bytes) (at : ℕ) (f : Bytes) (gs : List Bytes) → fields_at t at ≡ f ∷ gs → Placed t at f gs
placed t at f gs e =
    by_le at (length t)
    (λ h. let z : slice at (tab_at t at) t ∷ fields_at t (tab_at t at + 1) ≡ f ∷ gs = sym (field_here t at h) ∙ e in
    let x : slice at (tab_at t at) t ≡ f = cc in
    let y : fields_at t (tab_at t at + 1) ≡ gs = cc in
    let l : length f ≡ tab_at t at - at = ap length (sym x) ∙ field_length t at h in
    let w = tab_within t at h in
    let to : at + length f ≡ tab_at t at = omega arith in
    let on : at + (length f + 1) ≡ tab_at t at + 1 = omega arith in
    record { within = rw to w; field = sym x ∙ rw (← to) (slice_take at (length f) t); rest = rw on (sym y) })
    (λ h. let z : [] ≡ f ∷ gs = sym (fields_past t at h) ∙ e in absurd (cc))

-- ---- the name of a field

module _ (t : Bytes) (at : ℕ) (f : Bytes) (gs : List Bytes) (p : Placed t at f gs) where
  pub name_placed : take (UpTo 61 f) (drop at t) ≡ take (UpTo 61 f) f
  name_placed = sym (ap (take (UpTo 61 f)) p.field ∙ take-take (UpTo 61 f) (length f) (drop at t) (up_within 61 f))

-- ---- names noted so far, and those behind them

module _ (t : Bytes) (words : List ℕ) (n : ℕ) (names : List Bytes) where
  pub noted_end : (fs : List Bytes) → fs ≡ [] → names ≡ runs_in t (take n words) ++ names_of (attributes_in fs) → names ≡ runs_in t (take n words)
  unfolding names_of
  noted_end fs e q = q ∙ rw e (append-nil (runs_in t (take n words)))

  pub noted_more : (fs : List Bytes) (f : Bytes) (gs : List Bytes) → fs ≡ f ∷ gs → names ≡ runs_in t (take n words) ++ names_of (attributes_in fs)
      → (w : ℕ) → n < length words → run_in t w ≡ take (UpTo 61 f) f → names ≡ runs_in t (take (n + 1) (set words n w)) ++ names_of (attributes_in gs)
  unfolding names_of
  noted_more fs f gs e q w h r =
      q ∙ rw (e, add-one, take-suc-set words n w h, runs_snoc t (take n words) w, r)
      (sym (append_snoc (runs_in t (take n words)) (take (UpTo 61 f) f) (names_of (attributes_in gs))))
