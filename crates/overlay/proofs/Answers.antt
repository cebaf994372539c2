-- The parts of an overlay; and what each answer of set-up and of the regression setting means: a refusal is of the place that refuses, and changes nothing.
use Rattle.std.specs.Prelude.{Err, Ok, Result}
use Prim.Native.Nat.{ℕ}
use mathlib.Core.Path.{◌≡◌, refl, sym, ◌∙◌, ap}
use mathlib.Core.Bool.{true, false}
use mathlib.Core.List.{List, []}
use native.Mathlib.Omega.{arith}
use lib.ListN.{length, drop}
use lib.Seq.{drop-cons, drop-length}
use Rattle.base.proofs.Split.{by_bool, both_left, both_right, no, clash}
use Rattle.kind.specs.declared.Kind.{Kind}
use Rattle.kind.specs.declared.Kind.TheVariants.{Node, Way, Relation}
use Rattle.refusal.specs.declared.Refusal.{Refusal}
use Rattle.refusal.specs.declared.Refusal.TheVariants as R
use Rattle.interner.proofs.Interns as Interns
use Rattle.kind_store.specs.KindStore.{taken_in}
use Rattle.overlay_blocks.specs.Sizes.{largest}
use Rattle.overlay.specs.Overlay.{Overlay, counters_of, kind_store_of, with_kind_store, with_setting, with_sizes, sizes_fit, empty}
use Rattle.overlay.specs.Lent.{overlay_in}
use Rattle.overlay_blocks.specs.declared.Sizes.{Sizes}
use Rattle.overlay.specs.Sound.{is_sound}
use Rattle.overlay.specs.Calls.{OverlayAfter, overlay_refused, set_up, allow_on}

-- ---- the parts of an overlay

-- the counters of what is lent are the counters lent
pub kept_counters : (words bytes counters : List ℕ) → length counters ≡ 17 → counters_of (overlay_in words bytes counters) ≡ counters
kept_counters words bytes counters e =
    let z : drop 17 counters ≡ [] = rw e at (drop-length counters) in
    cc (
      drop-cons counters 0 0 (omega arith),
      drop-cons counters 1 0 (omega arith),
      drop-cons counters 2 0 (omega arith),
      drop-cons counters 3 0 (omega arith),
      drop-cons counters 4 0 (omega arith),
      drop-cons counters 5 0 (omega arith),
      drop-cons counters 6 0 (omega arith),
      drop-cons counters 7 0 (omega arith),
      drop-cons counters 8 0 (omega arith),
      drop-cons counters 9 0 (omega arith),
      drop-cons counters 10 0 (omega arith),
      drop-cons counters 11 0 (omega arith),
      drop-cons counters 12 0 (omega arith),
      drop-cons counters 13 0 (omega arith),
      drop-cons counters 14 0 (omega arith),
      drop-cons counters 15 0 (omega arith),
      drop-cons counters 16 0 (omega arith),
    )

-- a kind store that is put back changes nothing
pub kind_store_back : (k : Kind) (o : Overlay) → with_kind_store k (kind_store_of k o) o ≡ o
kind_store_back Node o = refl
kind_store_back Way o = refl
kind_store_back Relation o = refl

-- an act is taken or refused
pub by_kept : {C : Type 0} (x : Result Unit Refusal) → (taken_in x ≡ true → C) → ((r : Refusal) → x ≡ Err r → C) → C
by_kept (Ok tt) f g = f refl
by_kept (Err r) f g = g r refl

pub is_taken : (x : Result Unit Refusal) → taken_in x ≡ true → x ≡ (Ok tt)
is_taken (Ok tt) e = refl
is_taken (Err r) e = no (cc)

-- an answer, by what the whole is
pub answered : {a : OverlayAfter} {t : Overlay} {x y : Result Unit Refusal} → a ≡ record { overlay = t; answer = x } → a.answer ≡ y → x ≡ y
answered {a} e f = sym (ap (λ (z : OverlayAfter). z.answer) e) ∙ f

pub taken_as : {a : OverlayAfter} {t : Overlay} {x : Result Unit Refusal} → a ≡ record { overlay = t; answer = x } → taken_in a.answer ≡ true → taken_in x ≡ true
taken_as {a} e f = sym (ap (λ (z : OverlayAfter). taken_in z.answer) e) ∙ f

-- ---- set-up

module _ (z : Sizes) (setting : ℕ) (o : Overlay) where
  -- set-up is refused 1, or taken
  pub by_set_up : {C : Type 0}
      → (sizes_fit largest (with_sizes z o) ≡ false → set_up z setting o ≡ overlay_refused o R.Size → C)
      → (sizes_fit largest (with_sizes z o) ≡ true → set_up z setting o ≡ record { overlay = empty setting (with_sizes z o); answer = (Ok tt) } → C) → C
  unfolding set_up
  by_set_up f g = by_bool (sizes_fit largest (with_sizes z o)) (λ e. g e (rw e)) (λ e. f e (rw e))

  -- a refusal changes nothing
  pub setup_refused : (r : Refusal) → (set_up z setting o).answer ≡ Err r → (set_up z setting o).overlay ≡ o
  setup_refused r e = by_set_up (λ s w. ap (λ (w : OverlayAfter). w.overlay) w) (λ s w. let v = answered w e in no (cc))

  -- 1 exactly where a lent size is outside, and no other refusal
  pub setup_1 : sizes_fit largest (with_sizes z o) ≡ false → (set_up z setting o).answer ≡ Err R.Size
  setup_1 e = by_set_up (λ s w. ap (λ (w : OverlayAfter). w.answer) w) (λ s w. clash s e)

  pub setup_1_only : (r : Refusal) → (set_up z setting o).answer ≡ Err r → (r ≡ R.Size) × (sizes_fit largest (with_sizes z o) ≡ false)
  setup_1_only r e = by_set_up (λ s w. let v = answered w e in (cc, s)) (λ s w. let v = answered w e in no (cc))

  pub setup_taken : taken_in (set_up z setting o).answer ≡ true → (sizes_fit largest (with_sizes z o) ≡ true) × ((set_up z setting o).overlay ≡ empty setting (with_sizes z o))
  setup_taken e = by_set_up (λ s w. let v : false ≡ true = taken_as w e in no (cc)) (λ s w. (s, ap (λ (w : OverlayAfter). w.overlay) w))

-- ---- the regression setting

module _ (setting : ℕ) (o : Overlay) where
  -- it is refused 22, or taken
  pub by_allow : {C : Type 0}
      → (is_sound o ≡ false → allow_on setting o ≡ overlay_refused o R.Unsound → C)
      → (is_sound o ≡ true → allow_on setting o ≡ record { overlay = with_setting setting o; answer = (Ok tt) } → C) → C
  unfolding allow_on
  by_allow f g = by_bool (is_sound o) (λ e. g e (rw e)) (λ e. f e (rw e))

  -- a refusal changes nothing
  pub allow_refused : (r : Refusal) → (allow_on setting o).answer ≡ Err r → (allow_on setting o).overlay ≡ o
  allow_refused r e = by_allow (λ s w. ap (λ (z : OverlayAfter). z.overlay) w) (λ s w. let z = answered w e in no (cc))

  -- 22 exactly where the overlay is unsound, and no other refusal
  pub allow_22 : is_sound o ≡ false → (allow_on setting o).answer ≡ Err R.Unsound
  allow_22 e = by_allow (λ s w. ap (λ (z : OverlayAfter). z.answer) w) (λ s w. clash s e)

  pub allow_22_only : (r : Refusal) → (allow_on setting o).answer ≡ Err r → (r ≡ R.Unsound) × (is_sound o ≡ false)
  allow_22_only r e = by_allow (λ s w. let z = answered w e in (cc, s)) (λ s w. let z = answered w e in no (cc))

  -- an accepted one stores the setting, and nothing else changes
  pub allow_taken : taken_in (allow_on setting o).answer ≡ true → (is_sound o ≡ true) × ((allow_on setting o).overlay ≡ with_setting setting o)
  allow_taken e =
      by_allow (λ s w. let z : false ≡ true = taken_as w e in no (cc)) (λ s w. (s, ap (λ (z : OverlayAfter). z.overlay) w))

-- ---- the strings

-- the strings of what the test accepts
pub strings_sound : (o : Overlay) → is_sound o ≡ true → Interns.Sound o.texts
unfolding is_sound
strings_sound o e = Interns.sound_parts o.texts (both_left _ _ (both_right _ _ e))
