-- Laws of an overlay by its parts, as the functions are lent them.
use Rattle.std.specs.Prelude.{Ok}
use Prim.Native.Nat.{ℕ, ◌-◌}
use mathlib.Core.Path.{◌≡◌, refl, ◌∙◌}
use mathlib.Core.Bool.{Bool, true, false}
use mathlib.Core.List.{List}
use native.Mathlib.Omega.{arith}
use lib.Dec.{eqb}
use lib.ListN.{length, get_or, set}
use lib.Seq.{get_or-set_same, get_or-set_other}
use borrow.Author.Tests.{eqb-false}
use Rattle.base.specs.Bytes.{Bytes}
use Rattle.refusal.specs.declared.Refusal.TheVariants as R
use Rattle.overlay_blocks.specs.declared.Sizes.{Sizes}
use Rattle.kind.specs.declared.Kind.TheVariants.{Node, Way, Relation}
use Rattle.interner.specs.Sound.{fresh_spans}
use Rattle.little.proofs.Overs.{length_over}
use Rattle.overlay_blocks.specs.declared.TextPart.{TextPart}
use Rattle.overlay_blocks.specs.Blocks.{cut, sizes_in, text_part_in}
use Rattle.overlay_blocks.proofs.Cuts.{cut_all}
use borrow.Rule.Slice.PartMut.{put_mid, mid_len}
use Rattle.overlay_blocks.specs.Sizes.{largest, fitted}
use Rattle.overlay.specs.Overlay.{sizes_fit, fresh_counters}
use Rattle.overlay.specs.Lent.{overlay_for, overlay_in}
use Rattle.overlay.specs.Sound.{is_sound}
use Rattle.overlay.specs.Calls.{overlay_refused, set_up, allow_on}
use Rattle.overlay.proofs.Tiles.{fits_in}
use Rattle.overlay.proofs.Puts.{spans_long, spans_same, table_before}

-- ---- the setting

pub allow_stored : (setting : ℕ) (words : List ℕ) (bytes : Bytes) (c d : List ℕ) → length c ≡ 17 → is_sound (overlay_in words bytes c) ≡ true → d ≡ set c 8 setting
    → record { overlay = overlay_in words bytes d; answer = (Ok tt) } ≡ allow_on setting (overlay_in words bytes c)
unfolding allow_on
allow_stored setting words bytes c d long s e =
    let k : (i : ℕ) → eqb i 8 ≡ false → get_or (set c 8 setting) i 0 ≡ get_or c i 0 = λ i p. get_or-set_other c 8 i setting 0 (eqb-false i 8 p) in
    rw (s, e, k 0 refl, k 1 refl, k 2 refl, k 3 refl, k 4 refl, k 5 refl, k 6 refl, k 7 refl, k 9 refl, k 10 refl, k 11 refl, k 12 refl, k 13 refl, k 14 refl, k 15 refl, k 16 refl, get_or-set_same c 8 setting 0 (omega (arith, long)))

-- ---- soundness in the blocks

-- the test of the sizes among the counters
pub sizes_in_lem : (words bytes counters : List ℕ) (z : Sizes) → z ≡ sizes_in counters → (t : Bool) → t ≡ fitted largest z (length words) (length bytes) → t ≡ sizes_fit largest (overlay_in words bytes counters)
sizes_in_lem words bytes counters z p t h = h ∙ rw p (fits_in (sizes_in counters) words bytes counters)

-- ---- set-up in the blocks

pub setup_refuses : (z : Sizes) (setting : ℕ) (words bytes counters : List ℕ) → fitted largest z (length words) (length bytes) ≡ false
    → overlay_refused (overlay_for z words bytes counters) R.Size ≡ set_up z setting (overlay_for z words bytes counters)
unfolding set_up
setup_refuses z setting words bytes counters h = rw (← fits_in z words bytes counters, h)

pub setup_makes : (z : Sizes) (setting : ℕ) (words bytes counters : List ℕ) → fitted largest z (length words) (length bytes) ≡ true
    → (d : List ℕ) → d ≡ fresh_counters setting z → (p : TextPart) → p ≡ text_part_in (sizes_in d) (length words) (length bytes)
    → (s : List ℕ) → s ≡ fresh_spans (cut p.spans (length words) words)
    → record { overlay = overlay_for z (put_mid p.spans (length words - p.spans) words s) bytes d; answer = (Ok tt) } ≡ set_up z setting (overlay_for z words bytes counters)
unfolding set_up
setup_makes z setting words bytes counters h d g p q s f =
    let q2 : p ≡ text_part_in z (length words) (length bytes) = rw g at q in
    let n : length s ≡ length (cut p.spans (length words) words) = rw f (length_over _ 0 _) in
    let k = n ∙ mid_len p.spans (length words) words (omega arith) in
    let m : length s ≡ length words - (text_part_in z (length words) (length bytes)).spans = rw q2 at k in
    let b = table_before z words bytes s bytes m in
    rw (
      ← fits_in z words bytes counters,
      h,
      g,
      q2,
      spans_long z words bytes s bytes m,
      b Node,
      b Way,
      b Relation,
      spans_same z words bytes s bytes m,
      f,
      q2,
      cut_all (text_part_in z (length words) (length bytes)).spans words,
    )

-- what set-up leaves is the overlay of the sizes that it stored
pub setup_left : (z : Sizes) (setting : ℕ) (words bytes : List ℕ) → overlay_in words bytes (fresh_counters setting z) ≡ overlay_for z words bytes (fresh_counters setting z)
setup_left z setting words bytes = refl
