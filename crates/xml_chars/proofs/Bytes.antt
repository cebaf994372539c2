-- A byte's range, and tests of several bytes together.
use Prim.Native.Nat.{ℕ, ◌<◌, ◌≤◌}
use mathlib.Core.Path.{◌≡◌, refl}
use mathlib.Core.Bool.{Bool, true, false, ◌&&◌}
use native.Mathlib.Omega.{arith}
use lib.Dec.{leb}
use borrow.Author.Tests.{leb-true, ne_eqb}
use Rattle.base.specs.Bytes.{both, either}
use Rattle.base.proofs.Split.{by_eq, both_left, both_right, clash}
use Rattle.text.specs.Char.{from_to, xml_char}
use Rattle.text.proofs.Xml.{from_to_yes, from_to_below}

-- a number from lo to hi
pub record Within (lo hi x : ℕ) : Type 0 where
  pub low : lo ≤ x
  pub high : x ≤ hi

pub within : (lo hi x : ℕ) → from_to lo hi x ≡ true → Within lo hi x
unfolding from_to
within lo hi x h = record { low = leb-true lo x (both_left _ _ h); high = leb-true x hi (both_right (leb lo x) _ h) }

pub is_within : {lo hi x : ℕ} → Within lo hi x → from_to lo hi x ≡ true
is_within {lo} {hi} {x} w = from_to_yes lo hi x w.low w.high

-- tests that both hold
pub both_hold : {a b : Bool} → a ≡ true → b ≡ true → (a && b) ≡ true
both_hold p q = rw (p, q)

pub left_holds : (a b : Bool) → (a && b) ≡ true → a ≡ true
left_holds true b h = refl
left_holds false b h = clash h refl

pub right_holds : (a b : Bool) → (a && b) ≡ true → b ≡ true
right_holds true b h = h
right_holds false b h = clash h refl

-- `both` in the order of the definitions
pub both_regrouped : (a b c : Bool) → both (both a b) c ≡ both a (both b c)
unfolding both
both_regrouped true b c = refl
both_regrouped false b c = refl

-- the characters below the blank are the tab, the line feed and the carriage return
pub no_control : (c : ℕ) → c < 0x20 → (c ≡ 0x9 → ⊥) → (c ≡ 0xa → ⊥) → (c ≡ 0xd → ⊥) → xml_char c ≡ false
unfolding xml_char either
no_control c l tab feed return =
    rw (ne_eqb c 0x9 tab, ne_eqb c 0xa feed, ne_eqb c 0xd return, from_to_below 0x20 0xd7ff c l, from_to_below 0xe000 0xfffd c (omega arith))
    (from_to_below 0x10000 0x10ffff c (omega arith))

pub tab_or_feed : (c : ℕ) → 0x9 ≤ c → c ≤ 0xa → xml_char c ≡ true
unfolding xml_char either
tab_or_feed c l h = by_eq c 0x9 (λ e. rw e) (λ n. let e : c ≡ 0xa = omega arith in rw e)

pub carriage_return : (c : ℕ) → c ≡ 0xd → xml_char c ≡ true
unfolding xml_char either
carriage_return c e = rw e
