-- The ranges of a name's characters in ASCII and beyond it are told apart by one comparison.
use Rattle.markup.specs.Names.{name_start_char, name_char}
use Rattle.xml_names.specs.Ranges.{name_start_ascii, name_start_beyond, name_char_only}
use Prim.Native.Nat.{ℕ, ◌<◌, ◌≤◌}
use mathlib.Core.Path.{◌≡◌, refl, sym, ◌∙◌}
use mathlib.Core.Bool.{Bool, true, false}
use native.Mathlib.Omega.{arith}
use borrow.Author.Tests.{ne_eqb, lt-leb}
use Rattle.base.specs.Bytes.{either}
use Rattle.base.proofs.Split.{both_no_left, both_no_right, either_false}
use Rattle.text.specs.Char.{from_to}

below : (lo hi c : ℕ) → c < lo → from_to lo hi c ≡ false
unfolding from_to
below lo hi c l = both_no_left _ _ (lt-leb lo c l)

above : (lo hi c : ℕ) → hi < c → from_to lo hi c ≡ false
unfolding from_to
above lo hi c l = both_no_right _ (lt-leb c hi l)

narrow : (c : ℕ) → c < 0x80 → name_start_beyond c ≡ false
unfolding name_start_beyond either
narrow c l =
    rw
    (below 0xc0 0xd6 c (omega arith), below 0xd8 0xf6 c (omega arith), below 0xf8 0x2ff c (omega arith), below 0x370 0x37d c (omega arith), below 0x37f 0x1fff c (omega arith), below 0x200c 0x200d c (omega arith), below 0x2070 0x218f c (omega arith), below 0x2c00 0x2fef c (omega arith), below 0x3001 0xd7ff c (omega arith), below 0xf900 0xfdcf c (omega arith), below 0xfdf0 0xfffd c (omega arith), below 0x10000 0xeffff c (omega arith))

beyond : (c : ℕ) → 0x80 ≤ c → name_start_ascii c ≡ false
unfolding name_start_ascii either
beyond c l = rw (ne_eqb c 0x3a (λ e. omega arith), above 0x41 0x5a c (omega arith), ne_eqb c 0x5f (λ e. omega arith), above 0x61 0x7a c (omega arith))

parted : (c : ℕ) → name_start_char c ≡ either (name_start_ascii c) (name_start_beyond c)
unfolding name_start_char name_start_ascii name_start_beyond
parted c = refl

-- in ASCII a name begins with one of ASCII's characters, and beyond it with one of the others
pub start_ascii : (c : ℕ) → c < 0x80 → name_start_ascii c ≡ name_start_char c
start_ascii c l = sym (parted c ∙ rw (narrow c l) (either_false (name_start_ascii c)))

pub start_beyond : (c : ℕ) → 0x80 ≤ c → name_start_beyond c ≡ name_start_char c
unfolding either
start_beyond c l = sym (parted c ∙ rw (beyond c l))

pub name_goes_on : (c : ℕ) → name_char c ≡ either (name_start_char c) (name_char_only c)
unfolding name_char name_char_only
name_goes_on c = refl

pub either_regrouped : (a b c : Bool) → either (either a b) c ≡ either a (either b c)
unfolding either
either_regrouped true b c = refl
either_regrouped false b c = refl
