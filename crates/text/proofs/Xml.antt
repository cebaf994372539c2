-- Laws of XML 1.0's production of legal characters, range by range.
use Prim.Native.Nat.{ℕ, ◌<◌, ◌≤◌}
use mathlib.Core.Path.{◌≡◌, sym, ◌∙◌}
use mathlib.Core.Bool.{true, false}
use native.Mathlib.Omega.{arith}
use lib.Dec.{ltb}
use borrow.Author.Tests.{lt-ltb, le-ltb, le-leb, lt-leb, ne_eqb}
use Rattle.base.specs.Bytes.{both, either}
use Rattle.base.proofs.Split.{by_lt, clash}
use Rattle.text.specs.Char.{from_to, xml_char}

pub from_to_yes : (lo hi c : ℕ) → lo ≤ c → c ≤ hi → from_to lo hi c ≡ true
unfolding from_to both
from_to_yes lo hi c l h = rw (le-leb lo c l, le-leb c hi h)

pub from_to_below : (lo hi c : ℕ) → c < lo → from_to lo hi c ≡ false
unfolding from_to both
from_to_below lo hi c h = rw (lt-leb lo c h)

pub from_to_above : (lo hi c : ℕ) → lo ≤ hi → hi < c → from_to lo hi c ≡ false
unfolding from_to both
from_to_above lo hi c l h = let k : lo ≤ c = omega arith in rw (le-leb lo c k, lt-leb c hi h)

module _ (c : ℕ) where
  -- from the blank on the three ranges decide
  ranged : 0x20 ≤ c → xml_char c ≡ either (from_to 0x20 0xd7ff c) (either (from_to 0xe000 0xfffd c) (from_to 0x10000 0x10ffff c))
  unfolding xml_char either
  ranged h = rw (ne_eqb c 0x9 (λ e. omega arith), ne_eqb c 0xa (λ e. omega arith), ne_eqb c 0xd (λ e. omega arith))

  pub legal_low : 0x20 ≤ c → c < 0xd800 → xml_char c ≡ true
  unfolding either
  legal_low l h = rw (ranged l, from_to_yes 0x20 0xd7ff c l (omega arith))

  pub no_surrogate : 0xd800 ≤ c → c < 0xe000 → xml_char c ≡ false
  unfolding either
  no_surrogate l h =
      rw (ranged (omega arith), from_to_above 0x20 0xd7ff c (omega arith) (omega arith), from_to_below 0xe000 0xfffd c (omega arith))
      (from_to_below 0x10000 0x10ffff c (omega arith))

  pub legal_middle : 0xe000 ≤ c → c < 0xfffe → xml_char c ≡ true
  unfolding either
  legal_middle l h = rw (ranged (omega arith), from_to_above 0x20 0xd7ff c (omega arith) (omega arith), from_to_yes 0xe000 0xfffd c l (omega arith))

  pub no_fffe : 0xfffe ≤ c → c < 0x10000 → xml_char c ≡ false
  unfolding either
  no_fffe l h =
      rw (ranged (omega arith), from_to_above 0x20 0xd7ff c (omega arith) (omega arith), from_to_above 0xe000 0xfffd c (omega arith) (omega arith))
      (from_to_below 0x10000 0x10ffff c (omega arith))

  pub legal_rest : 0x10000 ≤ c → xml_char c ≡ ltb c 0x110000
  unfolding either
  legal_rest l =
      rw (ranged (omega arith), from_to_above 0x20 0xd7ff c (omega arith) (omega arith), from_to_above 0xe000 0xfffd c (omega arith) (omega arith))
      (by_lt c 0x110000
      (λ h. from_to_yes 0x10000 0x10ffff c l (omega arith) ∙ sym (lt-ltb c 0x110000 h))
      (λ h. from_to_above 0x10000 0x10ffff c (omega arith) (omega arith) ∙ sym (le-ltb c 0x110000 h)))

  pub legal_high : 0x10000 ≤ c → c < 0x110000 → xml_char c ≡ true
  legal_high l h = legal_rest l ∙ lt-ltb c 0x110000 h

  pub none_above : 0x110000 ≤ c → xml_char c ≡ false
  none_above l = legal_rest (omega arith) ∙ le-ltb c 0x110000 l

  pub legal_top : xml_char c ≡ true → c < 0x110000
  legal_top h = by_lt c 0x110000 (λ l. l) (λ l. clash h (none_above l))
