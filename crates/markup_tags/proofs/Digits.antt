-- Digits, by the ranges that the code looks at.
use Prim.Native.Nat.{ℕ, ◌+◌, ◌*◌, ◌-◌, ◌≤◌}
use mathlib.Core.Path.{◌≡◌, refl}
use mathlib.Core.Bool.{Bool, true, false, cond}
use Rattle.std.specs.Prelude.{None, Some}
use native.Mathlib.Omega.{arith}
use Rattle.base.specs.Bytes.{either, is_digit}
use Rattle.text.specs.Char.{from_to}
use borrow.Author.Tests.{ne_eqb}
use Rattle.text.proofs.Xml.{from_to_yes, from_to_above}
use Rattle.markup.specs.Automaton.{malformed, behind_hash, in_decimal, behind_x, in_hex, digit_taken, reference_step}
use Rattle.markup.specs.References.{hex_digit, digit_value}

digit_range : (c : ℕ) → is_digit c ≡ from_to 48 57 c
unfolding is_digit from_to
digit_range c = refl

pub decimal_value : (c : ℕ) → 48 ≤ c → c ≤ 57 → Some (c - 48) ≡ cond (is_digit c) (Some (digit_value c)) None
unfolding digit_value
decimal_value c l h = rw (digit_range c, from_to_yes 48 57 c l h)

pub no_decimal : (c : ℕ) → from_to 48 57 c ≡ false → None ≡ cond (is_digit c) (Some (digit_value c)) None
no_decimal c a = rw (digit_range c, a)

pub hex_value : (c : ℕ) → 48 ≤ c → c ≤ 57 → Some (c - 48) ≡ cond (hex_digit c) (Some (digit_value c)) None
unfolding digit_value hex_digit either
hex_value c l h = rw (digit_range c, from_to_yes 48 57 c l h)

pub hex_upper : (c : ℕ) → 65 ≤ c → c ≤ 70 → Some (c - 55) ≡ cond (hex_digit c) (Some (digit_value c)) None
unfolding digit_value hex_digit either
hex_upper c l h = rw (digit_range c, from_to_above 48 57 c (omega arith) (omega arith), from_to_yes 65 70 c l h)

pub hex_lower : (c : ℕ) → 97 ≤ c → c ≤ 102 → Some (c - 87) ≡ cond (hex_digit c) (Some (digit_value c)) None
unfolding digit_value hex_digit either
hex_lower c l h = rw (digit_range c, from_to_above 48 57 c (omega arith) (omega arith), from_to_above 65 70 c (omega arith) (omega arith), from_to_yes 97 102 c l h)

pub no_hex : (c : ℕ) → from_to 48 57 c ≡ false → from_to 65 70 c ≡ false → from_to 97 102 c ≡ false → None ≡ cond (hex_digit c) (Some (digit_value c)) None
unfolding hex_digit either
no_hex c a b d = rw (digit_range c, a, b, d)

-- ---- a number's digits

digit_read : (t : Bool) (d v : ℕ) → Some v ≡ cond t (Some d) None → (t ≡ true) × (v ≡ d)
digit_read true d v e = (refl, cc)
digit_read false d v e = (cc, cc)

no_digit_read : (t : Bool) (d : ℕ) → None ≡ cond t (Some d) None → t ≡ false
no_digit_read false d e = refl
no_digit_read true d e = cc

module _ (c d : ℕ) where
  pub decimal_first : (c ≡ 120 → ⊥) → Some d ≡ cond (is_digit c) (Some (digit_value c)) None → digit_taken in_decimal d ≡ reference_step behind_hash c
  unfolding reference_step
  decimal_first x e = let r = digit_read _ _ _ e in rw (ne_eqb c 120 x, r.0, r.1)

  pub decimal_more : (v : ℕ) → (c ≡ 59 → ⊥) → Some d ≡ cond (is_digit c) (Some (digit_value c)) None → digit_taken in_decimal (v * 10 + d) ≡ reference_step (in_decimal v) c
  unfolding reference_step
  decimal_more v x e = let r = digit_read _ _ _ e in rw (ne_eqb c 59 x, r.0, r.1)

  pub hex_first : Some d ≡ cond (hex_digit c) (Some (digit_value c)) None → digit_taken in_hex d ≡ reference_step behind_x c
  unfolding reference_step
  hex_first e = let r = digit_read _ _ _ e in rw (r.0, r.1)

  pub hex_more : (v : ℕ) → (c ≡ 59 → ⊥) → Some d ≡ cond (hex_digit c) (Some (digit_value c)) None → digit_taken in_hex (v * 16 + d) ≡ reference_step (in_hex v) c
  unfolding reference_step
  hex_more v x e = let r = digit_read _ _ _ e in rw (ne_eqb c 59 x, r.0, r.1)

module _ (c : ℕ) where
  pub no_decimal_first : (c ≡ 120 → ⊥) → None ≡ cond (is_digit c) (Some (digit_value c)) None → malformed ≡ reference_step behind_hash c
  unfolding reference_step
  no_decimal_first x e = rw (ne_eqb c 120 x, no_digit_read _ _ e)

  pub no_decimal_more : (v : ℕ) → (c ≡ 59 → ⊥) → None ≡ cond (is_digit c) (Some (digit_value c)) None → malformed ≡ reference_step (in_decimal v) c
  unfolding reference_step
  no_decimal_more v x e = rw (ne_eqb c 59 x, no_digit_read _ _ e)

  pub no_hex_first : None ≡ cond (hex_digit c) (Some (digit_value c)) None → malformed ≡ reference_step behind_x c
  unfolding reference_step
  no_hex_first e = rw (no_digit_read _ _ e)

  pub no_hex_more : (v : ℕ) → (c ≡ 59 → ⊥) → None ≡ cond (hex_digit c) (Some (digit_value c)) None → malformed ≡ reference_step (in_hex v) c
  unfolding reference_step
  no_hex_more v x e = rw (ne_eqb c 59 x, no_digit_read _ _ e)
