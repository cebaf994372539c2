-- Which code points are characters, in the order in which the code asks.
use Prim.Native.Nat.{ℕ, ◌<◌, ◌≤◌}
use mathlib.Core.Path.{◌≡◌, refl, sym, ◌∙◌}
use mathlib.Core.Bool.{Bool, true, false, ◌&&◌}
use native.Mathlib.Omega.{arith}
use lib.Dec.{eqb, leb}
use borrow.Author.Tests.{ne_eqb, lt-leb, le-leb}
use Rattle.base.specs.Bytes.{both, either}
use Rattle.base.proofs.Tests.{and_both}
use Rattle.text.specs.Char.{from_to, xml_char}

none_more : (t : Bool) → either t (either false (either false false)) ≡ t
unfolding either
none_more true = refl
none_more false = refl

-- below the blank three characters are legal
pub low_char : (c : ℕ) → c < 0x20 → either (eqb c 0x9) (either (eqb c 0xa) (eqb c 0xd)) ≡ xml_char c
unfolding xml_char from_to both
low_char c l = sym (rw (lt-leb 0x20 c l, lt-leb 0xe000 c (omega arith), lt-leb 0x10000 c (omega arith)) (none_more (either (eqb c 0x9) (either (eqb c 0xa) (eqb c 0xd)))))

-- and from the blank on three ranges
pub high_char : (c : ℕ) → 0x20 ≤ c → either (leb c 0xd7ff) (either (both (leb 0xe000 c) (leb c 0xfffd)) (both (leb 0x10000 c) (leb c 0x10ffff))) ≡ xml_char c
unfolding xml_char from_to both either
high_char c l = sym (rw (ne_eqb c 0x9 (λ e. omega arith), ne_eqb c 0xa (λ e. omega arith), ne_eqb c 0xd (λ e. omega arith), le-leb 0x20 c l))

-- what the code's two tests come to, of which a callee answers one
pub tested : (r a b v : Bool) → r ≡ a → (r && b) ≡ v → both a b ≡ v
tested r a b v e h = rw (← e) (sym (and_both r b) ∙ h)
