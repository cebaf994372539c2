-- The parts of XML's characters, and those that stand for themselves in a value.
use Prim.Native.Nat.{ℕ}
use mathlib.Core.Path.{◌≡◌, refl}
use mathlib.Core.Bool.{Bool, true, false, cond, not}
use Rattle.base.specs.Bytes.{both, either}
use Rattle.text.specs.Char.{from_to, xml_char}
use Rattle.markup_tags.specs.Characters.{other_char}

either_moved : (a b c : Bool) → either a (either b c) ≡ either b (either a c)
unfolding either
either_moved true true c = refl
either_moved true false c = refl
either_moved false true c = refl
either_moved false false c = refl

pub char_parts : (c : ℕ) → xml_char c ≡ either (from_to 0x20 0xd7ff c) (other_char c)
unfolding xml_char other_char
char_parts c = either_moved _ _ _

pub both_turned : (a b : Bool) → both a b ≡ both b a
unfolding both
both_turned true true = refl
both_turned true false = refl
both_turned false true = refl
both_turned false false = refl

-- two tests one after the other, and both at once
pub tested_once : {A : Type 0} (t u : Bool) (x m : A) → cond t m (cond u x m) ≡ cond (both (not t) u) x m
unfolding both
tested_once true u x m = refl
tested_once false u x m = refl
