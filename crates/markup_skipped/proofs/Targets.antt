-- What a character more makes of a target.
use Prim.Native.Nat.{ℕ}
use mathlib.Core.Path.{◌≡◌, refl}
use mathlib.Core.Bool.{Bool, true, false, cond}
use mathlib.Core.List.{[], ◌∷◌, ◌++◌}
use native.Mathlib.Omega.{arith}
use Rattle.base.specs.Ascii.{ascii}
use Rattle.base.specs.Bytes.{both, either, same}
use Rattle.text.specs.Char.{from_to}
use Rattle.text.specs.Check.{begins}
use Rattle.markup.specs.Markup.{reserved_target}
use Rattle.markup.specs.Automaton.{malformed, reserved_ended}
use Rattle.markup_skipped.specs.Instructions.{target_kept, target_letters, instruction_forgotten}
use Rattle.markup_skipped.specs.declared.instructions.TargetLetters.{TargetLetters}
use Rattle.markup_skipped.specs.declared.instructions.TargetLetters.TheVariants as T
use Rattle.markup_skipped.proofs.Upper.{upper_other}

-- ---- the first letter

pub first_x : ascii "x" ≡ target_kept (ascii "x")
unfolding target_kept begins same from_to both
first_x = refl

pub first_upper : ascii "X" ≡ target_kept (ascii "X")
unfolding target_kept begins same from_to both
first_upper = refl

pub first_other : (c : ℕ) → (c ≡ 120 → ⊥) → (c ≡ 88 → ⊥) → ascii "a" ≡ target_kept (c ∷ [])
unfolding target_kept begins same from_to both
first_other c n m = rw (upper_other 88 c (omega arith) (omega arith) m n)

-- ---- the second, behind one in a case

pub second_upper : (upper : Bool) → ascii "XM" ≡ target_kept (cond upper 88 120 ∷ 77 ∷ [])
unfolding target_kept begins same from_to both
second_upper true = refl
second_upper false = refl

pub second_small : (upper : Bool) → cond upper (ascii "XM") (ascii "xm") ≡ target_kept (cond upper 88 120 ∷ 109 ∷ [])
unfolding target_kept begins same from_to both
second_small true = refl
second_small false = refl

pub second_other : (upper : Bool) (c : ℕ) → (c ≡ 77 → ⊥) → (c ≡ 109 → ⊥) → ascii "a" ≡ target_kept (cond upper 88 120 ∷ c ∷ [])
unfolding target_kept begins same from_to both
second_other true c n m = rw (upper_other 77 c (omega arith) (omega arith) n m)
second_other false c n m = rw (upper_other 77 c (omega arith) (omega arith) n m)

-- ---- the third, behind two in a case

pub third_upper : (upper : Bool) → ascii "XML" ≡ target_kept (cond upper 88 120 ∷ cond upper 77 109 ∷ 76 ∷ [])
unfolding target_kept begins same from_to both
third_upper true = refl
third_upper false = refl

pub third_small : (upper : Bool) → cond upper (ascii "XML") (ascii "xml") ≡ target_kept (cond upper 88 120 ∷ cond upper 77 109 ∷ 108 ∷ [])
unfolding target_kept begins same from_to both
third_small true = refl
third_small false = refl

pub third_other : (upper : Bool) (c : ℕ) → (c ≡ 76 → ⊥) → (c ≡ 108 → ⊥) → ascii "a" ≡ target_kept (cond upper 88 120 ∷ cond upper 77 109 ∷ c ∷ [])
unfolding target_kept begins same from_to both
third_other true c n m = rw (upper_other 76 c (omega arith) (omega arith) n m)
third_other false c n m = rw (upper_other 76 c (omega arith) (omega arith) n m)

-- ---- a fourth, or one behind another name

pub no_beginning : (letters : TargetLetters) (c : ℕ) → (letters ≡ T.X → ⊥) → (letters ≡ T.UpperX → ⊥) → (letters ≡ T.Xm → ⊥) → (letters ≡ T.UpperXm → ⊥)
    → ascii "a" ≡ target_kept (target_letters letters ++ (c ∷ []))
unfolding target_kept begins same from_to both
no_beginning T.X c n m o p = absurd (n refl)
no_beginning T.Xm c n m o p = absurd (o refl)
no_beginning T.Xml c n m o p = refl
no_beginning T.UpperX c n m o p = absurd (m refl)
no_beginning T.UpperXm c n m o p = absurd (p refl)
no_beginning T.UpperXml c n m o p = refl
no_beginning T.Other c n m o p = refl

-- ---- what ends one

pub reserved_xml : reserved_target (ascii "xml") ≡ true
unfolding reserved_target both either
reserved_xml = refl

pub reserved_capitals : reserved_target (ascii "XML") ≡ true
unfolding reserved_target both either
reserved_capitals = refl

pub unreserved : (letters : TargetLetters) → (letters ≡ T.Xml → ⊥) → (letters ≡ T.UpperXml → ⊥) → reserved_target (target_letters letters) ≡ false
unfolding reserved_target
unreserved T.X n m = refl
unreserved T.Xm n m = refl
unreserved T.Xml n m = absurd (n refl)
unreserved T.UpperX n m = refl
unreserved T.UpperXm n m = refl
unreserved T.UpperXml n m = absurd (m refl)
unreserved T.Other n m = refl

pub xml_ended : (first : Bool) (c : ℕ) → reserved_ended first (ascii "xml") c ≡ cond first (reserved_ended true (ascii "xml") c) malformed
unfolding same both
xml_ended true c = refl
xml_ended false c = refl

-- the declaration is written in small letters
pub capitals_ended : (first : Bool) (c : ℕ) → instruction_forgotten (reserved_ended first (ascii "XML") c) ≡ malformed
unfolding same both
capitals_ended true c = refl
capitals_ended false c = refl
