-- What is still to come of a keyword.
use Prim.Native.Nat.{ℕ, suc, ◌-◌, min}
use mathlib.Core.Path.{◌≡◌, ◌∙◌, ap}
use mathlib.Core.List.{List, [], ◌∷◌}
use native.Mathlib.Omega.{arith}
use lib.ListN.{length, drop, get_or}
use lib.Seq.{drop-cons}
use Rattle.markup.specs.Markup.{DeclarationKey, version_key, encoding_key, standalone_key}
use Rattle.markup_skipped.specs.Declarations.{keyword_rest, keyword_end}

-- nothing
pub none_due : (key : DeclarationKey) (n left : ℕ) (rest : List ℕ) → rest ≡ keyword_rest key → left ≡ min n (length rest) → left ≡ 0 → keyword_end key n ≡ []
none_due key n left rest e l z = ended key (let k : min n (length (keyword_rest key)) ≡ 0 = rw (← e) (cc) in k)
  where
    ended : (key : DeclarationKey) → min n (length (keyword_rest key)) ≡ 0 → keyword_end key n ≡ []
    ended version_key h = let k : n ≡ 0 = omega arith in rw k
    ended encoding_key h = let k : n ≡ 0 = omega arith in rw k
    ended standalone_key h = let k : n ≡ 0 = omega arith in rw k

-- or a letter, and one less
end_cons : (r : List ℕ) (n : ℕ) → (min n (length r) ≡ 0 → ⊥) → drop (length r - n) r ≡ get_or r (length r - min n (length r)) 0 ∷ drop (length r - (min n (length r) - 1)) r
end_cons r n z =
    let j : length r - n ≡ length r - min n (length r) = omega arith in
    let k : suc (length r - min n (length r)) ≡ length r - (min n (length r) - 1) = omega arith in
    rw j (drop-cons r (length r - min n (length r)) 0 (omega arith) ∙ ap (λ (i : ℕ). get_or r (length r - min n (length r)) 0 ∷ drop i r) k)

pub letter_due : (key : DeclarationKey) (n left : ℕ) (rest : List ℕ) → rest ≡ keyword_rest key → left ≡ min n (length rest) → (left ≡ 0 → ⊥)
    → keyword_end key n ≡ get_or rest (length rest - left) 0 ∷ keyword_end key (left - 1)
letter_due key n left rest e l z = rw (l, e) (end_cons (keyword_rest key) n (λ h. z (l ∙ rw e h)))
