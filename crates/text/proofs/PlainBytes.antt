-- Plain bytes: one pass over a run tells whether all its bytes pass a test, and a run of plain bytes is text.
use Prim.Native.Nat.{ℕ, zero, suc, ◌+◌, ◌<◌, ◌≤◌}
use mathlib.Core.Path.{◌≡◌, refl, sym, ap, ◌∙◌}
use mathlib.Core.Bool.{Bool, true, false, ◌&&◌, ◌||◌}
use mathlib.Core.List.{[], ◌∷◌}
use native.Mathlib.Numerals.{add-one}
use native.Mathlib.Omega.{arith}
use lib.Dec.{leb, eqb}
use lib.ListN.{length, get_or, take, drop, drop_of_length-le}
use lib.Seq.{drop-cons}
use borrow.Author.Tests.{leb-true, eqb-true}
use Rattle.std.specs.List.{fold}
use Rattle.base.specs.Bytes.{Bytes, both, either, all}
use Rattle.base.proofs.Split.{both_left, both_right, by_bool, by_either}
use Rattle.base.proofs.Lists.{all_nil}
use Rattle.text.specs.Char.{from_to, xml_char}
use Rattle.text.specs.Check.{is_text, is_plain, plain_ascii}
use Rattle.text.proofs.Texts.{all_imp, text_plain, plain_of}

-- ---- a pass over a run

-- a test taken together with what the bytes before it passed
pub fold_all : (p : ℕ → Bool) (s : Bytes) (ok : Bool) → fold (λ o b. o && p b) ok s ≡ both ok (all p s)
unfolding both all
fold_all p [] true = refl
fold_all p [] false = refl
fold_all p (b ∷ s) true = fold_all p s (p b)
fold_all p (b ∷ s) false = fold_all p s false

-- the same pass in a loop: the bytes before a place passed where ok is true; those from the place on decide the rest
module _ (p : ℕ → Bool) (s : Bytes) where
  pub pass_on : (ok : Bool) (i : ℕ) → i < length s → both (ok && p (get_or s i 0)) (all p (drop (i + 1) s)) ≡ both ok (all p (drop i s))
  unfolding both all
  pass_on true i h = rw (drop-cons s i 0 h, add-one)
  pass_on false i h = refl

  pub pass_ends : (ok : Bool) (i : ℕ) → length s ≤ i → both ok (all p (drop i s)) ≡ ok
  unfolding both
  pass_ends true i h = rw (drop_of_length-le s h) (all_nil p)
  pass_ends false i h = refl

-- the bytes up to a place, and those from there on
all_cut : (p : ℕ → Bool) (n : ℕ) (s : Bytes) → both (all p (take n s)) (all p (drop n s)) ≡ all p s
unfolding both all
all_cut p zero s = refl
all_cut p (suc n) [] = refl
all_cut p (suc n) (b ∷ s) = by_bool (p b) (λ t. rw t (all_cut p n s)) (λ f. rw f refl)

module _ (p : ℕ → Bool) (n : ℕ) (s : Bytes) where
  pub all_behind : all p (take n s) ≡ true → all p (drop n s) ≡ all p s
  unfolding both
  all_behind h = sym (ap (λ b. both b (all p (drop n s))) h) ∙ all_cut p n s

  pub not_all : all p (take n s) ≡ false → false ≡ all p s
  unfolding both
  not_all h = sym (ap (λ b. both b (all p (drop n s))) h) ∙ all_cut p n s

-- ---- plain bytes

-- the test as the code has it
pub plain_test : (b : ℕ) → (eqb b 9 || (leb 32 b && leb b 126)) ≡ is_plain b
unfolding is_plain from_to either both
plain_test b = go (eqb b 9) (leb 32 b) (leb b 126)
  where
    go : (x y z : Bool) → (x || (y && z)) ≡ either x (both y z)
    go true y z = refl
    go false true z = refl
    go false false z = refl

-- a plain byte is an ASCII character
tab_ascii : plain_ascii 9 ≡ true
unfolding plain_ascii xml_char both either
tab_ascii = refl

plain_ascii_lem : (b : ℕ) → is_plain b ≡ true → plain_ascii b ≡ true
unfolding is_plain from_to
plain_ascii_lem b h =
    by_either _ _ h
    (λ e. rw (eqb-true b 9 e) tab_ascii)
    (λ r. plain_of b (leb-true 32 b (both_left _ _ r)) (omega (arith, leb-true b 126 (both_right _ _ r))))

pub plain_text : (s : Bytes) → all is_plain s ≡ true → is_text s ≡ true
plain_text s h = text_plain s (all_imp is_plain plain_ascii plain_ascii_lem s h)
