-- A text has exact degrees exactly when it is written from a sign, digits and digits behind a point, and then they are what these write.
use Rattle.std.specs.Prelude.{None, Option, Some}
use Prim.Native.Nat.{ℕ, ◌≤◌}
use mathlib.Core.Path.{◌≡◌, refl, sym, ◌∙◌, ap}
use mathlib.Core.Bool.{true}
use mathlib.Core.Logic.{◌↔◌}
use mathlib.Core.List.{[], ◌∷◌, ◌++◌}
use native.Mathlib.Omega.{arith}
use lib.IntN.{ℤ}
use lib.ListN.{length}
use borrow.Author.Tests.{leb-true, eq-eqb, ne_eqb}
use Rattle.base.specs.Bytes.{Bytes, is_digit, all}
use Rattle.base.proofs.Split.{no, by_bool, by_eq, both_left, both_right}
use Rattle.base.proofs.Lists.{all_head, all_tail}
use Rattle.integer.proofs.Digits.{digit_is}
use Rattle.degrees.specs.Degrees.{Sign, unsigned, plus, minus, DegreeParts, one_to, legal_degrees, sign_text, decimals_text, parts_text, exact_of, parts_behind, parts_of, exact_degrees}

-- ---- a text's parts write it

whole_back : (g : Sign) (s : Bytes) → (parts_behind g s).whole ++ decimals_text (parts_behind g s).decimals ≡ s
unfolding parts_behind
whole_back g [] = refl
whole_back g (b ∷ s) =
    by_eq b 46
    (λ e. rw (eq-eqb b 46 e) (ap (λ x. x ∷ s) (sym e)))
    (λ n. rw (ne_eqb b 46 n) (ap (λ x. b ∷ x) (whole_back g s)))

sign_back : (g : Sign) (s : Bytes) → (parts_behind g s).sign ≡ g
unfolding parts_behind
sign_back g [] = refl
sign_back g (b ∷ s) =
    by_eq b 46
    (λ e. rw (eq-eqb b 46 e))
    (λ n. rw (ne_eqb b 46 n) (sign_back g s))

behind_back : (g : Sign) (s : Bytes) → parts_text (parts_behind g s) ≡ sign_text g ++ s
unfolding parts_text
behind_back g s = rw (sign_back g s, whole_back g s)

pub parts_back : (s : Bytes) → parts_text (parts_of s) ≡ s
unfolding parts_of
parts_back [] = behind_back unsigned []
parts_back (b ∷ s) =
    by_eq b 43
    (λ e. rw (eq-eqb b 43 e) (behind_back plus s ∙ ap (λ x. x ∷ s) (sym e)))
    (λ p. by_eq b 45
    (λ e. rw (ne_eqb b 43 p, eq-eqb b 45 e) (behind_back minus s ∙ ap (λ x. x ∷ s) (sym e)))
    (λ q. rw (ne_eqb b 43 p, ne_eqb b 45 q) (behind_back unsigned (b ∷ s))))

-- ---- and what is written is read as its parts

behind_read : (g : Sign) (w : Bytes) (d : Option Bytes) → all is_digit w ≡ true
    → parts_behind g (w ++ decimals_text d) ≡ record { sign = g; whole = w; decimals = d }
unfolding parts_behind
behind_read g [] None h = refl
behind_read g [] (Some s) h = refl
behind_read g (b ∷ w) d h =
    let k = digit_is b (all_head is_digit b w h) in
    rw (ne_eqb b 46 (λ e. omega arith), behind_read g w d (all_tail is_digit b w h))

some_digit : (most : ℕ) (w : Bytes) → one_to most w ≡ true → 1 ≤ length w
some_digit most w h = leb-true 1 (length w) (both_left _ _ (both_right _ _ h))

unsigned_read : (w : Bytes) (d : Option Bytes) → one_to 3 w ≡ true → parts_of (w ++ decimals_text d) ≡ record { sign = unsigned; whole = w; decimals = d }
unfolding parts_of
unsigned_read [] d h = absurd (omega (arith, some_digit 3 [] h))
unsigned_read (b ∷ w) d h =
    let a = both_left _ _ h in
    let k = digit_is b (all_head is_digit b w a) in
    rw (ne_eqb b 43 (λ e. omega arith), ne_eqb b 45 (λ e. omega arith)) (behind_read unsigned (b ∷ w) d a)

signed_read : (g : Sign) (w : Bytes) (d : Option Bytes) → one_to 3 w ≡ true
    → parts_of (sign_text g ++ (w ++ decimals_text d)) ≡ record { sign = g; whole = w; decimals = d }
unfolding parts_of
signed_read unsigned w d h = unsigned_read w d h
signed_read plus w d h = behind_read plus w d (both_left _ _ h)
signed_read minus w d h = behind_read minus w d (both_left _ _ h)

pub parts_read : (p : DegreeParts) → legal_degrees p ≡ true → parts_of (parts_text p) ≡ p
unfolding legal_degrees parts_text
parts_read p h = signed_read p.sign p.whole p.decimals (both_left _ _ h)

-- ---- "text .. of this form"

-- a text that is written from legal parts, with the exact degrees that they write
pub record DegreesWritten (s : Bytes) (x : ℤ) : Type 0 where
  pub parts : DegreeParts
  pub legal : legal_degrees parts ≡ true
  pub text : s ≡ parts_text parts
  pub exact : x ≡ exact_of parts

pub exactly : (s : Bytes) (x : ℤ) → (exact_degrees s ≡ Some x) ↔ DegreesWritten s x
unfolding exact_degrees
exactly s x = (
  λ e. by_bool (legal_degrees (parts_of s))
      (λ t. let q : Some (exact_of (parts_of s)) ≡ Some x = rw t at e in record { parts = parts_of s; legal = t; text = sym (parts_back s); exact = cc })
      (λ t. let q : None ≡ Some x = rw t at e in no (cc)),
  λ w. rw (w.text, parts_read w.parts w.legal, w.legal, w.exact),
)

-- "23 text not of this form"
pub not_written : (s : Bytes) → (exact_degrees s ≡ None) ↔ ((x : ℤ) → DegreesWritten s x → ⊥)
not_written s = (
  λ e x w. no (cc (e, (exactly s x).1 w)),
  λ n. go (exact_degrees s) refl n,
)
  where
    go : (o : Option ℤ) → exact_degrees s ≡ o → ((x : ℤ) → DegreesWritten s x → ⊥) → o ≡ None
    go None e n = refl
    go (Some x) e n = absurd (n x ((exactly s x).0 e))
