-- A place that words stand for is one that words can have.
use Prim.Native.Nat.{ℕ, zero, suc, ◌≤◌, ◌<◌}
use mathlib.Core.Path.{◌≡◌, refl}
use mathlib.Core.Bool.{true}
use mathlib.Core.List.{List}
use native.Mathlib.Omega.{arith}
use lib.Dec.{leb}
use lib.ListN.{get_or}
use borrow.Author.Tests.{leb-true, ne_eqb}
use Rattle.base.proofs.Split.{by_eq, both_left, both_right, both_of}
use Rattle.xml_chars.specs.Chars.{bytes_in, begun}
use Rattle.c_file.specs.Fits.{markup_fits, is_held}
use Rattle.c_file.specs.Words.{word_at, first_most, second_most, detailed, start_tag_in, end_tag_in, comment_in, instruction_in, declaration_in, markup_in, chars_in, chars_coded, place_coded, file_in, is_file}

-- what holds of each number below k, one by one
abbrev UpTo : (ℕ → Type 0) → ℕ → Type 0
UpTo P zero = Unit {0}
UpTo P (suc k) = P k × UpTo P k

below : (P : ℕ → Type 0) (k n : ℕ) → n < k → UpTo P k → P n
below P zero n h u = absurd (omega arith)
below P (suc k) n h u = by_eq n k (λ e. rw e u.0) (λ d. below P k n (omega arith) u.1)

module _ (a b : ℕ) where
  first_of : (n : ℕ) → detailed n a b ≡ true → leb a (get_or first_most n 0) ≡ true
  unfolding detailed
  first_of n e = both_left _ _ (both_right (leb n 33) _ e)

  second_of : (n : ℕ) → detailed n a b ≡ true → leb b (get_or second_most n 0) ≡ true
  unfolding detailed
  second_of n e = both_right (leb a (get_or first_most n 0)) _ (both_right (leb n 33) _ e)

  number_of : (n : ℕ) → detailed n a b ≡ true → n ≤ 33
  unfolding detailed
  number_of n e = leb-true n 33 (both_left _ _ e)

  abbrev Fits : ℕ → Type 0
  Fits n = detailed n a b ≡ true → markup_fits (markup_in n a b) ≡ true

  up_to_10 : UpTo Fits 11
  unfolding markup_in start_tag_in
  up_to_10 = (λ e. refl, (λ e. refl, (λ e. refl, (λ e. refl, (λ e. refl, (λ e. refl, (λ e. refl, (λ e. refl, (λ e. refl, (λ e. refl, (λ e. refl, tt)))))))))))

  up_to_21 : UpTo Fits 22
  unfolding markup_in start_tag_in end_tag_in comment_in
  up_to_21 = (λ e. refl, (λ e. refl, (λ e. refl, (λ e. refl, (λ e. refl, (λ e. refl, (λ e. refl, (λ e. refl, (second_of 13, (λ e. refl, (second_of 11, up_to_10)))))))))))

  up_to_33 : UpTo Fits 34
  unfolding markup_in instruction_in declaration_in
  up_to_33 = (λ e. refl, (λ e. refl, (λ e. refl, (λ e. refl, (first_of 29, (first_of 28, (first_of 27, (λ e. refl, (λ e. refl, (λ e. refl, (λ e. refl, (λ e. refl, up_to_21))))))))))))

  pub markup_read : (n : ℕ) → detailed n a b ≡ true → markup_fits (markup_in n a b) ≡ true
  markup_read n e = let m = number_of n e in below Fits 34 n (omega arith) up_to_33 e

begun_of : (n : ℕ) → chars_coded n ≡ true → begun (bytes_in (chars_in n)) ≡ true
unfolding chars_coded
begun_of n c = both_right _ _ c

pub place_read : (w : List ℕ) → is_file w ≡ true → is_held (file_in w).lexer.place ≡ true
unfolding is_file place_coded is_held
place_read w e =
    let n = word_at w 0 in
    let d = both_left (detailed n (word_at w 1) (word_at w 2)) _ e in
    by_eq n 0 (λ z. rw z)
    (λ z. let c : chars_coded (word_at w 3) ≡ true = rw (ne_eqb n 0 z) at (both_right (detailed n (word_at w 1) (word_at w 2)) _ e) in
    rw (ne_eqb n 0 z) (both_of (markup_read (word_at w 1) (word_at w 2) n d) (begun_of (word_at w 3) c)))
