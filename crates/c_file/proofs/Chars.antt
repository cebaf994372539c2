-- The bytes so far of a character, read back from their word.
use Prim.Native.Nat.{ℕ, ◌+◌, ◌*◌, ◌/◌, ◌%◌, ◌<◌, ◌≤◌}
use mathlib.Core.Path.{◌≡◌, refl}
use mathlib.Core.Bool.{true}
use native.Mathlib.Omega.{arith}
use lib.Dec.{eqb}
use borrow.Author.Tests.{leb-true, ne_eqb, lt-ltb, le-ltb}
use Rattle.base.specs.Bytes.{both}
use Rattle.base.proofs.Split.{by_bool, both_left, both_right}
use Rattle.little.specs.Little.{value}
use Rattle.text.specs.Char.{from_to}
use Rattle.markup.specs.MarkupBytes.{second_byte, begins_char}
use Rattle.xml_chars.specs.declared.CharBytes.{CharBytes}
use Rattle.xml_chars.specs.declared.CharBytes.TheVariants as C
use Rattle.xml_chars.specs.Chars.{bytes_in, begun}
use Rattle.c_file.specs.Words.{chars_in, chars_coded}

low : (lo hi x : ℕ) → from_to lo hi x ≡ true → lo ≤ x
unfolding from_to
low lo hi x h = leb-true lo x (both_left _ _ h)

high : (lo hi x : ℕ) → from_to lo hi x ≡ true → x ≤ hi
unfolding from_to
high lo hi x h = leb-true x hi (both_right _ _ h)

-- a second byte is one of a continuation
second_low : (a b : ℕ) → second_byte a b ≡ true → 0x80 ≤ b
unfolding second_byte
second_low a b h =
    let l = low _ _ b h in
    by_bool (eqb a 0xe0)
    (λ t. let k = rw t at l in omega arith)
    (λ f. by_bool (eqb a 0xf0) (λ t. let k = rw (f, t) at l in omega arith) (λ g. rw (f, g) at l))

second_high : (a b : ℕ) → second_byte a b ≡ true → b ≤ 0xbf
unfolding second_byte
second_high a b h =
    let l = high _ _ b h in
    by_bool (eqb a 0xed)
    (λ t. let k = rw t at l in omega arith)
    (λ f. by_bool (eqb a 0xf4) (λ t. let k = rw (f, t) at l in omega arith) (λ g. rw (f, g) at l))

-- a word of one byte, of two and of three
one_in : (n a : ℕ) → n ≡ a → 0 < a → a < 256 → chars_in n ≡ C.One a
one_in n a e l m = rw (e, ne_eqb a 0 (λ z. omega arith), lt-ltb a 256 m)

two_in : (n a b : ℕ) → n ≡ a + 256 * b → a < 256 → 0 < b → b < 256 → chars_in n ≡ C.Two a b
two_in n a b e l m h =
    let p : n % 256 ≡ a = omega arith in
    let q : n / 256 ≡ b = omega arith in
    rw (ne_eqb n 0 (λ z. omega arith), le-ltb n 256 (omega arith), lt-ltb n 65536 (omega arith), p, q)

three_in : (n a b c : ℕ) → n ≡ a + 256 * (b + 256 * c) → a < 256 → b < 256 → 0 < c → c < 256 → chars_in n ≡ C.Three a b c
three_in n a b c e l m h k =
    let p : n % 256 ≡ a = omega arith in
    let q : n / 256 % 256 ≡ b = omega arith in
    let r : n / 65536 ≡ c = omega arith in
    rw (ne_eqb n 0 (λ z. omega arith), le-ltb n 256 (omega arith), le-ltb n 65536 (omega arith), p, q, r)

-- they are those bytes' word, and are bytes of a character
pub record CharsBack (s : CharBytes) : Type 0 where
  pub within : chars_coded (value (bytes_in s)) ≡ true
  pub back : chars_in (value (bytes_in s)) ≡ s

word_back : (s : CharBytes) → value (bytes_in s) < 16777216 → chars_in (value (bytes_in s)) ≡ s → begun (bytes_in s) ≡ true → CharsBack s
unfolding chars_coded both
word_back s l e h = record { within = rw (lt-ltb (value (bytes_in s)) 16777216 l, e) h; back = e }

pub chars_back : (s : CharBytes) → begun (bytes_in s) ≡ true → CharsBack s
unfolding begun begins_char value
chars_back C.None h = word_back C.None (omega arith) refl h
chars_back (C.One a) h =
    let l = low 0xc2 0xf4 a h in
    let m = high 0xc2 0xf4 a h in
    word_back (C.One a) (omega arith) (one_in (a + 256 * 0) a (omega arith) (omega arith) (omega arith)) h
chars_back (C.Two a b) h =
    let m = high 0xe0 0xf4 a (both_left _ _ h) in
    let s = both_right (from_to 0xe0 0xf4 a) _ h in
    let l = second_low a b s in
    let k = second_high a b s in
    word_back (C.Two a b) (omega arith) (two_in (a + 256 * (b + 256 * 0)) a b (omega arith) (omega arith) (omega arith) (omega arith)) h
chars_back (C.Three a b c) h =
    let m = high 0xf0 0xf4 a (both_left _ _ h) in
    let t = both_right (from_to 0xf0 0xf4 a) _ h in
    let k = second_high a b (both_left _ _ t) in
    let l = second_low a b (both_left _ _ t) in
    let u = low 0x80 0xbf c (both_right (second_byte a b) _ t) in
    let v = high 0x80 0xbf c (both_right (second_byte a b) _ t) in
    word_back (C.Three a b c) (omega arith) (three_in (a + 256 * (b + 256 * (c + 256 * 0))) a b c (omega arith) (omega arith) (omega arith) (omega arith) (omega arith)) h
