-- Laws of little-endian numbers, over the number of bytes.
use Prim.Native.Nat.{ℕ, zero, suc, ◌+◌, ◌-◌, ◌*◌, ◌/◌, ◌%◌, ◌^◌, ◌≤◌, ◌<◌}
use mathlib.Core.Path.{◌≡◌, refl, sym, ◌∙◌, ap}
use mathlib.Core.Bool.{true}
use mathlib.Core.List.{[], ◌∷◌, reverse}
use native.Mathlib.Nat.{mod-eq_of_lt, pow-suc, pow-le-pow_right, one-le-pow}
use native.Mathlib.Omega.{arith}
use lib.Arith.{mod-mul}
use lib.ListN.{length, get_or, take, drop, length-take, length-drop, take-append-drop}
use lib.Seq.{drop-cons}
use Rattle.std.proofs.lemmas.List.{get_or-reverse}
use borrow.Author.Tests.{ltb-true, lt-ltb}
use Rattle.base.specs.Bytes.{Bytes, all}
use Rattle.base.proofs.Lists.{all_nil, all_cons, all_head, all_tail, all_left, all_right}
use Rattle.little.specs.Little.{is_byte, le, value, value_at}

-- ---- bytes

pub byte_yes : (b : ℕ) → is_byte b ≡ true → b < 256
unfolding is_byte
byte_yes b h = ltb-true b 256 h

pub byte_of : (b : ℕ) → b < 256 → is_byte b ≡ true
unfolding is_byte
byte_of b h = lt-ltb b 256 h

-- the bytes of a slice, of which the borrow checker knows each
pub bytes_of : (s : Bytes) → ((i : ℕ) → i < length s → get_or s i 0 < 256) → all is_byte s ≡ true
bytes_of [] f = all_nil is_byte
bytes_of (b ∷ s) f = all_cons is_byte b s (byte_of b (f 0 (omega arith))) (bytes_of s (λ i h. f (suc i) (omega arith)))

pub bytes_take : (n : ℕ) (s : Bytes) → all is_byte s ≡ true → all is_byte (take n s) ≡ true
bytes_take n s h = all_left is_byte (take n s) (drop n s) (rw take-append-drop h)

pub bytes_drop : (n : ℕ) (s : Bytes) → all is_byte s ≡ true → all is_byte (drop n s) ≡ true
bytes_drop n s h = all_right is_byte (take n s) (drop n s) (rw take-append-drop h)

-- ---- a number as bytes

pub length_le : (n v : ℕ) → length (le n v) ≡ n
unfolding le
length_le zero v = refl
length_le (suc n) v = ap suc (length_le n (v / 256))

pub bytes_le : (n v : ℕ) → all is_byte (le n v) ≡ true
unfolding le
bytes_le zero v = all_nil is_byte
bytes_le (suc n) v = all_cons is_byte (v % 256) (le n (v / 256)) (byte_of (v % 256) (omega arith)) (bytes_le n (v / 256))

pub le_suc : (n v : ℕ) → le (suc n) v ≡ v % 256 ∷ le n (v / 256)
unfolding le
le_suc n v = refl

pub le_zero : (v : ℕ) → le 0 v ≡ []
unfolding le
le_zero v = refl

-- ---- bytes as a number

pub value_nil : value [] ≡ 0
unfolding value
value_nil = refl

pub value_cons : (b : ℕ) (s : Bytes) → value (b ∷ s) ≡ b + 256 * value s
unfolding value
value_cons b s = refl

pub value_below : (s : Bytes) → all is_byte s ≡ true → value s < 256 ^ length s
unfolding value
value_below [] h = omega arith
value_below (b ∷ s) h =
    let p = byte_yes b (all_head is_byte b s h) in
    let q = value_below s (all_tail is_byte b s h) in
    rw pow-suc (omega arith)

-- within a width
pub value_within : (s : Bytes) (n : ℕ) → all is_byte s ≡ true → length s ≤ n → value s < 256 ^ n
value_within s n h g =
    let p = value_below s h in
    let q : 256 ^ length s ≤ 256 ^ n = pow-le-pow_right (omega arith) g in
    omega arith

-- ---- there and back

pub value_le : (n v : ℕ) → value (le n v) ≡ v % 256 ^ n
unfolding le value
value_le zero v = omega arith
value_le (suc n) v =
    let p : 0 < 256 ^ n = one-le-pow n 256 (omega arith) in
    let m : v % (256 ^ n * 256) ≡ v / 256 % 256 ^ n * 256 + v % 256 = mod-mul v p (omega arith) in
    rw (pow-suc, value_le n (v / 256)) (omega arith)

pub value_back : (n v : ℕ) → v < 256 ^ n → value (le n v) ≡ v
value_back n v h = rw (value_le n v) (mod-eq_of_lt h)

pub le_value : (s : Bytes) → all is_byte s ≡ true → le (length s) (value s) ≡ s
unfolding le value
le_value [] h = refl
le_value (b ∷ s) h =
    let p = byte_yes b (all_head is_byte b s h) in
    let q : (b + 256 * value s) % 256 ≡ b = omega arith in
    let r : (b + 256 * value s) / 256 ≡ value s = omega arith in
    rw (q, r) (ap (b ∷◌) (le_value s (all_tail is_byte b s h)))

pub le_injective : (n v w : ℕ) → v < 256 ^ n → w < 256 ^ n → le n v ≡ le n w → v ≡ w
le_injective n v w h g e = sym (value_back n v h) ∙ (ap value e ∙ value_back n w g)

-- ---- the number at a place

pub value_at_within : (n : ℕ) (s : Bytes) (at : ℕ) → all is_byte s ≡ true → value_at n s at < 256 ^ n
unfolding value_at
value_at_within n s at h = value_within (take n (drop at s)) n (bytes_take n (drop at s) (bytes_drop at s h)) (omega (arith, length-take n (drop at s)))

-- ---- a reader on its way down: it has read the last j bytes

module _ (s : Bytes) where
  -- one byte more
  pub next : (j b r : ℕ) → j < length s → b ≡ get_or (reverse s) j b → r ≡ value (drop (length s - j) s) → r * 256 + b ≡ value (drop (length s - (j + 1)) s)
  next j b r g h e =
      let d : get_or s (length s - (j + 1)) b ≡ b = let i : length s - (j + 1) ≡ length s - 1 - j = omega arith in rw i (sym (h ∙ get_or-reverse s j b g)) in
      let k : suc (length s - (j + 1)) ≡ length s - j = omega arith in
      rw (drop-cons s (length s - (j + 1)) b (omega arith), d, value_cons, k, e) (omega arith)

  pub next_fits : (j b r : ℕ) → j < length s → b ≡ get_or (reverse s) j b → r ≡ value (drop (length s - j) s) → all is_byte s ≡ true → length s ≤ 8 → r * 256 + b < 2 ^ 64
  next_fits j b r g h e bytes few =
      let i = length s - (j + 1) in
      rw (next j b r g h e) (value_within (drop i s) 8 (bytes_drop i s bytes) (omega (arith, length-drop i s)))
