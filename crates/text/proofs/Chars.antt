-- Laws of one character: its encoding by size, its bytes, and that it is read from its encoding.
use Prim.Native.Nat.{ℕ, ◌+◌, ◌-◌, ◌*◌, ◌/◌, ◌%◌, ◌<◌, ◌≤◌}
use mathlib.Core.Path.{◌≡◌, ◌∙◌}
use mathlib.Core.Bool.{true}
use mathlib.Core.List.{[], ◌∷◌, ◌++◌}
use native.Mathlib.Omega.{arith}
use lib.Dec.{leb}
use lib.ListN.{length}
use borrow.Author.Tests.{lt-ltb, le-ltb, le-leb}
use Rattle.base.specs.Bytes.{Bytes, all}
use Rattle.base.proofs.Split.{by_lt, no}
use Rattle.base.proofs.Lists.{all_nil, all_cons}
use Rattle.text.specs.Char.{utf8}
use Rattle.text.specs.Check.{byte_at, joined_bits, decoded}
use Rattle.text.proofs.Xml.{from_to_yes, from_to_below, from_to_above}

-- the encoding by the number of its bytes
module _ (c : ℕ) where
  pub utf8_1 : c < 0x80 → utf8 c ≡ c ∷ []
  unfolding utf8
  utf8_1 h = rw (lt-ltb c 0x80 h)

  pub utf8_2 : 0x80 ≤ c → c < 0x800 → utf8 c ≡ (0xc0 + c / 64) ∷ (0x80 + c % 64) ∷ []
  unfolding utf8
  utf8_2 l h = rw (le-ltb c 0x80 l, lt-ltb c 0x800 h)

  pub utf8_3 : 0x800 ≤ c → c < 0x10000 → utf8 c ≡ (0xe0 + c / 4096) ∷ (0x80 + c / 64 % 64) ∷ (0x80 + c % 64) ∷ []
  unfolding utf8
  utf8_3 l h = rw (le-ltb c 0x80 (omega arith), le-ltb c 0x800 l, lt-ltb c 0x10000 h)

  pub utf8_4 : 0x10000 ≤ c → utf8 c ≡ (0xf0 + c / 262144) ∷ (0x80 + c / 4096 % 64) ∷ (0x80 + c / 64 % 64) ∷ (0x80 + c % 64) ∷ []
  unfolding utf8
  utf8_4 l = rw (le-ltb c 0x80 (omega arith), le-ltb c 0x800 (omega arith), le-ltb c 0x10000 l)

  pub by_size : {C : Type 0} → (c < 0x80 → C) → (0x80 ≤ c → c < 0x800 → C) → (0x800 ≤ c → c < 0x10000 → C) → (0x10000 ≤ c → C) → C
  by_size f1 f2 f3 f4 = by_lt c 0x80 f1 (λ a. by_lt c 0x800 (f2 a) (λ b. by_lt c 0x10000 (f3 b) f4))

module _ (v b : ℕ) where
  pub join_yes : 0x80 ≤ b → b < 0xc0 → joined_bits v b ≡ v * 64 + (b - 0x80)
  unfolding joined_bits
  join_yes l h = rw (from_to_yes 0x80 0xbf b l (omega arith))

  pub join_below : b < 0x80 → joined_bits v b ≡ 0
  unfolding joined_bits
  join_below h = rw (from_to_below 0x80 0xbf b h)

  pub join_above : 0xc0 ≤ b → joined_bits v b ≡ 0
  unfolding joined_bits
  join_above h = rw (from_to_above 0x80 0xbf b (omega arith) (omega arith))

  -- the byte continues a character
  pub record Tail : Type 0 where
    pub low : 0x80 ≤ b
    pub high : b < 0xc0
    pub value : joined_bits v b ≡ v * 64 + (b - 0x80)

  pub tail_of : 0 < joined_bits v b → Tail
  tail_of h =
      by_lt b 0x80 (λ l. no (omega (arith, join_below l)))
      (λ l. by_lt b 0xc0 (λ u. record { low = l; high = u; value = join_yes l u }) (λ u. no (omega (arith, join_above u))))

  pub join_most : joined_bits v b ≤ v * 64 + 63
  join_most = by_lt 0 (joined_bits v b) (λ h. omega (arith, (tail_of h).low, (tail_of h).high, (tail_of h).value)) (λ h. omega arith)

-- what the first byte says of the code point
module _ (s : Bytes) where
  pub point_1 : byte_at s 0 < 0x80 → decoded s ≡ byte_at s 0
  unfolding decoded
  point_1 h = rw (lt-ltb (byte_at s 0) 0x80 h)

  pub point_2 : 0x80 ≤ byte_at s 0 → byte_at s 0 < 0xe0 → decoded s ≡ joined_bits (byte_at s 0 - 0xc0) (byte_at s 1)
  unfolding decoded
  point_2 l h = rw (le-ltb (byte_at s 0) 0x80 l, lt-ltb (byte_at s 0) 0xe0 h)

  pub point_3 : 0xe0 ≤ byte_at s 0 → byte_at s 0 < 0xf0 → decoded s ≡ joined_bits (joined_bits (byte_at s 0 - 0xe0) (byte_at s 1)) (byte_at s 2)
  unfolding decoded
  point_3 l h = rw (le-ltb (byte_at s 0) 0x80 (omega arith), le-ltb (byte_at s 0) 0xe0 l, lt-ltb (byte_at s 0) 0xf0 h)

  pub point_4 : 0xf0 ≤ byte_at s 0 → decoded s ≡ joined_bits (joined_bits (joined_bits (byte_at s 0 - 0xf0) (byte_at s 1)) (byte_at s 2)) (byte_at s 3)
  unfolding decoded
  point_4 l = rw (le-ltb (byte_at s 0) 0x80 (omega arith), le-ltb (byte_at s 0) 0xe0 (omega arith), le-ltb (byte_at s 0) 0xf0 l)

-- a byte of an encoding after the first
join_rest : (v c : ℕ) → joined_bits v (0x80 + c % 64) ≡ v * 64 + c % 64
join_rest v c = join_yes v (0x80 + c % 64) (omega arith) (omega arith) ∙ omega arith

-- a code point is read from its encoding, whatever follows
pub decoded_utf8 : (c : ℕ) (r : Bytes) → decoded (utf8 c ++ r) ≡ c
decoded_utf8 c r =
    by_size c
    (λ h. rw (utf8_1 c h) (point_1 (c ∷ r) h))
    (λ l h. rw (utf8_2 c l h) (point_2 ((0xc0 + c / 64) ∷ (0x80 + c % 64) ∷ r) (omega arith) (omega arith) ∙ simp join_rest (omega arith)))
    (λ l h. rw (utf8_3 c l h) (point_3 ((0xe0 + c / 4096) ∷ (0x80 + c / 64 % 64) ∷ (0x80 + c % 64) ∷ r) (omega arith) (omega arith) ∙ simp join_rest (omega arith)))
    (λ l. rw (utf8_4 c l) (point_4 ((0xf0 + c / 262144) ∷ (0x80 + c / 4096 % 64) ∷ (0x80 + c / 64 % 64) ∷ (0x80 + c % 64) ∷ r) (omega arith) ∙ simp join_rest (omega arith)))

pub utf8_some : (c : ℕ) → 0 < length (utf8 c)
utf8_some c =
    by_size c (λ h. rw (utf8_1 c h) (omega arith)) (λ l h. rw (utf8_2 c l h) (omega arith)) (λ l h. rw (utf8_3 c l h) (omega arith))
    (λ l. rw (utf8_4 c l) (omega arith))

-- the first byte of a code point below the least of two, three and four bytes
pub first_1 : (c : ℕ) → c < 0x80 → byte_at (utf8 c) 0 < 0x80
first_1 c h = rw (utf8_1 c h) h

pub first_2 : (c : ℕ) → c < 0x800 → byte_at (utf8 c) 0 < 0xe0
first_2 c h = by_lt c 0x80 (λ u. omega (arith, first_1 c u)) (λ l. rw (utf8_2 c l h) (omega arith))

pub first_3 : (c : ℕ) → c < 0x10000 → byte_at (utf8 c) 0 < 0xf0
first_3 c h = by_lt c 0x800 (λ u. omega (arith, first_2 c u)) (λ l. rw (utf8_3 c l h) (omega arith))

-- the bytes of a character beyond ASCII
high : (n x : ℕ) (s : Bytes) → 0x80 ≤ n → all (leb 0x80) s ≡ true → all (leb 0x80) ((n + x) ∷ s) ≡ true
high n x s l h = all_cons (leb 0x80) (n + x) s (le-leb 0x80 (n + x) (omega arith)) h

pub utf8_high : (c : ℕ) → 0x80 ≤ c → all (leb 0x80) (utf8 c) ≡ true
utf8_high c l =
    let l0 : 0x80 ≤ 0x80 = omega arith in
    let z = all_nil (leb 0x80) in
    by_size c
    (λ h. no (omega arith))
    (λ a h. rw (utf8_2 c a h) (high 0xc0 _ _ (omega arith) (high 0x80 _ _ l0 z)))
    (λ a h. rw (utf8_3 c a h) (high 0xe0 _ _ (omega arith) (high 0x80 _ _ l0 (high 0x80 _ _ l0 z))))
    (λ a. rw (utf8_4 c a) (high 0xf0 _ _ (omega arith) (high 0x80 _ _ l0 (high 0x80 _ _ l0 (high 0x80 _ _ l0 z)))))
