-- The class of a first byte: its meaning, and what it says of the character that a run begins with.
use Prim.Native.Nat.{ℕ, suc, ◌+◌, ◌-◌, ◌*◌, ◌/◌, ◌%◌, ◌<◌, ◌≤◌}
use mathlib.Core.Path.{◌≡◌, sym, ◌∙◌, ap}
use mathlib.Core.Bool.{true, false, cond}
use mathlib.Core.List.{◌∷◌}
use native.Mathlib.Omega.{arith}
use lib.Dec.{eqb, leb}
use lib.ListN.{length, drop, get_or-eq_default}
use native.Mathlib.Nat.{add-zero}
use lib.Seq.{drop-cons, get_or-drop}
use borrow.Author.Tests.{lt-ltb, le-ltb}
use Rattle.std.specs.Prelude.{Some, None}
use Rattle.base.specs.Bytes.{Bytes, both}
use Rattle.base.proofs.Split.{by_lt, by_bool, no}
use Rattle.text.specs.Char.{xml_char, utf8}
use Rattle.text.specs.Check.{byte_at, joined_bits, decoded, char_len, sized, class_of, Starting, Measured}
use Rattle.text.proofs.Xml.{legal_low, legal_middle, legal_high, legal_top}
use Rattle.text.proofs.Chars.{utf8_1, utf8_2, utf8_3, utf8_4, by_size, join_most, join_below, point_1, point_2, point_3, point_4}
use Rattle.text.proofs.Lengths.{char_len_lem, sized_low, len_illegal, len_2, len_3, len_4, len_beyond}

module _ (b : ℕ) where
  ascii : b < 0x80 → class_of b ≡ cond (xml_char b) 1 0
  unfolding class_of
  ascii h = rw (lt-ltb b 0x80 h)

  tail : 0x80 ≤ b → b < 0xc2 → class_of b ≡ 0
  unfolding class_of
  tail l h = rw (le-ltb b 0x80 l, lt-ltb b 0xc2 h)

  two : 0xc2 ≤ b → b < 0xe0 → class_of b ≡ 2
  unfolding class_of
  two l h = rw (le-ltb b 0x80 (omega arith), le-ltb b 0xc2 l, lt-ltb b 0xe0 h)

  three : 0xe0 ≤ b → b < 0xf0 → class_of b ≡ 3
  unfolding class_of
  three l h = rw (le-ltb b 0x80 (omega arith), le-ltb b 0xc2 (omega arith), le-ltb b 0xe0 l, lt-ltb b 0xf0 h)

  four : 0xf0 ≤ b → b < 0xf5 → class_of b ≡ 4
  unfolding class_of
  four l h = rw (le-ltb b 0x80 (omega arith), le-ltb b 0xc2 (omega arith), le-ltb b 0xe0 (omega arith), le-ltb b 0xf0 l, lt-ltb b 0xf5 h)

  high : 0xf5 ≤ b → class_of b ≡ 0
  unfolding class_of
  high l = rw (le-ltb b 0x80 (omega arith), le-ltb b 0xc2 (omega arith), le-ltb b 0xe0 (omega arith), le-ltb b 0xf0 (omega arith), le-ltb b 0xf5 l)

  -- a first byte by its range
  pub by_class : {C : Type 0}
      → (b < 0x80 → xml_char b ≡ true → class_of b ≡ 1 → C)
      → (b < 0x80 → xml_char b ≡ false → class_of b ≡ 0 → C)
      → (0x80 ≤ b → b < 0xc2 → class_of b ≡ 0 → C)
      → (0xc2 ≤ b → b < 0xe0 → class_of b ≡ 2 → C)
      → (0xe0 ≤ b → b < 0xf0 → class_of b ≡ 3 → C)
      → (0xf0 ≤ b → b < 0xf5 → class_of b ≡ 4 → C)
      → (0xf5 ≤ b → class_of b ≡ 0 → C)
      → C
  by_class f1 f0 ft f2 f3 f4 fh =
      by_lt b 0x80 (λ h. by_bool (xml_char b) (λ x. f1 h x (ascii h ∙ rw x)) (λ x. f0 h x (ascii h ∙ rw x)))
      (λ a. by_lt b 0xc2 (λ h. ft a h (tail a h))
      (λ l. by_lt b 0xe0 (λ h. f2 l h (two l h))
      (λ l. by_lt b 0xf0 (λ h. f3 l h (three l h))
      (λ l. by_lt b 0xf5 (λ h. f4 l h (four l h))
      (λ l. fh l (high l))))))

  -- the same of a byte that starts a character
  pub by_some : {C : Type 0}
      → 0 < class_of b
      → (b < 0x80 → xml_char b ≡ true → class_of b ≡ 1 → C)
      → (0xc2 ≤ b → b < 0xe0 → class_of b ≡ 2 → C)
      → (0xe0 ≤ b → b < 0xf0 → class_of b ≡ 3 → C)
      → (0xf0 ≤ b → b < 0xf5 → class_of b ≡ 4 → C)
      → C
  by_some h f1 f2 f3 f4 = by_class f1 (λ u x d. no (omega arith)) (λ l u d. no (omega arith)) f2 f3 f4 (λ l d. no (omega arith))

-- where the first bytes of class k begin, for k from 2; those of class 4 end where the ones of class 5 would begin
abbrev start : ℕ → ℕ
start k = cond (eqb k 2) 0xc2 (cond (eqb k 3) 0xe0 (cond (eqb k 4) 0xf0 0xf5))

class_range : (b k : ℕ) → k ≡ class_of b → 2 ≤ k → (start k ≤ b) × (b < start (k + 1))
class_range b k e h =
    by_some b (omega arith)
    (λ u x d. no (omega arith))
    (λ l u d. let q : k ≡ 2 = cc in rw q (l, u))
    (λ l u d. let q : k ≡ 3 = cc in rw q (l, u))
    (λ l u d. let q : k ≡ 4 = cc in rw q (l, u))

pub class_most : (b : ℕ) → class_of b ≤ 4
class_most b =
    by_class b
    (λ u x d. omega arith)
    (λ u x d. omega arith)
    (λ l u d. omega arith)
    (λ l u d. omega arith)
    (λ l u d. omega arith)
    (λ l u d. omega arith)
    (λ l d. omega arith)

-- The meaning of the classes: the first byte of a legal character has the class of its length.
pub class_first : (c : ℕ) → xml_char c ≡ true → class_of (byte_at (utf8 c) 0) ≡ length (utf8 c)
class_first c h =
    by_size c
    (λ u. rw (utf8_1 c u, ascii c u, h))
    (λ l u. rw (utf8_2 c l u) (two (0xc0 + c / 64) (omega arith) (omega arith)))
    (λ l u. rw (utf8_3 c l u) (three (0xe0 + c / 4096) (omega arith) (omega arith)))
    (λ l. rw (utf8_4 c l) (four (0xf0 + c / 262144) (omega arith) (omega (arith, legal_top c h))))

-- a legal character that starts with the byte
pub record Starts (b : ℕ) : Type 0 where
  pub c : ℕ
  pub legal : xml_char c ≡ true
  pub first : byte_at (utf8 c) 0 ≡ b

-- And only a byte that a legal character starts with has a class other than 0.
pub class_some : (b : ℕ) → 0 < class_of b → Starts b
class_some b h =
    by_some b h
    (λ u x d. record { c = b; legal = x; first = rw (utf8_1 b u) })
    (λ l u d. two_of ((b - 0xc0) * 64) (omega arith) (omega arith) (omega arith))
    (λ l u d. by_lt b 0xe1
    (λ e. three_of 0x800 (omega arith) (omega arith) (omega arith) (legal_low 0x800 (omega arith) (omega arith)))
    (λ e. three_of ((b - 0xe0) * 4096) (omega arith) (omega arith) (omega arith)
    (by_lt b 0xee (λ f. legal_low _ (omega arith) (omega arith)) (λ f. legal_middle _ (omega arith) (omega arith)))))
    (λ l u d. by_lt b 0xf1
    (λ e. four_of 0x10000 (omega arith) (omega arith) (omega arith))
    (λ e. four_of ((b - 0xf0) * 262144) (omega arith) (omega arith) (omega arith)))
  where
    two_of : (c : ℕ) → 0x80 ≤ c → c < 0x800 → 0xc0 + c / 64 ≡ b → Starts b
    two_of c l u e = record { c = c; legal = legal_low c (omega arith) (omega arith); first = rw (utf8_2 c l u) e }

    three_of : (c : ℕ) → 0x800 ≤ c → c < 0x10000 → 0xe0 + c / 4096 ≡ b → xml_char c ≡ true → Starts b
    three_of c l u e x = record { c = c; legal = x; first = rw (utf8_3 c l u) e }

    four_of : (c : ℕ) → 0x10000 ≤ c → c < 0x110000 → 0xf0 + c / 262144 ≡ b → Starts b
    four_of c l u e = record { c = c; legal = legal_high c l u; first = rw (utf8_4 c l) e }

len_one : (b : ℕ) (s : Bytes) → class_of b ≡ 1 → char_len (b ∷ s) ≡ 1
len_one b s e =
    by_some b (omega arith)
    (λ u x d. rw (utf8_1 b u) at (char_len_lem b s x))
    (λ l u d. no (omega arith))
    (λ l u d. no (omega arith))
    (λ l u d. no (omega arith))

len_none : (s : Bytes) → class_of (byte_at s 0) ≡ 0 → char_len s ≡ 0
len_none s e =
    by_class (byte_at s 0)
    (λ u x d. no (omega arith))
    (λ u x d. len_illegal s (rw (point_1 s u) x))
    (λ l u d. len_2 s l (omega arith) ∙ sized_low 2 0x80 (decoded s) (omega (arith, point_2 s l (omega arith), join_most (byte_at s 0 - 0xc0) (byte_at s 1))))
    (λ l u d. no (omega arith))
    (λ l u d. no (omega arith))
    (λ l u d. no (omega arith))
    (λ l d. len_beyond s l)

-- what the code reads at a place of a run, by the class of the byte there
there : (s : Bytes) (at i : ℕ) → byte_at (drop at s) i ≡ byte_at s (at + i)
there s at i = get_or-drop at s i 0

first : (s : Bytes) (at : ℕ) → byte_at (drop at s) 0 ≡ byte_at s at
first s at = there s at 0 ∙ rw add-zero

module _ {s : Bytes} {at : ℕ} where
  pub at_none : Starting s at 0 → char_len (drop at s) ≡ 0
  at_none h = len_none (drop at s) (rw (first s at) (sym h.class))

  pub at_1 : {k : ℕ} → Starting s at k → k ≡ 1 → char_len (drop at s) ≡ 1
  at_1 h e = rw (drop-cons s at 0 h.inside) (len_one (byte_at s at) (drop (suc at) s) (sym h.class ∙ e))

  pub at_2 : Starting s at 2 → char_len (drop at s) ≡ sized 2 0x80 (joined_bits (byte_at s at % 32) (byte_at s (at + 1)))
  at_2 h =
      let r = class_range (byte_at s at) 2 h.class (omega arith) in
      let m : byte_at s at - 0xc0 ≡ byte_at s at % 32 = omega arith in
      let l : 0x80 ≤ byte_at (drop at s) 0 = rw (first s at) (omega arith) in
      let u : byte_at (drop at s) 0 < 0xe0 = rw (first s at) (omega arith) in
      len_2 (drop at s) l u ∙ ap (sized 2 0x80) (point_2 (drop at s) l u ∙ rw (first s at, there s at 1, m))

  pub at_3 : Starting s at 3 → char_len (drop at s) ≡ sized 3 0x800 (joined_bits (joined_bits (byte_at s at % 16) (byte_at s (at + 1))) (byte_at s (at + 2)))
  at_3 h =
      let r = class_range (byte_at s at) 3 h.class (omega arith) in
      let m : byte_at s at - 0xe0 ≡ byte_at s at % 16 = omega arith in
      let l : 0xe0 ≤ byte_at (drop at s) 0 = rw (first s at) (omega arith) in
      let u : byte_at (drop at s) 0 < 0xf0 = rw (first s at) (omega arith) in
      len_3 (drop at s) l u ∙ ap (sized 3 0x800) (point_3 (drop at s) l u ∙ rw (first s at, there s at 1, there s at 2, m))

  pub at_4 : Starting s at 4
      → char_len (drop at s) ≡ sized 4 0x10000 (joined_bits (joined_bits (joined_bits (byte_at s at % 8) (byte_at s (at + 1))) (byte_at s (at + 2))) (byte_at s (at + 3)))
  at_4 h =
      let r = class_range (byte_at s at) 4 h.class (omega arith) in
      let m : byte_at s at - 0xf0 ≡ byte_at s at % 8 = omega arith in
      let l : 0xf0 ≤ byte_at (drop at s) 0 = rw (first s at) (omega arith) in
      len_4 (drop at s) l ∙ ap (sized 4 0x10000) (point_4 (drop at s) l ∙ rw (first s at, there s at 1, there s at 2, there s at 3, m))

  -- bits that are too few for a character of the class
  pub stops_2 : Starting s at 2 → joined_bits (byte_at s at % 32) (byte_at s (at + 1)) < 0x80 → char_len (drop at s) ≡ 0
  stops_2 h l = at_2 h ∙ sized_low 2 0x80 _ l

  pub stops_3 : Starting s at 3 → joined_bits (joined_bits (byte_at s at % 16) (byte_at s (at + 1))) (byte_at s (at + 2)) < 0x800 → char_len (drop at s) ≡ 0
  stops_3 h l = at_3 h ∙ sized_low 3 0x800 _ l

  pub stops_4 : Starting s at 4
      → joined_bits (joined_bits (joined_bits (byte_at s at % 8) (byte_at s (at + 1))) (byte_at s (at + 2))) (byte_at s (at + 3)) < 0x10000 → char_len (drop at s) ≡ 0
  stops_4 h l = at_4 h ∙ sized_low 4 0x10000 _ l

-- what the code answers, as a test of the code point
pub measured : (s : Bytes) (k least v : ℕ) → 0 < k → char_len s ≡ sized k least v → Measured s (cond (both (leb least v) (xml_char v)) (Some k) None)
unfolding sized
measured s k least v l e =
    by_bool (both (leb least v) (xml_char v))
    (λ t. rw t (l, let d : char_len s ≡ k = rw t at e in sym d))
    (λ t. rw t (rw t at e))

-- past the end stands no byte that continues a character
pub join_past : (v : ℕ) (s : Bytes) (i : ℕ) → length s ≤ i → joined_bits v (byte_at s i) ≡ 0
join_past v s i h = rw (get_or-eq_default s 0 h) (join_below v 0 (omega arith))
