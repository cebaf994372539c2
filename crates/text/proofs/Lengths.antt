-- The length of the character that a run begins with: it is one of an encoding, and the code finds it class by class.
use Prim.Native.Nat.{ℕ, ◌+◌, ◌-◌, ◌/◌, ◌%◌, ◌<◌, ◌≤◌}
use mathlib.Core.Path.{◌≡◌, refl, ◌∙◌, ap}
use mathlib.Core.Bool.{true, false, cond}
use mathlib.Core.List.{[], ◌∷◌, ◌++◌}
use native.Mathlib.Omega.{arith}
use lib.ListN.{length, take, drop, take-append-drop, length-append, get_or-eq_default, get_or-append}
use lib.Seq.{take-append_seam, drop-cons}
use borrow.Author.Tests.{le-leb, lt-leb}
use Rattle.base.specs.Bytes.{Bytes, both}
use Rattle.base.proofs.Split.{by_lt, by_bool, no, both_left, both_right, both_no_right}
use Rattle.base.proofs.Lists.{same_yes, same_refl}
use Rattle.text.specs.Char.{xml_char, utf8}
use Rattle.text.specs.Check.{byte_at, joined_bits, decoded, begins, char_len, sized}
use Rattle.text.proofs.Xml.{none_above}
use Rattle.text.proofs.Chars.{utf8_2, utf8_3, utf8_4, utf8_some, first_1, first_2, first_3, tail_of, point_2, point_3, point_4, decoded_utf8}

pub begins_append : (p r : Bytes) → begins p (p ++ r) ≡ true
unfolding begins
begins_append p r = rw take-append_seam (same_refl p)

pub begins_yes : (p s : Bytes) → begins p s ≡ true → s ≡ p ++ drop (length p) s
unfolding begins
begins_yes p s h = cc (same_yes p (take (length p) s) h, take-append-drop (length p) s)

-- a legal character that a run begins with
pub record Begun (s : Bytes) : Type 0 where
  pub c : ℕ
  pub legal : xml_char c ≡ true
  pub size : char_len s ≡ length (utf8 c)
  pub here : s ≡ utf8 c ++ drop (char_len s) s

pub found : (s : Bytes) → 0 < char_len s → Begun s
unfolding char_len
found s h = by_bool (both (begins (utf8 (decoded s)) s) (xml_char (decoded s)))
    (λ t. let k : char_len s ≡ length (utf8 (decoded s)) = rw t in
    record { c = decoded s; legal = both_right _ _ t; size = k; here = rw k (begins_yes (utf8 (decoded s)) s (both_left _ _ t)) })
    (λ t. no (omega (arith, rw t at h)))

pub len_within : (s : Bytes) → char_len s ≤ length s
len_within s =
    by_lt 0 (char_len s)
    (λ h. omega (arith, (found s h).size, simp length-append at (ap length (found s h).here)))
    (λ h. omega arith)

pub char_len_lem : (c : ℕ) (r : Bytes) → xml_char c ≡ true → char_len (utf8 c ++ r) ≡ length (utf8 c)
unfolding char_len both
char_len_lem c r h = rw (decoded_utf8 c r, h, begins_append (utf8 c) r)

pub sized_low : (k least v : ℕ) → v < least → sized k least v ≡ 0
unfolding sized both
sized_low k least v h = rw (lt-leb least v h)

pub sized_is : (k least v : ℕ) → least ≤ v → sized k least v ≡ cond (xml_char v) k 0
unfolding sized both
sized_is k least v h = rw (le-leb least v h)

module _ (s : Bytes) where
  inside : (i : ℕ) → 0 < byte_at s i → i < length s
  inside i h = by_lt i (length s) (λ l. l) (λ l. no (omega (arith, get_or-eq_default s 0 l)))

  -- the bytes make a code point whose encoding has a lower first byte
  low : (k least : ℕ) → decoded s < least → byte_at (utf8 (decoded s)) 0 < byte_at s 0 → char_len s ≡ sized k least (decoded s)
  unfolding char_len both
  low k least g h =
      by_bool (begins (utf8 (decoded s)) s)
      (λ t. no (omega (arith, ap (λ (l : Bytes). byte_at l 0) (begins_yes (utf8 (decoded s)) s t), get_or-append (utf8 (decoded s)) (drop (length (utf8 (decoded s))) s) 0 0 (utf8_some (decoded s)))))
      (λ t. rw (t, sized_low k least (decoded s) g))

  -- the bytes are the encoding of the code point that they make
  fit : (k least : ℕ) (p r : Bytes) → least ≤ decoded s → utf8 (decoded s) ≡ p → s ≡ p ++ r → k ≡ length p → char_len s ≡ sized k least (decoded s)
  unfolding char_len both
  fit k least p r g e h f = let t : begins p s ≡ true = rw h (begins_append p r) in rw (sized_is k least (decoded s) g, e, t, f)

  pub len_illegal : xml_char (decoded s) ≡ false → char_len s ≡ 0
  unfolding char_len
  len_illegal h = rw (both_no_right (begins (utf8 (decoded s)) s) h)

  pub len_2 : 0x80 ≤ byte_at s 0 → byte_at s 0 < 0xe0 → char_len s ≡ sized 2 0x80 (decoded s)
  len_2 l u = by_lt (decoded s) 0x80
      (λ h. low 2 0x80 h (omega (arith, first_1 (decoded s) h)))
      (λ h. let d = point_2 s l u in
      let p = tail_of (byte_at s 0 - 0xc0) (byte_at s 1) (omega arith) in
      let x : 0xc0 + decoded s / 64 ≡ byte_at s 0 = omega arith in
      let y : 0x80 + decoded s % 64 ≡ byte_at s 1 = omega arith in
      fit 2 0x80 (byte_at s 0 ∷ byte_at s 1 ∷ []) (drop 2 s) h
      (cc (utf8_2 (decoded s) h (omega arith)))
      (cc (drop-cons s 0 0 (inside 0 (omega arith)), drop-cons s 1 0 (inside 1 (omega arith))))
      refl)

  pub len_3 : 0xe0 ≤ byte_at s 0 → byte_at s 0 < 0xf0 → char_len s ≡ sized 3 0x800 (decoded s)
  len_3 l u = by_lt (decoded s) 0x800
      (λ h. low 3 0x800 h (omega (arith, first_2 (decoded s) h)))
      (λ h. let d = point_3 s l u in
      let p = tail_of (joined_bits (byte_at s 0 - 0xe0) (byte_at s 1)) (byte_at s 2) (omega arith) in
      let q = tail_of (byte_at s 0 - 0xe0) (byte_at s 1) (omega arith) in
      let x : 0xe0 + decoded s / 4096 ≡ byte_at s 0 = omega arith in
      let y : 0x80 + decoded s / 64 % 64 ≡ byte_at s 1 = omega arith in
      let z : 0x80 + decoded s % 64 ≡ byte_at s 2 = omega arith in
      fit 3 0x800 (byte_at s 0 ∷ byte_at s 1 ∷ byte_at s 2 ∷ []) (drop 3 s) h
      (cc (utf8_3 (decoded s) h (omega arith)))
      (cc (drop-cons s 0 0 (inside 0 (omega arith)), drop-cons s 1 0 (inside 1 (omega arith)), drop-cons s 2 0 (inside 2 (omega arith))))
      refl)

  pub len_4 : 0xf0 ≤ byte_at s 0 → char_len s ≡ sized 4 0x10000 (decoded s)
  len_4 l = by_lt (decoded s) 0x10000
      (λ h. low 4 0x10000 h (omega (arith, first_3 (decoded s) h)))
      (λ h. let d = point_4 s l in
      let p = tail_of (joined_bits (joined_bits (byte_at s 0 - 0xf0) (byte_at s 1)) (byte_at s 2)) (byte_at s 3) (omega arith) in
      let q = tail_of (joined_bits (byte_at s 0 - 0xf0) (byte_at s 1)) (byte_at s 2) (omega arith) in
      let r = tail_of (byte_at s 0 - 0xf0) (byte_at s 1) (omega arith) in
      let w : 0xf0 + decoded s / 262144 ≡ byte_at s 0 = omega arith in
      let x : 0x80 + decoded s / 4096 % 64 ≡ byte_at s 1 = omega arith in
      let y : 0x80 + decoded s / 64 % 64 ≡ byte_at s 2 = omega arith in
      let z : 0x80 + decoded s % 64 ≡ byte_at s 3 = omega arith in
      fit 4 0x10000 (byte_at s 0 ∷ byte_at s 1 ∷ byte_at s 2 ∷ byte_at s 3 ∷ []) (drop 4 s) h
      (cc (utf8_4 (decoded s) h))
      (cc (drop-cons s 0 0 (inside 0 (omega arith)), drop-cons s 1 0 (inside 1 (omega arith)), drop-cons s 2 0 (inside 2 (omega arith)), drop-cons s 3 0 (inside 3 (omega arith))))
      refl)

  -- first bytes past those of U+10FFFF begin no legal character
  pub len_beyond : 0xf5 ≤ byte_at s 0 → char_len s ≡ 0
  len_beyond l =
      by_lt (decoded s) 0x10000
      (λ h. len_4 (omega arith) ∙ sized_low 4 0x10000 (decoded s) h)
      (λ h. let d = point_4 s (omega arith) in
      let p = tail_of (joined_bits (joined_bits (byte_at s 0 - 0xf0) (byte_at s 1)) (byte_at s 2)) (byte_at s 3) (omega arith) in
      let q = tail_of (joined_bits (byte_at s 0 - 0xf0) (byte_at s 1)) (byte_at s 2) (omega arith) in
      let r = tail_of (byte_at s 0 - 0xf0) (byte_at s 1) (omega arith) in
      len_illegal (none_above (decoded s) (omega arith)))
