-- The characters of one to four bytes: what the bytes are, and the code point that they make.
use Prim.Native.Nat.{ℕ, ◌+◌, ◌-◌, ◌*◌, ◌/◌, ◌%◌, ◌<◌, ◌≤◌}
use mathlib.Core.Path.{◌≡◌, sym, ◌∙◌}
use mathlib.Core.Bool.{Bool, true, false, cond, ◌&&◌}
use mathlib.Core.List.{[], ◌∷◌}
use native.Mathlib.Omega.{arith}
use lib.Dec.{leb}
use borrow.Author.Tests.{le-leb, lt-leb}
use Rattle.base.specs.Bytes.{Bytes, both}
use Rattle.base.proofs.Split.{by_bool, by_le, no, clash, both_left, both_right, both_true}
use Rattle.base.proofs.Lists.{same_yes, same_refl}
use Rattle.text.specs.Char.{from_to, xml_char, utf8}
use Rattle.text.specs.Check.{decoded}
use Rattle.text.proofs.Chars.{utf8_1, utf8_2, utf8_3, utf8_4, by_size, join_yes, point_1, point_2, point_3, point_4}
use Rattle.text.proofs.Xml.{legal_low, legal_top}
use Rattle.markup.specs.Automaton.{completes, malformed}
use Rattle.markup.specs.MarkupBytes.{is_char}
use Rattle.xml_chars.specs.Chars.{whole_char}
use Rattle.xml_chars.proofs.Bytes.{Within, within, is_within, left_holds, right_holds, both_hold}

-- bytes that are a character are its encoding
pub record CharOf (c : ℕ) (s : Bytes) : Type 0 where
  pub legal : xml_char c ≡ true
  pub text : utf8 c ≡ s

pub char_whole : (s : Bytes) → is_char s ≡ true → CharOf (decoded s) s
unfolding is_char
char_whole s h = record { legal = both_left _ _ h; text = same_yes (utf8 (decoded s)) s (both_right (xml_char (decoded s)) _ h) }

-- where they are the encoding of a code point, they are a character if it is legal
encoded_is : (c : ℕ) (s : Bytes) → decoded s ≡ c → utf8 c ≡ s → whole_char s ≡ cond (xml_char c) (completes c) malformed
unfolding is_char
encoded_is c s d e = rw (d, e, same_refl s, both_true (xml_char c))

-- where no legal code point is, they are none
none_is : (s : Bytes) → (CharOf (decoded s) s → ⊥) → whole_char s ≡ malformed
none_is s f = by_bool (is_char s) (λ t. absurd (f (char_whole s t))) (λ t. rw t)

-- ---- one byte

pub one_whole : (a : ℕ) → a < 0x80 → whole_char (a ∷ []) ≡ cond (xml_char a) (completes a) malformed
one_whole a h = encoded_is a (a ∷ []) (point_1 (a ∷ []) h) (utf8_1 a h)

one_of : (c a : ℕ) → CharOf c (a ∷ []) → a < 0x80
one_of c a w =
    by_size c
    (λ h. let e : c ∷ [] ≡ a ∷ [] = rw (utf8_1 c h) at w.text in let x : c ≡ a = cc e in omega arith)
    (λ l h. no (cc (rw (utf8_2 c l h) at w.text)))
    (λ l h. no (cc (rw (utf8_3 c l h) at w.text)))
    (λ l. no (cc (rw (utf8_4 c l) at w.text)))

pub one_none : (a : ℕ) → 0x80 ≤ a → whole_char (a ∷ []) ≡ malformed
one_none a l = none_is (a ∷ []) (λ w. let h = one_of _ a w in omega arith)

-- ---- two

pub record Two (a b : ℕ) : Type 0 where
  pub first : Within 0xc2 0xdf a
  pub second : Within 0x80 0xbf b

-- the code's test
module _ {a b : ℕ} {r s : Bool} (p : r ≡ from_to 0xc2 0xdf a) (q : s ≡ from_to 0x80 0xbf b) where
  pub two_taken : (r && s) ≡ true → Two a b
  two_taken h = record { first = within _ _ _ (sym p ∙ left_holds _ _ h); second = within _ _ _ (sym q ∙ right_holds r _ h) }

  pub two_missed : (r && s) ≡ false → Two a b → ⊥
  two_missed h t = clash (both_hold (p ∙ is_within t.first) (q ∙ is_within t.second)) h

abbrev pub point_of_two : ℕ → ℕ → ℕ
point_of_two a b = (a - 0xc0) * 64 + (b - 0x80)

pub two_whole : (a b : ℕ) → Two a b → whole_char (a ∷ b ∷ []) ≡ completes (point_of_two a b)
two_whole a b t =
    let f = t.first in
    let g = t.second in
    let al = f.low in
    let ah = f.high in
    let bl = g.low in
    let bh = g.high in
    let v = point_of_two a b in
    let d : decoded (a ∷ b ∷ []) ≡ v = point_2 (a ∷ b ∷ []) (omega arith) (omega arith) ∙ join_yes (a - 0xc0) b bl (omega arith) in
    let x : 0xc0 + v / 64 ≡ a = omega arith in
    let y : 0x80 + v % 64 ≡ b = omega arith in
    encoded_is v (a ∷ b ∷ []) d (cc (utf8_2 v (omega arith) (omega arith), x, y)) ∙ rw (legal_low v (omega arith) (omega arith))

two_of : (c a b : ℕ) → CharOf c (a ∷ b ∷ []) → Two a b
two_of c a b w =
    by_size c
    (λ h. no (cc (rw (utf8_1 c h) at w.text)))
    (λ l h. let e : (0xc0 + c / 64) ∷ (0x80 + c % 64) ∷ [] ≡ a ∷ b ∷ [] = rw (utf8_2 c l h) at w.text in
    let x : 0xc0 + c / 64 ≡ a = cc e in
    let y : 0x80 + c % 64 ≡ b = cc e in
    record { first = record { low = omega arith; high = omega arith }; second = record { low = omega arith; high = omega arith } })
    (λ l h. no (cc (rw (utf8_3 c l h) at w.text)))
    (λ l. no (cc (rw (utf8_4 c l) at w.text)))

pub two_none : (a b : ℕ) → (Two a b → ⊥) → whole_char (a ∷ b ∷ []) ≡ malformed
two_none a b f = none_is (a ∷ b ∷ []) (λ w. f (two_of _ a b w))

-- ---- three

pub record Three (a b c : ℕ) : Type 0 where
  pub first : Within 0xe0 0xef a
  pub second : Within 0x80 0xbf b
  pub third : Within 0x80 0xbf c

module _ {a b c : ℕ} {r s t : Bool} (p : r ≡ from_to 0xe0 0xef a) (q : s ≡ from_to 0x80 0xbf b) (o : t ≡ from_to 0x80 0xbf c) where
  pub three_taken : ((r && s) && t) ≡ true → Three a b c
  three_taken h =
      let k = left_holds (r && s) t h in
      record { first = within _ _ _ (sym p ∙ left_holds _ _ k); second = within _ _ _ (sym q ∙ right_holds r _ k); third = within _ _ _ (sym o ∙ right_holds (r && s) _ h) }

  pub three_missed : ((r && s) && t) ≡ false → Three a b c → ⊥
  three_missed h w = clash (both_hold (both_hold (p ∙ is_within w.first) (q ∙ is_within w.second)) (o ∙ is_within w.third)) h

abbrev pub point_of_three : ℕ → ℕ → ℕ → ℕ
point_of_three a b c = ((a - 0xe0) * 64 + (b - 0x80)) * 64 + (c - 0x80)

-- the bytes are of the form, and the code point is not one of fewer bytes
record ThreeOf (v a b c : ℕ) : Type 0 where
  form : Three a b c
  least : 0x800 ≤ v

three_of : (v a b c : ℕ) → CharOf v (a ∷ b ∷ c ∷ []) → ThreeOf v a b c
three_of v a b c w =
    by_size v
    (λ h. no (cc (rw (utf8_1 v h) at w.text)))
    (λ l h. no (cc (rw (utf8_2 v l h) at w.text)))
    (λ l h. let e : (0xe0 + v / 4096) ∷ (0x80 + v / 64 % 64) ∷ (0x80 + v % 64) ∷ [] ≡ a ∷ b ∷ c ∷ [] = rw (utf8_3 v l h) at w.text in
    let x : 0xe0 + v / 4096 ≡ a = cc e in
    let y : 0x80 + v / 64 % 64 ≡ b = cc e in
    let z : 0x80 + v % 64 ≡ c = cc e in
    record {
      form = record {
        first = record { low = omega arith; high = omega arith };
        second = record { low = omega arith; high = omega arith };
        third = record { low = omega arith; high = omega arith };
      };
      least = l;
    })
    (λ l. no (cc (rw (utf8_4 v l) at w.text)))

pub three_none : (a b c : ℕ) → (Three a b c → ⊥) → whole_char (a ∷ b ∷ c ∷ []) ≡ malformed
three_none a b c f = none_is (a ∷ b ∷ c ∷ []) (λ w. f (three_of _ a b c w).form)

pub three_whole : (a b c : ℕ) → Three a b c
    → whole_char (a ∷ b ∷ c ∷ []) ≡ cond (both (leb 0x800 (point_of_three a b c)) (xml_char (point_of_three a b c))) (completes (point_of_three a b c)) malformed
unfolding both
three_whole a b c t =
    let f = t.first in
    let g = t.second in
    let h = t.third in
    let al = f.low in
    let ah = f.high in
    let bl = g.low in
    let bh = g.high in
    let cl = h.low in
    let ch = h.high in
    let v = point_of_three a b c in
    let u = (a - 0xe0) * 64 + (b - 0x80) in
    let d : decoded (a ∷ b ∷ c ∷ []) ≡ v =
    point_3 (a ∷ b ∷ c ∷ []) al (omega arith) ∙ rw (join_yes (a - 0xe0) b bl (omega arith)) (join_yes u c cl (omega arith)) in
    by_le 0x800 v
    (λ l. let x : 0xe0 + v / 4096 ≡ a = omega arith in
    let y : 0x80 + v / 64 % 64 ≡ b = omega arith in
    let z : 0x80 + v % 64 ≡ c = omega arith in
    rw (le-leb 0x800 v l) (encoded_is v (a ∷ b ∷ c ∷ []) d (cc (utf8_3 v l (omega arith), x, y, z))))
    (λ n. rw (lt-leb 0x800 v n) (none_is (a ∷ b ∷ c ∷ []) (λ w. let k = (three_of _ a b c w).least in omega (arith, d))))

-- ---- four

pub record Four (a b c d : ℕ) : Type 0 where
  pub first : Within 0xf0 0xf4 a
  pub second : Within 0x80 0xbf b
  pub third : Within 0x80 0xbf c
  pub fourth : Within 0x80 0xbf d

module _ {a b c d : ℕ} {r s t u : Bool} (p : r ≡ from_to 0xf0 0xf4 a) (q : s ≡ from_to 0x80 0xbf b) (o : t ≡ from_to 0x80 0xbf c) (m : u ≡ from_to 0x80 0xbf d) where
  pub four_taken : (((r && s) && t) && u) ≡ true → Four a b c d
  four_taken h =
      let j = left_holds ((r && s) && t) u h in
      let k = left_holds (r && s) t j in
      record {
        first = within _ _ _ (sym p ∙ left_holds _ _ k);
        second = within _ _ _ (sym q ∙ right_holds r _ k);
        third = within _ _ _ (sym o ∙ right_holds (r && s) _ j);
        fourth = within _ _ _ (sym m ∙ right_holds ((r && s) && t) _ h);
      }

  pub four_missed : (((r && s) && t) && u) ≡ false → Four a b c d → ⊥
  four_missed h w = clash (both_hold (both_hold (both_hold (p ∙ is_within w.first) (q ∙ is_within w.second)) (o ∙ is_within w.third)) (m ∙ is_within w.fourth)) h

abbrev pub point_of_four : ℕ → ℕ → ℕ → ℕ → ℕ
point_of_four a b c d = (((a - 0xf0) * 64 + (b - 0x80)) * 64 + (c - 0x80)) * 64 + (d - 0x80)

record FourOf (v a b c d : ℕ) : Type 0 where
  form : Four a b c d
  least : 0x10000 ≤ v

four_of : (v a b c d : ℕ) → CharOf v (a ∷ b ∷ c ∷ d ∷ []) → FourOf v a b c d
four_of v a b c d w =
    by_size v
    (λ h. no (cc (rw (utf8_1 v h) at w.text)))
    (λ l h. no (cc (rw (utf8_2 v l h) at w.text)))
    (λ l h. no (cc (rw (utf8_3 v l h) at w.text)))
    (λ l. let e : (0xf0 + v / 262144) ∷ (0x80 + v / 4096 % 64) ∷ (0x80 + v / 64 % 64) ∷ (0x80 + v % 64) ∷ [] ≡ a ∷ b ∷ c ∷ d ∷ [] = rw (utf8_4 v l) at w.text in
    let top = legal_top v w.legal in
    let i : 0xf0 + v / 262144 ≡ a = cc e in
    let x : 0x80 + v / 4096 % 64 ≡ b = cc e in
    let y : 0x80 + v / 64 % 64 ≡ c = cc e in
    let z : 0x80 + v % 64 ≡ d = cc e in
    record {
      form = record {
        first = record { low = omega arith; high = omega arith };
        second = record { low = omega arith; high = omega arith };
        third = record { low = omega arith; high = omega arith };
        fourth = record { low = omega arith; high = omega arith };
      };
      least = l;
    })

pub four_none : (a b c d : ℕ) → (Four a b c d → ⊥) → whole_char (a ∷ b ∷ c ∷ d ∷ []) ≡ malformed
four_none a b c d f = none_is (a ∷ b ∷ c ∷ d ∷ []) (λ w. f (four_of _ a b c d w).form)

pub four_whole : (a b c d : ℕ) → Four a b c d
    → whole_char (a ∷ b ∷ c ∷ d ∷ []) ≡ cond (both (leb 0x10000 (point_of_four a b c d)) (xml_char (point_of_four a b c d))) (completes (point_of_four a b c d)) malformed
unfolding both
four_whole a b c d t =
    let f = t.first in
    let g = t.second in
    let h = t.third in
    let k = t.fourth in
    let al = f.low in
    let ah = f.high in
    let bl = g.low in
    let bh = g.high in
    let cl = h.low in
    let ch = h.high in
    let dl = k.low in
    let dh = k.high in
    let v = point_of_four a b c d in
    let u = (a - 0xf0) * 64 + (b - 0x80) in
    let e : decoded (a ∷ b ∷ c ∷ d ∷ []) ≡ v =
    point_4 (a ∷ b ∷ c ∷ d ∷ []) al
    ∙ rw (join_yes (a - 0xf0) b bl (omega arith), join_yes u c cl (omega arith)) (join_yes (u * 64 + (c - 0x80)) d dl (omega arith)) in
    by_le 0x10000 v
    (λ l. let i : 0xf0 + v / 262144 ≡ a = omega arith in
    let x : 0x80 + v / 4096 % 64 ≡ b = omega arith in
    let y : 0x80 + v / 64 % 64 ≡ c = omega arith in
    let z : 0x80 + v % 64 ≡ d = omega arith in
    rw (le-leb 0x10000 v l) (encoded_is v (a ∷ b ∷ c ∷ d ∷ []) e (cc (utf8_4 v l, i, x, y, z))))
    (λ n. rw (lt-leb 0x10000 v n) (none_is (a ∷ b ∷ c ∷ d ∷ []) (λ w. let m = (four_of _ a b c d w).least in omega (arith, e))))
