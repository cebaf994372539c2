-- Laws of texts for the layers above: single characters, plain bytes, joining, cutting at an ASCII byte.
use Prim.Native.Nat.{ℕ, suc, ◌<◌, ◌≤◌}
use mathlib.Core.Path.{◌≡◌, refl, sym, ◌∙◌, ap}
use mathlib.Core.Bool.{Bool, true}
use mathlib.Core.List.{List, [], ◌∷◌, ◌++◌, append_assoc}
use native.Mathlib.Omega.{arith}
use lib.Dec.{leb}
use lib.ListN.{length, take, drop, length-append}
use lib.Seq.{drop-append_seam, split_at}
use borrow.Author.Tests.{lt-ltb, ltb-true, leb-true}
use Rattle.base.specs.Bytes.{Bytes, both, all, is_digit}
use Rattle.base.proofs.Split.{by_bool, by_lt, no, both_left, both_right, both_of, same_test}
use Rattle.base.proofs.Lists.{all_nil, all_cons, all_head, all_tail, all_append}
use Rattle.text.specs.Char.{xml_char, utf8}
use Rattle.text.specs.Text.{encoded}
use Rattle.text.specs.Check.{byte_at, is_text, plain_ascii}
use Rattle.text.proofs.Xml.{legal_low}
use Rattle.text.proofs.Chars.{utf8_1, utf8_high, utf8_some, point_1, decoded_utf8}
use Rattle.text.proofs.Lengths.{char_len_lem, len_illegal}
use Rattle.text.proofs.Theorem.{text_nil, goes, stops, sound, complete}

-- encodings are a prefix code
pub utf8_prefix : (a b : ℕ) (r s : Bytes) → utf8 a ++ r ≡ utf8 b ++ s → (a ≡ b) × (r ≡ s)
utf8_prefix a b r s e = (code, cc (code, drop-append_seam (utf8 a) r, drop-append_seam (utf8 b) s))
  where
    code : a ≡ b
    code = cc (decoded_utf8 a r, decoded_utf8 b s)

-- a test that implies another, over a list
pub all_imp : {A : Type 0} (p q : A → Bool) → ((x : A) → p x ≡ true → q x ≡ true) → (xs : List A) → all p xs ≡ true → all q xs ≡ true
all_imp p q f [] h = all_nil q
all_imp p q f (x ∷ xs) h = all_cons q x xs (f x (all_head p x xs h)) (all_imp p q f xs (all_tail p x xs h))

pub encoded_append : (a b : List ℕ) → encoded (a ++ b) ≡ encoded a ++ encoded b
unfolding encoded
encoded_append [] b = refl
encoded_append (c ∷ a) b = rw (encoded_append a b) (sym (append_assoc (utf8 c) (encoded a) (encoded b)))

-- text after text is text
pub text_append : (s t : Bytes) → is_text s ≡ true → is_text t ≡ true → is_text (s ++ t) ≡ true
text_append s t h k =
    let a = sound s h in
    let b = sound t k in
    complete (s ++ t) (record {
      chars = a.chars ++ b.chars;
      legal = all_append xml_char a.chars b.chars a.legal b.legal;
      same = rw (encoded_append a.chars b.chars, ← a.same, ← b.same);
    })

-- a legal character before a run
pub text_char : (c : ℕ) (r : Bytes) → xml_char c ≡ true → is_text (utf8 c ++ r) ≡ is_text r
text_char c r h =
    let e = char_len_lem c r h in
    goes (utf8 c ++ r) (omega (arith, utf8_some c)) ∙ rw (e, drop-append_seam (utf8 c) r)

-- an ASCII byte before a run
pub text_ascii : (b : ℕ) (r : Bytes) → b < 0x80 → is_text (b ∷ r) ≡ both (xml_char b) (is_text r)
unfolding both
text_ascii b r h =
    by_bool (xml_char b)
    (λ x. rw x (rw (utf8_1 b h) at (text_char b r x)))
    (λ x. rw x (stops (b ∷ r) (omega arith) (len_illegal (b ∷ r) (rw (point_1 (b ∷ r) h) x))))

-- a run of plain bytes is text
pub text_plain : (s : Bytes) → all plain_ascii s ≡ true → is_text s ≡ true
unfolding plain_ascii
text_plain [] h = text_nil
text_plain (b ∷ s) h =
    let p = all_head plain_ascii b s h in
    text_ascii b s (ltb-true b 0x80 (both_left _ _ p)) ∙ both_of (both_right _ _ p) (text_plain s (all_tail plain_ascii b s h))

pub plain_of : (b : ℕ) → 0x20 ≤ b → b < 0x80 → plain_ascii b ≡ true
unfolding plain_ascii
plain_of b l h = both_of (lt-ltb b 0x80 h) (legal_low b l (omega arith))

-- a run of decimal digits is text
pub text_digits : (s : Bytes) → all is_digit s ≡ true → is_text s ≡ true
unfolding is_digit
text_digits s h =
    text_plain s
    (all_imp is_digit plain_ascii
    (λ b d. plain_of b (omega (arith, leb-true 48 b (both_left _ _ d))) (omega (arith, leb-true b 57 (both_right _ _ d)))) s h)

-- p has no ASCII byte: where `p ++ r` is `s ++ (b ∷ t)` with an ASCII byte b, all of p lies in s
record Before (p r s t : Bytes) (b : ℕ) : Type 0 where
  rest : Bytes
  front : s ≡ p ++ rest
  back : r ≡ rest ++ (b ∷ t)

before : (p r s t : Bytes) (b : ℕ) → all (leb 0x80) p ≡ true → b < 0x80 → p ++ r ≡ s ++ (b ∷ t) → Before p r s t b
before [] r s t b h l e = record { rest = s; front = refl; back = e }
before (x ∷ p) r [] t b h l e = let q : x ≡ b = cc in no (omega (arith, leb-true 0x80 x (all_head (leb 0x80) x p h)))
before (x ∷ p) r (y ∷ s) t b h l e =
    let q : x ≡ y = cc in
    let w = before p r s t b (all_tail (leb 0x80) x p h) l (cc) in
    record { rest = w.rest; front = cc w.front; back = w.back }

-- both sides of an ASCII byte in a text
record Cut (s t : Bytes) (b : ℕ) : Type 0 where
  left : is_text s ≡ true
  right : is_text (b ∷ t) ≡ true

module _ (t : Bytes) (b : ℕ) (l : b < 0x80) where
  -- an ASCII character first
  cut_ascii : (c : ℕ) (r s : Bytes) → c < 0x80 → xml_char c ≡ true → is_text r ≡ true
      → ((u : Bytes) → r ≡ u ++ (b ∷ t) → Cut u t b) → c ∷ r ≡ s ++ (b ∷ t) → Cut s t b
  cut_ascii c r [] a x h f e = record { left = text_nil; right = rw (← e) (text_ascii c r a ∙ both_of x h) }
  cut_ascii c r (y ∷ s) a x h f e =
      let q : y ≡ c = cc in
      let w = f s (cc) in
      record { left = rw q (text_ascii c s a ∙ both_of x w.left); right = w.right }

  cut_chars : (cs : List ℕ) (s : Bytes) → all xml_char cs ≡ true → encoded cs ≡ s ++ (b ∷ t) → Cut s t b
  unfolding encoded
  cut_chars [] s h e = no (omega (arith, simp length-append at (ap length e)))
  cut_chars (c ∷ cs) s h e =
      let x = all_head xml_char c cs h in
      let k = all_tail xml_char c cs h in
      by_lt c 0x80
      (λ a. cut_ascii c (encoded cs) s a x (complete (encoded cs) (record { chars = cs; legal = k; same = refl })) (λ u d. cut_chars cs u k d) (rw (utf8_1 c a) at e))
      (λ a. let d = before (utf8 c) (encoded cs) s t b (utf8_high c a) l e in
      let w = cut_chars cs d.rest k d.back in
      record { left = rw d.front (text_char c d.rest x ∙ w.left); right = w.right })

-- a run with an ASCII byte in it is text exactly when both sides are
pub text_cut : (s t : Bytes) (b : ℕ) → b < 0x80 → is_text (s ++ (b ∷ t)) ≡ both (is_text s) (is_text (b ∷ t))
text_cut s t b l =
    same_test _ _
    (λ h. let w = sound (s ++ (b ∷ t)) h in let d = cut_chars t b l w.chars s w.legal (sym w.same) in both_of d.left d.right)
    (λ h. text_append s (b ∷ t) (both_left _ _ h) (both_right _ _ h))

module _ (s t : Bytes) (b : ℕ) (l : b < 0x80) (h : is_text (s ++ (b ∷ t)) ≡ true) where
  pub cut_left : is_text s ≡ true
  cut_left = both_left _ _ (sym (text_cut s t b l) ∙ h)

  pub cut_at : is_text (b ∷ t) ≡ true
  cut_at = both_right _ _ (sym (text_cut s t b l) ∙ h)

  pub cut_right : is_text t ≡ true
  cut_right = both_right _ _ (sym (text_ascii b t l) ∙ cut_at)

-- the same by the place of the byte
module _ (s : Bytes) (i : ℕ) (h : i < length s) (l : byte_at s i < 0x80) (k : is_text s ≡ true) where
  parts : is_text (take i s ++ (byte_at s i ∷ drop (suc i) s)) ≡ true
  parts = rw (split_at s i 0 h) at k

  pub cut_take : is_text (take i s) ≡ true
  cut_take = cut_left (take i s) (drop (suc i) s) (byte_at s i) l parts

  pub cut_drop : is_text (drop (suc i) s) ≡ true
  cut_drop = cut_right (take i s) (drop (suc i) s) (byte_at s i) l parts
