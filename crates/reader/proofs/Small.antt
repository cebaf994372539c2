-- Text is bytes.
use Prim.Native.Nat.{ℕ, ◌<◌}
use mathlib.Core.Path.{◌≡◌}
use mathlib.Core.Bool.{true}
use mathlib.Core.List.{List, [], ◌∷◌}
use native.Mathlib.Omega.{arith}
use Rattle.base.specs.Bytes.{Bytes, all}
use Rattle.base.proofs.Lists.{all_nil, all_cons, all_head, all_tail, all_append}
use Rattle.little.specs.Little.{is_byte}
use Rattle.little.proofs.Littles.{byte_of}
use Rattle.text.specs.Char.{xml_char, utf8}
use Rattle.text.specs.Text.{encoded}
use Rattle.text.specs.Check.{is_text}
use Rattle.text.proofs.Xml.{legal_top}
use Rattle.text.proofs.Chars.{utf8_1, utf8_2, utf8_3, utf8_4, by_size}
use Rattle.text.proofs.Theorem.{sound}

bytes_cons : (b : ℕ) (s : Bytes) → b < 256 → all is_byte s ≡ true → all is_byte (b ∷ s) ≡ true
bytes_cons b s l h = all_cons is_byte b s (byte_of b l) h

char_small : (c : ℕ) → xml_char c ≡ true → all is_byte (utf8 c) ≡ true
char_small c h =
    let t = legal_top c h in
    let n = all_nil is_byte in
    by_size c
    (λ a. rw (utf8_1 c a) (bytes_cons _ _ (omega arith) n))
    (λ a b. rw (utf8_2 c a b) (bytes_cons _ _ (omega arith) (bytes_cons _ _ (omega arith) n)))
    (λ a b. rw (utf8_3 c a b) (bytes_cons _ _ (omega arith) (bytes_cons _ _ (omega arith) (bytes_cons _ _ (omega arith) n))))
    (λ a. rw (utf8_4 c a) (bytes_cons _ _ (omega arith) (bytes_cons _ _ (omega arith) (bytes_cons _ _ (omega arith) (bytes_cons _ _ (omega arith) n)))))

chars_small : (cs : List ℕ) → all xml_char cs ≡ true → all is_byte (encoded cs) ≡ true
unfolding encoded
chars_small [] h = all_nil is_byte
chars_small (c ∷ cs) h = all_append is_byte (utf8 c) (encoded cs) (char_small c (all_head xml_char c cs h)) (chars_small cs (all_tail xml_char c cs h))

pub text_small : (t : Bytes) → is_text t ≡ true → all is_byte t ≡ true
text_small t h = let w = sound t h in rw w.same (chars_small w.chars w.legal)
