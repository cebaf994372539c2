-- The text check takes exactly the texts: the encodings of XML 1.0's characters.
use Prim.Native.Nat.{ℕ, zero, suc, ◌+◌, ◌-◌, ◌<◌, ◌≤◌}
use mathlib.Core.Path.{◌≡◌, refl, sym, ◌∙◌, ap}
use mathlib.Core.Bool.{true, false}
use mathlib.Core.List.{List, [], ◌∷◌, ◌++◌}
use native.Mathlib.Omega.{arith}
use lib.ListN.{length, drop, length-drop, drop_of_length-le}
use lib.Seq.{drop-append_seam, drop-nil, drop-drop}
use borrow.Author.Tests.{lt-ltb, ltb-true}
use Rattle.base.specs.Bytes.{Bytes, both, all}
use Rattle.base.proofs.Split.{no, both_left, both_right}
use Rattle.base.proofs.Lists.{all_nil, all_cons, all_head, all_tail}
use Rattle.text.specs.Char.{xml_char, utf8}
use Rattle.text.specs.Text.{encoded, Text}
use Rattle.text.specs.Check.{char_len, text_after, is_text}
use Rattle.text.proofs.Chars.{utf8_some}
use Rattle.text.proofs.Lengths.{found, char_len_lem, len_within}

pub text_nil : is_text [] ≡ true
unfolding is_text text_after
text_nil = refl

-- to skip bytes is to drop them
after : (n : ℕ) (s : Bytes) → text_after n s ≡ is_text (drop n s)
unfolding text_after is_text
after n [] = rw (drop-nil n)
after zero (b ∷ s) = refl
after (suc n) (b ∷ s) = after n s

-- the bytes past a character's first
rest : (n b : ℕ) (s : Bytes) → 0 < n → drop (n - 1) s ≡ drop n (b ∷ s)
rest zero b s h = no (omega arith)
rest (suc n) b s h = let e : suc n - 1 ≡ n = omega arith in rw e

-- a run that begins with a legal character is text where the rest is
pub goes : (s : Bytes) → 0 < char_len s → is_text s ≡ is_text (drop (char_len s) s)
unfolding is_text text_after both
goes [] h = rw (drop-nil (char_len []))
goes (b ∷ s) h = rw (lt-ltb 0 (char_len (b ∷ s)) h) (after (char_len (b ∷ s) - 1) s ∙ ap is_text (rest (char_len (b ∷ s)) b s h))

-- a run that begins with none is no text
pub stops : (s : Bytes) → 0 < length s → char_len s ≡ 0 → is_text s ≡ false
unfolding is_text text_after both
stops [] h e = no (omega arith)
stops (b ∷ s) h e = rw e

more : (c : ℕ) (s r : Bytes) → xml_char c ≡ true → s ≡ utf8 c ++ r → Text r → Text s
unfolding encoded
more c s r h e t = record { chars = c ∷ t.chars; legal = all_cons xml_char c t.chars h t.legal; same = cc t.same }

sound_after : (n : ℕ) (s : Bytes) → text_after n s ≡ true → Text (drop n s)
unfolding text_after encoded
sound_after n [] h = rw (drop-nil n) (record { chars = []; legal = all_nil xml_char; same = refl })
sound_after (suc n) (b ∷ s) h = sound_after n s h
sound_after zero (b ∷ s) h =
    let l = ltb-true 0 (char_len (b ∷ s)) (both_left _ _ h) in
    let w = found (b ∷ s) l in
    more w.c (b ∷ s) (drop (char_len (b ∷ s)) (b ∷ s)) w.legal w.here
    (rw (rest (char_len (b ∷ s)) b s l) at (sound_after (char_len (b ∷ s) - 1) s (both_right _ _ h)))

-- what the check takes is text
pub sound : (s : Bytes) → is_text s ≡ true → Text s
unfolding is_text
sound s h = sound_after 0 s h

complete_chars : (cs : List ℕ) → all xml_char cs ≡ true → is_text (encoded cs) ≡ true
unfolding encoded
complete_chars [] h = text_nil
complete_chars (c ∷ cs) h =
    let e = char_len_lem c (encoded cs) (all_head xml_char c cs h) in
    goes (utf8 c ++ encoded cs) (omega (arith, utf8_some c))
    ∙ rw (e, drop-append_seam (utf8 c) (encoded cs)) (complete_chars cs (all_tail xml_char c cs h))

-- the check takes every text
pub complete : (s : Bytes) → Text s → is_text s ≡ true
complete s t = rw t.same (complete_chars t.chars t.legal)

-- past the end
pub turn_ends : (s : Bytes) (at : ℕ) → length s ≤ at → is_text (drop at s) ≡ true
turn_ends s at h = rw (drop_of_length-le s h) text_nil

-- a turn of the check at a place of a run
module _ (s : Bytes) (at : ℕ) where
  pub turn_within : {n : ℕ} → n ≡ char_len (drop at s) → at ≤ length s → at + n ≤ length s
  turn_within e h = omega (arith, len_within (drop at s), length-drop at s)

  pub turn_goes : {n : ℕ} → n ≡ char_len (drop at s) → 0 < n → is_text (drop (at + n) s) ≡ is_text (drop at s)
  turn_goes {n} e h = rw (← drop-drop n at s, e) (sym (goes (drop at s) (omega arith)))

  pub turn_stops : at < length s → char_len (drop at s) ≡ 0 → is_text (drop at s) ≡ false
  turn_stops h e = stops (drop at s) (omega (arith, length-drop at s)) e
