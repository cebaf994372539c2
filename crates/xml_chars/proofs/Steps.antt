-- A byte more of a character: what it comes to where a character begins so, and where none does.
-- What is completed is the character that its bytes encode, and what is not whole yet is begun.
use Prim.Native.Nat.{ℕ, ◌<◌, ◌≤◌}
use mathlib.Core.Path.{◌≡◌, refl, ◌∙◌}
use mathlib.Core.Bool.{true, false, cond}
use mathlib.Core.List.{[], ◌∷◌, ◌++◌}
use native.Mathlib.Omega.{arith}
use Rattle.base.specs.Bytes.{Bytes}
use Rattle.base.proofs.Split.{by_bool, clash, no}
use Rattle.text.specs.Char.{from_to, xml_char}
use Rattle.text.specs.Check.{decoded}
use Rattle.text.proofs.Xml.{from_to_yes, from_to_below, from_to_above, legal_low}
use Rattle.markup.specs.Automaton.{continues, completes, malformed}
use Rattle.markup.specs.MarkupBytes.{begins_char, is_char, char_step}
use Rattle.xml_chars.specs.Chars.{begun, whole_char}
use Rattle.xml_chars.proofs.Bytes.{within}
use Rattle.xml_chars.proofs.Whole.{CharOf, char_whole, one_whole, one_none}

-- ---- what is taken

begun_of : (s : Bytes) → begins_char s ≡ true → begun s ≡ true
unfolding begun begins_char
begun_of [] h = clash h refl
begun_of (a ∷ s) h = h

-- a character that is completed is legal, and its encoding is the bytes before and the byte
pub completed_char : (s : Bytes) (b c : ℕ) → char_step s b ≡ completes c → CharOf c (s ++ (b ∷ []))
unfolding char_step
completed_char s b c h =
    let t = s ++ (b ∷ []) in
    by_bool (begins_char t)
    (λ g. no (cc (rw g at h)))
    (λ g. by_bool (is_char t)
    (λ i. let x : decoded t ≡ c = cc (rw (g, i) at h) in rw (← x) (char_whole t i))
    (λ i. no (cc (rw (g, i) at h))))

-- bytes that are not whole yet are ones with which a character begins
pub continued_begun : (s : Bytes) (b : ℕ) (t : Bytes) → char_step s b ≡ continues t → begun t ≡ true
unfolding char_step
continued_begun s b t h =
    let u = s ++ (b ∷ []) in
    by_bool (begins_char u)
    (λ g. let x : u ≡ t = cc (rw g at h) in rw (← x) (begun_of u g))
    (λ g. by_bool (is_char u) (λ i. no (cc (rw (g, i) at h))) (λ i. no (cc (rw (g, i) at h))))

-- ---- step by step

-- where a character begins with the bytes, and where none does
pub goes_on : (s : Bytes) (b : ℕ) → begins_char (s ++ (b ∷ [])) ≡ true → char_step s b ≡ continues (s ++ (b ∷ []))
unfolding char_step
goes_on s b h = rw h

pub ends : (s : Bytes) (b : ℕ) → begins_char (s ++ (b ∷ [])) ≡ false → char_step s b ≡ whole_char (s ++ (b ∷ []))
unfolding char_step
ends s b h = rw h

-- a byte with nothing before it
pub first_ascii : (b : ℕ) → b < 0x80 → char_step [] b ≡ cond (xml_char b) (completes b) malformed
unfolding begins_char
first_ascii b h = ends [] b (from_to_below 0xc2 0xf4 b (omega arith)) ∙ one_whole b h

pub first_printable : (b : ℕ) → from_to 0x20 0x7f b ≡ true → char_step [] b ≡ completes b
first_printable b h =
    let w = within 0x20 0x7f b h in
    let l = w.low in
    let u = w.high in
    rw (legal_low b l (omega arith)) at (first_ascii b (omega arith))

pub first_begins : (b : ℕ) → 0xc2 ≤ b → b ≤ 0xf4 → char_step [] b ≡ continues (b ∷ [])
unfolding begins_char
first_begins b l h = goes_on [] b (from_to_yes 0xc2 0xf4 b l h)

pub first_low : (b : ℕ) → 0x80 ≤ b → b < 0xc2 → char_step [] b ≡ malformed
unfolding begins_char
first_low b l h = ends [] b (from_to_below 0xc2 0xf4 b h) ∙ one_none b l

pub first_high : (b : ℕ) → 0xf4 < b → char_step [] b ≡ malformed
unfolding begins_char
first_high b l = ends [] b (from_to_above 0xc2 0xf4 b (omega arith) l) ∙ one_none b (omega arith)

-- a byte with three before it
pub fourth_ends : (a b c d : ℕ) → char_step (a ∷ b ∷ c ∷ []) d ≡ whole_char (a ∷ b ∷ c ∷ d ∷ [])
unfolding begins_char
fourth_ends a b c d = ends (a ∷ b ∷ c ∷ []) d refl
