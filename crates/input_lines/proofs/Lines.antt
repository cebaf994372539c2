-- The lines of a run of bytes are exactly its whole lines, and pieces give the same lines as the whole.
use Prim.Native.Nat.{ℕ, ◌<◌}
use mathlib.Core.Path.{◌≡◌, refl, ◌∙◌, ap}
use mathlib.Core.Bool.{true, false}
use mathlib.Core.List.{List, [], ◌∷◌, ◌++◌, append_assoc, flatten}
use native.Mathlib.Omega.{arith}
use lib.ListN.{length}
use borrow.Author.Tests.{ne_eqb}
use Rattle.base.specs.Bytes.{Bytes, all, both}
use Rattle.base.proofs.Split.{by_bool, by_eq, clash, both_no_right}
use Rattle.line.proofs.Lines.{lacks, lacks_nil, lacks_cons, lacks_head, lacks_tail, lacks_append}
use Rattle.input_lines.specs.Lines.{onto_first, lines_of, rest_of, last_line, input_lines}

-- ---- the cases

pub lines_feed : (s : Bytes) → lines_of (10 ∷ s) ≡ (10 ∷ []) ∷ lines_of s
unfolding lines_of
lines_feed s = refl

pub lines_byte : (b : ℕ) (s : Bytes) → (b ≡ 10 → ⊥) → lines_of (b ∷ s) ≡ onto_first b (lines_of s)
unfolding lines_of
lines_byte b s n = rw (ne_eqb b 10 n)

rest_later : (b : ℕ) (s : Bytes) → lacks 10 (b ∷ s) ≡ false → rest_of (b ∷ s) ≡ rest_of s
unfolding rest_of lacks
rest_later b s h = rw h

-- a run without a line feed is all rest
pub rest_open : (s : Bytes) → lacks 10 s ≡ true → rest_of s ≡ s
unfolding rest_of lacks
rest_open [] h = refl
rest_open (b ∷ s) h = rw h

pub lines_open : (s : Bytes) → lacks 10 s ≡ true → lines_of s ≡ []
unfolding lines_of
lines_open [] h = refl
lines_open (b ∷ s) h = rw (ne_eqb b 10 (lacks_head 10 b s h), lines_open s (lacks_tail 10 b s h))

lacks_feed : (s : Bytes) → lacks 10 (10 ∷ s) ≡ false
unfolding lacks all both
lacks_feed s = refl

lacks_later : (b : ℕ) (s : Bytes) → lacks 10 s ≡ false → lacks 10 (b ∷ s) ≡ false
unfolding lacks all
lacks_later b s h = both_no_right _ h

still_lacks : (b : ℕ) (s : Bytes) → (b ≡ 10 → ⊥) → lacks 10 (b ∷ s) ≡ false → lacks 10 s ≡ false
still_lacks b s n h = by_bool (lacks 10 s) (λ t. clash (lacks_cons 10 b s n t) h) (λ t. t)

lacks_grown : (s t : Bytes) → lacks 10 s ≡ false → lacks 10 (s ++ t) ≡ false
lacks_grown [] t h = clash (lacks_nil 10) h
lacks_grown (b ∷ s) t h =
    by_eq b 10
    (λ e. rw e (lacks_feed (s ++ t)))
    (λ n. lacks_later b (s ++ t) (lacks_grown s t (still_lacks b s n h)))

-- a line that ends, and what follows it
pub lines_first : (t r : Bytes) → lacks 10 t ≡ true → lines_of (t ++ (10 ∷ r)) ≡ (t ++ (10 ∷ [])) ∷ lines_of r
lines_first [] r h = lines_feed r
lines_first (b ∷ t) r h = lines_byte b _ (lacks_head 10 b t h) ∙ ap (onto_first b) (lines_first t r (lacks_tail 10 b t h))

pub rest_first : (t r : Bytes) → rest_of (t ++ (10 ∷ r)) ≡ rest_of r
rest_first [] r = rest_later 10 r (lacks_feed r)
rest_first (b ∷ t) r = rest_later b _ (lacks_later b _ (go t)) ∙ rest_first t r
  where
    go : (u : Bytes) → lacks 10 (u ++ (10 ∷ r)) ≡ false
    go [] = lacks_feed r
    go (d ∷ u) = lacks_later d _ (go u)

-- ---- each line has one line feed, at its end, and the rest has none

pub record WholeLine (l : Bytes) : Type 0 where
  pub text : Bytes
  pub is : l ≡ text ++ (10 ∷ [])
  pub unbroken : lacks 10 text ≡ true

pub data WholeLines : List Bytes → Type 0 where
  no_lines : WholeLines []
  one_more : {l : Bytes} {ls : List Bytes} → WholeLine l → WholeLines ls → WholeLines (l ∷ ls)

onto_whole : (b : ℕ) {ls : List Bytes} → (b ≡ 10 → ⊥) → WholeLines ls → WholeLines (onto_first b ls)
onto_whole b n no_lines = no_lines
onto_whole b n (one_more w ws) = one_more (record { text = b ∷ w.text; is = ap (b ∷◌) w.is; unbroken = lacks_cons 10 b w.text n w.unbroken }) ws

pub lines_whole : (s : Bytes) → WholeLines (lines_of s)
unfolding lines_of
lines_whole [] = no_lines
lines_whole (b ∷ s) =
    by_eq b 10
    (λ e. rw (e, lines_of) (one_more (record { text = []; is = refl; unbroken = lacks_nil 10 }) (lines_whole s)))
    (λ n. rw (lines_byte b s n) (onto_whole b n (lines_whole s)))

pub rest_lacks : (s : Bytes) → lacks 10 (rest_of s) ≡ true
unfolding rest_of
rest_lacks [] = lacks_nil 10
rest_lacks (b ∷ s) = by_bool (lacks 10 (b ∷ s)) (λ h. rw (rest_open (b ∷ s) h) h) (λ h. rw (rest_later b s h) (rest_lacks s))

-- ---- joined they are the run

-- there is a line where there is a line feed
record HasLine (ls : List Bytes) : Type 0 where
  first : Bytes
  others : List Bytes
  both_of : ls ≡ first ∷ others

onto_some : (b : ℕ) {ls : List Bytes} → HasLine ls → HasLine (onto_first b ls)
onto_some b w = record { first = b ∷ w.first; others = w.others; both_of = ap (onto_first b) w.both_of }

lines_some : (s : Bytes) → lacks 10 s ≡ false → HasLine (lines_of s)
lines_some [] h = clash (lacks_nil 10) h
lines_some (b ∷ s) h =
    by_eq b 10
    (λ e. rw (e, lines_feed s) (record { first = 10 ∷ []; others = lines_of s; both_of = refl }))
    (λ n. rw (lines_byte b s n) (onto_some b (lines_some s (still_lacks b s n h))))

pub lines_joined : (s : Bytes) → flatten (lines_of s) ++ rest_of s ≡ s
unfolding flatten
lines_joined [] = rw (lines_open [] (lacks_nil 10), rest_open [] (lacks_nil 10))
lines_joined (b ∷ s) =
    by_bool (lacks 10 (b ∷ s))
    (λ h. rw (lines_open (b ∷ s) h, rest_open (b ∷ s) h))
    (λ h. by_eq b 10
    (λ e. rw (e, lines_feed s, rest_later 10 s (lacks_feed s)) (ap (10 ∷◌) (lines_joined s)))
    (λ n. let w = lines_some s (still_lacks b s n h) in
    let q : flatten (w.first ∷ w.others) ++ rest_of s ≡ s = rw w.both_of at (lines_joined s) in
    rw (lines_byte b s n, rest_later b s h, w.both_of) (ap (b ∷◌) q)))

-- and they are the only ones: whole lines, and a rest without a line feed, are read back from what they make
pub lines_only : {ls : List Bytes} (r : Bytes) → WholeLines ls → lacks 10 r ≡ true → (lines_of (flatten ls ++ r) ≡ ls) × (rest_of (flatten ls ++ r) ≡ r)
unfolding flatten
lines_only r no_lines h = (lines_open r h, rest_open r h)
lines_only r (one_more {l} {ls} w ws) h =
    let ih = lines_only r ws h in
    let e : l ++ flatten ls ++ r ≡ w.text ++ (10 ∷ (flatten ls ++ r)) = rw (w.is, append_assoc (w.text ++ (10 ∷ [])), append_assoc) in (
      rw e (lines_first w.text (flatten ls ++ r) w.unbroken ∙ rw (ih.0, ← w.is)),
      rw e (rest_first w.text (flatten ls ++ r) ∙ ih.1),
    )

-- ---- pieces

pub lines_append : (a b : Bytes) → lines_of (a ++ b) ≡ lines_of a ++ lines_of (rest_of a ++ b)
lines_append [] b = rw (lines_open [] (lacks_nil 10), rest_open [] (lacks_nil 10))
lines_append (x ∷ a) b =
    by_bool (lacks 10 (x ∷ a))
    (λ h. rw (lines_open (x ∷ a) h, rest_open (x ∷ a) h))
    (λ h. by_eq x 10
    (λ e. rw (e, lines_feed (a ++ b), lines_feed a, rest_later 10 a (lacks_feed a)) (ap ((10 ∷ []) ∷◌) (lines_append a b)))
    (λ n. let w = lines_some a (still_lacks x a n h) in
    rw (lines_byte x (a ++ b) n, lines_byte x a n, rest_later x a h, lines_append a b, w.both_of)))

pub rest_append : (a b : Bytes) → rest_of (a ++ b) ≡ rest_of (rest_of a ++ b)
rest_append [] b = rw (rest_open [] (lacks_nil 10))
rest_append (x ∷ a) b =
    by_bool (lacks 10 (x ∷ a))
    (λ h. rw (rest_open (x ∷ a) h))
    (λ h. rw (rest_later x a h, rest_later x (a ++ b) (lacks_grown (x ∷ a) b h)) (rest_append a b))

pub input_append : (a b : Bytes) → input_lines (a ++ b) ≡ lines_of a ++ input_lines (rest_of a ++ b)
unfolding input_lines
input_append a b = rw (lines_append a b, rest_append a b, append_assoc)

pub input_open : (s : Bytes) → lacks 10 s ≡ true → input_lines s ≡ last_line s
unfolding input_lines
input_open s h = rw (lines_open s h, rest_open s h)

-- the first line of an input that begins with some bytes without a line feed begins with them too
pub record FirstBegins (p : Bytes) (ls : List Bytes) : Type 0 where
  pub after : Bytes
  pub others : List Bytes
  pub are : ls ≡ (p ++ after) ∷ others

lines_begin : (p s : Bytes) → lacks 10 p ≡ true → lacks 10 s ≡ false → FirstBegins p (lines_of (p ++ s))
lines_begin [] s h k = let w = lines_some s k in record { after = w.first; others = w.others; are = w.both_of }
lines_begin (b ∷ p) s h k =
    let w = lines_begin p s (lacks_tail 10 b p h) k in
    record { after = w.after; others = w.others; are = lines_byte b (p ++ s) (lacks_head 10 b p h) ∙ ap (onto_first b) w.are }

pub input_begins : (p s : Bytes) → 0 < length p → lacks 10 p ≡ true → FirstBegins p (input_lines (p ++ s))
unfolding input_lines
input_begins [] s k h = absurd (omega arith)
input_begins (b ∷ p) s k h =
    by_bool (lacks 10 s)
    (λ t. record { after = s; others = []; are = input_open (b ∷ p ++ s) (lacks_append 10 (b ∷ p) s h t) })
    (λ t. let w = lines_begin (b ∷ p) s h t in
    record { after = w.after; others = w.others ++ last_line (rest_of (b ∷ p ++ s)); are = ap (◌++ last_line (rest_of (b ∷ p ++ s))) w.are })
