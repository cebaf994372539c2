-- Laws of the escapes: the round trips, no breaks, text stays text, and a prefix code where a break ends the field.
use Rattle.std.specs.Prelude.{None, Option, Some}
use Prim.Native.Nat.{ℕ, ◌*◌, ◌<◌, ◌≤◌}
use mathlib.Core.Path.{◌≡◌, refl, sym, ◌∙◌, ap}
use mathlib.Core.Bool.{Bool, true, false, not}
use mathlib.Core.List.{List, [], ◌∷◌, ◌++◌, append_assoc}
use mathlib.Core.Logic.{◌⊎◌, inl, inr, ⊎_elim}
use native.Mathlib.Omega.{arith}
use lib.Dec.{leb, eqb}
use lib.ListN.{length}
use borrow.Author.Tests.{ne_eqb, eqb-true, leb-true}
use Rattle.base.specs.Bytes.{Bytes, both, either, all, same}
use Rattle.base.proofs.Split.{by_bool, by_eq, by_lt, by_either, either_right, no, clash, both_of, both_no_right}
use Rattle.base.proofs.Lists.{all_nil, all_cons, all_head, all_tail, all_append, same_yes}
use Rattle.text.specs.Char.{from_to, xml_char, utf8}
use Rattle.text.specs.Text.{encoded}
use Rattle.text.specs.Check.{is_text}
use Rattle.text.specs.Escape.{escaped, escape, meaning, byte_before, unescape_from, unescape, breaks}
use Rattle.text.proofs.Xml.{legal_low}
use Rattle.text.proofs.Chars.{utf8_1, utf8_high, utf8_some}
use Rattle.text.proofs.Theorem.{text_nil, sound}
use Rattle.text.proofs.Texts.{text_char, text_ascii}

-- no tab, line feed or carriage return
abbrev pub clean : ℕ → Bool
clean b = not (breaks b)

none_some : {A C : Type 0} {x : A} → ◌≡◌ {A = Option A} None (Some x) → C
none_some e = no (cc)

some_inj : {A : Type 0} {x y : A} → ◌≡◌ {A = Option A} (Some x) (Some y) → y ≡ x
some_inj e = cc

-- a byte that is escaped, by the letter m
record Special (b m : ℕ) : Type 0 where
  pair : escaped b ≡ 92 ∷ m ∷ []
  back : meaning m ≡ Some b
  cause : either (breaks b) (eqb b 92) ≡ true
  ascii : b < 0x80
  legal : xml_char b ≡ true
  low : 92 ≤ m
  high : m < 0x80

tab : Special 9 116
unfolding escaped meaning breaks either xml_char
tab = record { pair = refl; back = refl; cause = refl; ascii = omega arith; legal = refl; low = omega arith; high = omega arith }

line : Special 10 110
unfolding escaped meaning breaks either xml_char
line = record { pair = refl; back = refl; cause = refl; ascii = omega arith; legal = refl; low = omega arith; high = omega arith }

return : Special 13 114
unfolding escaped meaning breaks either xml_char
return = record { pair = refl; back = refl; cause = refl; ascii = omega arith; legal = refl; low = omega arith; high = omega arith }

mark : Special 92 92
unfolding escaped meaning breaks either xml_char from_to both
mark = record { pair = refl; back = refl; cause = refl; ascii = omega arith; legal = refl; low = omega arith; high = omega arith }

-- a byte that stands for itself
record Itself (b : ℕ) : Type 0 where
  alone : escaped b ≡ b ∷ []
  other : eqb b 92 ≡ false
  unbroken : breaks b ≡ false

by_escaped : {C : Type 0} (b : ℕ) → ((m : ℕ) → Special b m → C) → (Itself b → C) → C
unfolding escaped breaks either
by_escaped b f g =
    by_eq b 9 (λ e. f 116 (rw e tab))
    (λ n9. by_eq b 10 (λ e. f 110 (rw e line))
    (λ n10. by_eq b 13 (λ e. f 114 (rw e return))
    (λ n13. by_eq b 92 (λ e. f 92 (rw e mark))
    (λ n92. g (record {
      alone = rw (ne_eqb b 9 n9, ne_eqb b 10 n10, ne_eqb b 13 n13, ne_eqb b 92 n92);
      other = ne_eqb b 92 n92;
      unbroken = rw (ne_eqb b 9 n9, ne_eqb b 10 n10, ne_eqb b 13 n13);
    })))))

-- a letter that stands for a byte is the one that escapes it
by_meaning : (m b : ℕ) → meaning m ≡ Some b → Special b m
unfolding meaning
by_meaning m b e =
    by_eq m 116 (λ k. let q : b ≡ 9 = some_inj (rw k at e) in rw (k, q) tab)
    (λ n1. by_eq m 110 (λ k. let q : b ≡ 10 = some_inj (rw k at e) in rw (k, q) line)
    (λ n2. by_eq m 114 (λ k. let q : b ≡ 13 = some_inj (rw k at e) in rw (k, q) return)
    (λ n3. by_eq m 92 (λ k. let q : b ≡ 92 = some_inj (rw k at e) in rw (k, q) mark)
    (λ n4. none_some (rw (ne_eqb m 116 n1, ne_eqb m 110 n2, ne_eqb m 114 n3, ne_eqb m 92 n4) at e)))))

pub escape_append : (a b : Bytes) → escape (a ++ b) ≡ escape a ++ escape b
unfolding escape
escape_append [] b = refl
escape_append (x ∷ a) b = rw (escape_append a b) (sym (append_assoc (escaped x) (escape a) (escape b)))

-- a byte that is no backslash stands for itself
pub read_byte : (b : ℕ) (r : Bytes) → eqb b 92 ≡ false → unescape (b ∷ r) ≡ byte_before (Some b) (unescape r)
unfolding unescape_from
read_byte b r e = rw (e, unescape_from)

unescape_escaped : (b : ℕ) (r : Bytes) → unescape (escaped b ++ r) ≡ byte_before (Some b) (unescape r)
unfolding unescape_from
unescape_escaped b r = by_escaped b (λ m d. rw (d.pair, d.back)) (λ d. rw d.alone (read_byte b r d.other))

-- what is escaped is read back
pub unescape_escape : (t : Bytes) → unescape (escape t) ≡ Some t
unfolding unescape_from escape byte_before
unescape_escape [] = refl
unescape_escape (b ∷ t) = unescape_escaped b (escape t) ∙ rw (unescape_escape t)

-- a backslash that ends a value is refused, and so is another escape
pub backslash_last : (t : Bytes) → unescape (escape t ++ (92 ∷ [])) ≡ None
unfolding unescape_from escape byte_before
backslash_last [] = refl
backslash_last (b ∷ t) = rw (append_assoc (escaped b) (escape t) (92 ∷ [])) (unescape_escaped b (escape t ++ (92 ∷ [])) ∙ rw (backslash_last t))

pub other_escape : (t : Bytes) (m : ℕ) (r : Bytes) → meaning m ≡ None → unescape (escape t ++ (92 ∷ m ∷ r)) ≡ None
unfolding unescape_from escape byte_before
other_escape [] m r h = rw h
other_escape (b ∷ t) m r h = rw (append_assoc (escaped b) (escape t) (92 ∷ m ∷ r)) (unescape_escaped b (escape t ++ (92 ∷ m ∷ r)) ∙ rw (other_escape t m r h))

-- a letter that an escape uses is no break
unbroken : (m : ℕ) → 92 ≤ m → breaks m ≡ false
unfolding breaks either
unbroken m h = rw (ne_eqb m 9 (λ e. omega arith), ne_eqb m 10 (λ e. omega arith), ne_eqb m 13 (λ e. omega arith))

-- an escaped text has no break
pub escape_clean : (t : Bytes) → all (λ b. not (breaks b)) (escape t) ≡ true
unfolding escape
escape_clean [] = all_nil clean
escape_clean (b ∷ t) =
    all_append clean (escaped b) (escape t)
    (by_escaped b
    (λ m d. rw d.pair (all_cons clean 92 (m ∷ []) (ap not (unbroken 92 (omega arith))) (all_cons clean m [] (ap not (unbroken m d.low)) (all_nil clean))))
    (λ d. rw d.alone (all_cons clean b [] (ap not d.unbroken) (all_nil clean))))
    (escape_clean t)

pub escape_injective : (a b : Bytes) → escape a ≡ escape b → a ≡ b
escape_injective a b e = let q : Some a ≡ Some b = cc (ap unescape e, unescape_escape a, unescape_escape b) in cc

-- two runs that go on to the first element that a test refuses
pub spans : {A : Type 0} (p : A → Bool) (a b : List A) (x y : A) (r s : List A)
    → all p a ≡ true → all p b ≡ true → p x ≡ false → p y ≡ false → a ++ (x ∷ r) ≡ b ++ (y ∷ s) → (a ≡ b) × ((x ≡ y) × (r ≡ s))
spans p [] [] x y r s ha hb hx hy e = (refl, (cc, cc))
spans p [] (c ∷ b) x y r s ha hb hx hy e = let q : x ≡ c = cc in clash (rw (← q) at (all_head p c b hb)) hx
spans p (c ∷ a) [] x y r s ha hb hx hy e = let q : y ≡ c = cc in clash (rw (← q) at (all_head p c a ha)) hy
spans p (c ∷ a) (d ∷ b) x y r s ha hb hx hy e =
    let q : c ≡ d = cc in
    let w = spans p a b x y r s (all_tail p c a ha) (all_tail p d b hb) hx hy (cc) in
    (cc w.0, w.1)

-- escaped texts, each ended by a tab, a line feed or a carriage return, are a prefix code
pub escape_prefix : (a b : Bytes) (x y : ℕ) (r s : Bytes) → breaks x ≡ true → breaks y ≡ true → escape a ++ (x ∷ r) ≡ escape b ++ (y ∷ s) → (a ≡ b) × ((x ≡ y) × (r ≡ s))
escape_prefix a b x y r s hx hy e =
    let w = spans clean (escape a) (escape b) x y r s (escape_clean a) (escape_clean b) (ap not hx) (ap not hy) e in
    (escape_injective a b w.0, w.1)

pub tab_breaks : breaks 9 ≡ true
unfolding breaks either
tab_breaks = refl

pub line_breaks : breaks 10 ≡ true
unfolding breaks either
line_breaks = refl

pub return_breaks : breaks 13 ≡ true
unfolding breaks either
return_breaks = refl

-- at most two bytes for one, and no fewer
pub escape_most : (t : Bytes) → length (escape t) ≤ 2 * length t
unfolding escape
escape_most [] = omega arith
escape_most (b ∷ t) =
    by_escaped b
    (λ m d. rw d.pair (omega (arith, escape_most t)))
    (λ d. rw d.alone (omega (arith, escape_most t)))

pub escape_least : (t : Bytes) → length t ≤ length (escape t)
unfolding escape
escape_least [] = omega arith
escape_least (b ∷ t) =
    by_escaped b
    (λ m d. rw d.pair (omega (arith, escape_least t)))
    (λ d. rw d.alone (omega (arith, escape_least t)))

-- what is read is a byte before what follows it
record First (o : Option ℕ) (x : Option Bytes) (t : Bytes) : Type 0 where
  byte : ℕ
  rest : Bytes
  is : o ≡ Some byte
  then : x ≡ Some rest
  whole : t ≡ byte ∷ rest

first : (o : Option ℕ) (x : Option Bytes) (t : Bytes) → byte_before o x ≡ Some t → First o x t
unfolding byte_before
first None x t e = none_some e
first (Some b) None t e = none_some e
first (Some b) (Some r) t e = record { byte = b; rest = r; is = refl; then = refl; whole = cc }

alone : (b : ℕ) → eqb b 92 ≡ false → clean b ≡ true → escaped b ≡ b ∷ []
alone b h k =
    by_escaped b
    (λ m d. by_either (breaks b) (eqb b 92) d.cause (λ x. clash k (ap not x)) (λ x. clash x h))
    (λ d. d.alone)

-- a value and its last backslash, where one has just been read
marked : Bool → Bytes → Bytes
marked true v = 92 ∷ v
marked false v = v

escape_read : (f : Bool) (v t : Bytes) → unescape_from f v ≡ Some t → all clean v ≡ true → escape t ≡ marked f v
unfolding unescape_from escape marked
escape_read false [] t e h = let q : t ≡ [] = cc in rw q
escape_read true [] t e h = none_some (sym (backslash_last []) ∙ e)
escape_read true (b ∷ v) t e h =
    let w = first (meaning b) (unescape v) t e in
    let d = by_meaning b w.byte w.is in
    rw (w.whole, d.pair, escape_read false v w.rest w.then (all_tail clean b v h))
escape_read false (b ∷ v) t e h =
    by_bool (eqb b 92)
    (λ k. let q : b ≡ 92 = eqb-true b 92 k in rw q (escape_read true v t (rw (k, unescape_from) at e) (all_tail clean b v h)))
    (λ k. let w = first (Some b) (unescape v) t (sym (read_byte b v k) ∙ e) in
    let q : w.byte ≡ b = cc w.is in
    rw (w.whole, q, alone b k (all_head clean b v h), escape_read false v w.rest w.then (all_tail clean b v h)))

-- what a value without breaks reads as is escaped to that value
pub escape_unescape : (v t : Bytes) → unescape v ≡ Some t → all (λ b. not (breaks b)) v ≡ true → escape t ≡ v
unfolding marked
escape_unescape v t e h = escape_read false v t e h

-- bytes beyond ASCII are neither escaped nor letters of an escape
escape_high : (p : Bytes) → all (leb 0x80) p ≡ true → escape p ≡ p
unfolding escape
escape_high [] h = refl
escape_high (b ∷ p) h =
    by_escaped b
    (λ m d. no (omega (arith, d.ascii, leb-true 0x80 b (all_head (leb 0x80) b p h))))
    (λ d. rw (d.alone, escape_high p (all_tail (leb 0x80) b p h)))

record Passed (p r t : Bytes) : Type 0 where
  rest : Bytes
  then : unescape r ≡ Some rest
  whole : t ≡ p ++ rest

read_high : (p r t : Bytes) → all (leb 0x80) p ≡ true → unescape (p ++ r) ≡ Some t → Passed p r t
read_high [] r t h e = record { rest = t; then = e; whole = refl }
read_high (b ∷ p) r t h e =
    let l = leb-true 0x80 b (all_head (leb 0x80) b p h) in
    let w = first (Some b) (unescape (p ++ r)) t (sym (read_byte b (p ++ r) (ne_eqb b 92 (λ q. omega arith))) ∙ e) in
    let d = read_high p r w.rest (all_tail (leb 0x80) b p h) w.then in
    record { rest = d.rest; then = d.then; whole = cc (w.whole, w.is, d.whole) }

mark_high : {C : Type 0} (p r t : Bytes) → all (leb 0x80) p ≡ true → 0 < length p → unescape_from true (p ++ r) ≡ Some t → C
unfolding unescape_from
mark_high [] r t h l e = no (omega arith)
mark_high (b ∷ p) r t h l e =
    let w = first (meaning b) (unescape (p ++ r)) t e in
    no (omega (arith, (by_meaning b w.byte w.is).high, leb-true 0x80 b (all_head (leb 0x80) b p h)))

escape_chars : (cs : List ℕ) → all xml_char cs ≡ true → is_text (escape (encoded cs)) ≡ true
unfolding encoded escape
escape_chars [] h = text_nil
escape_chars (c ∷ cs) h =
    let x = all_head xml_char c cs h in
    let k = escape_chars cs (all_tail xml_char c cs h) in
    by_lt c 0x80
    (λ a. rw (utf8_1 c a) (by_escaped c
    (λ m d. rw d.pair (text_ascii 92 _ (omega arith) ∙ both_of (legal_low 92 (omega arith) (omega arith))
    (text_ascii m _ d.high ∙ both_of (legal_low m (omega (arith, d.low)) (omega (arith, d.high))) k)))
    (λ d. rw d.alone (text_ascii c _ a ∙ both_of x k))))
    (λ a. rw (escape_append (utf8 c) (encoded cs), escape_high (utf8 c) (utf8_high c a)) (text_char c _ x ∙ k))

-- the escape of a text is text
pub escape_text : (t : Bytes) → is_text t ≡ true → is_text (escape t) ≡ true
escape_text t h = let w = sound t h in rw w.same (escape_chars w.chars w.legal)

-- a legal character before a run that reads as text
module _ (c : ℕ) (r : Bytes) (x : xml_char c ≡ true) (ih : (f : Bool) (t : Bytes) → unescape_from f r ≡ Some t → is_text t ≡ true) where
  unescape_ascii : (f : Bool) (t : Bytes) → c < 0x80 → unescape_from f (c ∷ r) ≡ Some t → is_text t ≡ true
  unfolding unescape_from
  unescape_ascii true t a e =
      let w = first (meaning c) (unescape r) t e in
      let d = by_meaning c w.byte w.is in
      rw w.whole (text_ascii w.byte w.rest d.ascii ∙ both_of d.legal (ih false w.rest w.then))
  unescape_ascii false t a e =
      by_bool (eqb c 92)
      (λ k. ih true t (rw (k, unescape_from) at e))
      (λ k. let w = first (Some c) (unescape r) t (sym (read_byte c r k) ∙ e) in
      let q : t ≡ c ∷ w.rest = cc (w.whole, w.is) in
      rw q (text_ascii c w.rest a ∙ both_of x (ih false w.rest w.then)))

  unescape_high : (f : Bool) (t : Bytes) → 0x80 ≤ c → unescape_from f (utf8 c ++ r) ≡ Some t → is_text t ≡ true
  unescape_high true t a e = mark_high (utf8 c) r t (utf8_high c a) (utf8_some c) e
  unescape_high false t a e = let w = read_high (utf8 c) r t (utf8_high c a) e in rw w.whole (text_char c w.rest x ∙ ih false w.rest w.then)

unescape_chars : (cs : List ℕ) → all xml_char cs ≡ true → (f : Bool) (t : Bytes) → unescape_from f (encoded cs) ≡ Some t → is_text t ≡ true
unfolding encoded unescape_from escape
unescape_chars [] h false t e = let q : t ≡ [] = cc in rw q text_nil
unescape_chars [] h true t e = none_some (sym (backslash_last []) ∙ e)
unescape_chars (c ∷ cs) h f t e =
    let x = all_head xml_char c cs h in
    let k = unescape_chars cs (all_tail xml_char c cs h) in
    by_lt c 0x80 (λ a. unescape_ascii c (encoded cs) x k f t a (rw (utf8_1 c a) at e)) (λ a. unescape_high c (encoded cs) x k f t a e)

-- what a value that is text reads as is text
pub unescape_text : (v t : Bytes) → is_text v ≡ true → unescape v ≡ Some t → is_text t ≡ true
unescape_text v t h e = let w = sound v h in unescape_chars w.chars w.legal false t (rw w.same at e)

-- ---- values and texts that need no escape

-- a byte that a value writes by an escape
abbrev marks : ℕ → Bool
marks b = either (breaks b) (eqb b 92)

-- no tab, line feed, carriage return or backslash
unfoldable pub bare : Bytes → Bool
bare s = all (λ b. not (marks b)) s

pub bare_nil : bare [] ≡ true
unfolding bare
bare_nil = all_nil _

pub bare_cons : (b : ℕ) (s : Bytes) → either (breaks b) (eqb b 92) ≡ false → bare s ≡ true → bare (b ∷ s) ≡ true
unfolding bare
bare_cons b s n h = all_cons _ b s (ap not n) h

bare_not : (b : ℕ) (s : Bytes) → either (breaks b) (eqb b 92) ≡ true → bare (b ∷ s) ≡ false
unfolding bare all both
bare_not b s h = rw h

bare_on : (b : ℕ) (s : Bytes) → bare s ≡ false → bare (b ∷ s) ≡ false
unfolding bare all
bare_on b s h = both_no_right (not (marks b)) h

pub bare_append : (s t : Bytes) → bare s ≡ true → bare t ≡ true → bare (s ++ t) ≡ true
unfolding bare
bare_append s t h k = all_append _ s t h k

marked_text : (u y : Bytes) → unescape_from true u ≡ Some y → bare y ≡ false
unfolding unescape_from escape
marked_text [] y e = none_some (sym (backslash_last []) ∙ e)
marked_text (m ∷ u) y e =
    let w = first (meaning m) (unescape u) y e in
    rw w.whole (bare_not w.byte w.rest (by_meaning m w.byte w.is).cause)

-- a value is its own text, or neither of the two is bare
pub raw : (v x : Bytes) → unescape v ≡ Some x → (v ≡ x) ⊎ ((bare v ≡ false) × (bare x ≡ false))
unfolding unescape_from
raw [] x e = inl (cc)
raw (b ∷ v) x e =
    by_bool (eqb b 92)
    (λ k. inr (bare_not b v (either_right (breaks b) k), marked_text v x (rw (k, unescape_from) at e)))
    (λ k. let w = first (Some b) (unescape v) x (sym (read_byte b v k) ∙ e) in
    let q : x ≡ b ∷ w.rest = cc (w.whole, w.is) in
    ⊎_elim (λ p. inl (cc)) (λ p. inr (bare_on b v p.0, rw q (bare_on b w.rest p.1))) (raw v w.rest w.then))

-- a reader of bare texts alone reads a value and its text alike
pub raw_reads : {B : Type 0} (f : Bytes → Option B) → ((s : Bytes) (z : B) → f s ≡ Some z → bare s ≡ true) → (v x : Bytes) → unescape v ≡ Some x → f v ≡ f x
raw_reads {B} f h v x e = ⊎_elim (λ p. ap f p) (λ p. nothing v p.0 ∙ sym (nothing x p.1)) (raw v x e)
  where
    nothing : (s : Bytes) → bare s ≡ false → f s ≡ None
    nothing s n = go (f s) refl
      where
        go : (o : Option B) → f s ≡ o → f s ≡ None
        go None q = q
        go (Some z) q = clash (h s z q) n

-- and so does a comparison with a bare word
pub plain_raw : (w v x : Bytes) → bare w ≡ true → unescape v ≡ Some x → same v w ≡ same x w
plain_raw w v x h e = ⊎_elim (λ p. ap (λ s. same s w) p) (λ p. other v p.0 ∙ sym (other x p.1)) (raw v x e)
  where
    other : (s : Bytes) → bare s ≡ false → same s w ≡ false
    other s n = by_bool (same s w) (λ t. clash h (rw (same_yes s w t) at n)) (λ t. t)
