-- A value as it is written and its text are read alike where no escape can matter: as an integer, as a timestamp, as a name, as a word.
use Rattle.std.specs.Prelude.{None, Option, Some, option_map}
use Prim.Native.Nat.{ℕ, suc, ◌+◌, ◌<◌}
use mathlib.Core.Path.{◌≡◌, refl, sym, ◌∙◌, ap}
use mathlib.Core.Bool.{Bool, true, false, not}
use mathlib.Core.List.{List, [], ◌∷◌, ◌++◌}
use native.Mathlib.Omega.{arith}
use lib.Dec.{eqb}
use lib.ListN.{length, get_or, take, drop, take-append-drop, drop_of_length-le}
use lib.Seq.{drop-drop, drop-cons}
use lib.IntN.{ℤ, pos, neg_ℤ}
use mir.Syntax.{Width}
use borrow.Author.Tests.{eqb-true, eq-eqb, ne_eqb, not-true}
use Rattle.base.specs.Ascii.{ascii}
use Rattle.base.specs.Bytes.{Bytes, both, either, is_digit, all, same}
use Rattle.base.proofs.Split.{by_bool, by_eq, no, clash, both_left, both_right, either_right}
use Rattle.base.proofs.Lists.{all_head, all_tail, same_yes}
use Rattle.text.specs.Escape.{unescape, unescape_from, byte_before, breaks}
use Rattle.text.proofs.Escapes.{bare, bare_nil, bare_cons, bare_append, read_byte, raw_reads, plain_raw}
use Rattle.integer.specs.Integer.{digits, integer, of_width, integer_of}
use Rattle.integer.proofs.Digits.{digit_is, digits_is}
use Rattle.integer.proofs.Integers.{integer_of_is}
use Rattle.degrees.specs.declared.Axis.{Axis}
use Rattle.degrees.specs.Degrees.{Sign, unsigned, plus, minus, DegreeParts, legal_decimals, legal_degrees, sign_text, decimals_text, parts_text, parts_behind, parts_of, exact_degrees}
use Rattle.degrees.specs.Nearest.{degrees_or, read_degrees}
use Rattle.degrees.proofs.Texts.{exactly}
use Rattle.stamp.specs.declared.Moment.{Moment}
use Rattle.stamp.specs.Stamp.{stamp_field, separated, shaped, moment, accepted_moment, stamp}
use Rattle.stamp.proofs.Reading.{no_year, no_month, no_day, no_hour, no_minute, no_second}
use Rattle.event.specs.Event.{or_empty}
use Rattle.event_scan.specs.Piece.{value_text}
use Rattle.nesting.specs.Name.{Spelling, spellings, name_in, name_of}

-- ---- readers of texts without escapes

plain_byte : (b : ℕ) → not (either (breaks b) (eqb b 92)) ≡ true → eqb b 92 ≡ false
plain_byte b h = by_bool (eqb b 92) (λ e. clash (sym (ap not (either_right (breaks b) e)) ∙ h) refl) (λ e. e)

-- such a text is its own value
bare_own : (v : Bytes) → bare v ≡ true → unescape v ≡ Some v
unfolding bare unescape_from byte_before
bare_own [] h = refl
bare_own (b ∷ v) h = read_byte b v (plain_byte b (all_head _ b v h)) ∙ rw (bare_own v (all_tail _ b v h))

-- a reader of bare texts alone reads a value as it reads its text, whatever the escapes
text_reads : {B : Type 0} (f : Bytes → Option B) → ((s : Bytes) (z : B) → f s ≡ Some z → bare s ≡ true) → f [] ≡ None → (v : Bytes) → f v ≡ f (value_text v)
unfolding value_text
text_reads {B} f h n v = go (unescape v) refl
  where
    nothing : unescape v ≡ None → (o : Option B) → f v ≡ o → f v ≡ None
    nothing e None q = q
    nothing e (Some z) q = let y : None ≡ Some v = sym e ∙ bare_own v (h v z q) in no (cc)

    go : (o : Option Bytes) → unescape v ≡ o → f v ≡ f (or_empty o)
    go (Some x) e = raw_reads f h v x e
    go None e = nothing e (f v) refl ∙ sym n

-- and so is a bare word that is not empty
text_same : (w v : Bytes) → bare w ≡ true → same [] w ≡ false → same v w ≡ same (value_text v) w
unfolding value_text
text_same w v h n = go (unescape v) refl
  where
    go : (o : Option Bytes) → unescape v ≡ o → same v w ≡ same (or_empty o) w
    go (Some x) e = plain_raw w v x h e
    go None e =
        by_bool (same v w)
        (λ t. let y : None ≡ Some v = sym e ∙ bare_own v (rw (same_yes v w t) h) in no (cc))
        (λ t. t ∙ sym n)

-- ---- integers

other : (b : ℕ) → (b ≡ 9 → ⊥) → (b ≡ 10 → ⊥) → (b ≡ 13 → ⊥) → (b ≡ 92 → ⊥) → either (breaks b) (eqb b 92) ≡ false
unfolding breaks either
other b p q r s = rw (ne_eqb b 9 p, ne_eqb b 10 q, ne_eqb b 13 r, ne_eqb b 92 s)

digits_bare : (s : Bytes) → all is_digit s ≡ true → bare s ≡ true
digits_bare [] h = bare_nil
digits_bare (b ∷ s) h =
    let d = digit_is b (all_head is_digit b s h) in
    bare_cons b s (other b (λ e. omega arith) (λ e. omega arith) (λ e. omega arith) (λ e. omega arith)) (digits_bare s (all_tail is_digit b s h))

mapped_bare : {A : Type 0} (f : ℕ → A) (s : Bytes) (z : A) → option_map f (digits s) ≡ Some z → bare s ≡ true
mapped_bare {A} f s z e = go (digits s) refl e
  where
    go : (m : Option ℕ) → digits s ≡ m → option_map f m ≡ Some z → bare s ≡ true
    go None p q = no (cc)
    go (Some n) p q = digits_bare s (digits_is s p).1.0

integer_bare : (s : Bytes) (z : ℤ) → integer s ≡ Some z → bare s ≡ true
unfolding integer breaks either
integer_bare [] z e = no (cc)
integer_bare (b ∷ s) z e =
    by_eq b 43
    (λ p. rw p (bare_cons 43 s refl (mapped_bare pos s z (rw (eq-eqb b 43 p) at e))))
    (λ p. by_eq b 45
    (λ q. rw q (bare_cons 45 s refl (mapped_bare (λ n. neg_ℤ (pos n)) s z (rw (ne_eqb b 43 p, eq-eqb b 45 q) at e))))
    (λ q. mapped_bare pos (b ∷ s) z (rw (ne_eqb b 43 p, ne_eqb b 45 q) at e)))

pub integer_raw : (w : Width) (v : Bytes) → integer_of w v ≡ integer_of w (value_text v)
unfolding integer_of of_width integer
integer_raw w v = text_reads (integer_of w) (λ s z p. integer_bare s z (integer_of_is w s p).0) refl v

-- ---- degrees

sign_bare : (g : Sign) → bare (sign_text g) ≡ true
unfolding breaks either
sign_bare unsigned = bare_nil
sign_bare plus = bare_cons 43 [] refl bare_nil
sign_bare minus = bare_cons 45 [] refl bare_nil

decimals_bare : (d : Option Bytes) → legal_decimals d ≡ true → bare (decimals_text d) ≡ true
unfolding breaks either
decimals_bare None h = bare_nil
decimals_bare (Some s) h = bare_cons 46 s refl (digits_bare s (both_left _ _ h))

parts_bare : (p : DegreeParts) → legal_degrees p ≡ true → bare (parts_text p) ≡ true
unfolding legal_degrees parts_text
parts_bare p h =
    bare_append (sign_text p.sign) _ (sign_bare p.sign)
    (bare_append p.whole _ (digits_bare p.whole (both_left _ _ (both_left _ _ h))) (decimals_bare p.decimals (both_right _ _ h)))

degrees_bare : (s : Bytes) (x : ℤ) → exact_degrees s ≡ Some x → bare s ≡ true
degrees_bare s x e = let w = (exactly s x).0 e in rw w.text (parts_bare w.parts w.legal)

pub degrees_raw : (a : Axis) (v : Bytes) → read_degrees a v ≡ read_degrees a (value_text v)
unfolding read_degrees exact_degrees parts_of parts_behind legal_degrees both all
degrees_raw a v = ap (degrees_or a) (text_reads exact_degrees degrees_bare refl v)

-- ---- timestamps

-- a field, the separator c behind it, and the rest
joined : (s : Bytes) (from n c : ℕ) → from + n < length s → bare (take n (drop from s)) ≡ true → eqb (get_or s (from + n) 0) c ≡ true
    → either (breaks c) (eqb c 92) ≡ false → bare (drop (suc (from + n)) s) ≡ true → bare (drop from s) ≡ true
joined s from n c h f e b r =
    let d : drop from s ≡ take n (drop from s) ++ (get_or s (from + n) 0 ∷ drop (suc (from + n)) s) = sym (take-append-drop n (drop from s)) ∙ rw (drop-drop n from s, drop-cons s (from + n) 0 h) in
    ap bare d ∙ bare_append (take n (drop from s)) _ f (bare_cons (get_or s (from + n) 0) (drop (suc (from + n)) s) (rw (eqb-true (get_or s (from + n) 0) c e) b) r)

module _ (s : Bytes) (m : Moment) (e : moment s ≡ Some m) where
  field_bare : (from n : ℕ) → (stamp_field s from n ≡ None → moment s ≡ None) → bare (take n (drop from s)) ≡ true
  unfolding stamp_field
  field_bare from n none_then = go (stamp_field s from n) refl
    where
      go : (o : Option ℕ) → stamp_field s from n ≡ o → bare (take n (drop from s)) ≡ true
      go None p = let z : None ≡ Some m = sym (none_then p) ∙ e in no (cc)
      go (Some z) p = digits_bare (take n (drop from s)) (digits_is (take n (drop from s)) p).1.0

moment_bare : (s : Bytes) (m : Moment) → moment s ≡ Some m → shaped s ≡ true → bare s ≡ true
unfolding shaped separated breaks either
moment_bare s m e h =
    let l : length s ≡ 20 = eqb-true (length s) 20 (both_left _ _ h) in
    let b4 = both_right (eqb (length s) 20) _ h in
    let b7 = both_right (eqb (get_or s 4 0) 45) _ b4 in
    let b10 = both_right (eqb (get_or s 7 0) 45) _ b7 in
    let b13 = both_right (eqb (get_or s 10 0) 84) _ b10 in
    let b16 = both_right (eqb (get_or s 13 0) 58) _ b13 in
    let b19 = both_right (eqb (get_or s 16 0) 58) _ b16 in
    let f = field_bare s m e in
    joined s 0 4 45 (omega arith) (f 0 4 (no_year s)) (both_left _ _ b4) refl
    (joined s 5 2 45 (omega arith) (f 5 2 (no_month s)) (both_left _ _ b7) refl
    (joined s 8 2 84 (omega arith) (f 8 2 (no_day s)) (both_left _ _ b10) refl
    (joined s 11 2 58 (omega arith) (f 11 2 (no_hour s)) (both_left _ _ b13) refl
    (joined s 14 2 58 (omega arith) (f 14 2 (no_minute s)) (both_left _ _ b16) refl
    (joined s 17 2 90 (omega arith) (f 17 2 (no_second s)) b19 refl
    (rw (drop_of_length-le s {i = 20} (omega arith)) bare_nil))))))

stamp_bare : (s : Bytes) (z : ℤ) → stamp s ≡ Some z → bare s ≡ true
unfolding stamp accepted_moment
stamp_bare s z e =
    by_bool (shaped s)
    (λ h. read (moment s) h refl (rw h at e))
    (λ h. let q : None ≡ Some z = rw h at e in no (cc))
  where
    read : (o : Option Moment) → shaped s ≡ true → moment s ≡ o → accepted_moment o ≡ Some z → bare s ≡ true
    read None h p q = no (cc)
    read (Some m) h p q = moment_bare s m p h

pub stamp_raw : (v : Bytes) → stamp v ≡ stamp (value_text v)
unfolding stamp shaped both
stamp_raw v = text_reads stamp stamp_bare refl v

-- ---- names

-- each spelling is bare and not empty
abbrev worded : Spelling → Bool
worded p = both (bare p.bytes) (not (same [] p.bytes))

all_spelled : (ps : List Spelling) → all worded ps ≡ true → (v : Bytes) → name_in ps v ≡ name_in ps (value_text v)
unfolding name_in
all_spelled [] h v = refl
all_spelled (p ∷ ps) h v =
    let w = all_head worded p ps h in
    rw (text_same p.bytes v (both_left _ _ w) (not-true _ (both_right _ _ w)), all_spelled ps (all_tail worded p ps h) v)

pub name_raw : (v : Bytes) → name_of v ≡ name_of (value_text v)
unfolding name_of spellings bare all both breaks either same
name_raw v = all_spelled spellings refl v

-- ---- "only `visible=false` exactly sets 2"

pub false_raw : (v : Bytes) → same v (ascii "false") ≡ same (value_text v) (ascii "false")
unfolding bare all both breaks either same
false_raw v = text_same (ascii "false") v refl refl
