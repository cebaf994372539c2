-- A text is that of one date-time only, so it has one value.
use Rattle.std.specs.Prelude.{None, Option, Some}
use Prim.Native.Char.{Char}
use mathlib.Core.Path.{◌≡◌, refl, sym, ap, ◌∙◌}
use mathlib.Core.Bool.{true, false}
use mathlib.Core.List.{[], ◌∷◌, ◌++◌}
use native.Mathlib.Omega.{arith}
use lib.ListN.{length, get_or, take, drop}
use lib.IntN.{ℤ}
use Rattle.base.specs.Bytes.{Bytes, all, both, is_digit}
use Rattle.base.proofs.Split.{clash, no}
use Rattle.base.proofs.Lists.{all_head, all_tail}
use Rattle.stamp.specs.Stamp.{moment}
use Rattle.rfc3339.specs.Rfc3339.{Case, upper, lower, Offset, utc, east, west, DateTime, letter, two, four, time_numoffset, time_offset, optional, partial_time, full_date, full_time, date_time, SomeDigits, Ranges, since_epoch, IsDateTime}
use Rattle.rfc3339.proofs.Texts.{moment_of, date_time_of, marked, unmarked, moment_back, written_moment}
use Rattle.rfc3339.proofs.Forms.{after_second, at10, two_alone}

letter_alone : (b : Char) (c d : Case) → letter b c ≡ letter b d → c ≡ d
unfolding letter
letter_alone b upper upper e = refl
letter_alone b upper lower e = no (omega arith)
letter_alone b lower upper e = no (omega arith)
letter_alone b lower lower e = refl

offset_alone : (f g : Offset) → time_offset f ≡ time_offset g → f ≡ g
unfolding time_offset time_numoffset two
offset_alone (utc c) (utc d) e = ap utc (letter_alone "Z" c d (ap (λ s. get_or s 0 0) e))
offset_alone (utc c) (east h m) e = no (omega (arith, ap length e))
offset_alone (utc c) (west h m) e = no (omega (arith, ap length e))
offset_alone (east h m) (utc c) e = no (omega (arith, ap length e))
offset_alone (west h m) (utc c) e = no (omega (arith, ap length e))
offset_alone (east h m) (west i n) e = no (omega (arith, ap (λ s. get_or s 0 0) e))
offset_alone (west h m) (east i n) e = no (omega (arith, ap (λ s. get_or s 0 0) e))
offset_alone (east h m) (east i n) e =
    cc (two_alone h i (ap (λ s. take 2 (drop 1 s)) e), two_alone m n (ap (λ s. take 2 (drop 4 s)) e))
offset_alone (west h m) (west i n) e =
    cc (two_alone h i (ap (λ s. take 2 (drop 1 s)) e), two_alone m n (ap (λ s. take 2 (drop 4 s)) e))

-- an offset begins with neither a digit nor a point
offset_first : (f : Offset) → (is_digit (get_or (time_offset f) 0 0) ≡ false) × (get_or (time_offset f) 0 0 ≡ 46 → ⊥)
unfolding time_offset time_numoffset letter is_digit both
offset_first (utc upper) = (refl, λ e. omega arith)
offset_first (utc lower) = (refl, λ e. omega arith)
offset_first (east h m) = (refl, λ e. omega arith)
offset_first (west h m) = (refl, λ e. omega arith)

-- two runs of digits end at the same place
run_alone : (a b x y : Bytes) → all is_digit a ≡ true → all is_digit b ≡ true → is_digit (get_or x 0 0) ≡ false → is_digit (get_or y 0 0) ≡ false → a ++ x ≡ b ++ y → (a ≡ b) × (x ≡ y)
run_alone [] [] x y p q l m e = (refl, e)
run_alone [] (c ∷ b) x y p q l m e = clash (all_head is_digit c b q) (ap (λ s. is_digit (get_or s 0 0)) (sym e) ∙ l)
run_alone (c ∷ a) [] x y p q l m e = clash (all_head is_digit c a p) (ap (λ s. is_digit (get_or s 0 0)) e ∙ m)
run_alone (c ∷ a) (d ∷ b) x y p q l m e =
    let h : c ≡ d = ap (λ s. get_or s 0 0) e in
    let r = run_alone a b x y (all_tail is_digit c a p) (all_tail is_digit d b q) l m (ap (drop 1) e) in
    (cc, r.1)

after_alone : (o p : Option Bytes) (f g : Offset) → SomeDigits o → SomeDigits p → after_second o f ≡ after_second p g → (o ≡ p) × (f ≡ g)
unfolding optional
after_alone None None f g k l e = (refl, offset_alone f g e)
after_alone None (Some b) f g k l e = absurd ((offset_first f).1 (ap (λ s. get_or s 0 0) e))
after_alone (Some a) None f g k l e = absurd ((offset_first g).1 (ap (λ s. get_or s 0 0) (sym e)))
after_alone (Some a) (Some b) f g k l e =
    let r = run_alone a b (time_offset f) (time_offset g) k.1 l.1 (offset_first f).0 (offset_first g).0 (ap (drop 1) e) in
    (ap Some r.0, offset_alone f g r.1)

after19 : (t : DateTime) → drop 19 (date_time t) ≡ after_second t.secfrac t.offset
unfolding date_time full_date full_time partial_time two four
after19 t = refl

pub one_reading : (t u : DateTime) → Ranges t → Ranges u → date_time t ≡ date_time u → t ≡ u
one_reading t u r q e =
    let w : Some (moment_of t) ≡ Some (moment_of u) = sym (written_moment t r) ∙ ap moment e ∙ written_moment u q in
    let m : moment_of t ≡ moment_of u = cc in
    let n : unmarked t ≡ unmarked u = sym (moment_back t) ∙ ap date_time_of m ∙ moment_back u in
    let c : t.separator ≡ u.separator = letter_alone "T" t.separator u.separator (sym (at10 t) ∙ ap (λ s. get_or s 10 0) e ∙ at10 u) in
    let z = after_alone t.secfrac u.secfrac t.offset u.offset r.secfrac q.secfrac (sym (after19 t) ∙ ap (drop 19) e ∙ after19 u) in
    let d : marked (unmarked t) t.separator t.secfrac t.offset ≡ marked (unmarked u) u.separator u.secfrac u.offset = cc (n, c, z.0, z.1) in
    d

pub one_value : (s : Bytes) (v w : ℤ) → IsDateTime s v → IsDateTime s w → v ≡ w
one_value s v w i j =
    i.seconds ∙ ap since_epoch (one_reading i.time j.time i.ranges j.ranges (sym i.text ∙ j.text)) ∙ sym j.seconds
