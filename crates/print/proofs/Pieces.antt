-- Pieces, as their printers go: the place in the output, the bytes of an escape, what a printer leaves.
use Rattle.std.specs.Prelude.{None, Option, Some}
use Prim.Native.Nat.{ℕ, zero, suc, ◌+◌, ◌-◌, ◌/◌, ◌^◌, ◌≤◌, ◌<◌}
use mathlib.Core.Path.{◌≡◌, refl, sym, ◌∙◌, ap}
use mathlib.Core.Bool.{true}
use mathlib.Core.List.{List, [], ◌∷◌, ◌++◌}
use native.Mathlib.Numerals.{add-one}
use native.Mathlib.Omega.{arith}
use lib.Dec.{eqb}
use lib.ListN.{length, get_or, drop, length-take, length-drop, drop_of_length-le}
use lib.Seq.{drop-cons}
use borrow.Author.Tests.{le-leb, lt-leb, ne_eqb, ltb-true, eqb-false, not-true}
use borrow.Rule.Slice.PartMut.{mid_of, put_mid}
use Rattle.base.specs.Bytes.{Bytes, all}
use Rattle.base.proofs.Split.{by_le, by_lt, both_left, both_right, no}
use Rattle.base.proofs.Lists.{all_head, all_tail}
use Rattle.text.specs.Escape.{escaped, escape}
use Rattle.little.specs.Little.{over}
use Rattle.little.proofs.Overs.{over_lent_start}
use Rattle.line.specs.Decimal.{number_text}
use Rattle.decimal.proofs.Numbers.{length_one, length_more}
use Rattle.decimal.specs.Put.{Wrote as Put, put_text}
use Rattle.decimal.proofs.Puts.{put_whole}
use Rattle.print.specs.Print.{print_step, print}
use Rattle.print.specs.Piece.{behind, place_in, written_at, is_plain}
use Rattle.print.specs.Printer.{printed_by, IsSame, TakesRoom, Prints}
use Rattle.print.specs.declared.Printer.{Printer}
use Rattle.print.proofs.Prints.{behind_fits, behind_past, behind_full, placed_within, placed_past, step_fits, step_past, step_full, print_append}

-- ---- the place of a piece

module _ (cap n len : ℕ) where
  pub place_within : (r : ℕ) → n ≤ r → cap - r + n ≤ len → place_in cap (Some r) n len ≡ Some (cap - r)
  unfolding place_in
  place_within r h g = rw (le-leb n r h, le-leb (cap - r + n) len g)

  pub place_past : (r : ℕ) → n ≤ r → len < cap - r + n → place_in cap (Some r) n len ≡ None
  unfolding place_in
  place_past r h g = rw (le-leb n r h, lt-leb (cap - r + n) len g)

  pub place_over : (r : ℕ) → r < n → place_in cap (Some r) n len ≡ None
  unfolding place_in
  place_over r h = rw (lt-leb n r h)

  pub place_full : place_in cap None n len ≡ None
  unfolding place_in
  place_full = refl

  -- a piece that has a place lies within the output
  pub place_fits : (room : Option ℕ) (at : ℕ) → Some at ≡ place_in cap room n len → at + n ≤ len
  place_fits None at e = let f = place_full in no (cc)
  place_fits (Some r) at e =
      by_le n r
      (λ h. by_le (cap - r + n) len
      (λ g. let f = place_within r h g in let q : at ≡ cap - r = cc in omega arith)
      (λ g. let f = place_past r h g in no (cc)))
      (λ h. let f = place_over r h in no (cc))

-- a step writes its piece there
pub step_is : (cap : ℕ) (room : Option ℕ) (x out : Bytes) → print_step cap x (record { out = out; room = room })
    ≡ record { out = written_at out (place_in cap room (length x) (length out)) x; room = behind room (length x) }
step_is cap None x out = rw (behind_full, place_full) (step_full cap x out)
step_is cap (Some r) x out =
    let len = length out in
    by_le (length x) r
    (λ h. by_le (cap - r + length x) len
    (λ g. rw (behind_fits r (length x) h, place_within cap (length x) len r h g, ← placed_within out (cap - r) x g) (step_fits cap x out r h))
    (λ g. rw (behind_fits r (length x) h, place_past cap (length x) len r h g) (step_fits cap x out r h ∙ rw (placed_past out (cap - r) x g))))
    (λ h. rw (behind_past r (length x) h, place_over cap (length x) len r h) (step_past cap x out r h))

-- ---- what a printer leaves

module _ (x : Bytes) where
  -- a piece was written at its place
  pub put_there : {p m q : Printer} {o : Option ℕ} {at : ℕ} → IsSame p m → TakesRoom (length x) p m o → o ≡ Some at → q.out.ghost_name ≡ m.out.ghost_name → q.cap ≡ m.cap → q.room ≡ m.room
      → q.out.now ≡ over m.out.now at x → Prints (x ∷ []) p q
  unfolding print
  put_there {p} {m} {q} {o} {at} s t e n c r w =
      let f : Some at ≡ place_in p.cap p.room (length x) (length p.out.now) = sym e ∙ t.place in
      record { out = n ∙ s.out; cap = c ∙ s.cap; printed = rw (step_is p.cap p.room x p.out.now, ← f, w, t.out, r, t.room) }

  -- a piece has no place
  pub put_nowhere : {p q : Printer} {o : Option ℕ} → IsSame p q → TakesRoom (length x) p q o → o ≡ None → Prints (x ∷ []) p q
  unfolding print
  put_nowhere {p} {q} {o} s t e =
      let f : None ≡ place_in p.cap p.room (length x) (length p.out.now) = sym e ∙ t.place in
      record { out = s.out; cap = s.cap; printed = rw (step_is p.cap p.room x p.out.now, ← f, t.out, t.room) }

pub nothing_printed : (p : Printer) → Prints [] p p
unfolding print
nothing_printed p = record { out = refl; cap = refl; printed = refl }

pub then_printed : {p q s : Printer} {xs ys : List Bytes} → Prints xs p q → Prints ys q s → Prints (xs ++ ys) p s
then_printed {p} {q} {s} {xs} {ys} a b =
    record {
      out = b.out ∙ a.out;
      cap = b.cap ∙ a.cap;
      printed = rw (print_append p.cap xs ys (printed_by p), ← a.printed, ← a.cap) b.printed;
    }

-- a writer was lent the rest from a place on
pub number_over : (out x last : Bytes) (at : ℕ) → at + length x ≤ length out → last ≡ (put_text (mid_of at (length out - at) out) x).bytes
    → put_mid at (length out - at) out last ≡ over out at x
number_over out x last at h e =
    let lent = mid_of at (length out - at) out in
    let n : length lent ≡ length out - at = simp (length-take, length-drop) (omega arith) in
    over_lent_start out last at x (omega arith) (e ∙ ap (λ (u : Put). u.bytes) (put_whole lent x (omega arith)))

-- ---- how long a number is

-- a number below a power of ten has at most so many digits
pub digits_fit : (k n : ℕ) → n < 10 ^ suc k → length (number_text n) ≤ suc k
digits_fit zero n h = omega (arith, length_one n (omega arith))
digits_fit (suc k) n h =
    by_lt n 10
    (λ g. omega (arith, length_one n g))
    (λ g. omega (arith, length_more n g, digits_fit k (n / 10) (omega arith)))

-- ---- escapes

pub escape_end : (t : Bytes) (i : ℕ) → length t ≤ i → escape (drop i t) ≡ []
unfolding escape
escape_end t i h = rw (drop_of_length-le t h)

pub escape_at : (t : Bytes) (i : ℕ) → i < length t → escape (drop i t) ≡ escaped (get_or t i 0) ++ escape (drop (i + 1) t)
unfolding escape
escape_at t i h = rw (add-one, drop-cons t i 0 h)

-- a byte above 13 that is no backslash
pub plain_byte : (b : ℕ) → 13 < b → (b ≡ 92 → ⊥) → escaped b ≡ b ∷ []
unfolding escaped
plain_byte b h n =
    rw (ne_eqb b 9 (λ e. absurd (omega arith)), ne_eqb b 10 (λ e. absurd (omega arith)), ne_eqb b 13 (λ e. absurd (omega arith)), ne_eqb b 92 n)

-- a text of bytes that stand for themselves is its own escape
pub plain_text : (t : Bytes) → all is_plain t ≡ true → escape t ≡ t
unfolding escape
plain_text [] e = refl
plain_text (b ∷ t) e =
    let h = all_head is_plain b t e in
    rw (
      plain_byte b (ltb-true 13 b (both_left _ _ h)) (eqb-false b 92 (not-true (eqb b 92) (both_right _ _ h))),
      plain_text t (all_tail is_plain b t e),
    )
