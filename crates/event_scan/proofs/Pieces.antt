-- Laws of the pieces of a value: a text is read piece by piece.
use Rattle.std.specs.Prelude.{None, Option, Some}
use Prim.Native.Nat.{ℕ, ◌+◌, ◌-◌, ◌<◌, ◌≤◌}
use mathlib.Core.Path.{◌≡◌, refl, sym, ◌∙◌, ap}
use mathlib.Core.Bool.{Bool, true, false, not}
use mathlib.Core.List.{[], ◌∷◌}
use native.Mathlib.Omega.{arith}
use lib.Dec.{eqb}
use lib.ListN.{length, get_or, take, drop, set, length-drop, length-set}
use lib.Seq.{set_out, take_all}
use borrow.Author.Tests.{eq-eqb, ne_eqb}
use Rattle.base.specs.Bytes.{Bytes, all}
use Rattle.base.proofs.Split.{by_eq, by_lt, no, clash}
use Rattle.base.proofs.Lists.{all_head, all_tail}
use Rattle.text.specs.Escape.{meaning, byte_before, unescape_from, unescape}
use Rattle.text.proofs.Escapes.{read_byte}
use Rattle.event.specs.Event.{or_empty}
use Rattle.little.proofs.Overs.{Writing, stored, over_past}
use Rattle.event_scan.specs.declared.Piece.{Piece}
use Rattle.event_scan.specs.Piece.{there, some_piece, lettered, piece_in, value_text}

-- ---- what a value begins with

pub piece_none : (v : Bytes) → length v < 1 → piece_in v ≡ None
unfolding piece_in
piece_none [] h = refl
piece_none (b ∷ s) h = no (omega arith)

pub piece_byte : (v : Bytes) → 0 < length v → (get_or v 0 0 ≡ 92 → ⊥) → piece_in v ≡ some_piece (get_or v 0 0) 1
unfolding piece_in
piece_byte [] h n = no (omega arith)
piece_byte (b ∷ s) h n = rw (ne_eqb b 92 n)

pub piece_last : (v : Bytes) → get_or v 0 0 ≡ 92 → length v ≡ 1 → piece_in v ≡ None
unfolding piece_in
piece_last [] e h = no (omega arith)
piece_last (b ∷ []) e h = rw (eq-eqb b 92 e)
piece_last (b ∷ m ∷ s) e h = no (omega arith)

pub piece_escape : (v : Bytes) → get_or v 0 0 ≡ 92 → 1 < length v → piece_in v ≡ lettered (meaning (get_or v 1 0))
unfolding piece_in
piece_escape [] e h = no (omega arith)
piece_escape (b ∷ []) e h = no (omega arith)
piece_escape (b ∷ m ∷ s) e h = rw (eq-eqb b 92 e)

-- ---- a piece, and the rest

-- a value's text begins with the byte, and is read on behind it
pub record Begins (s : Bytes) (p : Piece) : Type 0 where
  pub some_bytes : 0 < p.size
  pub within : p.size ≤ length s
  pub is : unescape s ≡ byte_before (Some p.byte) (unescape (drop p.size s))

escaped_is : (m : ℕ) (s : Bytes) (o : Option ℕ) (p : Piece) → meaning m ≡ o → lettered o ≡ Some p → Begins (92 ∷ m ∷ s) p
unfolding unescape_from
escaped_is m s None p e h = no (cc)
escaped_is m s (Some x) p e h =
    let q : ◌≡◌ {A = Piece} (record { byte = x; size = 2 }) p = cc in
    rw (← q) (record { some_bytes = omega arith; within = omega arith; is = rw e })

escaped_not : (m : ℕ) (s : Bytes) (o : Option ℕ) → meaning m ≡ o → lettered o ≡ None → unescape (92 ∷ m ∷ s) ≡ None
unfolding unescape_from byte_before
escaped_not m s None p e = rw p
escaped_not m s (Some x) p e = no (cc)

byte_is : (x : ℕ) (s : Bytes) (p : Piece) → (x ≡ 92 → ⊥) → some_piece x 1 ≡ Some p → Begins (x ∷ s) p
byte_is x s p g h =
    let q : ◌≡◌ {A = Piece} (record { byte = x; size = 1 }) p = cc in
    rw (← q) (record { some_bytes = omega arith; within = omega arith; is = read_byte x s (ne_eqb x 92 g) })

pub piece_is : (s : Bytes) (p : Piece) → piece_in s ≡ Some p → Begins s p
unfolding piece_in
piece_is [] p e = no (cc)
piece_is (x ∷ []) p e =
    by_eq x 92
    (λ q. let z : None ≡ Some p = rw (eq-eqb x 92 q) at e in no (cc))
    (λ g. byte_is x [] p g (rw (ne_eqb x 92 g) at e))
piece_is (x ∷ m ∷ s) p e =
    by_eq x 92
    (λ q. rw q (escaped_is m s (meaning m) p refl (rw (eq-eqb x 92 q) at e)))
    (λ g. byte_is x (m ∷ s) p g (rw (ne_eqb x 92 g) at e))

pub piece_not : (s : Bytes) → 0 < length s → piece_in s ≡ None → unescape s ≡ None
unfolding piece_in unescape_from
piece_not [] h e = no (omega arith)
piece_not (x ∷ []) h e =
    by_eq x 92
    (λ p. rw p)
    (λ g. let z : some_piece x 1 ≡ None = rw (ne_eqb x 92 g) at e in no (cc))
piece_not (x ∷ m ∷ s) h e =
    by_eq x 92
    (λ p. rw p (escaped_not m s (meaning m) refl (rw (eq-eqb x 92 p) at e)))
    (λ g. let z : some_piece x 1 ≡ None = rw (ne_eqb x 92 g) at e in no (cc))

-- ---- the text of the rest

there_before : (b : ℕ) (o : Option Bytes) → there (byte_before (Some b) o) ≡ there o
unfolding there byte_before
there_before b None = refl
there_before b (Some t) = refl

text_before : (b : ℕ) (o : Option Bytes) → there o ≡ true → or_empty (byte_before (Some b) o) ≡ b ∷ or_empty o
unfolding there byte_before
text_before b None h = clash h refl
text_before b (Some t) h = refl

-- a turn from what is left to what is left behind its first piece
pub record Turn (s : Bytes) (p : Piece) : Type 0 where
  pub forward : 0 < p.size
  pub within : p.size ≤ length s
  pub behind : take (length s - p.size) (drop p.size s) ≡ drop p.size s
  pub right : there (unescape (drop p.size s)) ≡ there (unescape s)
  pub text : there (unescape s) ≡ true → value_text s ≡ p.byte ∷ value_text (drop p.size s)

module _ (s : Bytes) (p : Piece) (w : Begins s p) where
  right_on : there (unescape (drop p.size s)) ≡ there (unescape s)
  right_on = rw w.is (sym (there_before p.byte (unescape (drop p.size s))))

  text_on : there (unescape s) ≡ true → value_text s ≡ p.byte ∷ value_text (drop p.size s)
  unfolding value_text
  text_on h = rw w.is (text_before p.byte (unescape (drop p.size s)) (right_on ∙ h))

pub turn : (s : Bytes) (p : Piece) → piece_in s ≡ Some p → Turn s p
turn s p e =
    let w = piece_is s p e in
    record { forward = w.some_bytes; within = w.within; behind = take_all (length s - p.size) (drop p.size s) (omega (arith, length-drop p.size s)); right = right_on s p w; text = text_on s p w }

-- where no piece begins, the escapes are right if nothing is left
pub right_ends : (s : Bytes) → piece_in s ≡ None → eqb (length s) 0 ≡ there (unescape s)
unfolding there unescape_from
right_ends [] e = refl
right_ends (b ∷ s) e = rw (piece_not (b ∷ s) (omega arith) e) (ne_eqb (length (b ∷ s)) 0 (λ z. omega arith))

pub text_ends : (s : Bytes) → piece_in s ≡ None → value_text s ≡ []
unfolding value_text unescape_from
text_ends [] e = refl
text_ends (b ∷ s) e = rw (piece_not (b ∷ s) (omega arith) e)

pub no_text : (v : Bytes) → there (unescape v) ≡ false → unescape v ≡ None
unfolding there
no_text v h = go (unescape v) h
  where
    go : (o : Option Bytes) → there o ≡ false → o ≡ None
    go None q = refl
    go (Some t) q = clash refl q

pub text_none : (v : Bytes) → there (unescape v) ≡ false → value_text v ≡ []
unfolding value_text
text_none v h = ap or_empty (no_text v h)

-- a byte stored, or left out where there is no room
pub put_on : {s₀ t : Bytes} (s : Bytes) (i b : ℕ) {rest more : Bytes} → rest ≡ b ∷ more → Writing s₀ t s i rest → Writing s₀ t (set s i b) (i + 1) more
put_on s i b {rest} {more} e w =
    by_lt i (length s)
    (λ h. stored s i b h e w)
    (λ h. record {
      kept = rw length-set w.kept;
      left = rw (set_out s i b h) (over_past s (i + 1) more (omega arith) ∙ sym (over_past s i rest h) ∙ w.left);
    })

-- ---- a value without a backslash

-- it is its own text
pub own_text : (v : Bytes) → all (λ b. not (eqb b 92)) v ≡ true → unescape v ≡ Some v
unfolding unescape_from byte_before
own_text [] h = refl
own_text (b ∷ v) h =
    read_byte b v (bare_byte (eqb b 92) (all_head (λ x. not (eqb x 92)) b v h))
    ∙ rw (own_text v (all_tail (λ x. not (eqb x 92)) b v h))
  where
    bare_byte : (t : Bool) → not t ≡ true → t ≡ false
    bare_byte true e = clash e refl
    bare_byte false e = refl

pub right_bare : (v : Bytes) → all (λ b. not (eqb b 92)) v ≡ true → there (unescape v) ≡ true
unfolding there
right_bare v h = rw (own_text v h)

pub text_bare : (v : Bytes) → all (λ b. not (eqb b 92)) v ≡ true → value_text v ≡ v
unfolding value_text
text_bare v h = rw (own_text v h)
