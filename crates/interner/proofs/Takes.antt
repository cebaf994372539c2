-- What `intern` does by its cases: the text is held, there is room, there is none.
use Rattle.std.specs.Prelude.{None, Option, Some}
use Prim.Native.Nat.{ℕ, ◌+◌, ◌*◌, ◌≤◌, min}
use mathlib.Core.Path.{◌≡◌, sym, ◌∙◌}
use mathlib.Core.Bool.{true, false}
use mathlib.Core.List.{List}
use native.Mathlib.Omega.{arith}
use lib.ListN.{length, take}
use lib.Seq.{take_all}
use borrow.Author.Tests.{leb-true}
use Rattle.base.specs.Bytes.{Bytes}
use Rattle.base.proofs.Split.{by_le, both_left, both_right}
use Rattle.interner.specs.Interned.{Held, Full}
use Rattle.interner.specs.Strings.{find_in, Store, used_of, text_room, text_taken, taken_as, intern}

module _ (s : Store) (t : Bytes) where
  pub held : (h : ℕ) → find_in s.spans (used_of s) s.strings t ≡ Some h → intern s t ≡ record { store = s; answer = Held h }
  unfolding intern taken_as
  held h e = rw e

  pub new : find_in s.spans (used_of s) s.strings t ≡ None → text_room s t ≡ true → intern s t ≡ text_taken s t
  unfolding intern taken_as
  new e r = rw (e, r)

  pub full : find_in s.spans (used_of s) s.strings t ≡ None → text_room s t ≡ false → intern s t ≡ record { store = s; answer = Full }
  unfolding intern taken_as
  full e r = rw (e, r)

  -- the same where it is known whether the text is held

  pub taken_held : (found : Option ℕ) (h : ℕ) → found ≡ Some h → taken_as s t found ≡ record { store = s; answer = Held h }
  unfolding taken_as
  taken_held found h e = rw e

  pub taken_new : (found : Option ℕ) → found ≡ None → true ≡ text_room s t → taken_as s t found ≡ text_taken s t
  unfolding taken_as
  taken_new found e r = rw (e, ← r)

  pub taken_full : (found : Option ℕ) → found ≡ None → false ≡ text_room s t → taken_as s t found ≡ record { store = s; answer = Full }
  unfolding taken_as
  taken_full found e r = rw (e, ← r)

  pub room_words : text_room s t ≡ true → 2 * s.strings + 2 ≤ length s.spans
  unfolding text_room
  room_words e = leb-true _ _ (both_left _ _ e)

  pub room_bytes : text_room s t ≡ true → s.used + length t ≤ length s.bytes
  unfolding text_room
  room_bytes e = leb-true _ _ (both_right _ _ e)

-- as many elements as there are, at most
pub take_min : {A : Type 0} (n : ℕ) (l : List A) → take (min n (length l)) l ≡ take n l
take_min n l =
    by_le n (length l)
    (λ h. let e : min n (length l) ≡ n = omega arith in rw e)
    (λ h. let e : min n (length l) ≡ length l = omega arith in rw e (take_all (length l) l (omega arith) ∙ sym (take_all n l (omega arith))))
