-- Text between markups changes the count of line feeds and what stands before what comes next, and nothing else.
use Prim.Native.Nat.{ℕ, ◌+◌, ◌≤◌}
use mathlib.Core.Path.{◌≡◌, refl, sym, ◌∙◌, ap}
use mathlib.Core.Bool.{Bool, true, false, not}
use mathlib.Core.List.{List, [], ◌∷◌, ◌++◌}
use native.Mathlib.Omega.{arith}
use borrow.Author.Tests.{not-true}
use lib.Dec.{eqb, ltb}
use lib.ListN.{length}
use Rattle.std.specs.Prelude.{Ok}
use Rattle.base.specs.Bytes.{Bytes, both, all}
use Rattle.base.proofs.Split.{by_bool}
use Rattle.base.proofs.Lists.{all_head, all_tail}
use Rattle.file_lexer.specs.declared.Before.{Before}
use Rattle.file_lexer.specs.Lexing.{Where, between, before_step, counted, lex_byte}
use Rattle.file_reader.specs.File.{FileState, FileResult, with_lines, bytes_onward, file_byte, file_bytes}
use Rattle.file_events.specs.Parts.{before_text}
use Rattle.file_events.specs.Passing.{counted_on, text_passed}

-- ---- counting

pub counted_least : (b n : ℕ) → (n ≤ counted b n) × (counted b n ≤ n + 1)
unfolding counted
counted_least b n = by_bool (both (eqb b 10) (ltb n 18446744073709551615)) (λ t. rw t (omega arith, omega arith)) (λ t. rw t (omega arith, omega arith))

pub counted_most : (s : Bytes) (n : ℕ) → counted_on s n ≤ n + length s
unfolding counted_on
counted_most [] n = omega arith
counted_most (b ∷ s) n = let h = counted_most s (counted b n) in let k = (counted_least b n).1 in omega arith

-- ---- text

module _ (b : ℕ) (before : Before) (f : FileState) (p : f.place ≡ between before) where
  text_byte : eqb b 60 ≡ false → file_byte b f ≡ record { file = text_passed before (b ∷ []) f; answer = Ok tt }
  unfolding file_byte lex_byte counted_on before_text
  text_byte e = rw (p, e)

nothing_passed : (before : Before) (f : FileState) → f.place ≡ between before → f ≡ text_passed before [] f
unfolding counted_on before_text
nothing_passed before f p = λ i. record { state = f.state; place = p i; feeds = f.feeds; bytes = f.bytes; used = f.used; named = f.named }

-- "text up to the next `<` ignored unchecked"
pub text_told : (s rest : Bytes) (before : Before) (f : FileState) → f.place ≡ between before → all (λ b. not (eqb b 60)) s ≡ true
    → file_bytes (s ++ rest) f ≡ file_bytes rest (text_passed before s f)
unfolding file_bytes counted_on before_text
text_told [] rest before f p l = ap (file_bytes rest) (nothing_passed before f p)
text_told (b ∷ s) rest before f p l =
    let e = text_byte b before f p (not-true (eqb b 60) (all_head (λ b. not (eqb b 60)) b s l)) in
    rw e (text_told s rest (before_step before b) (text_passed before (b ∷ []) f) refl (all_tail (λ b. not (eqb b 60)) b s l))
