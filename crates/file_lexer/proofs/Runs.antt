-- A run, byte by byte and piece by piece.
use Prim.Native.Nat.{ℕ, ◌+◌, ◌<◌}
use mathlib.Core.Path.{◌≡◌, refl, ◌∙◌, ap}
use mathlib.Core.List.{[], ◌∷◌, ◌++◌}
use native.Mathlib.Omega.{arith}
use native.Mathlib.Numerals.{add-one}
use lib.ListN.{length, get_or, drop}
use lib.Seq.{drop-cons, drop-drop}
use Rattle.base.specs.Bytes.{Bytes}
use Rattle.base.proofs.Split.{no}
use Rattle.markup.specs.Markup.{Meaning}
use Rattle.file_lexer.specs.Lexing.{Lexing, Told, more, markup, not_markup, LexedByte, LexedRun, lexed_onward, lex_byte, lex_run}

-- ---- its first byte

module _ (l k : Lexing) (b : ℕ) (s bs : Bytes) (d : s ≡ b ∷ bs) where
  pub run_goes_on : ◌≡◌ {A = LexedByte} (record { lexing = k; told = more }) (lex_byte l b) → lex_run l s ≡ lex_run k bs
  unfolding lex_run
  run_goes_on e = rw (d, ← e)

  pub run_ends : (m : Meaning) → ◌≡◌ {A = LexedByte} (record { lexing = k; told = markup m }) (lex_byte l b)
      → lex_run l s ≡ record { lexing = k; told = markup m; rest = bs }
  unfolding lex_run
  run_ends m e = rw (d, ← e)

  pub run_stops : ◌≡◌ {A = LexedByte} (record { lexing = k; told = not_markup }) (lex_byte l b)
      → lex_run l s ≡ record { lexing = k; told = not_markup; rest = s }
  unfolding lex_run
  run_stops e = rw (d, ← e)

pub run_of_nothing : (l : Lexing) (s : Bytes) → s ≡ [] → lex_run l s ≡ record { lexing = l; told = more; rest = s }
unfolding lex_run
run_of_nothing l s e = rw e

-- what stands from a place on
pub from_place : (s : Bytes) (at : ℕ) → at < length s → drop at s ≡ get_or s at 0 ∷ drop (at + 1) s
from_place s at h = rw add-one (drop-cons s at 0 h)

-- a run that was passed over at once, and what follows it
pub passed_on : (l k : Lexing) (s : Bytes) (at n : ℕ) (x : LexedRun) → lex_run k (drop n (drop at s)) ≡ lex_run l (drop at s) → lex_run l (drop at s) ≡ x
    → lex_run k (drop (at + n) s) ≡ x
passed_on l k s at n x e h = rw (← drop-drop n at s) (e ∙ h)

-- ---- pieces: where a run ends within a markup or between two, what follows it is read on from there

pub pieces : (l : Lexing) (s t : Bytes) → (lex_run l s).told ≡ more → lex_run l (s ++ t) ≡ lex_run (lex_run l s).lexing t
unfolding lex_run
pieces l [] t h = refl
pieces l (b ∷ s) t h = go (λ k. pieces k s t) (lex_byte l b).lexing (lex_byte l b).told h
  where
    go : ((k : Lexing) → (lex_run k s).told ≡ more → lex_run k (s ++ t) ≡ lex_run (lex_run k s).lexing t) → (k : Lexing) (d : Told)
        → (lexed_onward (λ j. lex_run j s) b s (record { lexing = k; told = d })).told ≡ more
        → lexed_onward (λ j. lex_run j (s ++ t)) b (s ++ t) (record { lexing = k; told = d })
        ≡ lex_run (lexed_onward (λ j. lex_run j s) b s (record { lexing = k; told = d })).lexing t
    go ih k more h = ih k h
    go ih k (markup m) h = no (cc)
    go ih k not_markup h = no (cc)

-- where a run told more, what follows it changes nothing
pub told_before : (l : Lexing) (s t : Bytes) → ((lex_run l s).told ≡ more → ⊥)
    → lex_run l (s ++ t) ≡ record { lexing = (lex_run l s).lexing; told = (lex_run l s).told; rest = (lex_run l s).rest ++ t }
unfolding lex_run
told_before l [] t h = absurd (h refl)
told_before l (b ∷ s) t h = go (λ k. told_before k s t) (lex_byte l b).lexing (lex_byte l b).told h
  where
    go : ((k : Lexing) → ((lex_run k s).told ≡ more → ⊥) → lex_run k (s ++ t) ≡ record { lexing = (lex_run k s).lexing; told = (lex_run k s).told; rest = (lex_run k s).rest ++ t })
        → (k : Lexing) (d : Told)
        → ((lexed_onward (λ j. lex_run j s) b s (record { lexing = k; told = d })).told ≡ more → ⊥)
        → lexed_onward (λ j. lex_run j (s ++ t)) b (s ++ t) (record { lexing = k; told = d })
        ≡ record {
          lexing = (lexed_onward (λ j. lex_run j s) b s (record { lexing = k; told = d })).lexing;
          told = (lexed_onward (λ j. lex_run j s) b s (record { lexing = k; told = d })).told;
          rest = (lexed_onward (λ j. lex_run j s) b s (record { lexing = k; told = d })).rest ++ t;
        }
    go ih k more h = ih k h
    go ih k (markup m) h = refl
    go ih k not_markup h = refl

-- ---- what is left

-- a run is what was taken of it, and what is left; all was taken where the markup goes on, and some where one ended
pub record Taken (s rest : Bytes) (told : Told) : Type 0 where
  pub taken : Bytes
  pub is : s ≡ taken ++ rest
  pub all_of_it : told ≡ more → rest ≡ []
  pub some_of_it : (m : Meaning) → told ≡ markup m → 0 < length taken

pub taken_of : (l : Lexing) (s : Bytes) → Taken s (lex_run l s).rest (lex_run l s).told
unfolding lex_run
taken_of l [] = record { taken = []; is = refl; all_of_it = λ e. refl; some_of_it = λ m e. no (cc) }
taken_of l (b ∷ s) = go (λ k. taken_of k s) (lex_byte l b).lexing (lex_byte l b).told
  where
    go : ((k : Lexing) → Taken s (lex_run k s).rest (lex_run k s).told) → (k : Lexing) (d : Told)
        → Taken (b ∷ s) (lexed_onward (λ j. lex_run j s) b s (record { lexing = k; told = d })).rest (lexed_onward (λ j. lex_run j s) b s (record { lexing = k; told = d })).told
    go ih k more = let w = ih k in record { taken = b ∷ w.taken; is = ap (b ∷◌) w.is; all_of_it = w.all_of_it; some_of_it = λ m e. omega arith }
    go ih k (markup m) = record { taken = b ∷ []; is = refl; all_of_it = λ e. no (cc); some_of_it = λ m e. omega arith }
    go ih k not_markup = record { taken = []; is = refl; all_of_it = λ e. no (cc); some_of_it = λ m e. no (cc) }
