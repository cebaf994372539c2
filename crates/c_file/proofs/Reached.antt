-- A state that is held of a place that words can have, and steps that come to no other.
use mathlib.Core.Path.{◌≡◌, ◌∙◌}
use mathlib.Core.Bool.{Bool, true, false, cond}
use Rattle.base.proofs.Split.{no}
use Rattle.markup.specs.Automaton.{Moved, continues, completes, malformed}

pub record PlaceOf {P S : Type 0} (at : P → S) (fits : P → Bool) (s : S) : Type 0 where
  pub place : P
  pub same : at place ≡ s
  pub held : fits place ≡ true

pub record Reaches {P S A : Type 0} (at : P → S) (fits : P → Bool) (m : Moved S A) : Type 0 where
  pub go : (s : S) → m ≡ continues s → PlaceOf at fits s

module _ {P S A : Type 0} (at : P → S) (fits : P → Bool) where
  pub refused : Reaches {A = A} at fits malformed
  refused = record { go = λ s e. no (cc e) }

  pub ended : (a : A) → Reaches at fits (completes a)
  ended a = record { go = λ s e. no (cc e) }

  pub stays : (p : P) → fits p ≡ true → Reaches {A = A} at fits (continues (at p))
  stays p h = record { go = λ s e. let f : at p ≡ s = cc e in record { place = p; same = f; held = h } }

  pub held_in : (s : S) → PlaceOf at fits s → Reaches {A = A} at fits (continues s)
  held_in s h = record { go = λ t e. let f : s ≡ t = cc e in record { place = h.place; same = h.same ∙ f; held = h.held } }

  pub reaches_if : (t : Bool) {a b : Moved S A} → Reaches at fits a → Reaches at fits b → Reaches at fits (cond t a b)
  reaches_if true x y = x
  reaches_if false x y = y
