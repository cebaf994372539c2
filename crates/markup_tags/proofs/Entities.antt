-- The letters of the five entities, one after the other.
use Prim.Native.Nat.{ℕ}
use mathlib.Core.Path.{◌≡◌, refl}
use mathlib.Core.Bool.{cond}
use mathlib.Core.List.{[], ◌∷◌, ◌++◌}
use lib.Dec.{eqb}
use borrow.Author.Tests.{ne_eqb}
use Rattle.base.specs.Bytes.{both, either, same}
use Rattle.base.proofs.Split.{by_eq}
use Rattle.text.specs.Check.{begins}
use Rattle.markup.specs.Automaton.{continues, malformed, behind_ampersand, in_entity, begins_entity, entity_of, letter_taken, reference_step}
use Rattle.markup_tags.specs.References.{letters_in}
use Rattle.markup_tags.specs.declared.references.EntityLetters.{EntityLetters}
use Rattle.markup_tags.specs.declared.references.EntityLetters.TheVariants as E

-- no entity and no number begins with another character
pub none_first : (c : ℕ) → (c ≡ 35 → ⊥) → (c ≡ 97 → ⊥) → (c ≡ 103 → ⊥) → (c ≡ 108 → ⊥) → (c ≡ 113 → ⊥) → malformed ≡ reference_step behind_ampersand c
unfolding reference_step begins_entity begins same both either
none_first c h a g l q = rw (ne_eqb c 35 h, ne_eqb c 97 a, ne_eqb c 103 g, ne_eqb c 108 l, ne_eqb c 113 q)

pub none_behind_a : (c : ℕ) → (c ≡ 109 → ⊥) → (c ≡ 112 → ⊥) → malformed ≡ letter_taken (97 ∷ c ∷ [])
unfolding begins_entity begins same both either
none_behind_a c m p = rw (ne_eqb c 109 m, ne_eqb c 112 p)

-- the others are the names of none
pub no_entity : (l : EntityLetters) → (l ≡ E.Amp → ⊥) → (l ≡ E.Apos → ⊥) → (l ≡ E.Gt → ⊥) → (l ≡ E.Lt → ⊥) → (l ≡ E.Quot → ⊥) → malformed ≡ entity_of (letters_in l)
unfolding entity_of same both
no_entity E.A _ _ _ _ _ = refl
no_entity E.Am _ _ _ _ _ = refl
no_entity E.Amp other _ _ _ _ = absurd (other refl)
no_entity E.Ap _ _ _ _ _ = refl
no_entity E.Apo _ _ _ _ _ = refl
no_entity E.Apos _ other _ _ _ = absurd (other refl)
no_entity E.L _ _ _ _ _ = refl
no_entity E.Lt _ _ _ other _ = absurd (other refl)
no_entity E.G _ _ _ _ _ = refl
no_entity E.Gt _ _ other _ _ = absurd (other refl)
no_entity E.Q _ _ _ _ _ = refl
no_entity E.Qu _ _ _ _ _ = refl
no_entity E.Quo _ _ _ _ _ = refl
no_entity E.Quot _ _ _ _ other = absurd (other refl)

-- and behind a whole name no letter follows
pub no_letter : (l : EntityLetters) (c : ℕ) → (l ≡ E.A → ⊥) → (l ≡ E.Am → ⊥) → (l ≡ E.Ap → ⊥) → (l ≡ E.Apo → ⊥)
    → (l ≡ E.G → ⊥) → (l ≡ E.L → ⊥) → (l ≡ E.Q → ⊥) → (l ≡ E.Qu → ⊥) → (l ≡ E.Quo → ⊥)
    → malformed ≡ letter_taken (letters_in l ++ (c ∷ []))
unfolding begins_entity begins same both either
no_letter E.A c other _ _ _ _ _ _ _ _ = absurd (other refl)
no_letter E.Am c _ other _ _ _ _ _ _ _ = absurd (other refl)
no_letter E.Amp c _ _ _ _ _ _ _ _ _ = refl
no_letter E.Ap c _ _ other _ _ _ _ _ _ = absurd (other refl)
no_letter E.Apo c _ _ _ other _ _ _ _ _ = absurd (other refl)
no_letter E.Apos c _ _ _ _ _ _ _ _ _ = refl
no_letter E.L c _ _ _ _ _ other _ _ _ = absurd (other refl)
no_letter E.Lt c _ _ _ _ _ _ _ _ _ = refl
no_letter E.G c _ _ _ _ other _ _ _ _ = absurd (other refl)
no_letter E.Gt c _ _ _ _ _ _ _ _ _ = refl
no_letter E.Q c _ _ _ _ _ _ other _ _ = absurd (other refl)
no_letter E.Qu c _ _ _ _ _ _ _ other _ = absurd (other refl)
no_letter E.Quo c _ _ _ _ _ _ _ _ other = absurd (other refl)
no_letter E.Quot c _ _ _ _ _ _ _ _ _ = refl

pub behind_am : (c : ℕ) → cond (eqb c 112) (continues (in_entity (letters_in E.Amp))) malformed ≡ letter_taken (letters_in E.Am ++ (c ∷ []))
unfolding begins_entity begins same both either
behind_am c = by_eq c 112 (λ e. rw e) (λ n. rw (ne_eqb c 112 n))

pub behind_ap : (c : ℕ) → cond (eqb c 111) (continues (in_entity (letters_in E.Apo))) malformed ≡ letter_taken (letters_in E.Ap ++ (c ∷ []))
unfolding begins_entity begins same both either
behind_ap c = by_eq c 111 (λ e. rw e) (λ n. rw (ne_eqb c 111 n))

pub behind_apo : (c : ℕ) → cond (eqb c 115) (continues (in_entity (letters_in E.Apos))) malformed ≡ letter_taken (letters_in E.Apo ++ (c ∷ []))
unfolding begins_entity begins same both either
behind_apo c = by_eq c 115 (λ e. rw e) (λ n. rw (ne_eqb c 115 n))

pub behind_g : (c : ℕ) → cond (eqb c 116) (continues (in_entity (letters_in E.Gt))) malformed ≡ letter_taken (letters_in E.G ++ (c ∷ []))
unfolding begins_entity begins same both either
behind_g c = by_eq c 116 (λ e. rw e) (λ n. rw (ne_eqb c 116 n))

pub behind_l : (c : ℕ) → cond (eqb c 116) (continues (in_entity (letters_in E.Lt))) malformed ≡ letter_taken (letters_in E.L ++ (c ∷ []))
unfolding begins_entity begins same both either
behind_l c = by_eq c 116 (λ e. rw e) (λ n. rw (ne_eqb c 116 n))

pub behind_q : (c : ℕ) → cond (eqb c 117) (continues (in_entity (letters_in E.Qu))) malformed ≡ letter_taken (letters_in E.Q ++ (c ∷ []))
unfolding begins_entity begins same both either
behind_q c = by_eq c 117 (λ e. rw e) (λ n. rw (ne_eqb c 117 n))

pub behind_qu : (c : ℕ) → cond (eqb c 111) (continues (in_entity (letters_in E.Quo))) malformed ≡ letter_taken (letters_in E.Qu ++ (c ∷ []))
unfolding begins_entity begins same both either
behind_qu c = by_eq c 111 (λ e. rw e) (λ n. rw (ne_eqb c 111 n))

pub behind_quo : (c : ℕ) → cond (eqb c 116) (continues (in_entity (letters_in E.Quot))) malformed ≡ letter_taken (letters_in E.Quo ++ (c ∷ []))
unfolding begins_entity begins same both either
behind_quo c = by_eq c 116 (λ e. rw e) (λ n. rw (ne_eqb c 116 n))
