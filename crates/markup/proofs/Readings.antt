-- What the text is that a markup's automaton has read: a legal markup with its meaning.
use Rattle.markup.specs.Markup.{Markup, start_tag, end_tag, comment, instruction, declaration, legal_markup, may_stand, written_markup, Meaning, meaning_of}
use Prim.Native.Nat.{ℕ}
use mathlib.Core.Path.{◌≡◌, refl}
use mathlib.Core.Bool.{Bool, true, false}
use mathlib.Core.List.{List, ◌++◌}
use Rattle.base.proofs.Split.{clash}

-- the test says that nothing stands before the markup
pub record MarkupRead (first : Bool) (before : List ℕ → List ℕ) (e : Meaning) : Type 0 where
  pub markup : Markup
  pub place : may_stand first markup ≡ true
  pub legal : legal_markup markup ≡ true
  pub meaning : e ≡ meaning_of markup
  pub text : (s : List ℕ) → before s ≡ written_markup markup ++ s

-- a markup that may stand anywhere may stand first
pub place_first : (first : Bool) (m : Markup) → may_stand false m ≡ true → may_stand first m ≡ true
unfolding may_stand
place_first first (start_tag empty n xs gap) h = refl
place_first first (end_tag n gap) h = refl
place_first first (comment ps) h = refl
place_first first (instruction t gap cs) h = refl
place_first first (declaration d) h = clash h refl

pub read_first : (first : Bool) (before : List ℕ → List ℕ) (e : Meaning) → MarkupRead false before e → MarkupRead first before e
read_first first before e r = record { markup = r.markup; place = place_first first r.markup r.place; legal = r.legal; meaning = r.meaning; text = r.text }
