-- Names, white space and the signs of markup are told apart by their characters.
use Rattle.markup.specs.Names.{white_space, name_start_char, name_char, is_name, no_chars, some_space}
use Prim.Native.Nat.{ℕ}
use mathlib.Core.Path.{◌≡◌, refl}
use mathlib.Core.Bool.{Bool, true, false, not}
use mathlib.Core.List.{List, [], ◌∷◌, ◌++◌}
use lib.Dec.{eqb}
use borrow.Author.Tests.{eqb-true, ne_eqb}
use Rattle.base.specs.Bytes.{both, either, all}
use Rattle.base.proofs.Split.{clash, by_bool, by_either, both_left, both_right, either_left}
use Rattle.text.specs.Char.{from_to}

-- a character that passes a test is not one that fails it
pub apart : (p : ℕ → Bool) (k c : ℕ) → p k ≡ false → p c ≡ true → eqb c k ≡ false
apart p k c f t = ne_eqb c k (λ e. let x : p k ≡ true = rw e at t in clash x f)

pub start_named : (c : ℕ) → name_start_char c ≡ true → name_char c ≡ true
unfolding name_char
start_named c t = either_left (name_start_char c) _ t

unnamed_at : (k c : ℕ) → name_char k ≡ false → eqb c k ≡ true → name_char c ≡ false
unnamed_at k c f t = let e = eqb-true c k t in rw e f

-- white space and the signs are no characters of a name
pub white_unnamed : (c : ℕ) → white_space c ≡ true → name_char c ≡ false
unfolding white_space name_char name_start_char from_to either both
white_unnamed c t =
    by_either _ _ t (unnamed_at 32 c refl)
    (λ u. by_either _ _ u (unnamed_at 9 c refl)
    (λ v. by_either _ _ v (unnamed_at 13 c refl) (unnamed_at 10 c refl)))

pub named_black : (c : ℕ) → name_char c ≡ true → white_space c ≡ false
named_black c t = by_bool (white_space c) (λ w. clash t (white_unnamed c w)) (λ w. w)

pub slash_unnamed : name_char 47 ≡ false
unfolding name_char name_start_char from_to either both
slash_unnamed = refl

pub end_unnamed : name_char 62 ≡ false
unfolding name_char name_start_char from_to either both
end_unnamed = refl

pub equals_unnamed : name_char 61 ≡ false
unfolding name_char name_start_char from_to either both
equals_unnamed = refl

pub bang_unnamed : name_char 33 ≡ false
unfolding name_char name_start_char from_to either both
bang_unnamed = refl

pub question_unnamed : name_char 63 ≡ false
unfolding name_char name_start_char from_to either both
question_unnamed = refl

pub slash_black : white_space 47 ≡ false
unfolding white_space either
slash_black = refl

pub end_black : white_space 62 ≡ false
unfolding white_space either
end_black = refl

pub equals_black : white_space 61 ≡ false
unfolding white_space either
equals_black = refl

pub double_black : white_space 34 ≡ false
unfolding white_space either
double_black = refl

pub single_black : white_space 39 ≡ false
unfolding white_space either
single_black = refl

pub question_black : white_space 63 ≡ false
unfolding white_space either
question_black = refl

pub name_first : (c : ℕ) (cs : List ℕ) → is_name (c ∷ cs) ≡ true → name_start_char c ≡ true
unfolding is_name
name_first c cs l = both_left _ _ l

pub name_rest : (c : ℕ) (cs : List ℕ) → is_name (c ∷ cs) ≡ true → all name_char cs ≡ true
unfolding is_name
name_rest c cs l = both_right _ _ l

pub name_of : (c : ℕ) → name_start_char c ≡ true → is_name (c ∷ []) ≡ true
unfolding is_name both all
name_of c t = rw t

-- a run that begins with no character of a name
abbrev pub Unnamed : List ℕ → Type 0
Unnamed [] = ⊥
Unnamed (c ∷ s) = name_char c ≡ false

-- white space before a run that begins with none
pub space_unnamed : (gap s : List ℕ) → all white_space gap ≡ true → Unnamed s → Unnamed (gap ++ s)
unfolding all
space_unnamed [] s l u = u
space_unnamed (c ∷ gap) s l u = white_unnamed c (both_left _ _ l)

pub some_unnamed : (gap s : List ℕ) → some_space gap ≡ true → Unnamed (gap ++ s)
unfolding some_space all
some_unnamed [] s l = clash (both_left _ _ l) refl
some_unnamed (c ∷ gap) s l = white_unnamed c (both_left _ _ (both_right (not (no_chars (c ∷ gap))) _ l))
