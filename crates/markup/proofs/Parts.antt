-- Laws of what parts write, and of names and white space that grow by a character.
use Rattle.markup.specs.Markup.{each_written}
use Rattle.markup.specs.Names.{white_space, name_char, is_name, no_chars, some_space}
use Prim.Native.Nat.{ℕ}
use mathlib.Core.Path.{◌≡◌, refl, sym, ◌∙◌, ap}
use mathlib.Core.Bool.{Bool, true, not}
use mathlib.Core.List.{List, [], ◌∷◌, ◌++◌, append_assoc}
use Rattle.base.specs.Bytes.{both, all}
use Rattle.base.proofs.Split.{clash, both_left, both_right, both_of}
use Rattle.base.proofs.Lists.{all_append, all_cons, all_nil}

-- a part behind some
pub written_more : {A : Type 0} (f : A → List ℕ) (xs : List A) (x : A) (s : List ℕ) → each_written f (xs ++ (x ∷ [])) ++ s ≡ each_written f xs ++ (f x ++ s)
unfolding each_written
written_more f [] x s = append_assoc (f x) [] s
written_more f (y ∷ xs) x s = append_assoc (f y) _ s ∙ (ap (λ t. f y ++ t) (written_more f xs x s) ∙ sym (append_assoc (f y) _ (f x ++ s)))

pub all_more : {A : Type 0} (p : A → Bool) (xs : List A) (x : A) → all p xs ≡ true → p x ≡ true → all p (xs ++ (x ∷ [])) ≡ true
all_more p xs x h k = all_append p xs (x ∷ []) h (all_cons p x [] k (all_nil p))

pub name_more : (n : List ℕ) (c : ℕ) → is_name n ≡ true → name_char c ≡ true → is_name (n ++ (c ∷ [])) ≡ true
unfolding is_name
name_more [] c h k = clash h refl
name_more (d ∷ ds) c h k = both_of (both_left _ _ h) (all_more name_char ds c (both_right _ _ h) k)

-- some characters of a kind, and one more
pub some_more : (p : ℕ → Bool) (s : List ℕ) (c : ℕ) → all p s ≡ true → p c ≡ true → both (not (no_chars (s ++ (c ∷ [])))) (all p (s ++ (c ∷ []))) ≡ true
some_more p [] c h k = both_of refl (all_cons p c [] k (all_nil p))
some_more p (d ∷ ds) c h k = both_of refl (all_more p (d ∷ ds) c h k)

pub some_space_of : (s : List ℕ) → all white_space s ≡ true → not (no_chars s) ≡ true → some_space s ≡ true
unfolding some_space
some_space_of s l n = both_of n l
