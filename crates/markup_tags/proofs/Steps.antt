-- What the steps of a start tag add to the line where it does not follow from the definitions by themselves.
use Prim.Native.Nat.{ℕ}
use mathlib.Core.Path.{◌≡◌, refl}
use mathlib.Core.Bool.{true, false}
use mathlib.Core.List.{[], ◌∷◌}
use lib.Dec.{eqb}
use borrow.Author.Tests.{eqb-true}
use Rattle.base.specs.Bytes.{either}
use Rattle.base.proofs.Split.{by_bool, clash}
use Rattle.text.specs.Text.{encoded}
use Rattle.markup.specs.Names.{white_space}
use Rattle.markup.specs.Automaton.{in_attribute_name, behind_attribute_name, attribute_name_ended}
use Rattle.markup_tags.specs.StartTags.{attrs_line, start_tag_line, no_parts, start_tag_grown, where_continued}

-- the equals sign is written where the name ends
pub name_ended_grown : (c : ℕ) → where_continued (61 ∷ []) (attribute_name_ended no_parts [] c)
    ≡ start_tag_grown (in_attribute_name no_parts []) (attribute_name_ended no_parts [] c)
unfolding attribute_name_ended start_tag_line attrs_line encoded
name_ended_grown c = by_bool (white_space c) (λ w. rw w) (λ w. by_bool (eqb c 61) (λ e. rw (w, e)) (λ e. rw (w, e)))

-- and not a second time
pub name_ended_before : (c : ℕ) → where_continued [] (attribute_name_ended no_parts [] c)
    ≡ start_tag_grown (behind_attribute_name no_parts []) (attribute_name_ended no_parts [] c)
unfolding attribute_name_ended start_tag_line attrs_line encoded
name_ended_before c = by_bool (white_space c) (λ w. rw w) (λ w. by_bool (eqb c 61) (λ e. rw (w, e)) (λ e. rw (w, e)))

white_return : white_space 13 ≡ true
unfolding white_space either
white_return = refl

-- a carriage return is white space
pub black_return : (c : ℕ) → white_space c ≡ false → eqb c 13 ≡ false
black_return c w = by_bool (eqb c 13) (λ t. let e = eqb-true c 13 t in clash white_return (rw e at w)) (λ f. f)
