-- What a part of a markup comes to, as a step of the markup: what is forgotten of it, and what it adds to the line.
use mathlib.Core.Path.{◌≡◌, refl, ◌∙◌, ap}
use mathlib.Core.List.{[]}
use Rattle.markup.specs.Markup.{Meaning}
use Rattle.markup.specs.Automaton.{Moved, continues, completes, malformed, wrapped_step, StartTagState, EndTagState, CommentState, InstructionState}
use Rattle.markup.specs.Automaton.{MarkupState, in_start_tag, in_end_tag, in_bang, in_instruction}
use Rattle.markup_skipped.specs.Comments.{comment_moved}
use Rattle.markup_skipped.specs.Instructions.{instruction_forgotten, instruction_moved}
use Rattle.markup_skipped.specs.declared.Moved as Held
use Rattle.markup_skipped.specs.declared.Moved.TheVariants as M
use Rattle.markup_skipped.specs.declared.comments.CommentPlace.{CommentPlace}
use Rattle.markup_skipped.specs.declared.instructions.InstructionPlace.{InstructionPlace}
use Rattle.markup_tags.specs.Meanings.{meaning_kept}
use Rattle.markup_tags.specs.StartTags.{start_tag_forgotten, start_tag_grown}
use Rattle.markup_tags.specs.EndTags.{end_tag_forgotten, end_tag_grown}
use Rattle.markup_steps.specs.Held.{markup_line, markup_grown, markup_kept, markup_forgotten}

-- ---- tags

pub start_forgotten : (m : Moved StartTagState Meaning) → wrapped_step in_start_tag (start_tag_forgotten m) ≡ markup_forgotten (wrapped_step in_start_tag m)
unfolding markup_kept
start_forgotten (continues s) = refl
start_forgotten (completes m) = refl
start_forgotten malformed = refl

pub start_grown : (s : StartTagState) (m : Moved StartTagState Meaning) → start_tag_grown s m ≡ markup_grown (in_start_tag s) (wrapped_step in_start_tag m)
unfolding markup_line
start_grown s (continues t) = refl
start_grown s (completes m) = refl
start_grown s malformed = refl

pub end_forgotten : (m : Moved EndTagState Meaning) → wrapped_step in_end_tag (end_tag_forgotten m) ≡ markup_forgotten (wrapped_step in_end_tag m)
unfolding markup_kept
end_forgotten (continues s) = refl
end_forgotten (completes m) = refl
end_forgotten malformed = refl

pub end_grown : (s : EndTagState) (m : Moved EndTagState Meaning) → end_tag_grown s m ≡ markup_grown (in_end_tag s) (wrapped_step in_end_tag m)
unfolding markup_line
end_grown s (continues t) = refl
end_grown s (completes m) = refl
end_grown s malformed = refl

-- ---- what is skipped: it completes no event, and adds nothing

-- what is forgotten of a part, as a step of the markup
abbrev pub wrapped_forgotten : {S : Type 0} → (S → MarkupState) → Moved S Meaning → Moved MarkupState Meaning
wrapped_forgotten wrap (continues s) = continues (wrap s)
wrapped_forgotten wrap (completes m) = completes (meaning_kept m)
wrapped_forgotten wrap malformed = malformed

pub comment_forgotten : (m : Moved CommentState Meaning) → wrapped_forgotten in_bang m ≡ markup_forgotten (wrapped_step in_bang m)
unfolding markup_kept
comment_forgotten (continues s) = refl
comment_forgotten (completes m) = refl
comment_forgotten malformed = refl

comment_told : (r : Held.Moved CommentPlace) → wrapped_step in_bang (comment_moved r) ≡ wrapped_forgotten in_bang (comment_moved r)
comment_told (M.Continues place) = refl
comment_told M.Completes = refl
comment_told M.Malformed = refl

pub comment_is : (r : Held.Moved CommentPlace) (m : Moved CommentState Meaning) → comment_moved r ≡ m
    → wrapped_step in_bang (comment_moved r) ≡ markup_forgotten (wrapped_step in_bang m)
comment_is r m e = comment_told r ∙ (ap (wrapped_forgotten in_bang) e ∙ comment_forgotten m)

pub comment_grown : (s : CommentState) (m : Moved CommentState Meaning) → [] ≡ markup_grown (in_bang s) (wrapped_step in_bang m)
unfolding markup_line
comment_grown s (continues t) = refl
comment_grown s (completes m) = refl
comment_grown s malformed = refl

pub instruction_settled : (m : Moved InstructionState Meaning) → wrapped_forgotten in_instruction (instruction_forgotten m) ≡ markup_forgotten (wrapped_step in_instruction m)
unfolding markup_kept
instruction_settled (continues s) = refl
instruction_settled (completes m) = refl
instruction_settled malformed = refl

instruction_told : (r : Held.Moved InstructionPlace) → wrapped_step in_instruction (instruction_moved r) ≡ wrapped_forgotten in_instruction (instruction_moved r)
instruction_told (M.Continues place) = refl
instruction_told M.Completes = refl
instruction_told M.Malformed = refl

pub instruction_is : (r : Held.Moved InstructionPlace) (m : Moved InstructionState Meaning) → instruction_moved r ≡ instruction_forgotten m
    → wrapped_step in_instruction (instruction_moved r) ≡ markup_forgotten (wrapped_step in_instruction m)
instruction_is r m e = instruction_told r ∙ (ap (wrapped_forgotten in_instruction) e ∙ instruction_settled m)

pub instruction_grown : (s : InstructionState) (m : Moved InstructionState Meaning) → [] ≡ markup_grown (in_instruction s) (wrapped_step in_instruction m)
unfolding markup_line
instruction_grown s (continues t) = refl
instruction_grown s (completes m) = refl
instruction_grown s malformed = refl
