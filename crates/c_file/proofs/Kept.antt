-- Where words can stand for a reader's place, they can for the place behind each byte: the words that a piece leaves are a file reader's again.
use Prim.Native.Nat.{ℕ}
use mathlib.Core.Path.{◌≡◌, refl, subst}
use mathlib.Core.Bool.{Bool, true}
use mathlib.Core.List.{[], ◌∷◌}
use lib.Dec.{eqb}
use Rattle.base.specs.Bytes.{Bytes, both}
use Rattle.base.proofs.Split.{by_bool, both_left, clash}
use Rattle.markup.specs.Names.{name_start_char}
use Rattle.markup.specs.Markup.{Meaning}
use Rattle.markup.specs.MarkupBytes.{char_step, begins_char}
use Rattle.markup.specs.Automaton.{Moved, continues, completes, malformed, wrapped_step, MarkupState, in_start_tag, in_end_tag, in_bang, in_instruction}
use Rattle.markup.specs.Automaton.{markup_begun, markup_step}
use Rattle.markup.specs.Automaton.{StartTagState, start_tag_step, EndTagState, end_tag_step, CommentState, comment_step, InstructionState, instruction_step}
use Rattle.xml_chars.specs.declared.CharBytes.TheVariants as C
use Rattle.xml_chars.specs.Chars.{bytes_in, begun}
use Rattle.xml_chars.proofs.Steps.{continued_begun}
use Rattle.markup_tags.specs.StartTags.{start_tag_kept, start_tag_for, start_tag_forgotten}
use Rattle.markup_tags.specs.EndTags.{end_tag_kept, end_tag_for}
use Rattle.markup_tags.specs.declared.start_tags.StartTagPlace.TheVariants as S
use Rattle.markup_tags.specs.declared.end_tags.EndTagPlace.TheVariants as N
use Rattle.markup_skipped.specs.Comments.{comment_for}
use Rattle.markup_skipped.specs.Instructions.{instruction_kept, instruction_for, instruction_forgotten}
use Rattle.markup_skipped.specs.declared.comments.CommentPlace.TheVariants as M
use Rattle.markup_skipped.specs.declared.instructions.InstructionPlace.TheVariants as I
use Rattle.markup_steps.specs.Held.{markup_kept, markup_for, markup_forgotten}
use Rattle.markup_steps.specs.declared.MarkupPlace.{MarkupPlace}
use Rattle.markup_steps.specs.declared.MarkupPlace.TheVariants as P
use Rattle.file_lexer.specs.declared.Before.{Before}
use Rattle.file_lexer.specs.declared.FilePlace.{FilePlace}
use Rattle.file_lexer.specs.declared.FilePlace.TheVariants as W
use Rattle.file_lexer.specs.Held.{where_of}
use Rattle.file_lexer.specs.Lexing.{before_step, is_first, Where, between, within, Lexing, lex_at, lex_byte, char_taken, byte_taken}
use Rattle.c_file.specs.Fits.{start_tag_fits, instruction_fits, markup_fits, is_held}
use Rattle.c_file.proofs.Reached.{PlaceOf, Reaches, refused, ended, stays}
use Rattle.c_file.proofs.ReachedTags.{start_tag_reaches, end_tag_at}
use Rattle.c_file.proofs.ReachedSkipped.{comment_at, instruction_reaches}

-- ---- a markup

abbrev MarkupReaches : Moved MarkupState Meaning → Type 0
MarkupReaches m = Reaches markup_for markup_fits (markup_forgotten m)

none : Reaches {A = Meaning} markup_for markup_fits malformed
none = refused markup_for markup_fits

ends : (m : Meaning) → Reaches markup_for markup_fits (completes m)
ends m = ended markup_for markup_fits m

to : (p : MarkupPlace) → markup_fits p ≡ true → Reaches {A = Meaning} markup_for markup_fits (continues (markup_for p))
to p h = stays markup_for markup_fits p h

begun_reaches : (first : Bool) (c : ℕ) → MarkupReaches (markup_begun first c)
unfolding markup_begun markup_kept start_tag_kept end_tag_kept instruction_kept
begun_reaches first c =
    by_bool (eqb c 47) (λ t. rw t (to (P.EndTag N.Slash) refl))
    (λ s. by_bool (eqb c 33) (λ t. rw (s, t) (to (P.Bang M.Bang) refl))
    (λ e. by_bool (eqb c 63) (λ t. rw (s, e, t) (to (P.Instruction (I.Question first)) refl))
    (λ q. by_bool (name_start_char c) (λ t. rw (s, e, q, t) (to (P.StartTag S.Name) refl)) (λ n. rw (s, e, q, n) none))))

start_reaches : (m : Moved StartTagState Meaning) → Reaches start_tag_for start_tag_fits (start_tag_forgotten m) → MarkupReaches (wrapped_step in_start_tag m)
unfolding markup_kept
start_reaches (continues s) x = let p = x.go (start_tag_kept s) refl in rw (← p.same) (to (P.StartTag p.place) p.held)
start_reaches (completes m) x = ends _
start_reaches malformed x = none

end_reaches : (m : Moved EndTagState Meaning) → MarkupReaches (wrapped_step in_end_tag m)
unfolding markup_kept
end_reaches (continues s) = let p = end_tag_at s in rw (← p.same) (to (P.EndTag p.place) refl)
end_reaches (completes m) = ends _
end_reaches malformed = none

comment_reaches : (m : Moved CommentState Meaning) → MarkupReaches (wrapped_step in_bang m)
unfolding markup_kept
comment_reaches (continues s) = let p = comment_at s in rw (← p.same) (to (P.Bang p.place) refl)
comment_reaches (completes m) = ends _
comment_reaches malformed = none

instruction_wrapped : (m : Moved InstructionState Meaning) → Reaches instruction_for instruction_fits (instruction_forgotten m) → MarkupReaches (wrapped_step in_instruction m)
unfolding markup_kept
instruction_wrapped (continues s) x = let p = x.go (instruction_kept s) refl in rw (← p.same) (to (P.Instruction p.place) p.held)
instruction_wrapped (completes m) x = ends _
instruction_wrapped malformed x = none

markup_reaches : (p : MarkupPlace) (c : ℕ) → MarkupReaches (markup_step (markup_for p) c)
unfolding markup_step
markup_reaches (P.Begun first) c = begun_reaches first c
markup_reaches (P.StartTag p) c = start_reaches (start_tag_step (start_tag_for p) c) (start_tag_reaches p c)
markup_reaches (P.EndTag p) c = end_reaches (end_tag_step (end_tag_for p) c)
markup_reaches (P.Bang p) c = comment_reaches (comment_step (comment_for p) c)
markup_reaches (P.Instruction p) c = instruction_wrapped (instruction_step (instruction_for p) c) (instruction_reaches p c)

-- ---- bytes

chars_at : (t : Bytes) → begun t ≡ true → PlaceOf bytes_in (λ s. begun (bytes_in s)) t
unfolding begun begins_char
chars_at [] h = record { place = C.None; same = refl; held = h }
chars_at (a ∷ []) h = record { place = C.One a; same = refl; held = h }
chars_at (a ∷ b ∷ []) h = record { place = C.Two a b; same = refl; held = h }
chars_at (a ∷ b ∷ c ∷ []) h = record { place = C.Three a b c; same = refl; held = h }
chars_at (a ∷ b ∷ c ∷ d ∷ s) h = clash h refl

-- a place that words can have
abbrev pub Held : Where → Type 0
Held w = PlaceOf where_of is_held w

text_held : (before : Before) → Held (between before)
unfolding is_held
text_held before = record { place = W.Text before; same = refl; held = refl }

markup_held : (p : MarkupPlace) (t : Bytes) → markup_fits p ≡ true → begun t ≡ true → Held (within (record { markup = markup_for p; bytes = t }))
unfolding is_held both
markup_held p t f b =
    let s = chars_at t b in
    rw (← s.same) (record { place = W.Markup p s.place; same = refl; held = rw f s.held })

nothing_begun : begun [] ≡ true
unfolding begun
nothing_begun = refl

-- behind a character of a markup
taken_held : (b : ℕ) (s : MarkupState) (l : Lexing) (m : Moved MarkupState Meaning) → MarkupReaches m → Held l.place → Held (char_taken b s l m).lexing.place
taken_held b s l (continues q) x h =
    let p = x.go (markup_kept q) refl in rw (← p.same) (markup_held p.place [] p.held nothing_begun)
taken_held b s l (completes m) x h = text_held _
taken_held b s l malformed x h = h

-- behind a byte of one
byte_held : (b : ℕ) (p : MarkupPlace) (t : Bytes) (l : Lexing) (m : Moved Bytes ℕ) → markup_fits p ≡ true → char_step t b ≡ m → Held l.place
    → Held (byte_taken b (markup_for p) l m).lexing.place
byte_held b p t l (continues u) f e h = markup_held p u f (continued_begun t b u e)
byte_held b p t l (completes c) f e h = taken_held b (markup_for p) l (markup_step (markup_for p) c) (markup_reaches p c) h
byte_held b p t l malformed f e h = h

text_kept : (before : Before) (b : ℕ) (l : Lexing) → Held (lex_at (between before) b l).lexing.place
text_kept before b l =
    by_bool (eqb b 60) (λ t. rw t (markup_held (P.Begun (is_first before)) [] refl nothing_begun)) (λ t. rw t (text_held (before_step before b)))

place_kept : (p : FilePlace) (b : ℕ) (l : Lexing) → is_held p ≡ true → Held l.place → Held (lex_at (where_of p) b l).lexing.place
unfolding is_held
place_kept (W.Text before) b l f h = text_kept before b l
place_kept (W.Markup p s) b l f h =
    byte_held b p (bytes_in s) l (char_step (bytes_in s) b) (both_left (markup_fits p) (begun (bytes_in s)) f) refl h

-- each byte keeps it
pub held_kept : (l : Lexing) (b : ℕ) → Held l.place → Held (lex_byte l b).lexing.place
unfolding lex_byte
held_kept l b h = subst (λ (w : Where). Held (lex_at w b l).lexing.place) h.same (place_kept h.place b l h.held h)
