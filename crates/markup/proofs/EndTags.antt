-- The automaton reads exactly the legal end tags, as a close of their names.
use Rattle.markup.specs.Automaton.{Moved, finished, lexed, EndTagState, behind_end_slash, in_end_name, behind_end_name, end_name_ended, end_tag_step}
use Rattle.markup.specs.Names.{white_space, name_start_char, name_char, is_name}
use Rattle.markup.specs.Markup.{end_tag, legal_markup, may_stand, written_markup, Meaning, means_event, meaning_of}
use Rattle.markup.proofs.Lexing.{Kept, moved_char}
use Rattle.markup.proofs.Parts.{all_more, name_more}
use Rattle.markup.proofs.Names.{end_unnamed, end_black, name_first, name_rest, name_of, Unnamed, space_unnamed}
use Rattle.markup.proofs.Readings.{MarkupRead}
use Prim.Native.Nat.{ℕ}
use mathlib.Core.Path.{◌≡◌, refl, sym, ◌∙◌, ap}
use mathlib.Core.Bool.{true, false}
use mathlib.Core.List.{List, [], ◌∷◌, ◌++◌, append_assoc, append-nil}
use lib.Dec.{eqb}
use borrow.Author.Tests.{eqb-true}
use Rattle.base.specs.Bytes.{all}
use Rattle.base.proofs.Split.{clash, by_bool, both_left, both_right, both_of}
use Rattle.base.proofs.Lists.{all_nil, all_head, all_tail}
use Rattle.event.specs.Event.{closes}
use Rattle.text.specs.Text.{encoded}

-- `</`, a name and white space
pub record EndNameReading (before : List ℕ → List ℕ) (n : List ℕ) : Type 0 where
  pub named : is_name n ≡ true
  pub gap : List ℕ
  pub legal : all white_space gap ≡ true
  pub text : (s : List ℕ) → before s ≡ 60 ∷ (47 ∷ (n ++ (gap ++ s)))

unfoldable pub EndTagReading : (List ℕ → List ℕ) → EndTagState → Type 0
EndTagReading before behind_end_slash = (s : List ℕ) → before s ≡ 60 ∷ (47 ∷ s)
EndTagReading before (in_end_name n) = (is_name n ≡ true) × ((s : List ℕ) → before s ≡ 60 ∷ (47 ∷ (n ++ s)))
EndTagReading before (behind_end_name n) = EndNameReading before n

abbrev pub EndTagKept : (List ℕ → List ℕ) → Moved EndTagState Meaning → Type 0
EndTagKept = Kept end_tag_step EndTagReading (MarkupRead false)

pub end_tag_text : (n gap s : List ℕ) → written_markup (end_tag n gap) ++ s ≡ 60 ∷ (47 ∷ (n ++ (gap ++ (62 ∷ s))))
unfolding written_markup
end_tag_text n gap s = simp append_assoc

name_kept : (before : List ℕ → List ℕ) (n : List ℕ) (c : ℕ) → EndNameReading before n → EndTagKept (λ s. before (c ∷ s)) (end_name_ended n c)
unfolding end_name_ended EndTagReading legal_markup may_stand meaning_of
name_kept before n c r =
    by_bool (white_space c)
    (λ t. rw t (record { named = r.named; gap = r.gap ++ (c ∷ []); legal = all_more white_space r.gap c r.legal t; text = λ s. r.text (c ∷ s) ∙ ap (λ w. 60 ∷ (47 ∷ (n ++ w))) (moved_char r.gap c s) }))
    (λ w. by_bool (eqb c 62)
    (λ t. let e = eqb-true c 62 t in
    rw (w, t) (record { markup = end_tag n r.gap; legal = both_of r.named r.legal; place = refl; meaning = refl; text = λ s. ap (λ d. before (d ∷ s)) e ∙ (r.text (62 ∷ s) ∙ sym (end_tag_text n r.gap s)) }))
    (λ t. rw (w, t) tt))

pub end_tag_kept : (before : List ℕ → List ℕ) (q : EndTagState) (c : ℕ) → EndTagReading before q → EndTagKept (λ s. before (c ∷ s)) (end_tag_step q c)
unfolding end_tag_step EndTagReading
end_tag_kept before behind_end_slash c r =
    by_bool (name_start_char c)
    (λ t. rw t (name_of c t, λ s. r (c ∷ s)))
    (λ t. rw t tt)
end_tag_kept before (in_end_name n) c (l, r) =
    by_bool (name_char c)
    (λ t. rw t (name_more n c l t, λ s. r (c ∷ s) ∙ ap (λ w. 60 ∷ (47 ∷ w)) (moved_char n c s)))
    (λ t. rw t (name_kept before n c (record { named = l; gap = []; legal = all_nil white_space; text = r })))
end_tag_kept before (behind_end_name n) c r = name_kept before n c r

-- ---- and each legal end tag is read

name_walk : (cs n s : List ℕ) → all name_char cs ≡ true → lexed end_tag_step (in_end_name n) (cs ++ s) ≡ lexed end_tag_step (in_end_name (n ++ cs)) s
unfolding lexed end_tag_step
name_walk [] n s l = rw (append-nil n)
name_walk (c ∷ cs) n s l = rw (all_head name_char c cs l, moved_char n c cs) (name_walk cs (n ++ (c ∷ [])) s (all_tail name_char c cs l))

pub name_ends : (n s : List ℕ) → Unnamed s → lexed end_tag_step (in_end_name n) s ≡ lexed end_tag_step (behind_end_name n) s
unfolding lexed end_tag_step
name_ends n [] u = absurd u
name_ends n (c ∷ s) u = rw u

pub gap_walk : (gap n s : List ℕ) → all white_space gap ≡ true → lexed end_tag_step (behind_end_name n) (gap ++ (62 ∷ s)) ≡ finished (means_event closes (encoded n)) s
unfolding lexed end_tag_step end_name_ended
gap_walk [] n s l = rw end_black
gap_walk (c ∷ gap) n s l = rw (all_head white_space c gap l) (gap_walk gap n s (all_tail white_space c gap l))

-- an end tag behind its `</`
pub end_tag_read : (n gap s : List ℕ) → legal_markup (end_tag n gap) ≡ true
    → lexed end_tag_step behind_end_slash (n ++ (gap ++ (62 ∷ s))) ≡ finished (meaning_of (end_tag n gap)) s
unfolding legal_markup meaning_of lexed end_tag_step is_name
end_tag_read [] gap s l = clash (both_left _ _ l) refl
end_tag_read (c ∷ cs) gap s l =
    let named = both_left (is_name (c ∷ cs)) _ l in
    let space = both_right (is_name (c ∷ cs)) _ l in
    rw (name_first c cs named)
    (name_walk cs (c ∷ []) _ (name_rest c cs named) ∙ (name_ends (c ∷ cs) _ (space_unnamed gap (62 ∷ s) space end_unnamed) ∙ gap_walk gap (c ∷ cs) s space))
