-- What is held of a markup between two characters decides each step, and what it adds to the line; at the end of a markup its line is that of its event.
use Prim.Native.Nat.{ℕ}
use mathlib.Core.Path.{◌≡◌, refl, sym, ◌∙◌, ap, subst}
use mathlib.Core.Bool.{Bool, true, false, cond}
use mathlib.Core.List.{List, [], ◌∷◌, ◌++◌, append_cancel_left, append_cancel_right}
use lib.Dec.{eqb}
use Rattle.base.specs.Ascii.{ascii}
use Rattle.base.specs.Bytes.{Bytes, both, same}
use Rattle.base.proofs.Split.{no}
use Rattle.std.specs.Prelude.{Option, None}
use Rattle.event.specs.Event.{starts, closes, others, start_word}
use Rattle.markup.specs.Names.{white_space, name_start_char, name_char}
use Rattle.text.specs.Char.{xml_char}
use Rattle.markup.specs.Markup.{mark_char, DeclarationKey, version_key, encoding_key, standalone_key, key_value, reserved_target, Meaning, means_event, no_event}
use Rattle.markup.specs.Automaton.{Moved, continues, completes, malformed, wrapped_step, StartTagState, start_tag_step, EndTagState, end_tag_step}
use Rattle.markup.specs.Automaton.{CommentState, behind_bang, behind_bang_hyphen, in_comment, behind_two_hyphens, comment_step}
use Rattle.markup.specs.Automaton.{DeclarationState, between_items, in_keyword, behind_keyword, behind_key_equals, in_key_value, behind_items, item_follows}
use Rattle.markup.specs.Automaton.{version_read, begins_key_value, keyword_begun, keyword_ended, declaration_step}
use Rattle.markup.specs.Automaton.{InstructionState, behind_question_mark, in_target, behind_target, in_data, in_declaration, target_ended, reserved_ended, instruction_step}
use Rattle.markup.specs.Automaton.{MarkupState, before_markup, behind_less_than_sign, in_start_tag, in_end_tag, in_bang, in_instruction, markup_begun, markup_step}
use Rattle.markup_skipped.specs.Instructions.{instruction_kept}
use Rattle.markup_skipped.proofs.Kept.{instruction_kept_step}
use Rattle.markup_tags.specs.StartTags.{attrs_line, start_tag_line, start_tag_kept}
use Rattle.markup_tags.specs.EndTags.{end_tag_line, end_tag_kept}
use Rattle.markup_tags.proofs.Kept.{start_tag_kept_step, start_tag_line_grows, StartEnded, start_tag_ends, start_line, end_tag_kept_step, end_tag_line_grows, end_tag_ends}
use Rattle.markup_steps.specs.Held.{markup_line, markup_grown, meant_line, LineMeant, markup_kept, markup_forgotten}
use Rattle.markup_steps.proofs.Wrapped.{start_forgotten, start_grown, end_forgotten, end_grown, wrapped_forgotten, instruction_settled, instruction_grown}

-- ---- what is held decides what is held next

pub kept_step : (s : MarkupState) (c : ℕ) → markup_forgotten (markup_step s c) ≡ markup_forgotten (markup_step (markup_kept s) c)
unfolding markup_step markup_kept
kept_step (before_markup first) c = refl
kept_step (behind_less_than_sign first) c = refl
kept_step (in_start_tag s) c =
    sym (start_forgotten (start_tag_step s c)) ∙ (ap (wrapped_step in_start_tag) (start_tag_kept_step s c) ∙ start_forgotten (start_tag_step (start_tag_kept s) c))
kept_step (in_end_tag s) c =
    sym (end_forgotten (end_tag_step s c)) ∙ (ap (wrapped_step in_end_tag) (end_tag_kept_step s c) ∙ end_forgotten (end_tag_step (end_tag_kept s) c))
kept_step (in_bang s) c = refl
kept_step (in_instruction s) c =
    sym (instruction_settled (instruction_step s c))
    ∙ (ap (wrapped_forgotten in_instruction) (instruction_kept_step s c) ∙ instruction_settled (instruction_step (instruction_kept s) c))

-- ---- and what is added to the line

-- where all of a state is held, and its line is empty
fresh_grows : (s t : MarkupState) (m : Moved MarkupState Meaning) → markup_kept s ≡ s → markup_line s ≡ [] → m ≡ continues t
    → markup_line t ≡ markup_line s ++ markup_grown (markup_kept s) m
fresh_grows s t m k l e = rw (e, k, l)

start_grows : (s : StartTagState) (t : MarkupState) (c : ℕ) (m : Moved StartTagState Meaning) → start_tag_step s c ≡ m → wrapped_step in_start_tag m ≡ continues t
    → markup_line t ≡ start_tag_line s ++ markup_grown (in_start_tag (start_tag_kept s)) (wrapped_step in_start_tag (start_tag_step (start_tag_kept s) c))
unfolding markup_line
start_grows s t c (continues q) h e =
    let x : t ≡ in_start_tag q = cc e in
    rw x (start_tag_line_grows s q c h ∙ ap (λ z. start_tag_line s ++ z) (start_grown (start_tag_kept s) (start_tag_step (start_tag_kept s) c)))
start_grows s t c (completes m) h e = no (cc e)
start_grows s t c malformed h e = no (cc e)

end_grows : (s : EndTagState) (t : MarkupState) (c : ℕ) (m : Moved EndTagState Meaning) → end_tag_step s c ≡ m → wrapped_step in_end_tag m ≡ continues t
    → markup_line t ≡ end_tag_line s ++ markup_grown (in_end_tag (end_tag_kept s)) (wrapped_step in_end_tag (end_tag_step (end_tag_kept s) c))
unfolding markup_line
end_grows s t c (continues q) h e =
    let x : t ≡ in_end_tag q = cc e in
    rw x (end_tag_line_grows s q c h ∙ ap (λ z. end_tag_line s ++ z) (end_grown (end_tag_kept s) (end_tag_step (end_tag_kept s) c)))
end_grows s t c (completes m) h e = no (cc e)
end_grows s t c malformed h e = no (cc e)

instruction_line : (t : MarkupState) (m : Moved InstructionState Meaning) → wrapped_step in_instruction m ≡ continues t → markup_line t ≡ []
unfolding markup_line
instruction_line t (continues q) e = let x : t ≡ in_instruction q = cc e in rw x
instruction_line t (completes m) e = no (cc e)
instruction_line t malformed e = no (cc e)

pub line_grows : (s t : MarkupState) (c : ℕ) → markup_step s c ≡ continues t → markup_line t ≡ markup_line s ++ markup_grown (markup_kept s) (markup_step (markup_kept s) c)
unfolding markup_step markup_kept markup_line
line_grows (before_markup first) t c e = fresh_grows (before_markup first) t (markup_step (before_markup first) c) refl refl e
line_grows (behind_less_than_sign first) t c e = fresh_grows (behind_less_than_sign first) t (markup_begun first c) refl refl e
line_grows (in_start_tag s) t c e = start_grows s t c (start_tag_step s c) refl e
line_grows (in_end_tag s) t c e = end_grows s t c (end_tag_step s c) refl e
line_grows (in_bang s) t c e = fresh_grows (in_bang s) t (wrapped_step in_bang (comment_step s c)) refl refl e
line_grows (in_instruction s) t c e =
    instruction_line t (instruction_step s c) e ∙ instruction_grown (instruction_kept s) (instruction_step (instruction_kept s) c)

-- ---- what ends without an event

record Skips {S : Type 0} (m : Moved S Meaning) : Type 0 where
  none : (d : Meaning) → m ≡ completes d → d ≡ no_event

module _ {S : Type 0} where
  either_skips : (t : Bool) {a b : Moved S Meaning} → Skips a → Skips b → Skips (cond t a b)
  either_skips true x y = x
  either_skips false x y = y

  refused : Skips {S = S} malformed
  refused = record { none = λ d e. no (cc e) }

  continued : {s : S} → Skips (continues s)
  continued = record { none = λ d e. no (cc e) }

  ended : Skips {S = S} (completes no_event)
  ended = record { none = λ d e. cc e }

wrapped_skips : {S T : Type 0} (wrap : S → T) (m : Moved S Meaning) → Skips m → Skips (wrapped_step wrap m)
wrapped_skips wrap (continues s) x = continued
wrapped_skips {S} {T} wrap (completes m) x =
    let n : m ≡ no_event = x.none m refl in
    record { none = λ d e. let f : ◌≡◌ {A = Moved T Meaning} (completes m) (completes d) = e in let g : m ≡ d = cc f in sym g ∙ n }
wrapped_skips wrap malformed x = refused

comment_skips : (s : CommentState) (c : ℕ) → Skips (comment_step s c)
unfolding comment_step
comment_skips behind_bang c = either_skips (eqb c 45) continued refused
comment_skips behind_bang_hyphen c = either_skips (eqb c 45) continued refused
comment_skips (in_comment hyphen) c = either_skips (eqb c 45) continued (either_skips (xml_char c) continued refused)
comment_skips behind_two_hyphens c = either_skips (eqb c 62) ended refused

keyword_skips : (last : Option DeclarationKey) (c : ℕ) → Skips (keyword_begun last c)
unfolding keyword_begun
keyword_skips last c =
    either_skips (both (item_follows last version_key) (eqb c 118)) continued
    (either_skips (both (item_follows last encoding_key) (eqb c 101)) continued (either_skips (both (item_follows last standalone_key) (eqb c 115)) continued refused))

keyword_end_skips : (key : DeclarationKey) (c : ℕ) → Skips (keyword_ended key c)
unfolding keyword_ended
keyword_end_skips key c = either_skips (white_space c) continued (either_skips (eqb c 61) continued refused)

declaration_skips : (s : DeclarationState) (c : ℕ) → Skips (declaration_step s c)
unfolding declaration_step
declaration_skips (between_items last spaced) c =
    either_skips (white_space c) continued (either_skips (both (version_read last) (eqb c 63)) continued (either_skips spaced (keyword_skips last c) refused))
declaration_skips (in_keyword key []) c = keyword_end_skips key c
declaration_skips (in_keyword key (l ∷ ls)) c = either_skips (eqb c l) continued refused
declaration_skips (behind_keyword key) c = keyword_end_skips key c
declaration_skips (behind_key_equals key) c = either_skips (white_space c) continued (either_skips (eqb c 34) continued (either_skips (eqb c 39) continued refused))
declaration_skips (in_key_value key q v) c =
    either_skips (eqb c (mark_char q)) (either_skips (key_value key v) continued refused) (either_skips (begins_key_value key (v ++ (c ∷ []))) continued refused)
declaration_skips behind_items c = either_skips (eqb c 62) ended refused

target_skips : (c : ℕ) → Skips (target_ended c)
unfolding target_ended
target_skips c = either_skips (white_space c) continued (either_skips (eqb c 63) continued refused)

reserved_skips : (first : Bool) (t : List ℕ) (c : ℕ) → Skips (reserved_ended first t c)
reserved_skips first t c =
    let begun = declaration_step (between_items None false) c in
    either_skips (both first (same t (ascii "xml"))) (wrapped_skips in_declaration begun (declaration_skips (between_items None false) c)) refused

instruction_skips : (s : InstructionState) (c : ℕ) → Skips (instruction_step s c)
unfolding instruction_step
instruction_skips (behind_question_mark first) c = either_skips (name_start_char c) continued refused
instruction_skips (in_target first t) c = either_skips (name_char c) continued (either_skips (reserved_target t) (reserved_skips first t c) (target_skips c))
instruction_skips behind_target c = either_skips (eqb c 62) ended refused
instruction_skips (in_data question) c = either_skips (both question (eqb c 62)) ended (either_skips (xml_char c) continued refused)
instruction_skips (in_declaration d) c = wrapped_skips in_declaration (declaration_step d c) (declaration_skips d c)

before_skips : (first : Bool) (c : ℕ) → Skips (markup_step (before_markup first) c)
unfolding markup_step
before_skips first c = either_skips (eqb c 60) continued refused

begun_skips : (first : Bool) (c : ℕ) → Skips (markup_begun first c)
unfolding markup_begun
begun_skips first c = either_skips (eqb c 47) continued (either_skips (eqb c 33) continued (either_skips (eqb c 63) continued (either_skips (name_start_char c) continued refused)))

-- ---- the line at the end of a markup

-- that of a start tag
start_told : (s : StartTagState) (m : Meaning) → StartEnded s m → start_tag_line s ≡ meant_line m
start_told s m r =
    let x : 9 ∷ (start_tag_line s ++ (10 ∷ [])) ≡ 9 ∷ ((r.name ++ attrs_line r.attrs) ++ (10 ∷ [])) =
    append_cancel_left (start_word r.empty) _ _ (sym r.text ∙ start_line r.empty r.name r.attrs) in
    let y : start_tag_line s ++ (10 ∷ []) ≡ (r.name ++ attrs_line r.attrs) ++ (10 ∷ []) = cc x in
    rw r.meant (append_cancel_right _ _ (10 ∷ []) y)

abbrev EndsSo : Bytes → Moved MarkupState Meaning → Type 0
EndsSo line (continues t) = Unit {0}
EndsSo line (completes m) = line ≡ meant_line m
EndsSo line malformed = Unit {0}

skipped_ends : (m : Moved MarkupState Meaning) → Skips m → EndsSo [] m
skipped_ends (continues t) x = tt
skipped_ends (completes m) x = rw (x.none m refl)
skipped_ends malformed x = tt

start_ends : (s : StartTagState) (c : ℕ) (m : Moved StartTagState Meaning) → start_tag_step s c ≡ m → EndsSo (start_tag_line s) (wrapped_step in_start_tag m)
start_ends s c (continues t) h = tt
start_ends s c (completes m) h = start_told s m (start_tag_ends s c m h)
start_ends s c malformed h = tt

end_ends : (s : EndTagState) (c : ℕ) (m : Moved EndTagState Meaning) → end_tag_step s c ≡ m → EndsSo (end_tag_line s) (wrapped_step in_end_tag m)
end_ends s c (continues t) h = tt
end_ends s c (completes m) h = rw (end_tag_ends s c m h)
end_ends s c malformed h = tt

ends_so : (s : MarkupState) (c : ℕ) → EndsSo (markup_line s) (markup_step s c)
unfolding markup_step markup_line
ends_so (before_markup first) c = skipped_ends (markup_step (before_markup first) c) (before_skips first c)
ends_so (behind_less_than_sign first) c = skipped_ends (markup_begun first c) (begun_skips first c)
ends_so (in_start_tag s) c = start_ends s c (start_tag_step s c) refl
ends_so (in_end_tag s) c = end_ends s c (end_tag_step s c) refl
ends_so (in_bang s) c = skipped_ends (wrapped_step in_bang (comment_step s c)) (wrapped_skips in_bang (comment_step s c) (comment_skips s c))
ends_so (in_instruction s) c = skipped_ends (wrapped_step in_instruction (instruction_step s c)) (wrapped_skips in_instruction (instruction_step s c) (instruction_skips s c))

pub line_ends : (s : MarkupState) (c : ℕ) (m : Meaning) → markup_step s c ≡ completes m → markup_line s ≡ meant_line m
line_ends s c m e = subst (EndsSo (markup_line s)) e (ends_so s c)

-- what stands in the line at the end of a markup is its event's
pub line_meant : (m : Meaning) → LineMeant m (meant_line m)
line_meant (means_event (starts empty n attrs) k) = start_line empty n attrs
line_meant (means_event closes k) = refl
line_meant (means_event others k) = tt
line_meant no_event = tt

pub tag_ends : (s : MarkupState) (c : ℕ) (m : Meaning) → markup_step s c ≡ completes m → LineMeant m (markup_line s)
tag_ends s c m e = rw (line_ends s c m e) (line_meant m)
