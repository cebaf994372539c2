-- A step of a tag comes to places that words can have.
use Prim.Native.Nat.{ℕ}
use mathlib.Core.Path.{◌≡◌, refl, subst}
use mathlib.Core.Bool.{Bool, true, false, cond}
use mathlib.Core.List.{List, [], ◌∷◌, ◌++◌}
use lib.Dec.{eqb, leb}
use Rattle.base.specs.Bytes.{both, either, same, is_digit}
use Rattle.base.proofs.Split.{by_bool, by_eq}
use Rattle.text.specs.Char.{xml_char}
use Rattle.text.specs.Check.{begins}
use Rattle.markup.specs.Names.{white_space, name_start_char, name_char}
use Rattle.markup.specs.References.{Entity, ampersand, less_than, greater_than, apostrophe, quotation_mark, entity_name, entity_char, hex_digit, digit_value}
use Rattle.markup.specs.Markup.{mark_char, Meaning}
use Rattle.markup.specs.Automaton.{Moved, continues, completes, malformed, inner_step, ReferenceState, in_decimal, in_hex, begins_entity, entity_of, letter_taken, digit_taken}
use Rattle.markup.specs.Automaton.{referred_char, reference_step}
use Rattle.markup.specs.Automaton.{in_value, in_reference, value_step, ElementParts, StartTagState, part_ended}
use Rattle.markup.specs.Automaton.{attribute_name_ended, start_tag_step}
use Rattle.markup.specs.Automaton.{EndTagState, behind_end_slash, in_end_name, behind_end_name}
use Rattle.markup_tags.specs.References.{letters_in, reference_for}
use Rattle.markup_tags.specs.StartTags.{no_parts, mark_for, value_taken, start_tag_kept, start_tag_for, start_tag_forgotten}
use Rattle.markup_tags.specs.EndTags.{end_tag_kept, end_tag_for}
use Rattle.markup_tags.specs.declared.references.EntityLetters.{EntityLetters}
use Rattle.markup_tags.specs.declared.references.EntityLetters.TheVariants as E
use Rattle.markup_tags.specs.declared.references.ReferencePlace.{ReferencePlace}
use Rattle.markup_tags.specs.declared.references.ReferencePlace.TheVariants as F
use Rattle.markup_tags.specs.declared.start_tags.QuoteMark.{QuoteMark}
use Rattle.markup_tags.specs.declared.start_tags.QuoteMark.TheVariants as Q
use Rattle.markup_tags.specs.declared.start_tags.StartTagPlace.{StartTagPlace}
use Rattle.markup_tags.specs.declared.start_tags.StartTagPlace.TheVariants as S
use Rattle.markup_tags.specs.declared.end_tags.EndTagPlace.TheVariants as N
use Rattle.markup_tags.proofs.Entities.{none_first, none_behind_a, behind_am, behind_ap, behind_apo, behind_g, behind_l, behind_q, behind_qu, behind_quo}
use Rattle.c_file.specs.Fits.{reference_fits, start_tag_fits}
use Rattle.c_file.proofs.Reached.{PlaceOf, Reaches, refused, ended, stays, reaches_if}

-- ---- a reference

abbrev ReferenceReaches : Moved ReferenceState ℕ → Type 0
ReferenceReaches m = Reaches reference_for reference_fits m

to_letters : (l : EntityLetters) (t : Bool) → ReferenceReaches (cond t (continues (reference_for (F.Entity l))) malformed)
to_letters l true = stays reference_for reference_fits (F.Entity l) refl
to_letters l false = refused reference_for reference_fits

none : ReferenceReaches malformed
none = refused reference_for reference_fits

letter_more : (l : EntityLetters) (c : ℕ) → ReferenceReaches (letter_taken (letters_in l ++ (c ∷ [])))
unfolding begins_entity begins same both either
letter_more E.A c =
    by_eq c 109 (λ e. rw e (stays reference_for reference_fits (F.Entity E.Am) refl))
    (λ m. by_eq c 112 (λ e. rw e (stays reference_for reference_fits (F.Entity E.Ap) refl)) (λ p. subst ReferenceReaches (none_behind_a c m p) none))
letter_more E.Am c = subst ReferenceReaches (behind_am c) (to_letters E.Amp (eqb c 112))
letter_more E.Amp c = none
letter_more E.Ap c = subst ReferenceReaches (behind_ap c) (to_letters E.Apo (eqb c 111))
letter_more E.Apo c = subst ReferenceReaches (behind_apo c) (to_letters E.Apos (eqb c 115))
letter_more E.Apos c = none
letter_more E.L c = subst ReferenceReaches (behind_l c) (to_letters E.Lt (eqb c 116))
letter_more E.Lt c = none
letter_more E.G c = subst ReferenceReaches (behind_g c) (to_letters E.Gt (eqb c 116))
letter_more E.Gt c = none
letter_more E.Q c = subst ReferenceReaches (behind_q c) (to_letters E.Qu (eqb c 117))
letter_more E.Qu c = subst ReferenceReaches (behind_qu c) (to_letters E.Quo (eqb c 111))
letter_more E.Quo c = subst ReferenceReaches (behind_quo c) (to_letters E.Quot (eqb c 116))
letter_more E.Quot c = none

end_if : (s : List ℕ) (e : Entity) {b : Moved ReferenceState ℕ} → ReferenceReaches b → ReferenceReaches (cond (same s (entity_name e)) (completes (entity_char e)) b)
end_if s e x = reaches_if reference_for reference_fits (same s (entity_name e)) (ended reference_for reference_fits (entity_char e)) x

name_ended : (s : List ℕ) → ReferenceReaches (entity_of s)
unfolding entity_of
name_ended s = end_if s ampersand (end_if s less_than (end_if s greater_than (end_if s apostrophe (end_if s quotation_mark none))))

first_letter : (c : ℕ) → ReferenceReaches (reference_step (reference_for F.Ampersand) c)
unfolding reference_step begins_entity begins same both either
first_letter c =
    let to = stays {A = ℕ} reference_for reference_fits in
    by_eq c 35 (λ e. rw e (to F.Hash refl))
    (λ h. by_eq c 97 (λ e. rw e (to (F.Entity E.A) refl))
    (λ a. by_eq c 103 (λ e. rw e (to (F.Entity E.G) refl))
    (λ g. by_eq c 108 (λ e. rw e (to (F.Entity E.L) refl))
    (λ l. by_eq c 113 (λ e. rw e (to (F.Entity E.Q) refl))
    (λ q. subst ReferenceReaches (none_first c h a g l q) none)))))

decimal_more : (v : ℕ) → ReferenceReaches (digit_taken in_decimal v)
decimal_more v = by_bool (leb v 0x10ffff) (λ h. rw h (stays reference_for reference_fits (F.Decimal v) h)) (λ h. rw h none)

hex_more : (v : ℕ) → ReferenceReaches (digit_taken in_hex v)
hex_more v = by_bool (leb v 0x10ffff) (λ h. rw h (stays reference_for reference_fits (F.Hex v) h)) (λ h. rw h none)

referred : (v : ℕ) → ReferenceReaches (referred_char v)
referred v = reaches_if reference_for reference_fits (xml_char v) (ended reference_for reference_fits v) none

pub reference_reaches : (p : ReferencePlace) (c : ℕ) → ReferenceReaches (reference_step (reference_for p) c)
unfolding reference_step
reference_reaches F.Ampersand c = first_letter c
reference_reaches (F.Entity l) c = reaches_if reference_for reference_fits (eqb c 59) (name_ended (letters_in l)) (letter_more l c)
reference_reaches F.Hash c =
    reaches_if reference_for reference_fits (eqb c 120) (stays reference_for reference_fits F.HexBegun refl)
    (reaches_if reference_for reference_fits (is_digit c) (decimal_more (digit_value c)) none)
reference_reaches (F.Decimal v) c =
    reaches_if reference_for reference_fits (eqb c 59) (referred v) (reaches_if reference_for reference_fits (is_digit c) (decimal_more _) none)
reference_reaches F.HexBegun c = reaches_if reference_for reference_fits (hex_digit c) (hex_more (digit_value c)) none
reference_reaches (F.Hex v) c =
    reaches_if reference_for reference_fits (eqb c 59) (referred v) (reaches_if reference_for reference_fits (hex_digit c) (hex_more _) none)

-- ---- a start tag

abbrev StartReaches : Moved StartTagState Meaning → Type 0
StartReaches m = Reaches start_tag_for start_tag_fits (start_tag_forgotten m)

start_none : Reaches {A = Meaning} start_tag_for start_tag_fits malformed
start_none = refused start_tag_for start_tag_fits

start_ends : (m : Meaning) → Reaches start_tag_for start_tag_fits (completes m)
start_ends m = ended start_tag_for start_tag_fits m

to : (p : StartTagPlace) → start_tag_fits p ≡ true → Reaches {A = Meaning} start_tag_for start_tag_fits (continues (start_tag_for p))
to p h = stays start_tag_for start_tag_fits p h

part_reaches : (e : ElementParts) (spaced : Bool) (c : ℕ) → StartReaches (part_ended e spaced c)
unfolding part_ended start_tag_kept
part_reaches e spaced c =
    by_bool (white_space c) (λ t. rw t (to (S.Behind true) refl))
    (λ w. by_bool (eqb c 47) (λ t. rw (w, t) (to S.Slash refl))
    (λ s. by_bool (eqb c 62) (λ t. rw (w, s, t) (start_ends _))
    (λ g. by_bool (both spaced (name_start_char c)) (λ t. rw (w, s, g, t) (to S.AttributeName refl)) (λ n. rw (w, s, g, n) start_none))))

name_reaches : (e : ElementParts) (a : List ℕ) (c : ℕ) → StartReaches (attribute_name_ended e a c)
unfolding attribute_name_ended start_tag_kept
name_reaches e a c =
    by_bool (white_space c) (λ t. rw t (to S.BehindAttributeName refl))
    (λ w. by_bool (eqb c 61) (λ t. rw (w, t) (to S.BehindEqualsSign refl)) (λ n. rw (w, n) start_none))

-- in a value
value_reaches : (q : QuoteMark) (cr : Bool) (c : ℕ) → StartReaches (value_taken q (value_step (mark_for q) (in_value cr []) c))
unfolding value_step start_tag_kept
value_reaches q cr c =
    by_bool (eqb c (mark_char (mark_for q))) (λ t. rw t (to (S.Behind false) refl))
    (λ m. by_bool (eqb c 38) (λ t. rw (m, t) (to (S.Reference q F.Ampersand) refl))
    (λ a. by_bool (eqb c 60) (λ t. rw (m, a, t) start_none)
    (λ l. by_bool (xml_char c)
    (λ x. by_bool (both cr (eqb c 10)) (λ t. rw (m, a, l, x, t) (to (S.Value q false) refl)) (λ t. rw (m, a, l, x, t) (to (S.Value q (eqb c 13)) refl)))
    (λ x. rw (m, a, l, x) start_none))))

referred_value : (q : QuoteMark) (m : Moved ReferenceState ℕ) → ReferenceReaches m
    → StartReaches (value_taken q (inner_step (in_reference []) (λ d. in_value false ([] ++ (d ∷ []))) m))
unfolding start_tag_kept
referred_value q (continues r) x =
    let p = x.go r refl in rw (← p.same) (to (S.Reference q p.place) p.held)
referred_value q (completes d) x = to (S.Value q false) refl
referred_value q malformed x = start_none

in_reference_reaches : (q : QuoteMark) (p : ReferencePlace) (c : ℕ) → StartReaches (value_taken q (value_step (mark_for q) (in_reference [] (reference_for p)) c))
unfolding value_step
in_reference_reaches q p c = referred_value q (reference_step (reference_for p) c) (reference_reaches p c)

equals_reaches : (c : ℕ) → StartReaches (start_tag_step (start_tag_for S.BehindEqualsSign) c)
unfolding start_tag_step start_tag_kept
equals_reaches c =
    by_bool (white_space c) (λ t. rw t (to S.BehindEqualsSign refl))
    (λ w. by_bool (eqb c 34) (λ t. rw (w, t) (to (S.Value Q.Double false) refl))
    (λ d. by_bool (eqb c 39) (λ t. rw (w, d, t) (to (S.Value Q.Single false) refl)) (λ n. rw (w, d, n) start_none)))

pub start_tag_reaches : (p : StartTagPlace) (c : ℕ) → StartReaches (start_tag_step (start_tag_for p) c)
unfolding start_tag_step start_tag_kept
start_tag_reaches S.Name c = by_bool (name_char c) (λ t. rw t (to S.Name refl)) (λ t. rw t (part_reaches no_parts false c))
start_tag_reaches (S.Behind spaced) c = part_reaches no_parts spaced c
start_tag_reaches S.AttributeName c = by_bool (name_char c) (λ t. rw t (to S.AttributeName refl)) (λ t. rw t (name_reaches no_parts [] c))
start_tag_reaches S.BehindAttributeName c = name_reaches no_parts [] c
start_tag_reaches S.BehindEqualsSign c = equals_reaches c
start_tag_reaches (S.Value q cr) c = value_reaches q cr c
start_tag_reaches (S.Reference q p) c = in_reference_reaches q p c
start_tag_reaches S.Slash c = by_bool (eqb c 62) (λ t. rw t (start_ends _)) (λ t. rw t start_none)

-- ---- an end tag: each of its states is held

pub end_tag_at : (s : EndTagState) → PlaceOf end_tag_for (λ p. true) (end_tag_kept s)
unfolding end_tag_kept
end_tag_at behind_end_slash = record { place = N.Slash; same = refl; held = refl }
end_tag_at (in_end_name n) = record { place = N.Name; same = refl; held = refl }
end_tag_at (behind_end_name n) = record { place = N.Behind; same = refl; held = refl }
