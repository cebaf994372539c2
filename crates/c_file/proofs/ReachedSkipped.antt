-- A step of a comment, an instruction or the declaration comes to places that words can have.
use Rattle.std.specs.Prelude.{Option, None, Some}
use Prim.Native.Nat.{ℕ, ◌-◌, min}
use mathlib.Core.Path.{◌≡◌, refl, sym, subst}
use mathlib.Core.Bool.{Bool, true, false, cond}
use mathlib.Core.Logic.{inl, inr}
use mathlib.Core.List.{List, [], ◌∷◌, ◌++◌}
use native.Mathlib.Omega.{arith}
use lib.Dec.{eqb, leb}
use lib.ListN.{length, get_or}
use borrow.Author.Tests.{le-leb, eqb-true}
use Rattle.base.specs.Ascii.{ascii}
use Rattle.base.specs.Bytes.{both, either, same, is_digit}
use Rattle.base.proofs.Split.{by_bool, by_eq}
use Rattle.text.specs.Char.{from_to, xml_char}
use Rattle.text.specs.Check.{begins}
use Rattle.markup.specs.Names.{white_space, name_start_char, name_char}
use Rattle.markup.specs.Markup as X
use Rattle.markup.specs.Markup.{mark_char, version_key, encoding_key, standalone_key, upper_case, key_value, reserved_target, Meaning}
use Rattle.markup.specs.Automaton.{Moved, continues, completes, malformed, wrapped_step, CommentState, behind_bang, behind_bang_hyphen, in_comment, behind_two_hyphens}
use Rattle.markup.specs.Automaton.{DeclarationState, between_items, in_key_value, item_follows, version_read, begins_key_value, keyword_begun, keyword_ended}
use Rattle.markup.specs.Automaton.{declaration_step}
use Rattle.markup.specs.Automaton.{InstructionState, in_target, in_declaration, target_ended, reserved_ended, instruction_step}
use Rattle.markup_tags.specs.StartTags.{mark_for}
use Rattle.markup_tags.specs.declared.start_tags.QuoteMark.{QuoteMark}
use Rattle.markup_tags.specs.declared.start_tags.QuoteMark.TheVariants as Q
use Rattle.markup_skipped.specs.Comments.{comment_for}
use Rattle.markup_skipped.specs.Declarations.{key_for, last_for, keyword_rest, value_key, value_letters, value_kept, value_grown, value_end, declaration_kept}
use Rattle.markup_skipped.specs.Declarations.{declaration_for, declaration_forgotten}
use Rattle.markup_skipped.specs.Instructions.{target_kept, target_letters, instruction_kept, instruction_for, instruction_forgotten}
use Rattle.markup_skipped.specs.declared.comments.CommentPlace.TheVariants as M
use Rattle.markup_skipped.specs.declared.declarations.DeclarationKey.{DeclarationKey}
use Rattle.markup_skipped.specs.declared.declarations.DeclarationKey.TheVariants as K
use Rattle.markup_skipped.specs.declared.declarations.ValueLetters.{ValueLetters}
use Rattle.markup_skipped.specs.declared.declarations.ValueLetters.TheVariants as V
use Rattle.markup_skipped.specs.declared.declarations.DeclarationPlace.{DeclarationPlace}
use Rattle.markup_skipped.specs.declared.declarations.DeclarationPlace.TheVariants as D
use Rattle.markup_skipped.specs.declared.instructions.TargetLetters.{TargetLetters}
use Rattle.markup_skipped.specs.declared.instructions.TargetLetters.TheVariants as T
use Rattle.markup_skipped.specs.declared.instructions.InstructionPlace.{InstructionPlace}
use Rattle.markup_skipped.specs.declared.instructions.InstructionPlace.TheVariants as I
use Rattle.markup_skipped.proofs.Keywords.{none_due, letter_due}
use Rattle.markup_skipped.proofs.Targets.{first_x, first_upper, first_other, second_upper, second_small, second_other, third_upper, third_small, third_other}
use Rattle.markup_skipped.proofs.Values.{nothing_kept, version0, version1, version2, version3, encoding0, encoding1, encoding2, encoding3, encoding4, standalone0}
use Rattle.markup_skipped.proofs.Values.{standalone_y, standalone_ye, standalone_n, no_more}
use Rattle.c_file.specs.Fits.{declaration_fits, instruction_fits}
use Rattle.c_file.proofs.Reached.{PlaceOf, Reaches, refused, ended, stays, held_in}

-- ---- a comment: each of its states is held

pub comment_at : (s : CommentState) → PlaceOf comment_for (λ p. true) s
comment_at behind_bang = record { place = M.Bang; same = refl; held = refl }
comment_at behind_bang_hyphen = record { place = M.Hyphen; same = refl; held = refl }
comment_at (in_comment hyphen) = record { place = M.Inside hyphen; same = refl; held = refl }
comment_at behind_two_hyphens = record { place = M.TwoHyphens; same = refl; held = refl }

-- ---- the declaration

abbrev DeclarationHeld : Moved DeclarationState Meaning → Type 0
DeclarationHeld m = Reaches declaration_for declaration_fits m

abbrev DeclarationReaches : Moved DeclarationState Meaning → Type 0
DeclarationReaches m = DeclarationHeld (declaration_forgotten m)

none : DeclarationHeld malformed
none = refused declaration_for declaration_fits

ends : (m : Meaning) → DeclarationHeld (completes m)
ends m = ended declaration_for declaration_fits m

to : (p : DeclarationPlace) → declaration_fits p ≡ true → DeclarationHeld (continues (declaration_for p))
to p h = stays declaration_for declaration_fits p h

key_at : (k : X.DeclarationKey) → PlaceOf key_for (λ p. true) k
key_at version_key = record { place = K.Version; same = refl; held = refl }
key_at encoding_key = record { place = K.Encoding; same = refl; held = refl }
key_at standalone_key = record { place = K.Standalone; same = refl; held = refl }

begun_reaches : (last : Option DeclarationKey) (c : ℕ) → DeclarationReaches (keyword_begun (last_for last) c)
unfolding keyword_begun declaration_kept
begun_reaches last c =
    by_bool (both (item_follows (last_for last) version_key) (eqb c 118)) (λ t. rw t (to (D.Keyword K.Version 6) refl))
    (λ v. by_bool (both (item_follows (last_for last) encoding_key) (eqb c 101)) (λ t. rw (v, t) (to (D.Keyword K.Encoding 7) refl))
    (λ e. by_bool (both (item_follows (last_for last) standalone_key) (eqb c 115)) (λ t. rw (v, e, t) (to (D.Keyword K.Standalone 9) refl)) (λ s. rw (v, e, s) none)))

ended_reaches : (key : DeclarationKey) (c : ℕ) → DeclarationReaches (keyword_ended (key_for key) c)
unfolding keyword_ended declaration_kept
ended_reaches key c =
    by_bool (white_space c) (λ t. rw t (to (D.BehindKeyword key) refl))
    (λ w. by_bool (eqb c 61) (λ t. rw (w, t) (to (D.EqualsSign key) refl)) (λ n. rw (w, n) none))

between_reaches : (last : Option DeclarationKey) (spaced : Bool) (c : ℕ) → DeclarationReaches (declaration_step (between_items (last_for last) spaced) c)
unfolding declaration_step declaration_kept
between_reaches last spaced c =
    by_bool (white_space c) (λ t. rw t (to (D.Between last true) refl))
    (λ w. by_bool (both (version_read (last_for last)) (eqb c 63)) (λ t. rw (w, t) (to D.Behind refl))
    (λ e. by_bool spaced (λ t. rw (w, e, t) (begun_reaches last c)) (λ n. rw (w, e, n) none)))

keyword_reaches : (key : DeclarationKey) (n : ℕ) (c : ℕ) → DeclarationReaches (declaration_step (declaration_for (D.Keyword key n)) c)
unfolding declaration_step declaration_kept
keyword_reaches key n c =
    let r = keyword_rest (key_for key) in
    let left = min n (length r) in
    by_eq left 0
    (λ z. let e = none_due (key_for key) n left r refl refl z in rw e (ended_reaches key c))
    (λ z. let e = letter_due (key_for key) n left r refl refl z in
    let f : leb (left - 1) (length r) ≡ true = le-leb (left - 1) (length r) (omega arith) in
    rw e (by_bool (eqb c (get_or r (length r - left) 0)) (λ t. rw t (to (D.Keyword key (left - 1)) f)) (λ t. rw t none)))

empty_value : (q : QuoteMark) (key : DeclarationKey) → DeclarationReaches (continues (in_key_value (key_for key) (mark_for q) []))
unfolding declaration_kept
empty_value q K.Version = rw (nothing_kept version_key) (to (D.Value q V.Version0) refl)
empty_value q K.Encoding = rw (nothing_kept encoding_key) (to (D.Value q V.Encoding0) refl)
empty_value q K.Standalone = rw (nothing_kept standalone_key) (to (D.Value q V.Standalone0) refl)

equals_reaches : (key : DeclarationKey) (c : ℕ) → DeclarationReaches (declaration_step (declaration_for (D.EqualsSign key)) c)
unfolding declaration_step declaration_kept
equals_reaches key c =
    by_bool (white_space c) (λ t. rw t (to (D.EqualsSign key) refl))
    (λ w. by_bool (eqb c 34) (λ t. rw (w, t) (empty_value Q.Double key))
    (λ d. by_bool (eqb c 39) (λ t. rw (w, d, t) (empty_value Q.Single key)) (λ n. rw (w, d, n) none)))

value_ends : (l : ValueLetters) → DeclarationReaches (value_end (value_key l) (value_letters l))
unfolding declaration_kept
value_ends l =
    let k = key_at (value_key l) in
    by_bool (key_value (value_key l) (value_letters l))
    (λ t. rw t (held_in declaration_for declaration_fits _ (record { place = D.Between (Some k.place) false; same = rw k.same; held = refl })))
    (λ t. rw t none)

to_letters : (q : QuoteMark) (l : ValueLetters) (t : Bool) → DeclarationHeld (cond t (continues (declaration_for (D.Value q l))) malformed)
to_letters q l true = to (D.Value q l) refl
to_letters q l false = none

first_standalone : (q : QuoteMark) (c : ℕ) → DeclarationReaches (value_grown standalone_key (mark_for q) (c ∷ []))
unfolding begins_key_value begins value_kept declaration_kept same both either
first_standalone q c =
    by_bool (eqb c 121) (λ t. let e = eqb-true c 121 t in rw e (to (D.Value q V.Y) refl))
    (λ n. subst DeclarationHeld (sym (standalone0 (mark_for q) c n)) (to_letters q V.N (eqb c 110)))

value_more : (q : QuoteMark) (l : ValueLetters) (c : ℕ) → DeclarationReaches (value_grown (value_key l) (mark_for q) (value_letters l ++ (c ∷ [])))
value_more q V.Version0 c = subst DeclarationHeld (sym (version0 (mark_for q) c)) (to_letters q V.Version1 (eqb c 49))
value_more q V.Version1 c = subst DeclarationHeld (sym (version1 (mark_for q) c)) (to_letters q V.Version2 (eqb c 46))
value_more q V.Version2 c = subst DeclarationHeld (sym (version2 (mark_for q) c)) (to_letters q V.Version3 (is_digit c))
value_more q V.Version3 c = subst DeclarationHeld (sym (version3 (mark_for q) c)) (to_letters q V.Version3 (is_digit c))
value_more q V.Encoding0 c = subst DeclarationHeld (sym (encoding0 (mark_for q) c)) (to_letters q V.Encoding1 (eqb (upper_case c) 85))
value_more q V.Encoding1 c = subst DeclarationHeld (sym (encoding1 (mark_for q) c)) (to_letters q V.Encoding2 (eqb (upper_case c) 84))
value_more q V.Encoding2 c = subst DeclarationHeld (sym (encoding2 (mark_for q) c)) (to_letters q V.Encoding3 (eqb (upper_case c) 70))
value_more q V.Encoding3 c = subst DeclarationHeld (sym (encoding3 (mark_for q) c)) (to_letters q V.Encoding4 (eqb (upper_case c) 45))
value_more q V.Encoding4 c = subst DeclarationHeld (sym (encoding4 (mark_for q) c)) (to_letters q V.Encoding5 (eqb (upper_case c) 56))
value_more q V.Encoding5 c = subst DeclarationHeld (no_more V.Encoding5 (mark_for q) c (inl refl)) none
value_more q V.Standalone0 c = first_standalone q c
value_more q V.Y c = subst DeclarationHeld (sym (standalone_y (mark_for q) c)) (to_letters q V.Ye (eqb c 101))
value_more q V.Ye c = subst DeclarationHeld (sym (standalone_ye (mark_for q) c)) (to_letters q V.Yes (eqb c 115))
value_more q V.Yes c = subst DeclarationHeld (no_more V.Yes (mark_for q) c (inr (inl refl))) none
value_more q V.N c = subst DeclarationHeld (sym (standalone_n (mark_for q) c)) (to_letters q V.No (eqb c 111))
value_more q V.No c = subst DeclarationHeld (no_more V.No (mark_for q) c (inr (inr refl))) none

value_reaches : (q : QuoteMark) (l : ValueLetters) (c : ℕ) → DeclarationReaches (declaration_step (declaration_for (D.Value q l)) c)
unfolding declaration_step
value_reaches q l c = by_bool (eqb c (mark_char (mark_for q))) (λ t. rw t (value_ends l)) (λ t. rw t (value_more q l c))

pub declaration_reaches : (p : DeclarationPlace) (c : ℕ) → DeclarationReaches (declaration_step (declaration_for p) c)
unfolding declaration_step
declaration_reaches (D.Between last spaced) c = between_reaches last spaced c
declaration_reaches (D.Keyword key n) c = keyword_reaches key n c
declaration_reaches (D.BehindKeyword key) c = ended_reaches key c
declaration_reaches (D.EqualsSign key) c = equals_reaches key c
declaration_reaches (D.Value q l) c = value_reaches q l c
declaration_reaches D.Behind c = by_bool (eqb c 62) (λ t. rw t (ends _)) (λ t. rw t none)

-- ---- an instruction

abbrev TargetHeld : List ℕ → Type 0
TargetHeld t = PlaceOf target_letters (λ p. true) t

first_target : (c : ℕ) → TargetHeld (target_kept (c ∷ []))
first_target c =
    by_eq c 120 (λ e. rw e (record { place = T.X; same = first_x; held = refl }))
    (λ n. by_eq c 88 (λ e. rw e (record { place = T.UpperX; same = first_upper; held = refl })) (λ m. record { place = T.Other; same = first_other c n m; held = refl }))

more_target : (l : TargetLetters) (c : ℕ) → TargetHeld (target_kept (target_letters l ++ (c ∷ [])))
unfolding target_kept begins same from_to both
more_target T.X c =
    by_eq c 77 (λ e. rw e (record { place = T.UpperXm; same = second_upper false; held = refl }))
    (λ n. by_eq c 109 (λ e. rw e (record { place = T.Xm; same = second_small false; held = refl })) (λ m. record { place = T.Other; same = second_other false c n m; held = refl }))
more_target T.UpperX c =
    by_eq c 77 (λ e. rw e (record { place = T.UpperXm; same = second_upper true; held = refl }))
    (λ n. by_eq c 109 (λ e. rw e (record { place = T.UpperXm; same = second_small true; held = refl }))
    (λ m. record { place = T.Other; same = second_other true c n m; held = refl }))
more_target T.Xm c =
    by_eq c 76 (λ e. rw e (record { place = T.UpperXml; same = third_upper false; held = refl }))
    (λ n. by_eq c 108 (λ e. rw e (record { place = T.Xml; same = third_small false; held = refl })) (λ m. record { place = T.Other; same = third_other false c n m; held = refl }))
more_target T.UpperXm c =
    by_eq c 76 (λ e. rw e (record { place = T.UpperXml; same = third_upper true; held = refl }))
    (λ n. by_eq c 108 (λ e. rw e (record { place = T.UpperXml; same = third_small true; held = refl }))
    (λ m. record { place = T.Other; same = third_other true c n m; held = refl }))
more_target T.Xml c = record { place = T.Other; same = refl; held = refl }
more_target T.UpperXml c = record { place = T.Other; same = refl; held = refl }
more_target T.Other c = record { place = T.Other; same = refl; held = refl }

abbrev InstructionReaches : Moved InstructionState Meaning → Type 0
InstructionReaches m = Reaches instruction_for instruction_fits (instruction_forgotten m)

instruction_none : Reaches {A = Meaning} instruction_for instruction_fits malformed
instruction_none = refused instruction_for instruction_fits

instruction_ends : (m : Meaning) → Reaches instruction_for instruction_fits (completes m)
instruction_ends m = ended instruction_for instruction_fits m

instruction_to : (p : InstructionPlace) → instruction_fits p ≡ true → Reaches {A = Meaning} instruction_for instruction_fits (continues (instruction_for p))
instruction_to p h = stays instruction_for instruction_fits p h

wrapped_reaches : (m : Moved DeclarationState Meaning) → DeclarationReaches m → InstructionReaches (wrapped_step in_declaration m)
unfolding instruction_kept
wrapped_reaches (continues s) x = let p = x.go (declaration_kept s) refl in rw (← p.same) (instruction_to (I.Declaration p.place) p.held)
wrapped_reaches (completes m) x = instruction_ends m
wrapped_reaches malformed x = instruction_none

target_ends : (c : ℕ) → InstructionReaches (target_ended c)
unfolding target_ended instruction_kept
target_ends c =
    by_bool (white_space c) (λ t. rw t (instruction_to (I.Data false) refl))
    (λ w. by_bool (eqb c 63) (λ t. rw (w, t) (instruction_to I.BehindTarget refl)) (λ n. rw (w, n) instruction_none))

reserved_ends : (first : Bool) (t : List ℕ) (c : ℕ) → InstructionReaches (reserved_ended first t c)
reserved_ends first t c =
    by_bool (both first (same t (ascii "xml")))
    (λ e. rw e (wrapped_reaches (declaration_step (between_items None false) c) (between_reaches None false c)))
    (λ e. rw e instruction_none)

in_target_to : (first : Bool) (t : List ℕ) → TargetHeld (target_kept t) → InstructionReaches (continues (in_target first t))
unfolding instruction_kept
in_target_to first t h = rw (← h.same) (instruction_to (I.Target first h.place) refl)

pub instruction_reaches : (p : InstructionPlace) (c : ℕ) → InstructionReaches (instruction_step (instruction_for p) c)
unfolding instruction_step instruction_kept
instruction_reaches (I.Question first) c = by_bool (name_start_char c) (λ t. rw t (in_target_to first (c ∷ []) (first_target c))) (λ t. rw t instruction_none)
instruction_reaches (I.Target first l) c =
    by_bool (name_char c) (λ t. rw t (in_target_to first (target_letters l ++ (c ∷ [])) (more_target l c)))
    (λ n. by_bool (reserved_target (target_letters l)) (λ t. rw (n, t) (reserved_ends first (target_letters l) c)) (λ t. rw (n, t) (target_ends c)))
instruction_reaches I.BehindTarget c = by_bool (eqb c 62) (λ t. rw t (instruction_ends _)) (λ t. rw t instruction_none)
instruction_reaches (I.Data question) c =
    by_bool (both question (eqb c 62)) (λ t. rw t (instruction_ends _))
    (λ e. by_bool (xml_char c) (λ t. rw (e, t) (instruction_to (I.Data (eqb c 63)) refl)) (λ t. rw (e, t) instruction_none))
instruction_reaches (I.Declaration p) c = wrapped_reaches (declaration_step (declaration_for p) c) (declaration_reaches p c)
