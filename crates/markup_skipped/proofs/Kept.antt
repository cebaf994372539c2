-- A step comes to the same from a state and from what is kept of it.
use Prim.Native.Nat.{ℕ}
use mathlib.Core.Path.{◌≡◌, refl, sym, ◌∙◌, ap}
use mathlib.Core.Bool.{Bool, true, false, not}
use mathlib.Core.List.{List, [], ◌∷◌, ◌++◌, append_assoc, append-nil, map, map-append}
use lib.Dec.{eqb}
use lib.ListN.{length, drop}
use Rattle.base.specs.Ascii.{ascii}
use Rattle.base.specs.Bytes.{both, all, same, is_digit}
use Rattle.base.proofs.Split.{clash, by_bool, both_left, both_right, both_true}
use Rattle.base.proofs.Lists.{same_yes}
use Rattle.text.specs.Char.{from_to}
use Rattle.text.specs.Check.{begins}
use Rattle.text.proofs.Lengths.{begins_append, begins_yes}
use Rattle.markup.specs.Names.{name_char}
use Rattle.markup.specs.Markup.{Meaning, mark_char, DeclarationKey, version_key, encoding_key, standalone_key, version_num, upper_case, key_value, reserved_target}
use Rattle.markup.specs.Automaton.{Moved, continues, completes, malformed, wrapped_step, DeclarationState, between_items, in_keyword, behind_keyword, behind_key_equals, in_key_value, behind_items, begins_version, begins_key_value, declaration_step, InstructionState, behind_question_mark, in_target, behind_target, in_data, in_declaration, instruction_step}
use Rattle.markup_skipped.specs.Declarations.{value_kept, declaration_kept, declaration_forgotten}
use Rattle.markup_skipped.specs.Instructions.{target_kept, instruction_kept, instruction_forgotten}
use Rattle.markup_skipped.proofs.Upper.{upper_more, upper_all_twice, upper_no_x, reserved_upper}

-- ---- a value

-- one more behind those that pass a test
all_last : (p : ℕ → Bool) (xs : List ℕ) (c : ℕ) → all p xs ≡ true → all p (xs ++ (c ∷ [])) ≡ p c
unfolding all both
all_last p [] c h = both_true (p c)
all_last p (x ∷ xs) c h = rw (both_left (p x) (all p xs) h) (all_last p xs c (both_right (p x) (all p xs) h))

-- behind a whole version a digit stands, and leaves it whole
version_begins : (v : List ℕ) (c : ℕ) → version_num v ≡ true → begins_version (v ++ (c ∷ [])) ≡ is_digit c
unfolding version_num begins_version both
version_begins [] c h = clash h refl
version_begins (a ∷ []) c h = clash h refl
version_begins (a ∷ b ∷ ds) c h =
    let heads = both_left (both (eqb a 49) (eqb b 46)) _ h in
    let digits = both_right (not _) (all is_digit ds) (both_right (both (eqb a 49) (eqb b 46)) _ h) in
    rw heads (all_last is_digit ds c digits)

version_more : (v : List ℕ) (c : ℕ) → version_num v ≡ true → version_num (v ++ (c ∷ [])) ≡ is_digit c
unfolding version_num both
version_more [] c h = clash h refl
version_more (a ∷ []) c h = clash h refl
version_more (a ∷ b ∷ []) c h = clash (both_right (both (eqb a 49) (eqb b 46)) false h) refl
version_more (a ∷ b ∷ d ∷ ds) c h =
    let heads = both_left (both (eqb a 49) (eqb b 46)) _ h in
    let digits = both_right (both (eqb a 49) (eqb b 46)) (all is_digit (d ∷ ds)) h in
    rw heads (all_last is_digit (d ∷ ds) c digits)

a_version : version_num (ascii "1.0") ≡ true
unfolding version_num all is_digit both
a_version = refl

kept_version : (v : List ℕ) → version_num v ≡ true → value_kept version_key v ≡ ascii "1.0"
unfolding value_kept
kept_version v h = rw h

kept_part : (v : List ℕ) → version_num v ≡ false → value_kept version_key v ≡ v
unfolding value_kept
kept_part v h = rw h

kept_encoding : (v : List ℕ) → value_kept encoding_key v ≡ map upper_case v
unfolding value_kept
kept_encoding v = refl

kept_standalone : (v : List ℕ) → value_kept standalone_key v ≡ v
unfolding value_kept
kept_standalone v = refl

kept_whole : (key : DeclarationKey) (v : List ℕ) → key_value key (value_kept key v) ≡ key_value key v
unfolding key_value value_kept
kept_whole version_key v = by_bool (version_num v) (λ h. rw h a_version) (λ h. rw h h)
kept_whole encoding_key v = rw (upper_all_twice v)
kept_whole standalone_key v = refl

kept_begins : (key : DeclarationKey) (v : List ℕ) (c : ℕ) → begins_key_value key (value_kept key v ++ (c ∷ [])) ≡ begins_key_value key (v ++ (c ∷ []))
unfolding begins_key_value
kept_begins version_key v c =
    by_bool (version_num v)
    (λ h. rw (kept_version v h) (version_begins (ascii "1.0") c a_version ∙ sym (version_begins v c h)))
    (λ h. rw (kept_part v h))
kept_begins encoding_key v c = rw (kept_encoding v, upper_more v c)
kept_begins standalone_key v c = rw (kept_standalone v)

kept_more : (key : DeclarationKey) (v : List ℕ) (c : ℕ) → begins_key_value key (v ++ (c ∷ [])) ≡ true
    → value_kept key (value_kept key v ++ (c ∷ [])) ≡ value_kept key (v ++ (c ∷ []))
unfolding begins_key_value
kept_more version_key v c b =
    by_bool (version_num v)
    (λ h. let d : is_digit c ≡ true = sym (version_begins v c h) ∙ b in
    rw (kept_version v h) (kept_version _ (version_more (ascii "1.0") c a_version ∙ d) ∙ sym (kept_version _ (version_more v c h ∙ d))))
    (λ h. rw (kept_part v h))
kept_more encoding_key v c b = rw (kept_encoding v) (kept_encoding _ ∙ (upper_more v c ∙ sym (kept_encoding _)))
kept_more standalone_key v c b = rw (kept_standalone v)

-- ---- the declaration

pub declaration_kept_step : (s : DeclarationState) (c : ℕ) → declaration_forgotten (declaration_step s c) ≡ declaration_forgotten (declaration_step (declaration_kept s) c)
unfolding declaration_kept declaration_step
declaration_kept_step (between_items last spaced) c = refl
declaration_kept_step (in_keyword key rest) c = refl
declaration_kept_step (behind_keyword key) c = refl
declaration_kept_step (behind_key_equals key) c = refl
declaration_kept_step (in_key_value key q v) c =
    by_bool (eqb c (mark_char q))
    (λ m. rw (m, kept_whole key v))
    (λ m. by_bool (begins_key_value key (v ++ (c ∷ [])))
    (λ b. rw (m, kept_begins key v c, b, kept_more key v c b))
    (λ b. rw (m, kept_begins key v c, b)))
declaration_kept_step behind_items c = refl

-- ---- a target

-- a beginning of a beginning
shorter : (u s w : List ℕ) → begins (u ++ s) w ≡ true → begins u w ≡ true
shorter u s w t =
    let e = begins_yes (u ++ s) w t ∙ append_assoc u s (drop (length (u ++ s)) w) in rw e (begins_append u _)

longer : (u s w : List ℕ) → begins u w ≡ false → begins (u ++ s) w ≡ false
longer u s w f = by_bool (begins (u ++ s) w) (λ t. clash (shorter u s w t) f) (λ e. e)

no_small : (t s : List ℕ) → begins t (ascii "xml") ≡ false → begins (map upper_case t ++ s) (ascii "xml") ≡ false
unfolding begins same both
no_small [] s f = clash refl f
no_small (x ∷ t) s f = rw (upper_no_x x)

kept_other : (t : List ℕ) → begins (map upper_case t) (ascii "XML") ≡ false → target_kept t ≡ ascii "a"
unfolding target_kept
kept_other t f = rw f

kept_small : (t : List ℕ) → begins (map upper_case t) (ascii "XML") ≡ true → begins t (ascii "xml") ≡ true → target_kept t ≡ t
unfolding target_kept
kept_small t u h = rw (u, h)

kept_upper : (t : List ℕ) → begins (map upper_case t) (ascii "XML") ≡ true → begins t (ascii "xml") ≡ false → target_kept t ≡ map upper_case t
unfolding target_kept
kept_upper t u f = rw (u, f)

by_target : {C : Type 0} (t : List ℕ) → (begins (map upper_case t) (ascii "XML") ≡ false → C)
    → (begins (map upper_case t) (ascii "XML") ≡ true → begins t (ascii "xml") ≡ true → C)
    → (begins (map upper_case t) (ascii "XML") ≡ true → begins t (ascii "xml") ≡ false → C) → C
by_target t f g h = by_bool (begins (map upper_case t) (ascii "XML")) (λ u. by_bool (begins t (ascii "xml")) (g u) (h u)) f

other_more : (c : ℕ) → target_kept (97 ∷ c ∷ []) ≡ ascii "a"
unfolding target_kept begins same from_to both
other_more c = refl

map_more : (t : List ℕ) (c : ℕ) → map upper_case (t ++ (c ∷ [])) ≡ map upper_case t ++ (upper_case c ∷ [])
map_more t c = map-append upper_case t (c ∷ [])

capitals_more : (t : List ℕ) (c : ℕ) → begins t (ascii "xml") ≡ false → target_kept (map upper_case t ++ (c ∷ [])) ≡ target_kept (t ++ (c ∷ []))
capitals_more t c f =
    let e = upper_more t c in
    by_bool (begins (map upper_case (t ++ (c ∷ []))) (ascii "XML"))
    (λ u. kept_upper (map upper_case t ++ (c ∷ [])) (rw e u) (no_small t (c ∷ []) f) ∙ (e ∙ sym (kept_upper (t ++ (c ∷ [])) u (longer t (c ∷ []) (ascii "xml") f))))
    (λ n. kept_other (map upper_case t ++ (c ∷ [])) (rw e n) ∙ sym (kept_other (t ++ (c ∷ [])) n))

target_kept_more : (t : List ℕ) (c : ℕ) → target_kept (target_kept t ++ (c ∷ [])) ≡ target_kept (t ++ (c ∷ []))
target_kept_more t c =
    by_target t
    (λ f. let n : begins (map upper_case (t ++ (c ∷ []))) (ascii "XML") ≡ false = rw (map_more t c) (longer (map upper_case t) (upper_case c ∷ []) (ascii "XML") f) in
    rw (kept_other t f) (other_more c ∙ sym (kept_other (t ++ (c ∷ [])) n)))
    (λ u h. rw (kept_small t u h))
    (λ u f. rw (kept_upper t u f) (capitals_more t c f))

-- a name that begins neither
same_begins : (v w : List ℕ) → same v w ≡ true → begins v w ≡ true
same_begins v w e = let k : begins v (v ++ []) ≡ true = begins_append v [] in rw (← (same_yes v w e)) (rw append-nil at k)

not_same : (v w : List ℕ) → begins v w ≡ false → same v w ≡ false
not_same v w f = by_bool (same v w) (λ e. clash (same_begins v w e) f) (λ e. e)

unreserved : (t : List ℕ) → begins (map upper_case t) (ascii "XML") ≡ false → reserved_target t ≡ false
unreserved t f = reserved_upper t ∙ not_same (map upper_case t) (ascii "XML") f

one_letter : reserved_target (ascii "a") ≡ false
unfolding reserved_target
one_letter = refl

letter_other : same (ascii "a") (ascii "xml") ≡ false
unfolding same both
letter_other = refl

kept_reserved : (t : List ℕ) → reserved_target (target_kept t) ≡ reserved_target t
kept_reserved t =
    by_target t
    (λ f. rw (kept_other t f) (one_letter ∙ sym (unreserved t f)))
    (λ u h. rw (kept_small t u h))
    (λ u f. rw (kept_upper t u f) (reserved_upper (map upper_case t) ∙ (ap (λ (w : List ℕ). same w (ascii "XML")) (upper_all_twice t) ∙ sym (reserved_upper t))))

-- `xml` in small letters is no more than itself
small_is_upper : (t : List ℕ) → same t (ascii "xml") ≡ true → begins (map upper_case t) (ascii "XML") ≡ true
unfolding begins same from_to both
small_is_upper t e = rw (same_yes t (ascii "xml") e)

capitals_other : (t : List ℕ) → begins t (ascii "xml") ≡ false → same (map upper_case t) (ascii "xml") ≡ false
unfolding begins same both
capitals_other [] f = clash refl f
capitals_other (x ∷ t) f = rw (upper_no_x x)

kept_same : (t : List ℕ) → same (target_kept t) (ascii "xml") ≡ same t (ascii "xml")
kept_same t =
    by_target t
    (λ f. rw (kept_other t f) (letter_other ∙ sym (by_bool (same t (ascii "xml")) (λ e. clash (small_is_upper t e) f) (λ e. e))))
    (λ u h. rw (kept_small t u h))
    (λ u f. rw (kept_upper t u f) (capitals_other t f ∙ sym (not_same t (ascii "xml") f)))

-- ---- an instruction

pub wrapped_forgotten : (m : Moved DeclarationState Meaning) → instruction_forgotten (wrapped_step in_declaration m) ≡ wrapped_step in_declaration (declaration_forgotten m)
unfolding instruction_kept
wrapped_forgotten (continues s) = refl
wrapped_forgotten (completes m) = refl
wrapped_forgotten malformed = refl

pub instruction_kept_step : (s : InstructionState) (c : ℕ) → instruction_forgotten (instruction_step s c) ≡ instruction_forgotten (instruction_step (instruction_kept s) c)
unfolding instruction_kept instruction_step
instruction_kept_step (behind_question_mark first) c = refl
instruction_kept_step (in_target first t) c =
    by_bool (name_char c) (λ n. rw (n, target_kept_more t c)) (λ n. rw (n, kept_reserved t, kept_same t))
instruction_kept_step behind_target c = refl
instruction_kept_step (in_data question) c = refl
instruction_kept_step (in_declaration d) c = wrapped_forgotten _ ∙ (ap (wrapped_step in_declaration) (declaration_kept_step d c) ∙ sym (wrapped_forgotten _))
