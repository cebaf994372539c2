-- The automaton reads exactly the legal processing instructions.
use Rattle.markup.specs.Automaton.{Moved, continues, completes, malformed, finished, lexed, wrapped_step, DeclarationState, between_items, declaration_step, InstructionState, behind_question_mark, in_target, behind_target, in_data, in_declaration, target_ended, reserved_ended, instruction_step}
use Rattle.markup.specs.Names.{white_space, name_start_char, name_char, is_name, no_chars, some_space}
use Rattle.markup.specs.Markup.{reserved_target, is_target, unended_data, legal_data, version_key, encoding_key, DeclarationItem, legal_item, written_item, XmlDeclaration, legal_optional, legal_declaration, instruction, declaration, legal_markup, may_stand, written_markup, Meaning, no_event, meaning_of}
use Rattle.markup.proofs.Lexing.{Kept, moved_char, part_lexed}
use Rattle.markup.proofs.Parts.{name_more}
use Rattle.markup.proofs.Names.{white_unnamed, question_unnamed, question_black, name_first, name_rest, name_of, Unnamed, some_unnamed}
use Rattle.markup.proofs.Readings.{MarkupRead, read_first}
use Rattle.markup.proofs.Declarations.{DeclarationReading, ItemsReading, DeclarationKept, declaration_kept, item_text, behind_xml, declaration_read}
use Rattle.std.specs.Prelude.{None}
use Rattle.base.specs.Ascii.{ascii}
use Prim.Native.Nat.{ℕ}
use mathlib.Core.Path.{◌≡◌, refl, sym, ◌∙◌, ap}
use mathlib.Core.Bool.{Bool, true, false, cond, not}
use mathlib.Core.List.{List, [], ◌∷◌, ◌++◌, append_assoc, append-nil}
use lib.Dec.{eqb}
use borrow.Author.Tests.{eqb-true, not-true}
use Rattle.base.specs.Bytes.{both, either, all, same}
use Rattle.base.proofs.Split.{clash, by_bool, by_either, both_left, both_right, both_of, either_right}
use Rattle.base.proofs.Lists.{all_nil, all_cons, all_head, all_tail, same_yes}
use Rattle.text.specs.Char.{xml_char, from_to}

-- ---- what is read

-- a question mark that may be the end's
abbrev held : Bool → List ℕ → List ℕ
held question s = cond question (63 ∷ s) s

-- `<?`, a target, a white space character, and data that have not ended, however they go on
pub record DataReading (before : List ℕ → List ℕ) (question : Bool) : Type 0 where
  pub target : List ℕ
  pub legal : is_target target ≡ true
  pub space : ℕ
  pub white : white_space space ≡ true
  pub chars : List ℕ
  pub legal_chars : unended_data false chars ≡ true
  pub more : (cs : List ℕ) → unended_data question cs ≡ true → unended_data false (chars ++ held question cs) ≡ true
  pub text : (s : List ℕ) → before s ≡ 60 ∷ (63 ∷ (target ++ (space ∷ (chars ++ held question s))))

unfoldable pub InstructionReading : Bool → (List ℕ → List ℕ) → InstructionState → Type 0
InstructionReading first before (behind_question_mark f) = (f ≡ first) × ((s : List ℕ) → before s ≡ 60 ∷ (63 ∷ s))
InstructionReading first before (in_target f t) = (f ≡ first) × ((is_name t ≡ true) × ((s : List ℕ) → before s ≡ 60 ∷ (63 ∷ (t ++ s))))
InstructionReading first before behind_target = (t : List ℕ) × ((is_target t ≡ true) × ((s : List ℕ) → before s ≡ 60 ∷ (63 ∷ (t ++ (63 ∷ s)))))
InstructionReading first before (in_data question) = DataReading before question
InstructionReading first before (in_declaration d) = (first ≡ true) × DeclarationReading before d

abbrev pub InstructionKept : Bool → (List ℕ → List ℕ) → Moved InstructionState Meaning → Type 0
InstructionKept first = Kept instruction_step (InstructionReading first) (MarkupRead first)

pub instruction_text : (t gap cs s : List ℕ) → written_markup (instruction t gap cs) ++ s ≡ 60 ∷ (63 ∷ (t ++ (gap ++ (cs ++ (63 ∷ (62 ∷ s))))))
unfolding written_markup
instruction_text t gap cs s = simp append_assoc

-- ---- a step keeps what is read so

target_kept : (first : Bool) (before : List ℕ → List ℕ) (t : List ℕ) (c : ℕ) → is_target t ≡ true → ((s : List ℕ) → before s ≡ 60 ∷ (63 ∷ (t ++ s))) → InstructionKept first (λ s. before (c ∷ s)) (target_ended c)
unfolding target_ended InstructionReading unended_data
target_kept first before t c l r =
    by_bool (white_space c)
    (λ w. rw w (record { target = t; legal = l; space = c; white = w; chars = []; legal_chars = refl; more = λ cs u. u; text = λ s. r (c ∷ s) }))
    (λ w. by_bool (eqb c 63)
    (λ q. let e = eqb-true c 63 q in rw (w, q) (t, (l, λ s. ap (λ d. before (d ∷ s)) e ∙ r (63 ∷ s))))
    (λ q. rw (w, q) tt))

question_char : xml_char 63 ≡ true
unfolding xml_char from_to either both
question_char = refl

-- one more `?`
question_kept : (before : List ℕ → List ℕ) (question : Bool) (c : ℕ) → DataReading before question → eqb c 63 ≡ true → DataReading (λ s. before (c ∷ s)) true
unfolding unended_data both
question_kept before false c r q =
    let e = eqb-true c 63 q in
    record {
      target = r.target;
      legal = r.legal;
      space = r.space;
      white = r.white;
      chars = r.chars;
      legal_chars = r.legal_chars;
      more = λ cs u. r.more (63 ∷ cs) (both_of refl (both_of question_char u));
      text = λ s. ap (λ d. before (d ∷ s)) e ∙ r.text (63 ∷ s);
    }
question_kept before true c r q =
    let e = eqb-true c 63 q in
    record {
      target = r.target;
      legal = r.legal;
      space = r.space;
      white = r.white;
      chars = r.chars ++ (63 ∷ []);
      legal_chars = r.more [] refl;
      more = λ cs u. rw (← (moved_char r.chars 63 (63 ∷ cs))) (r.more (63 ∷ cs) (both_of refl (both_of question_char u)));
      text = λ s. ap (λ d. before (d ∷ s)) e ∙ (r.text (63 ∷ s) ∙ ap (λ w. 60 ∷ (63 ∷ (r.target ++ (r.space ∷ w)))) (moved_char r.chars 63 (63 ∷ s)));
    }

-- another character
char_kept : (before : List ℕ → List ℕ) (question : Bool) (c : ℕ) → DataReading before question → both question (eqb c 62) ≡ false → xml_char c ≡ true → eqb c 63 ≡ false
    → DataReading (λ s. before (c ∷ s)) false
unfolding unended_data both
char_kept before false c r n x q =
    record {
      target = r.target;
      legal = r.legal;
      space = r.space;
      white = r.white;
      chars = r.chars ++ (c ∷ []);
      legal_chars = r.more (c ∷ []) (both_of refl (both_of x refl));
      more = λ cs u. rw (← (moved_char r.chars c cs)) (r.more (c ∷ cs) (both_of refl (both_of x (rw q u))));
      text = λ s. r.text (c ∷ s) ∙ ap (λ w. 60 ∷ (63 ∷ (r.target ++ (r.space ∷ w)))) (moved_char r.chars c s);
    }
char_kept before true c r n x q =
    let two : (cs : List ℕ) → r.chars ++ (63 ∷ (c ∷ cs)) ≡ ((r.chars ++ (63 ∷ [])) ++ (c ∷ [])) ++ cs = λ cs. moved_char r.chars 63 (c ∷ cs) ∙ moved_char (r.chars ++ (63 ∷ [])) c cs in
    record {
      target = r.target;
      legal = r.legal;
      space = r.space;
      white = r.white;
      chars = (r.chars ++ (63 ∷ [])) ++ (c ∷ []);
      legal_chars = rw (← (moved_char r.chars 63 (c ∷ []))) (r.more (c ∷ []) (both_of (rw n) (both_of x refl)));
      more = λ cs u. rw (← (two cs)) (r.more (c ∷ cs) (both_of (rw n) (both_of x (rw q u))));
      text = λ s. r.text (c ∷ s) ∙ ap (λ w. 60 ∷ (63 ∷ (r.target ++ (r.space ∷ w)))) (two s);
    }

data_ended : (before : List ℕ → List ℕ) (question : Bool) (c : ℕ) → DataReading before question → both question (eqb c 62) ≡ true → MarkupRead false (λ s. before (c ∷ s)) no_event
unfolding legal_markup legal_data may_stand meaning_of some_space both
data_ended before false c r b = clash b refl
data_ended before true c r b =
    let e = eqb-true c 62 b in
    record {
      markup = instruction r.target (r.space ∷ []) r.chars;
      place = refl;
      legal = both_of r.legal (either_right (both (no_chars (r.space ∷ [])) (no_chars r.chars)) (both_of (both_of refl (all_cons white_space r.space [] r.white (all_nil white_space))) r.legal_chars));
      meaning = refl;
      text = λ s. ap (λ d. before (d ∷ s)) e ∙ (r.text (62 ∷ s) ∙ sym (instruction_text r.target (r.space ∷ []) r.chars s));
    }

declared_kept : (first : Bool) (before : List ℕ → List ℕ) (m : Moved DeclarationState Meaning) → first ≡ true → DeclarationKept before m
    → InstructionKept first before (wrapped_step in_declaration m)
unfolding InstructionReading
declared_kept first before (continues d) f k = (f, k)
declared_kept first before (completes e) f k = rw f k
declared_kept first before malformed f k = tt

begun_declaration : (before : List ℕ → List ℕ) (t : List ℕ) → same t (ascii "xml") ≡ true → ((s : List ℕ) → before s ≡ 60 ∷ (63 ∷ (t ++ s)))
    → DeclarationReading before (between_items None false)
unfolding DeclarationReading ItemsReading
begun_declaration before t x r = record {
  outer = before;
  items = λ s. r s ∙ ap (λ w. 60 ∷ (63 ∷ (w ++ s))) (same_yes t (ascii "xml") x);
  gap = [];
  legal = all_nil white_space;
  some = refl;
  text = λ s. refl;
}

reserved_kept : (first f : Bool) (before : List ℕ → List ℕ) (t : List ℕ) (c : ℕ) → f ≡ first → ((s : List ℕ) → before s ≡ 60 ∷ (63 ∷ (t ++ s)))
    → InstructionKept first (λ s. before (c ∷ s)) (reserved_ended f t c)
reserved_kept first f before t c e r =
    by_bool (both f (same t (ascii "xml")))
    (λ b. rw b (declared_kept first (λ s. before (c ∷ s)) (declaration_step (between_items None false) c) (sym e ∙ both_left f _ b)
    (declaration_kept before (between_items None false) c (begun_declaration before t (both_right f _ b) r))))
    (λ b. rw b tt)

pub instruction_kept : (first : Bool) (before : List ℕ → List ℕ) (q : InstructionState) (c : ℕ) → InstructionReading first before q
    → InstructionKept first (λ s. before (c ∷ s)) (instruction_step q c)
unfolding instruction_step InstructionReading is_target legal_markup legal_data may_stand meaning_of either both
instruction_kept first before (behind_question_mark f) c (e, r) =
    by_bool (name_start_char c)
    (λ t. rw t (e, (name_of c t, λ s. r (c ∷ s))))
    (λ t. rw t tt)
instruction_kept first before (in_target f t) c (e, (l, r)) =
    by_bool (name_char c)
    (λ k. rw k (e, (name_more t c l k, λ s. r (c ∷ s) ∙ ap (λ w. 60 ∷ (63 ∷ w)) (moved_char t c s))))
    (λ k. by_bool (reserved_target t)
    (λ x. rw (k, x) (reserved_kept first f before t c e r))
    (λ x. rw (k, x) (target_kept first before t c (both_of l (rw x)) r)))
instruction_kept first before behind_target c (t, (l, r)) =
    by_bool (eqb c 62)
    (λ k. let e = eqb-true c 62 k in
    rw k (record { markup = instruction t [] []; place = refl; legal = both_of l refl; meaning = refl; text = λ s. ap (λ d. before (d ∷ s)) e ∙ (r (62 ∷ s) ∙ sym (instruction_text t [] [] s)) }))
    (λ k. rw k tt)
instruction_kept first before (in_data question) c r =
    by_bool (both question (eqb c 62))
    (λ b. rw b (read_first first _ no_event (data_ended before question c r b)))
    (λ n. by_bool (xml_char c)
    (λ x. rw (n, x) (by_bool (eqb c 63) (λ q. rw q (question_kept before question c r q)) (λ q. rw q (char_kept before question c r n x q))))
    (λ x. rw (n, x) tt))
instruction_kept first before (in_declaration d) c (f, r) = declared_kept first (λ s. before (c ∷ s)) (declaration_step d c) f (declaration_kept before d c r)

-- ---- and each legal instruction is read

target_walk : (first : Bool) (cs t s : List ℕ) → all name_char cs ≡ true → lexed instruction_step (in_target first t) (cs ++ s) ≡ lexed instruction_step (in_target first (t ++ cs)) s
unfolding lexed instruction_step
target_walk first [] t s l = rw (append-nil t)
target_walk first (c ∷ cs) t s l = rw (all_head name_char c cs l, moved_char t c cs) (target_walk first cs (t ++ (c ∷ [])) s (all_tail name_char c cs l))

pub data_walk : (question : Bool) (cs s : List ℕ) → unended_data question cs ≡ true → lexed instruction_step (in_data question) (cs ++ (63 ∷ (62 ∷ s))) ≡ finished no_event s
unfolding lexed instruction_step unended_data both
data_walk false [] s u = rw question_char
data_walk true [] s u = rw question_char
data_walk question (c ∷ cs) s u =
    let n = not-true (both question (eqb c 62)) (both_left _ _ u) in
    let r = both_right (not (both question (eqb c 62))) _ u in
    rw (n, both_left (xml_char c) _ r) (data_walk (eqb c 63) cs s (both_right (xml_char c) _ r))

pub white_char : (c : ℕ) → white_space c ≡ true → (xml_char c ≡ true) × (eqb c 63 ≡ false)
unfolding white_space xml_char from_to either both
white_char c t =
    by_either _ _ t (λ u. let e = eqb-true c 32 u in rw e (refl, refl))
    (λ v. by_either _ _ v (λ u. let e = eqb-true c 9 u in rw e (refl, refl))
    (λ w. by_either _ _ w (λ u. let e = eqb-true c 13 u in rw e (refl, refl)) (λ u. let e = eqb-true c 10 u in rw e (refl, refl))))

space_unended : (gap cs : List ℕ) → all white_space gap ≡ true → unended_data false cs ≡ true → unended_data false (gap ++ cs) ≡ true
unfolding unended_data both
space_unended [] cs l u = u
space_unended (c ∷ gap) cs l u =
    let w = white_char c (all_head white_space c gap l) in
    both_of refl (both_of w.0 (rw w.1 (space_unended gap cs (all_tail white_space c gap l) u)))

unreserved : (t : List ℕ) → is_target t ≡ true → reserved_target t ≡ false
unfolding is_target
unreserved t l = not-true (reserved_target t) (both_right (is_name t) _ l)

pub end_read : (first : Bool) (t s : List ℕ) → is_target t ≡ true → lexed instruction_step (in_target first t) (63 ∷ (62 ∷ s)) ≡ finished no_event s
unfolding lexed instruction_step target_ended
end_read first t s l = rw (question_unnamed, unreserved t l, question_black)

data_read : (first : Bool) (t gap cs s : List ℕ) → is_target t ≡ true → some_space gap ≡ true → unended_data false cs ≡ true
    → lexed instruction_step (in_target first t) (gap ++ (cs ++ (63 ∷ (62 ∷ s)))) ≡ finished no_event s
unfolding lexed instruction_step target_ended some_space
data_read first t [] cs s l w u = clash (both_left _ _ w) refl
data_read first t (c ∷ gap) cs s l w u =
    let h = both_right (not (no_chars (c ∷ gap))) (all white_space (c ∷ gap)) w in
    let k = all_head white_space c gap h in
    rw (white_unnamed c k, unreserved t l, k, ← (append_assoc gap cs (63 ∷ (62 ∷ s)))) (data_walk false (gap ++ cs) s (space_unended gap cs (all_tail white_space c gap h) u))

behind_read : (first : Bool) (t gap cs s : List ℕ) → is_target t ≡ true → legal_data gap cs ≡ true → lexed instruction_step (in_target first t) (gap ++ (cs ++ (63 ∷ (62 ∷ s)))) ≡ finished no_event s
unfolding legal_data
behind_read first t gap cs s l d =
    by_either _ _ d (λ n. none gap cs (both_left _ _ n) (both_right (no_chars gap) _ n)) (λ h. data_read first t gap cs s l (both_left _ _ h) (both_right (some_space gap) _ h))
  where
    none : (g d : List ℕ) → no_chars g ≡ true → no_chars d ≡ true → lexed instruction_step (in_target first t) (g ++ (d ++ (63 ∷ (62 ∷ s)))) ≡ finished no_event s
    none [] [] a b = end_read first t s l
    none [] (x ∷ d) a b = clash b refl
    none (x ∷ g) d a b = clash a refl

-- an instruction behind its `<?`
pub instruction_read : (first : Bool) (t gap cs s : List ℕ) → legal_markup (instruction t gap cs) ≡ true
    → lexed instruction_step (behind_question_mark first) (t ++ (gap ++ (cs ++ (63 ∷ (62 ∷ s))))) ≡ finished no_event s
unfolding legal_markup lexed instruction_step is_target is_name
instruction_read first [] gap cs s l = clash (both_left _ _ (both_left _ _ l)) refl
instruction_read first (c ∷ t) gap cs s l =
    let named : is_name (c ∷ t) ≡ true = both_left _ _ (both_left _ _ l) in
    rw (name_first c t named)
    (target_walk first t (c ∷ []) _ (name_rest c t named) ∙ behind_read first (c ∷ t) gap cs s (both_left _ _ l) (both_right (is_target (c ∷ t)) _ l))

-- ---- and each legal declaration, where nothing stands before it

xml_ends : (c : ℕ) (s : List ℕ) → name_char c ≡ false
    → lexed instruction_step (in_target true (ascii "xml")) (c ∷ s) ≡ lexed instruction_step (in_declaration (between_items None false)) (c ∷ s)
unfolding lexed instruction_step reserved_target same either both
xml_ends c s u = rw u

xml_walk : (s : List ℕ) → Unnamed s → lexed instruction_step (in_target true (ascii "xml")) s ≡ lexed instruction_step (in_declaration (between_items None false)) s
xml_walk [] u = absurd u
xml_walk (c ∷ s) u = xml_ends c s u

letters_named : (name_start_char 120 ≡ true) × ((name_char 109 ≡ true) × (name_char 108 ≡ true))
unfolding name_char name_start_char from_to either both
letters_named = (refl, (refl, refl))

target_read : (s : List ℕ) → lexed instruction_step (behind_question_mark true) (120 ∷ (109 ∷ (108 ∷ s))) ≡ lexed instruction_step (in_target true (ascii "xml")) s
unfolding lexed instruction_step
target_read s = rw (letters_named.0, letters_named.1.0, letters_named.1.1)

item_unnamed : (i : DeclarationItem) (s : List ℕ) → legal_item version_key i ≡ true → Unnamed (written_item version_key i ++ s)
unfolding legal_item
item_unnamed i s l = rw (item_text version_key i s) (some_unnamed i.gap _ (both_left _ _ l))

pub declaration_begun : (d : XmlDeclaration) (s : List ℕ) → legal_markup (declaration d) ≡ true
    → lexed instruction_step (behind_question_mark true) (120 ∷ (109 ∷ (108 ∷ behind_xml d s))) ≡ finished no_event s
unfolding instruction_step legal_markup legal_declaration
declaration_begun d s l =
    target_read (behind_xml d s)
    ∙ (xml_walk (behind_xml d s) (item_unnamed d.version _ (both_left _ _ (both_left (both (legal_item version_key d.version) (legal_optional encoding_key d.encoding)) _ l)))
    ∙ part_lexed declaration_step instruction_step in_declaration (λ q c. refl) (behind_xml d s) (between_items None false) s no_event (declaration_read d s l))
