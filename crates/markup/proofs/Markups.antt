-- The automaton reads exactly the legal markups, each as what it means, in pieces as in one run.
use Rattle.markup.specs.Automaton.{Moved, continues, completes, malformed, finished, not_well_formed, lexed, wrapped_step, start_tag_step, end_tag_step, in_name, behind_end_slash, comment_step, behind_bang, instruction_step, behind_question_mark, MarkupState, before_markup, behind_less_than_sign, in_start_tag, in_end_tag, in_bang, in_instruction, markup_begun, markup_step, markup_of}
use Rattle.markup.specs.Names.{name_start_char, name_char, is_name}
use Rattle.markup.specs.Markup.{XmlAttribute, Markup, start_tag, end_tag, comment, instruction, declaration, legal_markup, may_stand, legal_markup_at, written_markup, Meaning, meaning_of}
use Rattle.markup.proofs.Lexing.{Kept, pieces, lexed_more, read_all, part_lexed}
use Rattle.markup.proofs.Names.{apart, start_named, slash_unnamed, bang_unnamed, question_unnamed, name_first, name_of}
use Rattle.markup.proofs.Readings.{MarkupRead, read_first}
use Rattle.markup.proofs.StartTags.{StartTagReading, StartTagKept, start_tag_kept, start_tag_text, start_tag_read}
use Rattle.markup.proofs.EndTags.{EndTagReading, EndTagKept, end_tag_kept, end_tag_text, end_tag_read}
use Rattle.markup.proofs.Comments.{CommentReading, CommentKept, comment_kept, comment_text, comment_read}
use Rattle.markup.proofs.Declarations.{declaration_text}
use Rattle.markup.proofs.Instructions.{InstructionReading, InstructionKept, instruction_kept, instruction_text, instruction_read, declaration_begun}
use Prim.Native.Nat.{ℕ}
use mathlib.Core.Path.{◌≡◌, refl, sym, ◌∙◌, ap}
use mathlib.Core.Bool.{Bool, true, false}
use mathlib.Core.Logic.{◌↔◌}
use mathlib.Core.List.{List, [], ◌∷◌, ◌++◌}
use lib.Dec.{eqb}
use borrow.Author.Tests.{eqb-true}
use Rattle.base.specs.Bytes.{both}
use Rattle.base.proofs.Split.{no, clash, by_bool, both_left, both_of}

-- a run of characters begins with a legal markup that means what is said, and has a rest
pub record MarkupWritten (first : Bool) (s rest : List ℕ) (e : Meaning) : Type 0 where
  pub markup : Markup
  pub legal : legal_markup_at first markup ≡ true
  pub text : s ≡ written_markup markup ++ rest
  pub meaning : e ≡ meaning_of markup

-- ---- what is read is written so

unfoldable pub MarkupReading : Bool → (List ℕ → List ℕ) → MarkupState → Type 0
MarkupReading first before (before_markup f) = (f ≡ first) × ((s : List ℕ) → before s ≡ s)
MarkupReading first before (behind_less_than_sign f) = (f ≡ first) × ((s : List ℕ) → before s ≡ 60 ∷ s)
MarkupReading first before (in_start_tag q) = StartTagReading before q
MarkupReading first before (in_end_tag q) = EndTagReading before q
MarkupReading first before (in_bang q) = CommentReading before q
MarkupReading first before (in_instruction q) = InstructionReading first before q

abbrev pub MarkupKept : Bool → (List ℕ → List ℕ) → Moved MarkupState Meaning → Type 0
MarkupKept first = Kept markup_step (MarkupReading first) (MarkupRead first)

begun_kept : (first f : Bool) (before : List ℕ → List ℕ) (c : ℕ) → f ≡ first → ((s : List ℕ) → before s ≡ 60 ∷ s) → MarkupKept first (λ s. before (c ∷ s)) (markup_begun f c)
unfolding markup_begun MarkupReading StartTagReading EndTagReading CommentReading InstructionReading
begun_kept first f before c e r =
    by_bool (eqb c 47)
    (λ t. let k = eqb-true c 47 t in rw t (λ s. r (c ∷ s) ∙ ap (λ d. 60 ∷ (d ∷ s)) k))
    (λ a. by_bool (eqb c 33)
    (λ t. let k = eqb-true c 33 t in rw (a, t) (λ s. r (c ∷ s) ∙ ap (λ d. 60 ∷ (d ∷ s)) k))
    (λ b. by_bool (eqb c 63)
    (λ t. let k = eqb-true c 63 t in rw (a, b, t) (e, λ s. r (c ∷ s) ∙ ap (λ d. 60 ∷ (d ∷ s)) k))
    (λ d. by_bool (name_start_char c)
    (λ t. rw (a, b, d, t) (name_of c t, λ s. r (c ∷ s)))
    (λ t. rw (a, b, d, t) tt))))

module _ (first : Bool) (before : List ℕ → List ℕ) where
  start_tags_kept : (m : Moved _ Meaning) → StartTagKept before m → MarkupKept first before (wrapped_step in_start_tag m)
  unfolding MarkupReading
  start_tags_kept (continues q) k = k
  start_tags_kept (completes e) k = read_first first before e k
  start_tags_kept malformed k = tt

  end_tags_kept : (m : Moved _ Meaning) → EndTagKept before m → MarkupKept first before (wrapped_step in_end_tag m)
  unfolding MarkupReading
  end_tags_kept (continues q) k = k
  end_tags_kept (completes e) k = read_first first before e k
  end_tags_kept malformed k = tt

  comments_kept : (m : Moved _ Meaning) → CommentKept before m → MarkupKept first before (wrapped_step in_bang m)
  unfolding MarkupReading
  comments_kept (continues q) k = k
  comments_kept (completes e) k = read_first first before e k
  comments_kept malformed k = tt

  instructions_kept : (m : Moved _ Meaning) → InstructionKept first before m → MarkupKept first before (wrapped_step in_instruction m)
  unfolding MarkupReading
  instructions_kept (continues q) k = k
  instructions_kept (completes e) k = k
  instructions_kept malformed k = tt

pub markup_kept : (first : Bool) (before : List ℕ → List ℕ) (q : MarkupState) (c : ℕ) → MarkupReading first before q → MarkupKept first (λ s. before (c ∷ s)) (markup_step q c)
unfolding markup_step MarkupReading
markup_kept first before (before_markup f) c (e, r) =
    by_bool (eqb c 60)
    (λ t. let k = eqb-true c 60 t in rw t (e, λ s. r (c ∷ s) ∙ ap (λ d. d ∷ s) k))
    (λ t. rw t tt)
markup_kept first before (behind_less_than_sign f) c (e, r) = begun_kept first f before c e r
markup_kept first before (in_start_tag q) c r = start_tags_kept first (λ s. before (c ∷ s)) (start_tag_step q c) (start_tag_kept before q c r)
markup_kept first before (in_end_tag q) c r = end_tags_kept first (λ s. before (c ∷ s)) (end_tag_step q c) (end_tag_kept before q c r)
markup_kept first before (in_bang q) c r = comments_kept first (λ s. before (c ∷ s)) (comment_step q c) (comment_kept before q c r)
markup_kept first before (in_instruction q) c r = instructions_kept first (λ s. before (c ∷ s)) (instruction_step q c) (instruction_kept first before q c r)

-- what is read comes from a legal markup that is written so
pub sound : (first : Bool) (s rest : List ℕ) (e : Meaning) → markup_of first s ≡ finished e rest → MarkupWritten first s rest e
unfolding MarkupReading
sound first s rest e h = go (read_all markup_step (MarkupReading first) (MarkupRead first) (markup_kept first) s (λ t. t) (before_markup first) rest e (refl, λ t. refl) h)
  where
    go : (before : List ℕ → List ℕ) × (MarkupRead first before e × (s ≡ before rest)) → MarkupWritten first s rest e
    go (before, (r, w)) = record { markup = r.markup; legal = both_of r.place r.legal; text = w ∙ r.text rest; meaning = r.meaning }

-- ---- and each legal markup is read

slash_begun : (first : Bool) (s : List ℕ) → markup_of first (60 ∷ (47 ∷ s)) ≡ lexed markup_step (in_end_tag behind_end_slash) s
unfolding lexed markup_step markup_begun
slash_begun first s = refl

bang_begun : (first : Bool) (s : List ℕ) → markup_of first (60 ∷ (33 ∷ s)) ≡ lexed markup_step (in_bang behind_bang) s
unfolding lexed markup_step markup_begun
bang_begun first s = refl

question_begun : (first : Bool) (s : List ℕ) → markup_of first (60 ∷ (63 ∷ s)) ≡ lexed markup_step (in_instruction (behind_question_mark first)) s
unfolding lexed markup_step markup_begun
question_begun first s = refl

name_begun : (first : Bool) (c : ℕ) (s : List ℕ) → name_start_char c ≡ true → markup_of first (60 ∷ (c ∷ s)) ≡ lexed markup_step (in_start_tag (in_name (c ∷ []))) s
unfolding lexed markup_step markup_begun
name_begun first c s t =
    let k = start_named c t in
    rw (apart name_char 47 c slash_unnamed k, apart name_char 33 c bang_unnamed k, apart name_char 63 c question_unnamed k, t)

tag_named : (empty : Bool) (n : List ℕ) (xs : List XmlAttribute) (gap : List ℕ) → legal_markup (start_tag empty n xs gap) ≡ true → is_name n ≡ true
unfolding legal_markup
tag_named empty n xs gap l = both_left (is_name n) _ l

nameless : is_name [] ≡ false
unfolding is_name
nameless = refl

start_tag_complete : (first empty : Bool) (n : List ℕ) (xs : List XmlAttribute) (gap rest : List ℕ) → legal_markup (start_tag empty n xs gap) ≡ true
    → markup_of first (written_markup (start_tag empty n xs gap) ++ rest) ≡ finished (meaning_of (start_tag empty n xs gap)) rest
unfolding markup_step
start_tag_complete first empty [] xs gap rest l = clash (tag_named empty [] xs gap l) nameless
start_tag_complete first empty (c ∷ cs) xs gap rest l =
    ap (markup_of first) (start_tag_text empty (c ∷ cs) xs gap rest)
    ∙ (name_begun first c _ (name_first c cs (tag_named empty (c ∷ cs) xs gap l))
    ∙ part_lexed start_tag_step markup_step in_start_tag (λ q d. refl) _ (in_name (c ∷ [])) rest _ (start_tag_read empty c cs xs gap rest l))

pub complete : (first : Bool) (m : Markup) (rest : List ℕ) → legal_markup_at first m ≡ true → markup_of first (written_markup m ++ rest) ≡ finished (meaning_of m) rest
unfolding markup_step may_stand meaning_of both
complete first (start_tag empty n xs gap) rest l = start_tag_complete first empty n xs gap rest l
complete first (end_tag n gap) rest l =
    ap (markup_of first) (end_tag_text n gap rest)
    ∙ (slash_begun first _ ∙ part_lexed end_tag_step markup_step in_end_tag (λ q d. refl) _ behind_end_slash rest _ (end_tag_read n gap rest l))
complete first (comment ps) rest l =
    ap (markup_of first) (comment_text ps rest)
    ∙ (bang_begun first _ ∙ part_lexed comment_step markup_step in_bang (λ q d. refl) _ behind_bang rest _ (comment_read ps rest l))
complete first (instruction t gap cs) rest l =
    ap (markup_of first) (instruction_text t gap cs rest)
    ∙ (question_begun first _ ∙ part_lexed instruction_step markup_step in_instruction (λ q d. refl) _ (behind_question_mark first) rest _ (instruction_read first t gap cs rest l))
complete false (declaration d) rest l = clash l refl
complete true (declaration d) rest l =
    ap (markup_of true) (declaration_text d rest)
    ∙ (question_begun true _ ∙ part_lexed instruction_step markup_step in_instruction (λ q d. refl) _ (behind_question_mark true) rest _ (declaration_begun d rest l))

-- a run of characters is read as a markup exactly where it begins with a legal one, and as what that one means
pub exactly : (first : Bool) (s rest : List ℕ) (e : Meaning) → (markup_of first s ≡ finished e rest) ↔ MarkupWritten first s rest e
exactly first s rest e = (
  sound first s rest e,
  λ w. ap (markup_of first) w.text ∙ (complete first w.markup rest w.legal ∙ ap (λ m. finished m rest) (sym w.meaning)),
)

-- pieces equal the whole
pub markup_pieces : (first : Bool) (s t : List ℕ) → markup_of first (s ++ t) ≡ lexed_more markup_step t (markup_of first s)
markup_pieces first s t = pieces markup_step s (before_markup first) t

-- where a run is refused, no legal markup begins with it, nor with a beginning of it
pub none_well_formed : (first : Bool) (s t rest : List ℕ) (e : Meaning) → markup_of first s ≡ not_well_formed → MarkupWritten first (s ++ t) rest e → ⊥
none_well_formed first s t rest e r w =
    let h = (exactly first (s ++ t) rest e).1 w in
    let k = markup_pieces first s t in
    let x : lexed_more markup_step t (markup_of first s) ≡ finished e rest = sym k ∙ h in
    let y : lexed_more markup_step t not_well_formed ≡ finished e rest = rw r at x in
    no (cc y)

-- however two legal markups are written, where the one text is the other they mean the same and end at the same place
pub one_meaning : (first : Bool) (m n : Markup) (r t : List ℕ) → legal_markup_at first m ≡ true → legal_markup_at first n ≡ true → written_markup m ++ r ≡ written_markup n ++ t
    → (meaning_of m ≡ meaning_of n) × (r ≡ t)
one_meaning first m n r t l k e =
    let x : finished (meaning_of m) r ≡ finished (meaning_of n) t = sym (complete first m r l) ∙ (ap (markup_of first) e ∙ complete first n t k) in
    (cc x, cc x)
