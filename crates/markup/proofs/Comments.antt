-- The automaton reads exactly the legal comments.
use Rattle.markup.specs.Automaton.{Moved, finished, lexed, CommentState, behind_bang, behind_bang_hyphen, in_comment, behind_two_hyphens, comment_step}
use Rattle.markup.specs.Markup.{each_written, CommentPart, unhyphened, hyphened, legal_comment_part, written_comment_part, comment, legal_markup, may_stand, written_markup, Meaning, no_event, meaning_of}
use Rattle.markup.proofs.Lexing.{Kept}
use Rattle.markup.proofs.Parts.{all_more, written_more}
use Rattle.markup.proofs.Readings.{MarkupRead}
use Prim.Native.Nat.{ℕ}
use mathlib.Core.Path.{◌≡◌, refl, sym, ◌∙◌, ap}
use mathlib.Core.Bool.{true, false, not}
use mathlib.Core.List.{List, [], ◌∷◌, ◌++◌, append_assoc}
use lib.Dec.{eqb}
use borrow.Author.Tests.{eqb-true, not-true}
use Rattle.base.specs.Bytes.{both, all}
use Rattle.base.proofs.Split.{by_bool, both_left, both_right, both_of}
use Rattle.base.proofs.Lists.{all_nil, all_head, all_tail}
use Rattle.text.specs.Char.{xml_char}

-- ---- what is read

-- parts of a comment, and what stands behind them
pub record CommentPartsReading (before : List ℕ → List ℕ) (behind : List ℕ → List ℕ) : Type 0 where
  pub parts : List CommentPart
  pub legal : all legal_comment_part parts ≡ true
  pub text : (s : List ℕ) → before s ≡ 60 ∷ (33 ∷ (45 ∷ (45 ∷ (each_written written_comment_part parts ++ behind s))))

unfoldable pub CommentReading : (List ℕ → List ℕ) → CommentState → Type 0
CommentReading before behind_bang = (s : List ℕ) → before s ≡ 60 ∷ (33 ∷ s)
CommentReading before behind_bang_hyphen = (s : List ℕ) → before s ≡ 60 ∷ (33 ∷ (45 ∷ s))
CommentReading before (in_comment false) = CommentPartsReading before (λ s. s)
CommentReading before (in_comment true) = CommentPartsReading before (λ s. 45 ∷ s)
CommentReading before behind_two_hyphens = CommentPartsReading before (λ s. 45 ∷ (45 ∷ s))

abbrev pub CommentKept : (List ℕ → List ℕ) → Moved CommentState Meaning → Type 0
CommentKept = Kept comment_step CommentReading (MarkupRead false)

pub comment_text : (ps : List CommentPart) (s : List ℕ) → written_markup (comment ps) ++ s ≡ 60 ∷ (33 ∷ (45 ∷ (45 ∷ (each_written written_comment_part ps ++ (45 ∷ (45 ∷ (62 ∷ s)))))))
unfolding written_markup
comment_text ps s = simp append_assoc

-- ---- a step keeps what is read so

char_legal : (c : ℕ) → eqb c 45 ≡ false → xml_char c ≡ true → both (not (eqb c 45)) (xml_char c) ≡ true
char_legal c h x = rw (h, x) (both_of refl refl)

unhyphened_kept : (before : List ℕ → List ℕ) (c : ℕ) → CommentPartsReading before (λ s. s) → eqb c 45 ≡ false → xml_char c ≡ true → CommentPartsReading (λ s. before (c ∷ s)) (λ s. s)
unfolding legal_comment_part written_comment_part
unhyphened_kept before c r h x = record {
  parts = r.parts ++ (unhyphened c ∷ []);
  legal = all_more legal_comment_part r.parts (unhyphened c) r.legal (char_legal c h x);
  text = λ s. r.text (c ∷ s) ∙ ap (λ t. 60 ∷ (33 ∷ (45 ∷ (45 ∷ t)))) (sym (written_more written_comment_part r.parts (unhyphened c) s));
}

hyphened_kept : (before : List ℕ → List ℕ) (c : ℕ) → CommentPartsReading before (λ s. 45 ∷ s) → eqb c 45 ≡ false → xml_char c ≡ true → CommentPartsReading (λ s. before (c ∷ s)) (λ s. s)
unfolding legal_comment_part written_comment_part
hyphened_kept before c r h x = record {
  parts = r.parts ++ (hyphened c ∷ []);
  legal = all_more legal_comment_part r.parts (hyphened c) r.legal (char_legal c h x);
  text = λ s. r.text (c ∷ s) ∙ ap (λ t. 60 ∷ (33 ∷ (45 ∷ (45 ∷ t)))) (sym (written_more written_comment_part r.parts (hyphened c) s));
}

pub comment_kept : (before : List ℕ → List ℕ) (q : CommentState) (c : ℕ) → CommentReading before q → CommentKept (λ s. before (c ∷ s)) (comment_step q c)
unfolding comment_step CommentReading each_written legal_markup may_stand meaning_of
comment_kept before behind_bang c r =
    by_bool (eqb c 45)
    (λ t. let e = eqb-true c 45 t in rw t (λ s. r (c ∷ s) ∙ ap (λ d. 60 ∷ (33 ∷ (d ∷ s))) e))
    (λ t. rw t tt)
comment_kept before behind_bang_hyphen c r =
    by_bool (eqb c 45)
    (λ t. let e = eqb-true c 45 t in
    rw t (record { parts = []; legal = all_nil legal_comment_part; text = λ s. r (c ∷ s) ∙ ap (λ d. 60 ∷ (33 ∷ (45 ∷ (d ∷ s)))) e }))
    (λ t. rw t tt)
comment_kept before (in_comment false) c r =
    by_bool (eqb c 45)
    (λ t. let e = eqb-true c 45 t in rw t (record { parts = r.parts; legal = r.legal; text = λ s. ap (λ d. before (d ∷ s)) e ∙ r.text (45 ∷ s) }))
    (λ h. by_bool (xml_char c)
    (λ x. rw (h, x) (unhyphened_kept before c r h x))
    (λ x. rw (h, x) tt))
comment_kept before (in_comment true) c r =
    by_bool (eqb c 45)
    (λ t. let e = eqb-true c 45 t in rw t (record { parts = r.parts; legal = r.legal; text = λ s. ap (λ d. before (d ∷ s)) e ∙ r.text (45 ∷ s) }))
    (λ h. by_bool (xml_char c)
    (λ x. rw (h, x) (hyphened_kept before c r h x))
    (λ x. rw (h, x) tt))
comment_kept before behind_two_hyphens c r =
    by_bool (eqb c 62)
    (λ t. let e = eqb-true c 62 t in
    rw t (record { markup = comment r.parts; legal = r.legal; place = refl; meaning = refl; text = λ s. ap (λ d. before (d ∷ s)) e ∙ (r.text (62 ∷ s) ∙ sym (comment_text r.parts s)) }))
    (λ t. rw t tt)

-- ---- and each legal comment is read

parts_walk : (ps : List CommentPart) (s : List ℕ) → all legal_comment_part ps ≡ true
    → lexed comment_step (in_comment false) (each_written written_comment_part ps ++ s) ≡ lexed comment_step (in_comment false) s
unfolding lexed comment_step each_written written_comment_part legal_comment_part
parts_walk [] s l = refl
parts_walk (unhyphened c ∷ ps) s l =
    let h = all_head legal_comment_part (unhyphened c) ps l in
    rw (not-true (eqb c 45) (both_left _ _ h), both_right (not (eqb c 45)) _ h) (parts_walk ps s (all_tail legal_comment_part (unhyphened c) ps l))
parts_walk (hyphened c ∷ ps) s l =
    let h = all_head legal_comment_part (hyphened c) ps l in
    rw (not-true (eqb c 45) (both_left _ _ h), both_right (not (eqb c 45)) _ h) (parts_walk ps s (all_tail legal_comment_part (hyphened c) ps l))

-- a comment behind its `<!`
pub comment_read : (ps : List CommentPart) (s : List ℕ) → legal_markup (comment ps) ≡ true
    → lexed comment_step behind_bang (45 ∷ (45 ∷ (each_written written_comment_part ps ++ (45 ∷ (45 ∷ (62 ∷ s)))))) ≡ finished no_event s
unfolding lexed comment_step legal_markup
comment_read ps s l = parts_walk ps _ l
