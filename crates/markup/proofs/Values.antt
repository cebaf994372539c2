-- The automaton reads exactly the legal attribute values, as their normalized values.
use Rattle.markup.specs.Automaton.{Moved, continues, completes, malformed, finished, lexed, inner_step, ReferenceState, behind_ampersand, reference_step, ValueState, in_value, in_reference, raw_step, value_step}
use Rattle.markup.specs.Names.{white_space}
use Rattle.markup.specs.References.{Reference, written_reference, referred}
use Rattle.markup.specs.Markup.{each_written, QuoteMark, double_mark, single_mark, mark_char, ValuePart, raw_char, reference, legal_part, written_part, normal_ends, normal_chars, value_chars}
use Rattle.markup.proofs.Lexing.{Kept, moved_char, inner_lexed}
use Rattle.markup.proofs.Parts.{all_more, written_more}
use Rattle.markup.proofs.References.{ReferenceRead, ReferenceReading, reference_kept, behind_amp, reference_text, reference_read}
use Prim.Native.Nat.{ℕ}
use mathlib.Core.Path.{◌≡◌, refl, sym, ◌∙◌, ap}
use mathlib.Core.Bool.{Bool, true, false, cond}
use mathlib.Core.List.{List, [], ◌∷◌, ◌++◌, append_assoc, append-nil}
use lib.Dec.{eqb}
use borrow.Author.Tests.{eqb-true, eq-eqb, not-true}
use Rattle.base.specs.Bytes.{both, either, all}
use Rattle.base.proofs.Split.{clash, by_bool, both_left, both_right, both_of}
use Rattle.base.proofs.Lists.{all_nil, all_head, all_tail}
use Rattle.text.specs.Char.{xml_char}

-- the text is a legal value and its quote mark, and the value is normalized to the characters
pub record ValueRead (q : QuoteMark) (before : List ℕ → List ℕ) (v : List ℕ) : Type 0 where
  pub parts : List ValuePart
  pub legal : all (legal_part q) parts ≡ true
  pub value : v ≡ value_chars parts
  pub text : (s : List ℕ) → before s ≡ each_written written_part parts ++ (mark_char q ∷ s)

-- the text is parts of a legal value, and however it goes on the characters begin its normalized value
pub record ValuePartsReading (q : QuoteMark) (before : List ℕ → List ℕ) (cr : Bool) (v : List ℕ) : Type 0 where
  pub parts : List ValuePart
  pub legal : all (legal_part q) parts ≡ true
  pub value : (ps : List ValuePart) → value_chars (parts ++ ps) ≡ v ++ normal_chars (normal_ends cr ps)
  pub text : (s : List ℕ) → before s ≡ each_written written_part parts ++ s

pub record InReference (q : QuoteMark) (before : List ℕ → List ℕ) (v : List ℕ) (r : ReferenceState) : Type 0 where
  pub outer : List ℕ → List ℕ
  pub inner : List ℕ → List ℕ
  pub cr : Bool
  pub parts : ValuePartsReading q outer cr v
  pub read : ReferenceReading inner r
  pub text : (s : List ℕ) → before s ≡ outer (inner s)

abbrev pub ValueReading : QuoteMark → (List ℕ → List ℕ) → ValueState → Type 0
ValueReading q before (in_value cr v) = ValuePartsReading q before cr v
ValueReading q before (in_reference v r) = InReference q before v r

abbrev pub ValueKept : QuoteMark → (List ℕ → List ℕ) → Moved ValueState (List ℕ) → Type 0
ValueKept q = Kept (value_step q) (ValueReading q) (ValueRead q)

pub value_begins : (q : QuoteMark) → ValuePartsReading q (λ s. s) false []
unfolding each_written
value_begins q = record { parts = []; legal = all_nil (legal_part q); value = λ ps. refl; text = λ s. refl }

white_feed : white_space 10 ≡ true
unfolding white_space either
white_feed = refl

white_return : white_space 13 ≡ true
unfolding white_space either
white_return = refl

module _ (q : QuoteMark) (before : List ℕ → List ℕ) (cr : Bool) (v : List ℕ) (r : ValuePartsReading q before cr v) where
  value_ends : (c : ℕ) → eqb c (mark_char q) ≡ true → ValueRead q (λ s. before (c ∷ s)) v
  unfolding normal_ends normal_chars
  value_ends c t = record {
    parts = r.parts;
    legal = r.legal;
    value = sym (append-nil v) ∙ (sym (r.value []) ∙ ap value_chars (append-nil r.parts));
    text = λ s. r.text (c ∷ s) ∙ ap (λ d. each_written written_part r.parts ++ (d ∷ s)) (eqb-true c (mark_char q) t);
  }

  -- one part more
  part_more : (p : ValuePart) (cr' : Bool) (w : List ℕ) → legal_part q p ≡ true
      → ((ps : List ValuePart) → v ++ normal_chars (normal_ends cr (p ∷ ps)) ≡ w ++ normal_chars (normal_ends cr' ps))
      → (after : List ℕ → List ℕ) → ((s : List ℕ) → after s ≡ before (written_part p ++ s)) → ValuePartsReading q after cr' w
  part_more p cr' w l n after t = record {
    parts = r.parts ++ (p ∷ []);
    legal = all_more (legal_part q) r.parts p r.legal l;
    value = λ ps. ap value_chars (sym (moved_char r.parts p ps)) ∙ (r.value (p ∷ ps) ∙ n ps);
    text = λ s. t s ∙ (r.text (written_part p ++ s) ∙ sym (written_more written_part r.parts p s));
  }

  raw_legal : (c : ℕ) → eqb c (mark_char q) ≡ false → eqb c 38 ≡ false → eqb c 60 ≡ false → xml_char c ≡ true → legal_part q (raw_char c) ≡ true
  unfolding legal_part either
  raw_legal c m a l x = rw (m, a, l, x) (both_of refl refl)

  raw_kept : (c : ℕ) → legal_part q (raw_char c) ≡ true → ValueKept q (λ s. before (c ∷ s)) (raw_step cr v c)
  unfolding normal_ends normal_chars written_part
  raw_kept c l =
      by_bool (both cr (eqb c 10))
      (λ t. rw t (part_more (raw_char c) false v l (λ ps. rw t) (λ s. before (c ∷ s)) (λ s. refl)))
      (λ f. by_bool (eqb c 13)
      (λ t. let e = eqb-true c 13 t in
      rw (f, t) (part_more (raw_char c) true (v ++ (cond (white_space c) 32 c ∷ [])) l
      (λ ps. rw (f, t, white_feed, e, white_return) (moved_char v 32 (normal_chars (normal_ends true ps)))) (λ s. before (c ∷ s)) (λ s. refl)))
      (λ t. rw (f, t) (part_more (raw_char c) false (v ++ (cond (white_space c) 32 c ∷ [])) l
      (λ ps. rw (f, t) (moved_char v (cond (white_space c) 32 c) (normal_chars (normal_ends false ps)))) (λ s. before (c ∷ s)) (λ s. refl))))

  in_value_kept : (c : ℕ) → ValueKept q (λ s. before (c ∷ s)) (value_step q (in_value cr v) c)
  unfolding value_step ReferenceReading
  in_value_kept c =
      by_bool (eqb c (mark_char q))
      (λ t. rw t (value_ends c t))
      (λ m. by_bool (eqb c 38)
      (λ t. let e = eqb-true c 38 t in rw (m, t) (record { outer = before; inner = λ s. 38 ∷ s; cr = cr; parts = r; read = λ s. refl; text = λ s. ap (λ d. before (d ∷ s)) e }))
      (λ a. by_bool (eqb c 60)
      (λ t. rw (m, a, t) tt)
      (λ l. by_bool (xml_char c)
      (λ x. rw (m, a, l, x) (raw_kept c (raw_legal c m a l x)))
      (λ x. rw (m, a, l, x) tt))))

reference_more : (q : QuoteMark) (before : List ℕ → List ℕ) (v : List ℕ) (s : ReferenceState) (c : ℕ) (i : InReference q before v s) (m : Moved ReferenceState ℕ)
    → Kept reference_step ReferenceReading ReferenceRead (λ t. i.inner (c ∷ t)) m
    → ValueKept q (λ t. before (c ∷ t)) (inner_step (in_reference v) (λ d. in_value false (v ++ (d ∷ []))) m)
unfolding legal_part written_part normal_ends normal_chars
reference_more q before v s c i (continues p) k =
    record { outer = i.outer; inner = λ t. i.inner (c ∷ t); cr = i.cr; parts = i.parts; read = k; text = λ t. i.text (c ∷ t) }
reference_more q before v s c i (completes d) (r, (l, (t, e))) =
    part_more q i.outer i.cr v i.parts (reference r) false (v ++ (d ∷ [])) l
    (λ ps. moved_char v (referred r) (normal_chars (normal_ends false ps)) ∙ ap (λ x. (v ++ (x ∷ [])) ++ normal_chars (normal_ends false ps)) (sym e))
    (λ w. before (c ∷ w)) (λ w. i.text (c ∷ w) ∙ ap i.outer (t w))
reference_more q before v s c i malformed k = tt

-- a step keeps what is read so
pub value_kept : (q : QuoteMark) (before : List ℕ → List ℕ) (w : ValueState) (c : ℕ) → ValueReading q before w → ValueKept q (λ s. before (c ∷ s)) (value_step q w c)
unfolding value_step
value_kept q before (in_value cr v) c r = in_value_kept q before cr v r c
value_kept q before (in_reference v p) c i = reference_more q before v p c i (reference_step p c) (reference_kept i.inner p c i.read)

-- ---- and each legal value is read

neither : (a b : Bool) → either a b ≡ false → (a ≡ false) × (b ≡ false)
unfolding either
neither false b e = (refl, e)
neither true b e = clash refl e

mark_other : (q : QuoteMark) → eqb 38 (mark_char q) ≡ false
mark_other double_mark = refl
mark_other single_mark = refl

abbrev ValueFrom : QuoteMark → List ValuePart → Bool → List ℕ → List ℕ → Type 0
ValueFrom q ps cr v rest =
    lexed (value_step q) (in_value cr v) (each_written written_part ps ++ (mark_char q ∷ rest)) ≡ finished (v ++ normal_chars (normal_ends cr ps)) rest

raw_read : (q : QuoteMark) (c : ℕ) (ps : List ValuePart) (cr : Bool) (v rest : List ℕ) → legal_part q (raw_char c) ≡ true
    → ((cr' : Bool) (w : List ℕ) → ValueFrom q ps cr' w rest) → ValueFrom q (raw_char c ∷ ps) cr v rest
unfolding lexed value_step each_written written_part normal_ends normal_chars legal_part
raw_read q c ps cr v rest l h =
    let x = both_left _ _ l in
    let n = neither (eqb c 60) (either (eqb c 38) (eqb c (mark_char q))) (not-true _ (both_right (xml_char c) _ l)) in
    let k = neither (eqb c 38) (eqb c (mark_char q)) n.1 in
    by_bool (both cr (eqb c 10))
    (λ t. rw (k.1, k.0, n.0, x, t) (h false v))
    (λ f. by_bool (eqb c 13)
    (λ t. let e = eqb-true c 13 t in
    rw (k.1, k.0, n.0, x, f, t, white_feed, e, white_return) (h true (v ++ (32 ∷ [])) ∙ ap (λ w. finished w rest) (sym (moved_char v 32 (normal_chars (normal_ends true ps))))))
    (λ t. rw (k.1, k.0, n.0, x, f, t)
    (h false (v ++ (cond (white_space c) 32 c ∷ [])) ∙ ap (λ w. finished w rest) (sym (moved_char v (cond (white_space c) 32 c) (normal_chars (normal_ends false ps)))))))

reference_in : (q : QuoteMark) (r : Reference) (ps : List ValuePart) (cr : Bool) (v rest : List ℕ) → legal_part q (reference r) ≡ true
    → ((w : List ℕ) → ValueFrom q ps false w rest) → ValueFrom q (reference r ∷ ps) cr v rest
unfolding lexed value_step each_written written_part normal_ends normal_chars legal_part
reference_in q r ps cr v rest l h =
    let tail = each_written written_part ps ++ (mark_char q ∷ rest) in
    let t = append_assoc (written_reference r) (each_written written_part ps) (mark_char q ∷ rest) ∙ reference_text r tail in
    let i = inner_lexed reference_step (value_step q) (in_reference v) (λ d. in_value false (v ++ (d ∷ []))) (λ p c. refl) (behind_amp r tail) behind_ampersand tail (referred r) (reference_read r tail l) in
    rw (t, mark_other q) (i ∙ (h (v ++ (referred r ∷ [])) ∙ ap (λ w. finished w rest) (sym (moved_char v (referred r) (normal_chars (normal_ends false ps))))))

pub parts_read : (q : QuoteMark) (ps : List ValuePart) (cr : Bool) (v rest : List ℕ) → all (legal_part q) ps ≡ true
    → lexed (value_step q) (in_value cr v) (each_written written_part ps ++ (mark_char q ∷ rest)) ≡ finished (v ++ normal_chars (normal_ends cr ps)) rest
unfolding lexed value_step each_written normal_ends normal_chars
parts_read q [] cr v rest l = rw (eq-eqb (mark_char q) (mark_char q) refl, append-nil v)
parts_read q (raw_char c ∷ ps) cr v rest l = raw_read q c ps cr v rest (all_head (legal_part q) (raw_char c) ps l) (λ cr' w. parts_read q ps cr' w rest (all_tail (legal_part q) (raw_char c) ps l))
parts_read q (reference r ∷ ps) cr v rest l = reference_in q r ps cr v rest (all_head (legal_part q) (reference r) ps l) (λ w. parts_read q ps false w rest (all_tail (legal_part q) (reference r) ps l))
