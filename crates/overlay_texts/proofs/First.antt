-- The call is refused by the first condition of its table that holds, and accepted where none holds; where one of the first three holds, nothing lent changes.
use Rattle.std.specs.Prelude.{Option}
use Prim.Native.Nat.{ℕ}
use mathlib.Core.Path.{◌≡◌, sym, ◌∙◌, ap}
use mathlib.Core.List.{List, [], ◌∷◌}
use borrow.Author.Tests.{le-leb, lt-leb, lt-ltb, le-ltb}
use lib.ListN.{length}
use Rattle.base.specs.Bytes.{Bytes}
use Rattle.base.proofs.Split.{by_bool, by_le}
use Rattle.refusal.specs.First.{first_of}
use Rattle.refusal.proofs.First.{before, first_more}
use Rattle.refusal.specs.declared.Refusal.{Refusal}
use Rattle.overlay.specs.Overlay.{Overlay}
use Rattle.overlay.specs.Sound.{is_sound}
use Rattle.overlay.specs.First.{kept_by}
use Rattle.overlay_store.specs.First.{handle_refusal}
use Rattle.overlay_store.proofs.Answers.{by_handle}
use Rattle.overlay_direct.specs.Calls.{intern_on}
use Rattle.overlay_direct.specs.First.{intern_table}
use Rattle.overlay_direct.proofs.First.{intern_first}
use Rattle.overlay_texts.specs.Texts.{cut_texts, lengths_fit}
use Rattle.overlay_texts.specs.Calls.{TextsTaken, interns_on, intern_texts_on, given_answer}
use Rattle.overlay_texts.specs.First.{texts_table, intern_texts_table}
use Rattle.overlay_texts.proofs.Answers.{interns_none, interns_more, interns_off}

-- ---- texts: 22, 3, 13 of each

pub texts_first : (ts : List Bytes) (o : Overlay) → (interns_on ts o).answer ≡ kept_by (first_of (texts_table ts o))
unfolding texts_table first_of
texts_first [] o = ap (λ (z : TextsTaken). z.answer) (interns_none o)
texts_first (t ∷ ts) o =
    let m = first_more (intern_table t o) (texts_table ts (intern_on t o).overlay) in
    let f = sym (intern_first t o) in
    by_handle (intern_on t o).answer
    (λ h a. let n = f ∙ ap handle_refusal a in
    ap (λ (z : TextsTaken). z.answer) (interns_more t ts o h a)
    ∙ (texts_first ts (intern_on t o).overlay
    ∙ sym (ap kept_by (m ∙ ap (λ (z : Option Refusal). before z (first_of (texts_table ts (intern_on t o).overlay))) n))))
    (λ r a. let n = f ∙ ap handle_refusal a in
    ap (λ (z : TextsTaken). z.answer) (interns_off t ts o r a)
    ∙ sym (ap kept_by (m ∙ ap (λ (z : Option Refusal). before z (first_of (texts_table ts (intern_on t o).overlay))) n)))

-- ---- the call: 22, 17, 19 before them

module _ (lengths : List ℕ) (bytes : Bytes) (handles : List ℕ) (o : Overlay) where
  pub intern_texts_first : (intern_texts_on lengths bytes handles o).answer ≡ kept_by (first_of (intern_texts_table lengths bytes (length handles) o))
  unfolding intern_texts_on given_answer first_of
  intern_texts_first =
      let n = length lengths in
      let m = length handles in
      by_bool (is_sound o)
      (λ s. by_bool (lengths_fit lengths bytes)
      (λ f. by_le n m (λ l. rw (s, f, le-leb n m l, le-ltb m n l) (texts_first (cut_texts lengths bytes) o)) (λ l. rw (s, f, lt-leb n m l, lt-ltb m n l)))
      (λ f. rw (s, f)))
      (λ s. rw s)
