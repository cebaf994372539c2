-- What texts come to: each is an `intern`, one call each, up to the first that is refused; a refused call has taken in the texts before. What is handed in is tested first.
use Rattle.std.specs.Prelude.{Ok, Err}
use Prim.Native.Nat.{ℕ, suc, ◌≤◌}
use mathlib.Core.Path.{◌≡◌, refl, sym, ◌∙◌, ap}
use mathlib.Core.Bool.{true}
use mathlib.Core.List.{List, [], ◌∷◌, ◌++◌, map, flatten}
use borrow.Author.Tests.{le-leb, lt-leb}
use lib.ListN.{length, take, drop}
use Rattle.base.specs.Bytes.{Bytes}
use Rattle.base.proofs.Split.{by_bool, by_le, no}
use Rattle.refusal.specs.declared.Refusal.{Refusal}
use Rattle.refusal.specs.declared.Refusal.TheVariants as R
use Rattle.overlay.specs.Overlay.{Overlay}
use Rattle.overlay.specs.Sound.{is_sound}
use Rattle.overlay_store.proofs.Answers.{by_handle}
use Rattle.overlay_direct.specs.Calls.{intern_on}
use Rattle.overlay_texts.specs.Texts.{cut_texts, lengths_fit}
use Rattle.overlay_texts.specs.Calls.{TextsTaken, onto_handles, interns_on, handles_over, none_interned, given_answer, intern_texts_on}
use Rattle.overlay_direct.proofs.Answers.{intern_22, intern_refused}
use Rattle.little.proofs.Overs.{over_nothing}
use Rattle.overlay_texts.proofs.Texts.{cut_more, length_cut, cut_joined, joined_fit}

-- ---- the cases

pub interns_none : (o : Overlay) → interns_on [] o ≡ record { overlay = o; handles = []; answer = Ok tt }
unfolding interns_on
interns_none o = refl

module _ (t : Bytes) (ts : List Bytes) (o : Overlay) where
  pub interns_more : (h : ℕ) → (intern_on t o).answer ≡ Ok h → interns_on (t ∷ ts) o ≡ onto_handles h (interns_on ts (intern_on t o).overlay)
  unfolding interns_on
  interns_more h e = rw e

  pub interns_off : (r : Refusal) → (intern_on t o).answer ≡ Err r → interns_on (t ∷ ts) o ≡ record { overlay = (intern_on t o).overlay; handles = []; answer = Err r }
  unfolding interns_on
  interns_off r e = rw e

-- ---- how many are taken in

-- where nothing is refused, all
pub interned_all : (ts : List Bytes) (o : Overlay) → (interns_on ts o).answer ≡ Ok tt → length (interns_on ts o).handles ≡ length ts
interned_all [] o e = ap (λ (z : TextsTaken). length z.handles) (interns_none o)
interned_all (t ∷ ts) o e =
    by_handle (intern_on t o).answer
    (λ h a. let w = interns_more t ts o h a in
    ap (λ (z : TextsTaken). length z.handles) w ∙ ap suc (interned_all ts (intern_on t o).overlay (sym (ap (λ (z : TextsTaken). z.answer) w) ∙ e)))
    (λ r a. let z = sym (ap (λ (z : TextsTaken). z.answer) (interns_off t ts o r a)) ∙ e in no (cc))

-- where one is refused, those before it: they are accepted, and its call is the last
pub record RefusedText (ts : List Bytes) (o : Overlay) (r : Refusal) : Type 0 where
  pub before : List Bytes
  pub text : Bytes
  pub behind : List Bytes
  pub are : ts ≡ before ++ (text ∷ behind)
  pub accepted : (interns_on before o).answer ≡ Ok tt
  pub handles : (interns_on ts o).handles ≡ (interns_on before o).handles
  pub refused : (intern_on text (interns_on before o).overlay).answer ≡ Err r
  pub left : (interns_on ts o).overlay ≡ (intern_on text (interns_on before o).overlay).overlay

pub refused_text : (ts : List Bytes) (o : Overlay) (r : Refusal) → (interns_on ts o).answer ≡ Err r → RefusedText ts o r
refused_text [] o r e = let z = sym (ap (λ (z : TextsTaken). z.answer) (interns_none o)) ∙ e in no (cc)
refused_text (t ∷ ts) o r e =
    by_handle (intern_on t o).answer
    (λ h a. let w = interns_more t ts o h a in
    let q = refused_text ts (intern_on t o).overlay r (sym (ap (λ (z : TextsTaken). z.answer) w) ∙ e) in
    let k = interns_more t q.before o h a in
    record {
      before = t ∷ q.before;
      text = q.text;
      behind = q.behind;
      are = ap (t ∷◌) q.are;
      accepted = ap (λ (z : TextsTaken). z.answer) k ∙ q.accepted;
      handles = ap (λ (z : TextsTaken). z.handles) w ∙ (ap (h ∷◌) q.handles ∙ sym (ap (λ (z : TextsTaken). z.handles) k));
      refused = rw k q.refused;
      left = rw k (ap (λ (z : TextsTaken). z.overlay) w ∙ q.left);
    })
    (λ x a. let w = interns_off t ts o x a in
    let s : x ≡ r = let z = sym (ap (λ (z : TextsTaken). z.answer) w) ∙ e in cc in
    let k = interns_none o in
    record {
      before = [];
      text = t;
      behind = ts;
      are = refl;
      accepted = ap (λ (z : TextsTaken). z.answer) k;
      handles = ap (λ (z : TextsTaken). z.handles) w ∙ sym (ap (λ (z : TextsTaken). z.handles) k);
      refused = rw (k, ← s) a;
      left = rw k (ap (λ (z : TextsTaken). z.overlay) w);
    })

-- ---- the call

module _ (lengths : List ℕ) (bytes : Bytes) (room : ℕ) (o : Overlay) where
  -- what a test that accepts says
  pub given_ok : {u : Unit} → Ok u ≡ given_answer lengths bytes room o → (is_sound o ≡ true) × ((lengths_fit lengths bytes ≡ true) × (length lengths ≤ room))
  unfolding given_answer
  given_ok {u} e =
      by_bool (is_sound o)
      (λ s. by_bool (lengths_fit lengths bytes)
      (λ f. by_le (length lengths) room
      (λ l. (s, (f, l)))
      (λ l. let z : Ok u ≡ Err R.ShortOutput = rw (s, f, lt-leb (length lengths) room l) at e in no (cc)))
      (λ f. let z : Ok u ≡ Err R.BadRecord = rw (s, f) at e in no (cc)))
      (λ s. let z : Ok u ≡ Err R.Unsound = rw s at e in no (cc))

module _ (lengths : List ℕ) (bytes : Bytes) (handles : List ℕ) (o : Overlay) where
  pub all_refused : {r : Refusal} → Err r ≡ given_answer lengths bytes (length handles) o → intern_texts_on lengths bytes handles o ≡ none_interned handles o r
  unfolding intern_texts_on
  all_refused e = rw (← e)

  pub all_given : {u : Unit} → Ok u ≡ given_answer lengths bytes (length handles) o → intern_texts_on lengths bytes handles o ≡ handles_over handles (interns_on (cut_texts lengths bytes) o)
  unfolding intern_texts_on
  all_given e = rw (← e)

-- whatever texts a caller joins: with room for their handles they are taken in by one call as one by one
pub interned_joined : (ts : List Bytes) (handles : List ℕ) (o : Overlay) → is_sound o ≡ true → length ts ≤ length handles
    → intern_texts_on (map length ts) (flatten ts) handles o ≡ handles_over handles (interns_on ts o)
unfolding given_answer
interned_joined ts handles o s l =
    let n = sym (length_cut (map length ts) (flatten ts)) ∙ ap length (cut_joined ts) in
    let g : given_answer (map length ts) (flatten ts) (length handles) o ≡ Ok tt = rw (s, joined_fit ts, n, le-leb (length ts) (length handles) l) in
    all_given (map length ts) (flatten ts) handles o (sym g) ∙ ap (λ (x : List Bytes). handles_over handles (interns_on x o)) (cut_joined ts)

-- a call that is handed texts which fit, with room for their handles, is their interns, one call each, in unsound storage too
module _ (n : ℕ) (ns : List ℕ) (bytes : Bytes) (handles : List ℕ) (o : Overlay) (f : lengths_fit (n ∷ ns) bytes ≡ true) (l : length (n ∷ ns) ≤ length handles) where
  pub interned_fitting : intern_texts_on (n ∷ ns) bytes handles o ≡ handles_over handles (interns_on (cut_texts (n ∷ ns) bytes) o)
  unfolding given_answer
  interned_fitting =
      let t = take n bytes in
      let ts = cut_texts ns (drop n bytes) in
      by_bool (is_sound o)
      (λ s. let g : Ok tt ≡ given_answer (n ∷ ns) bytes (length handles) o = rw (s, f, le-leb (length (n ∷ ns)) (length handles) l) in
      all_given (n ∷ ns) bytes handles o g)
      (λ s. let g : Err R.Unsound ≡ given_answer (n ∷ ns) bytes (length handles) o = rw s in
      let a = intern_22 t o s in
      let k : (intern_on t o).overlay ≡ o = intern_refused t o R.Unsound a in
      all_refused (n ∷ ns) bytes handles o g
      ∙ (sym (λ i. record { overlay = k i; handles = over_nothing handles 0 i; answer = Err R.Unsound; taken = 0 })
      ∙ sym (ap (handles_over handles) (ap (λ (x : List Bytes). interns_on x o) (cut_more n ns bytes) ∙ interns_off t ts o R.Unsound a))))
