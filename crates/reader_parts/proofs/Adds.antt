-- A child by its cases: its text refused, over the limits, staged.
use Rattle.std.specs.Prelude.{Err, Ok, Result}
use Prim.Native.Nat.{ℕ, ◌+◌, ◌-◌, ◌*◌, ◌≤◌, ◌<◌}
use mathlib.Core.Path.{◌≡◌, sym, ◌∙◌, ap}
use mathlib.Core.Bool.{Bool, true, false}
use native.Mathlib.Omega.{arith}
use lib.Dec.{leb, ltb}
use lib.ListN.{length}
use borrow.Author.Tests.{ltb-true, ltb-false, leb-true, le-leb, lt-leb}
use Rattle.base.specs.Bytes.{Bytes, both}
use Rattle.base.proofs.Split.{by_bool, by_le, no, both_left, both_right, both_no_left, both_no_right}
use Rattle.refusal.specs.declared.Refusal.{Refusal}
use Rattle.kind.specs.declared.Kind.{Kind}
use Rattle.kind.specs.declared.Kind.TheVariants as K
use Rattle.model.specs.Record.{Member, Tag}
use Rattle.compact.specs.Legal.{limits}
use Rattle.compact.specs.declared.PushHead.{PushHead}
use Rattle.reader_stage.specs.Stage.{staged, member_part, tag_part}
use Rattle.text_index.specs.Chained.{HandleChains, ChainsServe}
use Rattle.overlay.specs.Overlay.{Overlay}
use Rattle.overlay_store.specs.Calls.{Interning, store_text}
use Rattle.overlay_store.proofs.Answers.{by_handle}
use Rattle.reader_texts.proofs.Handles.{text_kept}
use Rattle.reader.specs.declared.Pending.{Pending}
use Rattle.reader.specs.State.{State, middle, values_in, more_tags, more_parts}
use Rattle.reader.specs.Step.{member_bits}
use Rattle.reader_parts.specs.Parts.{Adding, tag_fits, part_fits, refusal_over, pending_with, with_overlay, child_worked, add_part, add_with}

-- ---- a child with a text

-- one: whether it is within the limits, its text, and by the text's handle its part
pub record TextChild : Type 0 where
  pub within : Bool
  pub text : Bytes
  pub head : PushHead
  pub at : ℕ
  pub part : ℕ → Bytes

abbrev pub tag_child : State → Tag Bytes → TextChild
tag_child s t =
    record {
      within = tag_fits s.reader.place.kind s.reader.pending (length t.value);
      text = t.key;
      head = more_tags s.reader.pending.head;
      at = s.reader.pending.used;
      part = λ key. tag_part key t.value;
    }

abbrev pub member_child : State → Member Bytes → TextChild
member_child s m =
    record {
      within = part_fits s.reader.pending limits.members;
      text = m.role;
      head = more_parts s.reader.pending.head;
      at = middle s.reader.place.kind s.reader.pending.head.count;
      part = λ role. member_part (member_bits m role);
    }

abbrev pub text_added : State → TextChild → Adding
text_added s y = add_with y.within y.text y.head y.at y.part s.reader.pending s.parts s.overlay

-- a state with another element and other lent bytes
abbrev pub with_part : State → Pending → Bytes → State
with_part s x parts =
    record { overlay = s.overlay; reader = record { place = s.reader.place; pending = x; lines = s.reader.lines; stop = s.reader.stop }; parts = parts }

module _ (s : State) (y : TextChild) where
  -- what the calls left is what is to be left: its text taken in
  module _ {q : Overlay} {a : Result ℕ Refusal} (stored : record { overlay = q; answer = a } ≡ store_text y.text s.overlay) where
    answered : (store_text y.text s.overlay).answer ≡ a
    answered = sym (ap (λ (i : Interning). i.answer) stored)

    after : (store_text y.text s.overlay).overlay ≡ q
    after = sym (ap (λ (i : Interning). i.overlay) stored)

    -- the part is staged
    pub staged_left : {n : ℕ} → y.within ≡ true → a ≡ Ok n → {m : State} → m ≡ with_overlay q s → (x : Bytes) → x ≡ y.part n → {parts : Bytes} {p : Pending}
        → parts ≡ staged m.parts s.reader.pending.used y.at x → p ≡ pending_with y.head x s.reader.pending
        → record { state = with_part m p parts; answer = Ok tt } ≡ child_worked s (text_added s y)
    unfolding add_with
    staged_left w e k x f g h = rw (g, h, k, f, answered ∙ e, w, after)

    -- its text refused
    pub refused_left : {r : Refusal} → a ≡ Err r → {m : State} → m ≡ with_overlay q s → record { state = m; answer = Err r } ≡ child_worked s (text_added s y)
    unfolding add_with
    refused_left {r} e k =
        let z : q ≡ s.overlay = sym after ∙ text_kept y.text s.overlay r (answered ∙ e) in
        rw (k, answered ∙ e, z)

  -- over the limits: 13 where the text would be refused, else 16
  pub over_left : {r : Result Unit Refusal} → y.within ≡ false → {o : Overlay} → o ≡ s.overlay → {chains : HandleChains} → ChainsServe chains s.overlay.texts
      → (ChainsServe chains o.texts → r ≡ Err (refusal_over (store_text y.text o).answer)) → record { state = s; answer = r } ≡ child_worked s (text_added s y)
  unfolding add_with
  over_left w q i h =
      let e = (rw q at h) i in
      by_handle (store_text y.text s.overlay).answer
      (λ n f. rw (e, f, w))
      (λ r f. rw (e, f))

  -- a refused child changes nothing
  pub text_child_kept : (r : Refusal) → (text_added s y).answer ≡ Err r → ((text_added s y).overlay ≡ s.overlay) × ((text_added s y).parts ≡ s.parts)
  unfolding add_with
  text_child_kept r e =
      by_handle (store_text y.text s.overlay).answer
      (λ n f.
      by_bool y.within
      (λ w. let q : Ok (pending_with y.head (y.part n) s.reader.pending) ≡ Err r = rw (f, w) at e in let z : ◌≡◌ {A = ℕ} 0 1 = cc in no z)
      (λ w. (rw (f, w), rw (f, w))))
      (λ x f. (rw f, rw f))

-- ---- a child with none

module _ (within : Bool) (h : PushHead) (at : ℕ) (part : Bytes) (x : Pending) (parts : Bytes) (o q : Overlay) where
  pub part_kept : (r : Refusal) → (add_part within h at part x parts o q).answer ≡ Err r → ((add_part within h at part x parts o q).overlay ≡ o) × ((add_part within h at part x parts o q).parts ≡ parts)
  part_kept r e =
      by_bool within
      (λ w. let z : Ok (pending_with h part x) ≡ Err r = rw w at e in let n : ◌≡◌ {A = ℕ} 0 1 = cc in no n)
      (λ w. (rw w, rw w))

-- ---- the limits

-- a number below a limit, and one more at most it
pub below_one_more : (a b : ℕ) → ltb a b ≡ leb (a + 1) b
below_one_more a b =
    by_bool (ltb a b)
    (λ e. e ∙ sym (le-leb (a + 1) b (omega (arith, ltb-true a b e))))
    (λ e. e ∙ sym (lt-leb (a + 1) b (omega (arith, ltb-false a b e))))

-- a sum within a limit, and one of its parts within what the other leaves
pub within_rest : (n held limit : ℕ) → held ≤ limit → leb n (limit - held) ≡ leb (held + n) limit
within_rest n held limit h =
    by_le (held + n) limit
    (λ k. le-leb n (limit - held) (omega arith) ∙ sym (le-leb (held + n) limit k))
    (λ k. lt-leb n (limit - held) (omega arith) ∙ sym (lt-leb (held + n) limit k))

module _ (k : Kind) (x : Pending) (n : ℕ) where
  pub fits_yes : tag_fits k x n ≡ true → (x.head.tags < 256) × (n ≤ 16384)
  fits_yes e =
      let p = leb-true (x.head.tags + 1) 256 (both_left _ _ e) in
      let q = leb-true (values_in k x.head x.used + n) 16384 (both_right (leb (x.head.tags + 1) 256) _ e) in
      (omega arith, omega arith)

  pub fits_rest : x.head.tags < 256 → values_in k x.head x.used ≤ 16384 → leb n (16384 - values_in k x.head x.used) ≡ tag_fits k x n
  unfolding both
  fits_rest p q = rw (le-leb (x.head.tags + 1) 256 (omega arith)) (within_rest n (values_in k x.head x.used) 16384 q)

  pub fits_no_values : 16384 < values_in k x.head x.used → tag_fits k x n ≡ false
  fits_no_values q = both_no_right (leb (x.head.tags + 1) 256) (lt-leb (values_in k x.head x.used + n) 16384 (omega arith))

  pub fits_no_tags : 256 ≤ x.head.tags → tag_fits k x n ≡ false
  fits_no_tags q = both_no_left _ _ (lt-leb (x.head.tags + 1) 256 (omega arith))

-- a ref takes 8 bytes, a member 13
pub middle_most : (k : Kind) (n : ℕ) → middle k n ≤ 13 * n
middle_most K.Node n = omega arith
middle_most K.Way n = omega arith
middle_most K.Relation n = omega arith
