-- What each answer of a direct call means, place by place: a refusal is of the first place that refuses, and changes nothing.
use Rattle.std.specs.Prelude.{Err, None, Ok, Option, Result, Some}
use Prim.Native.Nat.{ℕ}
use mathlib.Core.Path.{◌≡◌, refl, sym, ◌∙◌, ap}
use mathlib.Core.Bool.{true, false}
use lib.IntN.{ℤ}
use mir.Syntax.{w64}
use mir.Val.{to_z}
use Rattle.base.specs.Bytes.{Bytes}
use Rattle.base.proofs.Split.{by_bool, no, clash}
use Rattle.text.specs.Check.{is_text}
use Rattle.kind.specs.declared.Kind.{Kind}
use Rattle.refusal.specs.declared.Refusal.{Refusal}
use Rattle.refusal.specs.declared.Refusal.TheVariants as R
use Rattle.model.specs.Record.{Meta, Record, claim_of}
use Rattle.compact.specs.Cut.{pushed_record}
use Rattle.compact.specs.Held.{meta_of, head_in}
use Rattle.compact.specs.Legal.{legal_meta, legal_handles, legal_texts, in_range, within_limits, limits, fault_of}
use Rattle.compact.specs.declared.ArenaMeta.{ArenaMeta}
use Rattle.compact.specs.declared.PushHead.{PushHead}
use Rattle.compact_legal.specs.Judge.{fault_for}
use Rattle.interner.specs.Strings as Strings
use Rattle.interner.specs.Interned as I
use Rattle.kind_store.specs.KindStore.{KindStore}
use Rattle.kind_store.specs.KindStore as KindStore
use Rattle.kind_store.specs.KindStore.{taken_in}
use Rattle.overlay.specs.Overlay.{Overlay, kind_store_of, with_kind_store, with_texts}
use Rattle.overlay.specs.Sound.{is_sound}
use Rattle.overlay.specs.Calls.{OverlayAfter, overlay_refused}
use Rattle.overlay_store.specs.Calls.{bytes_of, store_push, store_delete, Interning, handle_in, store_text}
use Rattle.overlay_direct.specs.Calls.{push_as, push_on, delete_on, not_interned, intern_on}
use Rattle.overlay_store.proofs.Answers.{is_full, by_pushed, by_deleted, store_text_refused, store_push_refused, store_delete_refused}
use Rattle.overlay.proofs.Answers.{is_taken, answered, taken_as, strings_sound}

-- ---- which refusals there are

-- the check of a record gives 17, 3, 10 or 16
pub by_fault : {C : Type 0} (strings : ℕ) (x : Option (Record ℕ)) (r : Refusal) → fault_for strings x ≡ Err r
    → (r ≡ R.BadRecord → C) → (r ≡ R.NotText → C) → (r ≡ R.CoordinateRange → C) → (r ≡ R.TooManyParts → C) → C
unfolding fault_for fault_of
by_fault strings None r e a b c d = a (cc)
by_fault strings (Some x) r e a b c d =
    by_bool (legal_handles strings x)
    (λ t. by_bool (legal_texts x)
    (λ u. by_bool (in_range x.body)
    (λ v. by_bool (within_limits limits x)
    (λ w. let z : (Ok tt) ≡ Err r = rw (t, u, v, w) at e in no (cc))
    (λ w. let z : Err R.TooManyParts ≡ Err r = rw (t, u, v, w) at e in d (cc)))
    (λ v. let z : Err R.CoordinateRange ≡ Err r = rw (t, u, v) at e in c (cc)))
    (λ u. let z : Err R.NotText ≡ Err r = rw (t, u) at e in b (cc)))
    (λ t. let z : Err R.BadRecord ≡ Err r = rw t at e in a (cc))

-- ---- direct push

module _ (k : Kind) (h : PushHead) (m : ArenaMeta) (parts : Bytes) (o : Overlay) where
  -- the check of what is pushed: 17, 3, 10, 16
  abbrev pub push_fault : Result Unit Refusal
  push_fault = fault_for o.texts.strings (pushed_record k (head_in k h) (meta_of m) parts)

  -- what the store does with it: 12, 14, 15
  abbrev pub push_stored : KindStore.KindStoreAfter
  push_stored = KindStore.pushed k o.setting (kind_store_of k o) (to_z w64 h.id) (claim_of (meta_of m)) (bytes_of k h m parts)

  as_fault : (f : Result Unit Refusal) → is_sound o ≡ true → push_fault ≡ f → push_on k h m parts o ≡ push_as f k h m parts o
  unfolding push_on
  as_fault f e g = rw (e, g)

  pub by_push_on : {C : Type 0}
      → (is_sound o ≡ false → push_on k h m parts o ≡ overlay_refused o R.Unsound → C)
      → ((r : Refusal) → is_sound o ≡ true → push_fault ≡ Err r → push_on k h m parts o ≡ overlay_refused o r → C)
      → (is_sound o ≡ true → push_fault ≡ (Ok tt) → push_on k h m parts o ≡ store_push k h m parts o → C) → C
  unfolding push_on
  by_push_on {C} unsound fault legal = by_bool (is_sound o) (λ e. go e push_fault refl) (λ e. unsound e (rw e))
    where
      go : is_sound o ≡ true → (f : Result Unit Refusal) → push_fault ≡ f → C
      go e (Ok tt) g = legal e g (as_fault (Ok tt) e g)
      go e (Err r) g = fault r e g (as_fault (Err r) e g)

  -- a refusal changes nothing
  pub push_refused : (r : Refusal) → (push_on k h m parts o).answer ≡ Err r → (push_on k h m parts o).overlay ≡ o
  push_refused r e =
      by_push_on (λ s w. ap (λ (z : OverlayAfter). z.overlay) w) (λ x s g w. ap (λ (z : OverlayAfter). z.overlay) w)
      (λ s g w. ap (λ (z : OverlayAfter). z.overlay) w ∙ store_push_refused o k h m parts r (answered w e))

  -- ---- 22, then 17, 3, 10, 16, then 12, 14, 15

  pub push_22 : is_sound o ≡ false → (push_on k h m parts o).answer ≡ Err R.Unsound
  push_22 e = by_push_on (λ s w. ap (λ (z : OverlayAfter). z.answer) w) (λ x s g w. clash s e) (λ s g w. clash s e)

  pub push_fault_lem : (r : Refusal) → is_sound o ≡ true → push_fault ≡ Err r → (push_on k h m parts o).answer ≡ Err r
  push_fault_lem r e g = ap (λ (z : OverlayAfter). z.answer) (as_fault (Err r) e g)

  pub push_store : is_sound o ≡ true → push_fault ≡ (Ok tt) → push_on k h m parts o ≡ store_push k h m parts o
  push_store e g = as_fault (Ok tt) e g

  -- an accepted push
  pub push_taken : taken_in (push_on k h m parts o).answer ≡ true
      → (is_sound o ≡ true) × ((push_fault ≡ (Ok tt)) × ((push_stored.answer ≡ (Ok tt)) × ((push_on k h m parts o).overlay ≡ with_kind_store k push_stored.kind_store o)))
  push_taken e =
      by_push_on (λ s w. let z : false ≡ true = taken_as w e in no (cc)) (λ x s g w. let z : false ≡ true = taken_as w e in no (cc))
      (λ s g w. (s, (g, (is_taken push_stored.answer (taken_as w e), ap (λ (z : OverlayAfter). z.overlay) w))))

  -- a refusal is of the first place that refuses
  pub push_refusal : {C : Type 0} (r : Refusal) → (push_on k h m parts o).answer ≡ Err r
      → (is_sound o ≡ false → r ≡ R.Unsound → C)
      → (is_sound o ≡ true → push_fault ≡ Err r → C)
      → (is_sound o ≡ true → push_fault ≡ (Ok tt) → push_stored.answer ≡ Err r → C) → C
  push_refusal r e unsound fault store =
      by_push_on (λ s w. let z = answered w e in unsound s (cc))
      (λ x s g w. let z = answered w e in let q : x ≡ r = cc in fault s (rw q at g))
      (λ s g w. store s g (answered w e))

  pub push_22_only : (push_on k h m parts o).answer ≡ Err R.Unsound → is_sound o ≡ false
  push_22_only e =
      push_refusal R.Unsound e (λ s q. s)
      (λ s g. by_fault o.texts.strings (pushed_record k (head_in k h) (meta_of m) parts) R.Unsound g (λ q. no (cc)) (λ q. no (cc)) (λ q. no (cc)) (λ q. no (cc)))
      (λ s g a. by_pushed k o.setting (kind_store_of k o) (to_z w64 h.id) (claim_of (meta_of m)) (bytes_of k h m parts) R.Unsound a (λ v q. no (cc)) (λ q. no (cc)) (λ q. no (cc)))

-- ---- direct delete

module _ (k : Kind) (id : ℤ) (m : Meta ℕ) (o : Overlay) where
  -- what the store does: 12, 14
  abbrev pub delete_stored : KindStore.KindStoreAfter
  delete_stored = KindStore.deleted k o.setting (kind_store_of k o) id (claim_of m)

  pub by_delete_on : {C : Type 0}
      → (is_sound o ≡ false → delete_on k id m o ≡ overlay_refused o R.Unsound → C)
      → (is_sound o ≡ true → legal_meta o.texts.strings m ≡ false → delete_on k id m o ≡ overlay_refused o R.BadRecord → C)
      → (is_sound o ≡ true → legal_meta o.texts.strings m ≡ true → delete_on k id m o ≡ store_delete k id (claim_of m) o → C) → C
  unfolding delete_on
  by_delete_on unsound bad legal =
      by_bool (is_sound o) (λ e. by_bool (legal_meta o.texts.strings m) (λ g. legal e g (rw (e, g))) (λ g. bad e g (rw (e, g)))) (λ e. unsound e (rw e))

  -- a refusal changes nothing
  pub delete_refused : (r : Refusal) → (delete_on k id m o).answer ≡ Err r → (delete_on k id m o).overlay ≡ o
  delete_refused r e =
      by_delete_on (λ s w. ap (λ (z : OverlayAfter). z.overlay) w) (λ s g w. ap (λ (z : OverlayAfter). z.overlay) w)
      (λ s g w. ap (λ (z : OverlayAfter). z.overlay) w ∙ store_delete_refused o k id (claim_of m) r (answered w e))

  -- ---- 22, then 17, then 12, 14

  pub delete_22 : is_sound o ≡ false → (delete_on k id m o).answer ≡ Err R.Unsound
  delete_22 e = by_delete_on (λ s w. ap (λ (z : OverlayAfter). z.answer) w) (λ s g w. clash s e) (λ s g w. clash s e)

  pub delete_17 : is_sound o ≡ true → legal_meta o.texts.strings m ≡ false → (delete_on k id m o).answer ≡ Err R.BadRecord
  delete_17 e g = by_delete_on (λ s w. clash e s) (λ s x w. ap (λ (z : OverlayAfter). z.answer) w) (λ s x w. clash x g)

  pub delete_store : is_sound o ≡ true → legal_meta o.texts.strings m ≡ true → delete_on k id m o ≡ store_delete k id (claim_of m) o
  delete_store e g = by_delete_on (λ s w. clash e s) (λ s x w. clash g x) (λ s x w. w)

  -- an accepted delete
  pub delete_taken : taken_in (delete_on k id m o).answer ≡ true
      → (is_sound o ≡ true) × ((legal_meta o.texts.strings m ≡ true) × ((delete_stored.answer ≡ (Ok tt)) × ((delete_on k id m o).overlay ≡ with_kind_store k delete_stored.kind_store o)))
  delete_taken e =
      by_delete_on (λ s w. let z : false ≡ true = taken_as w e in no (cc)) (λ s g w. let z : false ≡ true = taken_as w e in no (cc))
      (λ s g w. (s, (g, (is_taken delete_stored.answer (taken_as w e), ap (λ (z : OverlayAfter). z.overlay) w))))

  -- a refusal is of the first place that refuses
  pub delete_refusal : {C : Type 0} (r : Refusal) → (delete_on k id m o).answer ≡ Err r
      → (is_sound o ≡ false → r ≡ R.Unsound → C)
      → (is_sound o ≡ true → legal_meta o.texts.strings m ≡ false → r ≡ R.BadRecord → C)
      → (is_sound o ≡ true → legal_meta o.texts.strings m ≡ true → delete_stored.answer ≡ Err r → C) → C
  delete_refusal r e unsound bad store =
      by_delete_on (λ s w. let z = answered w e in unsound s (cc)) (λ s g w. let z = answered w e in bad s g (cc)) (λ s g w. store s g (answered w e))

  pub delete_22_only : (delete_on k id m o).answer ≡ Err R.Unsound → is_sound o ≡ false
  delete_22_only e =
      delete_refusal R.Unsound e (λ s q. s) (λ s g q. no (cc))
      (λ s g a. by_deleted k o.setting (kind_store_of k o) id (claim_of m) R.Unsound a (λ v q. no (cc)) (λ q. no (cc)))

  pub delete_17_only : (delete_on k id m o).answer ≡ Err R.BadRecord → (is_sound o ≡ true) × (legal_meta o.texts.strings m ≡ false)
  delete_17_only e =
      delete_refusal R.BadRecord e (λ s q. no (cc)) (λ s g q. (s, g))
      (λ s g a. by_deleted k o.setting (kind_store_of k o) id (claim_of m) R.BadRecord a (λ v q. no (cc)) (λ q. no (cc)))

-- ---- intern

handled : {a : Interning} {t : Overlay} {x y : Result ℕ Refusal} → a ≡ record { overlay = t; answer = x } → a.answer ≡ y → x ≡ y
handled {a} e f = sym (ap (λ (z : Interning). z.answer) e) ∙ f

module _ (t : Bytes) (o : Overlay) where
  pub by_intern_on : {C : Type 0}
      → (is_sound o ≡ false → intern_on t o ≡ not_interned o R.Unsound → C)
      → (is_sound o ≡ true → is_text t ≡ false → intern_on t o ≡ not_interned o R.NotText → C)
      → (is_sound o ≡ true → is_text t ≡ true → intern_on t o ≡ store_text t o → C) → C
  unfolding intern_on
  by_intern_on unsound bad text =
      by_bool (is_sound o) (λ e. by_bool (is_text t) (λ g. text e g (rw (e, g))) (λ g. bad e g (rw (e, g)))) (λ e. unsound e (rw e))

  -- a refusal is of the first place that refuses
  pub intern_refusal : {C : Type 0} (r : Refusal) → (intern_on t o).answer ≡ Err r
      → (is_sound o ≡ false → r ≡ R.Unsound → C)
      → (is_sound o ≡ true → is_text t ≡ false → r ≡ R.NotText → C)
      → (is_sound o ≡ true → is_text t ≡ true → (Strings.intern o.texts t).answer ≡ I.Full → r ≡ R.StringsFull → C) → C
  intern_refusal r e unsound bad full =
      by_intern_on (λ s w. let z = handled w e in unsound s (cc)) (λ s g w. let z = handled w e in bad s g (cc))
      (λ s g w. let z = is_full (Strings.intern o.texts t).answer r (handled w e) in full s g z.0 z.1)

  -- a refusal changes nothing
  pub intern_refused : (r : Refusal) → (intern_on t o).answer ≡ Err r → (intern_on t o).overlay ≡ o
  intern_refused r e =
      by_intern_on (λ s w. ap (λ (z : Interning). z.overlay) w) (λ s g w. ap (λ (z : Interning). z.overlay) w)
      (λ s g w. ap (λ (z : Interning). z.overlay) w ∙ store_text_refused o t (strings_sound o s) r (handled w e))

  -- ---- 22, then 3, then 13

  pub intern_22 : is_sound o ≡ false → (intern_on t o).answer ≡ Err R.Unsound
  intern_22 e = by_intern_on (λ s w. ap (λ (z : Interning). z.answer) w) (λ s g w. clash s e) (λ s g w. clash s e)

  pub intern_3 : is_sound o ≡ true → is_text t ≡ false → (intern_on t o).answer ≡ Err R.NotText
  intern_3 e g = by_intern_on (λ s w. clash e s) (λ s x w. ap (λ (z : Interning). z.answer) w) (λ s x w. clash x g)

  pub intern_store : is_sound o ≡ true → is_text t ≡ true → intern_on t o ≡ store_text t o
  intern_store e g = by_intern_on (λ s w. clash e s) (λ s x w. clash g x) (λ s x w. w)

  pub intern_22_only : (intern_on t o).answer ≡ Err R.Unsound → is_sound o ≡ false
  intern_22_only e = intern_refusal R.Unsound e (λ s q. s) (λ s g q. no (cc)) (λ s g f q. no (cc))

  pub intern_3_only : (intern_on t o).answer ≡ Err R.NotText → (is_sound o ≡ true) × (is_text t ≡ false)
  intern_3_only e = intern_refusal R.NotText e (λ s q. no (cc)) (λ s g q. (s, g)) (λ s g f q. no (cc))

  pub intern_13_only : (intern_on t o).answer ≡ Err R.StringsFull → (is_sound o ≡ true) × ((is_text t ≡ true) × ((Strings.intern o.texts t).answer ≡ I.Full))
  intern_13_only e = intern_refusal R.StringsFull e (λ s q. no (cc)) (λ s g q. no (cc)) (λ s g f q. (s, (g, f)))

  -- an accepted text
  pub intern_taken : (n : ℕ) → (intern_on t o).answer ≡ Ok n
      → (is_sound o ≡ true) × ((is_text t ≡ true) × ((handle_in (Strings.intern o.texts t).answer ≡ Ok n)
      × ((intern_on t o).overlay ≡ with_texts (Strings.intern o.texts t).store o)))
  intern_taken n e =
      by_intern_on (λ s w. let z = handled w e in no (cc)) (λ s g w. let z = handled w e in no (cc))
      (λ s g w. (s, (g, (handled w e, ap (λ (z : Interning). z.overlay) w))))
