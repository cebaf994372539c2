-- T4: each direct call is refused by the first condition of its table that holds, and accepted where none holds.
use Rattle.std.specs.Prelude.{Err, None, Ok, Option, Some}
use Prim.Native.Nat.{ℕ}
use mathlib.Core.Path.{◌≡◌, refl, sym, ◌∙◌, ap}
use mathlib.Core.Bool.{true}
use mathlib.Core.List.{List, ◌++◌}
use lib.IntN.{ℤ}
use mir.Syntax.{w64}
use mir.Val.{to_z}
use Rattle.base.specs.Bytes.{Bytes}
use Rattle.base.proofs.Split.{by_bool, no}
use Rattle.kind.specs.declared.Kind.{Kind}
use Rattle.refusal.specs.declared.Refusal.{Refusal}
use Rattle.model.specs.Record.{Meta, Record, claim_of}
use Rattle.compact.specs.Cut.{pushed_record}
use Rattle.compact.specs.Held.{meta_of, head_in}
use Rattle.compact.specs.Legal.{legal_handles, legal_texts, in_range, within_limits, limits, fault_of}
use Rattle.compact.specs.declared.ArenaMeta.{ArenaMeta}
use Rattle.compact.specs.declared.PushHead.{PushHead}
use Rattle.compact_legal.specs.Judge.{fault_answer, fault_for}
use Rattle.overlay.specs.Overlay.{Overlay, kind_store_of}
use Rattle.overlay.specs.Sound.{is_sound}
use Rattle.overlay_store.specs.Calls.{bytes_of}
use Rattle.overlay_direct.specs.Calls.{push_on, delete_on, intern_on}
use Rattle.refusal.specs.First.{ConditionRow, first_of}
use Rattle.overlay.specs.First.{kept_by}
use Rattle.overlay_direct.specs.First.{record_rows, check_rows, store_rows, push_table, delete_table, intern_table}
use Rattle.overlay_store.specs.First.{handle_refusal}
use Rattle.overlay.proofs.Answers.{strings_sound}
use Rattle.overlay_direct.proofs.Answers.{by_push_on, by_delete_on, by_intern_on}
use Rattle.refusal.proofs.First.{before, first_more}
use Rattle.overlay_store.proofs.First.{interned_first, deleted_first, pushed_first}
use Rattle.overlay.proofs.First.{unsound_first, sound_first}

-- ---- what is pushed: 17, 3, 10, 16

fault_first : (strings : ℕ) (x : Option (Record ℕ)) → fault_for strings x ≡ fault_answer (first_of (record_rows strings x))
unfolding first_of fault_for fault_of
fault_first strings None = refl
fault_first strings (Some r) =
    by_bool (legal_handles strings r)
    (λ t. by_bool (legal_texts r)
    (λ u. by_bool (in_range r.body) (λ v. by_bool (within_limits limits r) (λ w. rw (t, u, v, w)) (λ w. rw (t, u, v, w))) (λ v. rw (t, u, v)))
    (λ u. rw (t, u)))
    (λ t. rw t)

-- ---- direct push and delete

is_none : (x : Option Refusal) → fault_answer x ≡ (Ok tt) → x ≡ None
is_none None e = refl
is_none (Some r) e = no (cc)

is_some : (x : Option Refusal) (r : Refusal) → fault_answer x ≡ Err r → x ≡ Some r
is_some None r e = no (cc)
is_some (Some x) r e = cc

module _ (k : Kind) (h : PushHead) (m : ArenaMeta) (parts : Bytes) (o : Overlay) where
  abbrev check : List (ConditionRow Refusal)
  check = check_rows k h m parts o

  abbrev store : List (ConditionRow Refusal)
  store = store_rows k h m parts o

  by_check : (x : Option Refusal) → is_sound o ≡ true → first_of check ≡ x → first_of (push_table k h m parts o) ≡ before x (first_of store)
  by_check x s e = sound_first o (check ++ store) s ∙ (first_more check store ∙ ap (λ (z : Option Refusal). before z (first_of store)) e)

  pub push_first : (push_on k h m parts o).answer ≡ kept_by (first_of (push_table k h m parts o))
  push_first =
      let c = fault_first o.texts.strings (pushed_record k (head_in k h) (meta_of m) parts) in
      by_push_on k h m parts o
      (λ s w. rw w (sym (ap kept_by (unsound_first o (check ++ store) s))))
      (λ r s g w. rw w (sym (ap kept_by (by_check (Some r) s (is_some (first_of check) r (sym c ∙ g))))))
      (λ s g w. rw w (pushed_first k o.setting (kind_store_of k o) (to_z w64 h.id) (claim_of (meta_of m)) (bytes_of k h m parts)
      ∙ sym (ap kept_by (by_check None s (is_none (first_of check) (sym c ∙ g))))))

module _ (k : Kind) (id : ℤ) (m : Meta ℕ) (o : Overlay) where
  pub delete_first : (delete_on k id m o).answer ≡ kept_by (first_of (delete_table k id m o))
  unfolding first_of
  delete_first =
      by_delete_on k id m o (λ s w. rw (w, s)) (λ s g w. rw (w, s, g))
      (λ s g w. rw (w, s, g) (deleted_first k o.setting (kind_store_of k o) id (claim_of m)))

-- ---- intern: 22, 3, 13

module _ (t : Bytes) (o : Overlay) where
  pub intern_first : handle_refusal (intern_on t o).answer ≡ first_of (intern_table t o)
  unfolding first_of
  intern_first =
      by_intern_on t o (λ s w. rw (w, s)) (λ s g w. rw (w, s, g)) (λ s g w. rw (w, s, g) (interned_first o.texts t (strings_sound o s)))
