-- What each answer of the store means: which refusals there are, and that a refusal changes nothing.
use Rattle.std.specs.Prelude.{Err, Ok, Option, Result}
use Prim.Native.Nat.{ℕ}
use mathlib.Core.Path.{◌≡◌, refl}
use lib.IntN.{ℤ}
use mir.Syntax.{w64}
use mir.Val.{to_z}
use Rattle.base.specs.Bytes.{Bytes}
use Rattle.base.proofs.Split.{no}
use Rattle.kind.specs.declared.Kind.{Kind}
use Rattle.refusal.specs.declared.Refusal.{Refusal}
use Rattle.refusal.specs.declared.Refusal.TheVariants as R
use Rattle.model.specs.Record.{claim_of}
use Rattle.compact.specs.Held.{meta_of}
use Rattle.compact.specs.declared.ArenaMeta.{ArenaMeta}
use Rattle.compact.specs.declared.PushHead.{PushHead}
use Rattle.interner.specs.Strings.{intern}
use Rattle.interner.specs.Interned.{Interned}
use Rattle.interner.specs.Interned as I
use Rattle.interner.proofs.Interns as Interns
use Rattle.kind_store.specs.KindStore.{KindStore}
use Rattle.kind_store.specs.KindStore as KindStore
use Rattle.kind_store.proofs.Answers as KindStores
use Rattle.overlay.specs.Overlay.{Overlay, kind_store_of}
use Rattle.overlay.proofs.Answers.{kind_store_back}
use Rattle.overlay_store.specs.Calls.{handle_in, bytes_of, store_text, store_push, store_delete}

-- a text has a handle or is refused
pub by_handle : {C : Type 0} (x : Result ℕ Refusal) → ((n : ℕ) → x ≡ Ok n → C) → ((r : Refusal) → x ≡ Err r → C) → C
by_handle (Ok n) f g = f n refl
by_handle (Err r) f g = g r refl

-- 13 is that the strings are full
pub is_full : (i : Interned) (r : Refusal) → handle_in i ≡ Err r → (i ≡ I.Full) × (r ≡ R.StringsFull)
is_full (I.Held h) r e = no (cc)
is_full (I.New h) r e = no (cc)
is_full I.Full r e = (refl, cc)

-- the store gives 12, 14 or 15
module _ {C : Type 0} (k : Kind) (setting : ℕ) (s : KindStore) (id : ℤ) (claim : Option ℤ) where
  pub by_pushed : (bytes : Bytes) (r : Refusal) → (KindStore.pushed k setting s id claim bytes).answer ≡ Err r
      → ((v : ℤ) → r ≡ R.Regression v → C) → (r ≡ R.IdsFull → C) → (r ≡ R.ArenaFull → C) → C
  by_pushed bytes r e a b c =
      KindStores.by_push k setting s id claim bytes (λ v q w. let z = KindStores.answered w e in a v (cc)) (λ q x w. let z = KindStores.answered w e in b (cc))
      (λ q x l w. let z = KindStores.answered w e in c (cc)) (λ q x l w. let z = KindStores.answered w e in no (cc))

  pub by_deleted : (r : Refusal) → (KindStore.deleted k setting s id claim).answer ≡ Err r → ((v : ℤ) → r ≡ R.Regression v → C) → (r ≡ R.IdsFull → C) → C
  by_deleted r e a b =
      KindStores.by_delete k setting s id claim (λ v q w. let z = KindStores.answered w e in a v (cc)) (λ q x w. let z = KindStores.answered w e in b (cc))
      (λ q x w. let z = KindStores.answered w e in no (cc))

-- ---- a refusal changes nothing

module _ (o : Overlay) where
  pub store_text_refused : (t : Bytes) → Interns.Sound o.texts → (r : Refusal) → (store_text t o).answer ≡ Err r → (store_text t o).overlay ≡ o
  store_text_refused t p r e =
      let n : (intern o.texts t).store ≡ o.texts = Interns.full_same o.texts t p (is_full (intern o.texts t).answer r e).0 in rw n

  pub store_push_refused : (k : Kind) (h : PushHead) (m : ArenaMeta) (parts : Bytes) (r : Refusal)
      → (store_push k h m parts o).answer ≡ Err r → (store_push k h m parts o).overlay ≡ o
  store_push_refused k h m parts r e =
      let n = KindStores.push_refused k o.setting (kind_store_of k o) (to_z w64 h.id) (claim_of (meta_of m)) (bytes_of k h m parts) r e in rw n (kind_store_back k o)

  pub store_delete_refused : (k : Kind) (id : ℤ) (claim : Option ℤ) (r : Refusal)
      → (store_delete k id claim o).answer ≡ Err r → (store_delete k id claim o).overlay ≡ o
  store_delete_refused k id claim r e =
      let n = KindStores.delete_refused k o.setting (kind_store_of k o) id claim r e in rw n (kind_store_back k o)
