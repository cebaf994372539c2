-- Document 01, the table's row "store", of a text, a push and a delete: what each leaves, and what it answers. Soundness and what is given are tested before it.
use Rattle.refusal.specs.declared.Refusal.{Refusal}
use Rattle.std.specs.Prelude.{◌++◌, ℤ, Err, Ok, Option, Result, ℕ}
use Rattle.std.specs.Int.{w64}
use Rattle.std.proofs.Common.{to_z}
use Rattle.base.specs.Bytes.{Bytes}
use Rattle.kind.specs.declared.Kind.{Kind}
use Rattle.refusal.specs.declared.Refusal.TheVariants as R
use Rattle.model.specs.Record.{claim_of}
use Rattle.compact.specs.Layout.{head_bytes, meta_bytes}
use Rattle.compact.specs.Held.{meta_of, head_in}
use Rattle.compact.specs.declared.ArenaMeta.{ArenaMeta}
use Rattle.compact.specs.declared.PushHead.{PushHead}
use Rattle.interner.specs.Strings as Strings
use Rattle.interner.specs.Interned.{Interned}
use Rattle.interner.specs.Interned as I
use Rattle.kind_store.specs.KindStore as KindStore
use Rattle.overlay.specs.Overlay.{Overlay, kind_store_of, with_kind_store, with_texts}
use Rattle.overlay.specs.Calls.{OverlayAfter}

-- ---- a text: 13, or its handle

pub record Interning : Type 0 where
  pub overlay : Overlay
  pub answer : Result ℕ Refusal

abbrev pub handle_in : Interned → Result ℕ Refusal
handle_in (I.Held h) = Ok h
handle_in (I.New h) = Ok h
handle_in I.Full = Err R.StringsFull

abbrev pub store_text : Bytes → Overlay → Interning
store_text t o = record { overlay = with_texts (Strings.intern o.texts t).store o; answer = handle_in (Strings.intern o.texts t).answer }

-- ---- a push: 12, 14, 15

-- what is done to one kind
abbrev pub on_kind_store : Kind → Overlay → KindStore.KindStoreAfter → OverlayAfter
on_kind_store k o a = record { overlay = with_kind_store k a.kind_store o; answer = a.answer }

-- the bytes of a push: head, metadata, parts
abbrev pub bytes_of : Kind → PushHead → ArenaMeta → Bytes → Bytes
bytes_of k h m parts = head_bytes k (head_in k h) ++ meta_bytes (meta_of m) ++ parts

abbrev pub store_push : Kind → PushHead → ArenaMeta → Bytes → Overlay → OverlayAfter
store_push k h m parts o = on_kind_store k o (KindStore.pushed k o.setting (kind_store_of k o) (to_z w64 h.id) (claim_of (meta_of m)) (bytes_of k h m parts))

-- ---- a delete: 12, 14

abbrev pub store_delete : Kind → ℤ → Option ℤ → Overlay → OverlayAfter
store_delete k id claim o = on_kind_store k o (KindStore.deleted k o.setting (kind_store_of k o) id claim)
