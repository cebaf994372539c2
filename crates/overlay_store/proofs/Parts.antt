-- Laws of an overlay by its parts, as the functions are lent them.
use Rattle.refusal.specs.declared.Refusal.{Refusal}
use Rattle.std.specs.Prelude.{Option, Result}
use Prim.Native.Nat.{ℕ, ◌+◌, ◌-◌}
use mathlib.Core.Path.{◌≡◌, refl}
use mathlib.Core.List.{List}
use lib.ListN.{length, get_or}
use borrow.Rule.Slice.PartMut.{put_mid, put_same}
use Rattle.base.specs.Bytes.{Bytes}
use Rattle.kind.specs.declared.Kind.{Kind}
use Rattle.interner.specs.Strings as Strings
use Rattle.interner.specs.Texts.{handle_answered}
use Rattle.interner.specs.Interned.{Interned}
use Rattle.interner.specs.Interned as I
use Rattle.std.specs.Option.{ok_or}
use Rattle.refusal.specs.declared.Refusal.TheVariants as R
use Rattle.overlay_store.specs.Lent.{strings_at}
use Rattle.kind_store.specs.KindStore as KindStore
use Rattle.overlay_blocks.specs.declared.KindPart.{KindPart}
use Rattle.overlay_blocks.specs.declared.TextPart.{TextPart}
use Rattle.overlay_blocks.specs.Blocks.{cut, sizes_in, part_in, text_part_in}
use Rattle.overlay.specs.Overlay.{kind_store_of}
use Rattle.overlay.specs.Lent.{kind_store_in, overlay_in}
use Rattle.overlay.proofs.Puts.{Others, kind_store_in_lem, kind_put, texts_lent, texts_put}
use Rattle.overlay_store.specs.Calls.{on_kind_store, handle_in, store_text, bytes_of, store_push, store_delete}
use Rattle.model.specs.Record.{claim_of}
use Rattle.compact.specs.Held.{meta_of}
use Rattle.compact.specs.declared.ArenaMeta.{ArenaMeta}
use Rattle.compact.specs.declared.PushHead.{PushHead}
use lib.IntN.{ℤ}
use mir.Syntax.{w64}
use mir.Val.{to_z}

-- ---- one kind changed

-- what is lent of a kind comes to the overlay
pub kind_after : (k : Kind) (words bytes c d : List ℕ) (p : KindPart) → p ≡ part_in k (sizes_in c) (length words) (length bytes) → (table arena : List ℕ)
    → length table ≡ length (cut p.from p.to words) → length arena ≡ length (cut p.first p.end bytes) → (r : Result Unit Refusal) (f : KindStore.KindStore → KindStore.KindStoreAfter)
    → (record { kind_store = KindStore.kind_store_with table (get_or d p.at 0) arena (get_or d (p.at + 3) 0); answer = r }
    ≡ f (kind_store_in p words bytes c)) × Others p.at (p.at + 3) c d
    → record { overlay = overlay_in (put_mid p.from (p.to - p.from) words table) (put_mid p.first (p.end - p.first) bytes arena) d; answer = r }
    ≡ on_kind_store k (overlay_in words bytes c) (f (kind_store_of k (overlay_in words bytes c)))
kind_after k words bytes c d p q table arena m n r f h =
    rw (kind_put k words bytes c d p q table arena m n h.1, ← kind_store_in_lem k words bytes c p q, ← h.0)

-- ---- the strings changed

-- the handle of a text, or 13
ok_handle : (i : Interned) → ok_or (handle_answered i) R.StringsFull ≡ handle_in i
ok_handle (I.Held h) = refl
ok_handle (I.New h) = refl
ok_handle I.Full = refl

pub interned_after : (words bytes c d : List ℕ) (e : TextPart) → e ≡ text_part_in (sizes_in c) (length words) (length bytes) → (spans texts : List ℕ)
    → length spans ≡ length (cut e.spans (length words) words) → length texts ≡ length (cut e.bytes (length bytes) bytes) → Others 6 7 c d
    → (h : Option ℕ) (t : Bytes) → strings_at spans texts d ≡ (Strings.intern (strings_at (cut e.spans (length words) words) (cut e.bytes (length bytes) bytes) c) t).store
    → h ≡ handle_answered (Strings.intern (strings_at (cut e.spans (length words) words) (cut e.bytes (length bytes) bytes) c) t).answer
    → (r : Result ℕ Refusal) → r ≡ ok_or h R.StringsFull
    → record { overlay = overlay_in (put_mid e.spans (length words - e.spans) words spans) (put_mid e.bytes (length bytes - e.bytes) bytes texts) d; answer = r }
    ≡ store_text t (overlay_in words bytes c)
interned_after words bytes c d e q spans texts m n o h t f g r a =
    let s = strings_at (cut e.spans (length words) words) (cut e.bytes (length bytes) bytes) c in
    rw (texts_put words bytes c d e q spans texts m n o, f, a, g, ok_handle (Strings.intern s t).answer, texts_lent words bytes c e q)

-- ---- a push and a delete

module _ (k : Kind) (words bytes c d : List ℕ) (p : KindPart) (q : p ≡ part_in k (sizes_in c) (length words) (length bytes)) (table : List ℕ) (r : Result Unit Refusal) where
  -- a kind's part, as it is lent
  abbrev lent : KindStore.KindStore
  lent = kind_store_in p words bytes c

  pub push_after : (arena : List ℕ) → length table ≡ length (cut p.from p.to words) → length arena ≡ length (cut p.first p.end bytes) → (h : PushHead) (m : ArenaMeta) (parts : Bytes)
      → (record { kind_store = KindStore.kind_store_with table (get_or d p.at 0) arena (get_or d (p.at + 3) 0); answer = r }
      ≡ KindStore.pushed k (get_or c 8 0) lent (to_z w64 h.id) (claim_of (meta_of m)) (bytes_of k h m parts)) × Others p.at (p.at + 3) c d
      → record { overlay = overlay_in (put_mid p.from (p.to - p.from) words table) (put_mid p.first (p.end - p.first) bytes arena) d; answer = r }
      ≡ store_push k h m parts (overlay_in words bytes c)
  push_after arena i j h m parts e =
      kind_after k words bytes c d p q table arena i j r (λ s. KindStore.pushed k (get_or c 8 0) s (to_z w64 h.id) (claim_of (meta_of m)) (bytes_of k h m parts)) e

  pub delete_after : length table ≡ length (cut p.from p.to words) → (id : ℤ) (claim : Option ℤ)
      → (record { kind_store = KindStore.kind_store_with table (get_or d p.at 0) (cut p.first p.end bytes) (get_or d (p.at + 3) 0); answer = r }
      ≡ KindStore.deleted k (get_or c 8 0) lent id claim) × Others p.at (p.at + 3) c d
      → record { overlay = overlay_in (put_mid p.from (p.to - p.from) words table) bytes d; answer = r } ≡ store_delete k id claim (overlay_in words bytes c)
  delete_after i id claim e =
      rw put_same at (kind_after k words bytes c d p q table (cut p.first p.end bytes) i refl r (λ s. KindStore.deleted k (get_or c 8 0) s id claim) e)
