-- Document 01: `intern`, direct push and direct delete: what each leaves, and what it answers. "Nothing lent changes" at a refusal.
use Rattle.std.specs.Prelude.{ℕ, cond, ℤ, Err, Ok, Result}
use Rattle.base.specs.Bytes.{Bytes}
use Rattle.text.specs.Check.{is_text}
use Rattle.kind.specs.declared.Kind.{Kind}
use Rattle.refusal.specs.declared.Refusal.{Refusal}
use Rattle.refusal.specs.declared.Refusal.TheVariants as R
use Rattle.model.specs.Record.{Meta, claim_of}
use Rattle.compact.specs.Cut.{pushed_record}
use Rattle.compact.specs.Held.{meta_of, head_in}
use Rattle.compact.specs.Legal.{legal_meta}
use Rattle.compact.specs.declared.ArenaMeta.{ArenaMeta}
use Rattle.compact.specs.declared.PushHead.{PushHead}
use Rattle.compact_legal.specs.Judge.{fault_for}
use Rattle.overlay.specs.Overlay.{Overlay}
use Rattle.overlay.specs.Sound.{is_sound}
use Rattle.overlay.specs.Calls.{OverlayAfter, overlay_refused, if_sound}
use Rattle.overlay_store.specs.Calls.{Interning, store_text, store_push, store_delete}

-- ---- intern: 22, 3, 13, or the text's handle

abbrev pub not_interned : Overlay → Refusal → Interning
not_interned o r = record { overlay = o; answer = Err r }

unfoldable pub intern_on : Bytes → Overlay → Interning
intern_on t o = cond (is_sound o) (cond (is_text t) (store_text t o) (not_interned o R.NotText)) (not_interned o R.Unsound)

-- ---- direct push: 22; 17, 3, 10, 16; then 12, 14, 15

abbrev pub push_as : Result Unit Refusal → Kind → PushHead → ArenaMeta → Bytes → Overlay → OverlayAfter
push_as (Ok tt) k h m parts o = store_push k h m parts o
push_as (Err r) k h m parts o = overlay_refused o r

unfoldable pub push_on : Kind → PushHead → ArenaMeta → Bytes → Overlay → OverlayAfter
push_on k h m parts o = if_sound o (push_as (fault_for o.texts.strings (pushed_record k (head_in k h) (meta_of m) parts)) k h m parts o)

-- ---- direct delete: 22; 17 of its metadata; then 12, 14

unfoldable pub delete_on : Kind → ℤ → Meta ℕ → Overlay → OverlayAfter
delete_on k id m o = if_sound o (cond (legal_meta o.texts.strings m) (store_delete k id (claim_of m) o) (overlay_refused o R.BadRecord))
