-- The C boundary of the overlay: what each entry leaves and replies; a kind goes by its number, and one above 2 is refused 17 where 22 is not.
use Rattle.kind.specs.declared.Kind.{Kind}
use Rattle.std.specs.Prelude.{ℕ, ℤ, List, Err, None, Ok, Option, Result, Some}
use Rattle.base.specs.Bytes.{Bytes}
use Rattle.kind.specs.Kind.{of_number}
use Rattle.refusal.specs.declared.Reply.{Reply}
use Rattle.refusal.specs.declared.Refusal.{Refusal}
use Rattle.refusal.specs.declared.Refusal.TheVariants as R
use Rattle.overlay.specs.Sound.{is_sound}
use Rattle.c_replies.specs.Readings.{unknown_kind}
use Rattle.model.specs.Record.{Meta}
use Rattle.compact.specs.declared.ArenaMeta.{ArenaMeta}
use Rattle.compact.specs.declared.PushHead.{PushHead}
use Rattle.overlay_blocks.specs.declared.Sizes.{Sizes}
use Rattle.overlay.specs.Overlay.{Overlay}
use Rattle.overlay.specs.Calls.{OverlayAfter, if_sound, overlay_refused, set_up, allow_on}
use Rattle.overlay_direct.specs.Calls.{push_on, delete_on, intern_on}
use Rattle.overlay_store.specs.Calls.{Interning}
use Rattle.overlay_texts.specs.Calls.{TextsAfter, intern_texts_on}
use Rattle.c_replies.specs.Overlays.{kept_reply, handle_text, texts_reply}
use Rattle.c_replies.specs.declared.Text.{Text}
use Rattle.c_replies.specs.declared.TextsReply.{TextsReply}

-- an overlay and the reply that a call gives
pub record Replied : Type 0 where
  pub overlay : Overlay
  pub reply : Reply

abbrev pub replied : OverlayAfter → Replied
replied a = record { overlay = a.overlay; reply = kept_reply a.answer }

unfoldable pub set_up_reply : Sizes → ℕ → Overlay → Replied
set_up_reply z setting o = replied (set_up z setting o)

unfoldable pub allow_reply : ℕ → Overlay → Replied
allow_reply setting o = replied (allow_on setting o)

-- the kind that a number means; or 22, else 17
abbrev pub kind_answer : Option Kind → Overlay → Result Kind Refusal
kind_answer (Some k) o = Ok k
kind_answer None o = Err (unknown_kind (is_sound o))

abbrev pub unknown : Overlay → OverlayAfter
unknown o = if_sound o (overlay_refused o R.BadRecord)

abbrev pub push_named : Option Kind → PushHead → ArenaMeta → Bytes → Overlay → OverlayAfter
push_named (Some k) h m parts o = push_on k h m parts o
push_named None h m parts o = unknown o

unfoldable pub push_reply : ℕ → PushHead → ArenaMeta → Bytes → Overlay → Replied
push_reply kind h m parts o = replied (push_named (of_number kind) h m parts o)

abbrev pub delete_named : Option Kind → ℤ → Meta ℕ → Overlay → OverlayAfter
delete_named (Some k) id m o = delete_on k id m o
delete_named None id m o = unknown o

unfoldable pub delete_reply : ℕ → ℤ → Meta ℕ → Overlay → Replied
delete_reply kind id m o = replied (delete_named (of_number kind) id m o)

-- ---- intern

pub record Interned : Type 0 where
  pub overlay : Overlay
  pub reply : Text

abbrev pub interned : Interning → Interned
interned i = record { overlay = i.overlay; reply = handle_text i.answer }

unfoldable pub intern_reply : Bytes → Overlay → Interned
intern_reply t o = interned (intern_on t o)

-- ---- many texts

-- an overlay, the list of handles, and the reply that a call gives
pub record AllInterned : Type 0 where
  pub overlay : Overlay
  pub handles : List ℕ
  pub reply : TextsReply

abbrev pub all_interned : TextsAfter → AllInterned
all_interned x = record { overlay = x.overlay; handles = x.handles; reply = texts_reply x.answer x.taken }

unfoldable pub intern_texts_reply : List ℕ → Bytes → List ℕ → Overlay → AllInterned
intern_texts_reply lengths texts handles o = all_interned (intern_texts_on lengths texts handles o)
