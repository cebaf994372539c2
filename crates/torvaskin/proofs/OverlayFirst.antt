-- T4 at the C boundary: each entry replies the first condition of its table that holds, 17 for a number that means no kind right after 22; 0 where none holds.
use Rattle.kind.specs.declared.Kind.{Kind}
use Rattle.std.specs.Prelude.{Err, None, Ok, Option, Result, Some}
use Prim.Native.Nat.{ℕ}
use mathlib.Core.Path.{◌≡◌, refl, ◌∙◌, ap}
use mathlib.Core.Bool.{true}
use mathlib.Core.List.{List, [], ◌∷◌}
use lib.ListN.{length}
use lib.IntN.{ℤ}
use Rattle.base.specs.Bytes.{Bytes}
use Rattle.base.proofs.Split.{by_bool}
use Rattle.kind.specs.Kind.{of_number}
use Rattle.refusal.specs.First.{row, first_of}
use Rattle.refusal.specs.declared.Refusal.{Refusal}
use Rattle.refusal.specs.declared.Refusal.TheVariants as R
use Rattle.model.specs.Record.{Meta}
use Rattle.compact.specs.declared.ArenaMeta.{ArenaMeta}
use Rattle.compact.specs.declared.PushHead.{PushHead}
use Rattle.overlay_blocks.specs.declared.Sizes.{Sizes}
use Rattle.overlay.specs.Overlay.{Overlay}
use Rattle.overlay.specs.Sound.{is_sound}
use Rattle.overlay.specs.First.{kept_by, set_up_table, allow_table, unsound_row, kind_rows, kind_call_table, number_by, reply_by}
use Rattle.overlay.proofs.First.{setup_first, allow_first}
use Rattle.overlay_store.specs.First.{handle_refusal}
use Rattle.overlay_direct.specs.Calls.{intern_on}
use Rattle.overlay_direct.specs.First.{intern_table, rest_of_push, rest_of_delete, push_table, delete_table}
use Rattle.overlay_direct.proofs.First.{push_first, delete_first, intern_first}
use Rattle.overlay_texts.specs.Calls.{intern_texts_on}
use Rattle.overlay_texts.specs.First.{intern_texts_table}
use Rattle.overlay_texts.proofs.First.{intern_texts_first}
use Rattle.c_replies.specs.Overlays.{kept_reply, handle_text, texts_reply}
use Rattle.torvaskin.specs.Overlays.{unknown, set_up_reply, allow_reply, intern_reply, intern_texts_reply, push_named, push_reply, delete_named, delete_reply}

kept_reply_lem : (x : Option Refusal) → kept_reply (kept_by x) ≡ reply_by x
kept_reply_lem None = refl
kept_reply_lem (Some r) = refl

-- ---- set-up: 1; the regression setting: 22; intern: 22, 3, 13

module _ (setting : ℕ) (o : Overlay) where
  pub setup_reply_first : (z : Sizes) → (set_up_reply z setting o).reply ≡ reply_by (first_of (set_up_table z o))
  unfolding set_up_reply
  setup_reply_first z = ap kept_reply (setup_first z setting o) ∙ kept_reply_lem (first_of (set_up_table z o))

  pub allow_reply_first : (allow_reply setting o).reply ≡ reply_by (first_of (allow_table o))
  unfolding allow_reply
  allow_reply_first = ap kept_reply (allow_first setting o) ∙ kept_reply_lem (first_of (allow_table o))

handle_number : (x : Result ℕ Refusal) → (handle_text x).number ≡ number_by (handle_refusal x)
handle_number (Ok n) = refl
handle_number (Err r) = refl

pub intern_reply_first : (t : Bytes) (o : Overlay) → (intern_reply t o).reply.number ≡ number_by (first_of (intern_table t o))
unfolding intern_reply
intern_reply_first t o = handle_number (intern_on t o).answer ∙ ap number_by (intern_first t o)

-- ---- many texts: 22, 17, 19, then 3, 13 of each

texts_number : (x : Option Refusal) (n : ℕ) → (texts_reply (kept_by x) n).number ≡ number_by x
texts_number None n = refl
texts_number (Some r) n = refl

pub intern_texts_reply_first : (lengths : List ℕ) (texts : Bytes) (handles : List ℕ) (o : Overlay)
    → (intern_texts_reply lengths texts handles o).reply.number ≡ number_by (first_of (intern_texts_table lengths texts (length handles) o))
unfolding intern_texts_reply
intern_texts_reply_first lengths texts handles o =
    let n = (intern_texts_on lengths texts handles o).taken in
    ap (λ (x : Result Unit Refusal). (texts_reply x n).number) (intern_texts_first lengths texts handles o) ∙ texts_number (first_of (intern_texts_table lengths texts (length handles) o)) n

-- ---- a kind by its number: 22, 17

module _ (o : Overlay) where
  unknown_first : kept_reply (unknown o).answer ≡ reply_by (first_of (unsound_row o ∷ row R.BadRecord true ∷ []))
  unfolding first_of
  unknown_first = by_bool (is_sound o) (λ s. rw s) (λ s. rw s)

  module _ (h : PushHead) (m : ArenaMeta) (parts : Bytes) where
    named_push : (n : Option Kind) → kept_reply (push_named n h m parts o).answer ≡ reply_by (first_of (unsound_row o ∷ kind_rows n (λ k. rest_of_push k h m parts o)))
    named_push (Some k) = ap kept_reply (push_first k h m parts o) ∙ kept_reply_lem (first_of (push_table k h m parts o))
    named_push None = unknown_first

    pub push_reply_first : (kind : ℕ) → (push_reply kind h m parts o).reply ≡ reply_by (first_of (kind_call_table kind (λ k. rest_of_push k h m parts o) o))
    unfolding push_reply
    push_reply_first kind = named_push (of_number kind)

  module _ (id : ℤ) (m : Meta ℕ) where
    named_delete : (n : Option Kind) → kept_reply (delete_named n id m o).answer ≡ reply_by (first_of (unsound_row o ∷ kind_rows n (λ k. rest_of_delete k id m o)))
    named_delete (Some k) = ap kept_reply (delete_first k id m o) ∙ kept_reply_lem (first_of (delete_table k id m o))
    named_delete None = unknown_first

    pub delete_reply_first : (kind : ℕ) → (delete_reply kind id m o).reply ≡ reply_by (first_of (kind_call_table kind (λ k. rest_of_delete k id m o) o))
    unfolding delete_reply
    delete_reply_first kind = named_delete (of_number kind)
