-- T4: the store refuses by the first condition of its row that holds, and accepts where none holds.
use Rattle.std.specs.Prelude.{None, Option, Some}
use Prim.Native.Nat.{ℕ, ◌+◌}
use mathlib.Core.Path.{◌≡◌, refl}
use mathlib.Core.Bool.{Bool, true, false, not}
use mathlib.Core.List.{List, [], ◌∷◌}
use lib.IntN.{ℤ}
use lib.ListN.{length}
use borrow.Author.Tests.{lt-ltb, le-ltb}
use Rattle.base.specs.Bytes.{Bytes, both}
use Rattle.kind.specs.declared.Kind.{Kind}
use Rattle.refusal.specs.declared.Refusal.TheVariants as R
use Rattle.interner.specs.Strings.{Store, text_room}
use Rattle.interner.specs.Texts.{handle_of, answer_as}
use Rattle.interner.specs.Sound.{texts_of}
use Rattle.interner.proofs.Interns as Interns
use Rattle.kind_store.specs.KindStore.{KindStore}
use Rattle.kind_store.specs.KindStore as KindStore
use Rattle.kind_store.proofs.Answers as Acts
use Rattle.overlay_store.specs.Calls.{handle_in}
use Rattle.refusal.specs.First.{row, first_of}
use Rattle.overlay.specs.First.{kept_by}
use Rattle.overlay_store.specs.First.{delete_rows, push_rows, not_held, handle_refusal}
use Rattle.interner.specs.Strings.{intern}
use Rattle.overlay_store.specs.First.{text_rows}

-- ---- a text: 13

answer_first : (held : List Bytes) (roomy : Bool) (x : Option ℕ) → handle_refusal (handle_in (answer_as roomy held x)) ≡ first_of (row R.StringsFull (both (not_held x) (not roomy)) ∷ [])
unfolding first_of answer_as both
answer_first held roomy (Some h) = refl
answer_first held true None = refl
answer_first held false None = refl

pub interned_first : (s : Store) (t : Bytes) → Interns.Sound s → handle_refusal (handle_in (intern s t).answer) ≡ first_of (text_rows s t)
interned_first s t p = rw (Interns.answers s t p) (answer_first (texts_of s) (text_room s t) (handle_of t (texts_of s)))

-- ---- a delete: 12, 14; a push: 12, 14, 15

module _ (k : Kind) (setting : ℕ) (s : KindStore) (id : ℤ) (claim : Option ℤ) where
  pub deleted_first : (KindStore.deleted k setting s id claim).answer ≡ kept_by (first_of (delete_rows k setting s id claim))
  unfolding first_of
  deleted_first = Acts.by_delete k setting s id claim (λ v c w. rw (w, c)) (λ c r w. rw (w, c, r)) (λ c r w. rw (w, c, r))

  pub pushed_first : (bytes : Bytes) → (KindStore.pushed k setting s id claim bytes).answer ≡ kept_by (first_of (push_rows k setting s id claim bytes))
  unfolding first_of
  pushed_first bytes =
      Acts.by_push k setting s id claim bytes (λ v c w. rw (w, c)) (λ c r w. rw (w, c, r))
      (λ c r l w. rw (w, c, r, lt-ltb (length s.arena) (s.used + length bytes) l))
      (λ c r l w. rw (w, c, r, le-ltb (length s.arena) (s.used + length bytes) l))
