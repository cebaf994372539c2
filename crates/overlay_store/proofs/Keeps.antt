-- What the store leaves: a record under its id, an arena that a delete leaves, and strings no fewer than before.
use Rattle.std.specs.Prelude.{None, Option, Some}
use Prim.Native.Nat.{ℕ, ◌≤◌}
use mathlib.Core.Path.{◌≡◌, refl, sym, ◌∙◌, ap}
use mathlib.Core.Bool.{true}
use native.Mathlib.Omega.{arith}
use lib.IntN.{ℤ}
use lib.ListN.{length}
use mir.Syntax.{w64}
use mir.Val.{to_z}
use Rattle.base.specs.Bytes.{Bytes, all}
use Rattle.base.proofs.Split.{by_bool, both_of}
use Rattle.little.specs.Little.{is_byte}
use Rattle.little.proofs.Overs.{length_over}
use Rattle.kind.specs.declared.Kind.{Kind}
use Rattle.kind.proofs.Numbers.{same_refl}
use Rattle.model.specs.Record.{Record, claim_of}
use Rattle.compact.specs.Cut.{KeptRecord, pushed_record}
use Rattle.compact.specs.Fits.{fitting, fits_kept}
use Rattle.compact.specs.Layout.{record_bytes}
use Rattle.compact.specs.Held.{meta_of, head_in}
use Rattle.compact.specs.declared.ArenaMeta.{ArenaMeta}
use Rattle.compact.specs.declared.PushHead.{PushHead}
use Rattle.compact.proofs.Cuts.{pushed, pushed_bytes}
use Rattle.compact_legal.specs.Whole.{kept_bytes}
use Rattle.interner.specs.Strings as Strings
use Rattle.interner.specs.Strings.{Store, intern, added, text_room}
use Rattle.interner.specs.Texts.{handle_of}
use Rattle.interner.specs.Sound.{texts_of}
use Rattle.interner.proofs.Interns as Interns
use Rattle.kind_store.specs.KindStore.{KindStore, rowed}
use Rattle.kind_store.specs.KindStore as KindStore
use Rattle.kind_store.proofs.Answers as Acts
use Rattle.overlay.specs.Overlay.{Overlay, kind_store_of}
use Rattle.overlay.specs.Given.{head_fits, meta_fits}
use Rattle.overlay_store.specs.Calls.{bytes_of}
use Rattle.overlay.proofs.Bounds.{meta_given, head_given, head_id}

-- ---- a push

-- a record under the id that a push gives
abbrev pub kept_as : PushHead → Record ℕ → KeptRecord
kept_as h r = record { id = to_z w64 h.id; held = r }

-- what the store does with a record
abbrev pub stored_as : Kind → Overlay → KeptRecord → KindStore.KindStoreAfter
stored_as k o x = KindStore.pushed k o.setting (kind_store_of k o) x.id (claim_of x.held.meta) (kept_bytes x)

-- what a push gives for a record is that record's bytes, under the id given
pub record_given : (k : Kind) (h : PushHead) (m : ArenaMeta) (parts : Bytes) (r : Record ℕ) → head_fits h ≡ true → meta_fits m ≡ true → all is_byte parts ≡ true
    → pushed_record k (head_in k h) (meta_of m) parts ≡ Some r → (bytes_of k h m parts ≡ kept_bytes (kept_as h r)) × (fits_kept k (kept_as h r) ≡ true)
unfolding fits_kept
record_given k h m parts r f g b e =
    let y = pushed_bytes k (head_in k h) (meta_of m) parts r b (head_given h k f) (meta_given m g) e in
    let p = pushed k (head_in k h) (meta_of m) parts r b e in
    let i = head_id h k in
    (y.0 ∙ ap (λ (z : ℤ). record_bytes z r) i, both_of (rw p.kind (same_refl k)) (ap (λ (z : ℤ). fitting z r) (sym i) ∙ y.1))

-- ---- a delete

-- a delete writes no byte
pub delete_arena : (k : Kind) (setting : ℕ) (s : KindStore) (id : ℤ) (claim : Option ℤ) → (KindStore.deleted k setting s id claim).kind_store.arena ≡ s.arena
unfolding rowed
delete_arena k setting s id claim = Acts.by_delete k setting s id claim (λ v c w. rw w) (λ c r w. rw w) (λ c r w. rw w)

-- ---- a text

-- what a text leaves of the strings: their sizes, and no fewer of them
pub record Grown (s t : Store) : Type 0 where
  pub words : length t.spans ≡ length s.spans
  pub size : length t.bytes ≡ length s.bytes
  pub more : s.strings ≤ t.strings

module _ (s : Store) (t : Bytes) (p : Interns.Sound s) where
  pub by_intern : {C : Type 0} → ((intern s t).store ≡ s → C) → ((intern s t).store ≡ added s t → C) → C
  by_intern {C} f g = go (handle_of t (texts_of s)) refl
    where
      go : (x : Option ℕ) → handle_of t (texts_of s) ≡ x → C
      go (Some h) e = f (ap (λ (z : Strings.StoreAfter). z.store) (Interns.does_held s t p h e))
      go None e =
          by_bool (text_room s t)
          (λ r. g (ap (λ (z : Strings.StoreAfter). z.store) (Interns.does_new s t p e r)))
          (λ r. f (ap (λ (z : Strings.StoreAfter). z.store) (Interns.does_full s t p e r)))

  pub grown : Grown s (intern s t).store
  unfolding added
  grown =
      by_intern
      (λ e. rw e (record { words = refl; size = refl; more = omega arith }))
      (λ e. rw e (record { words = length_over s.spans _ _; size = length_over s.bytes _ _; more = omega arith }))
