-- What a direct call leaves: an accepted one told by records, the parts that stay, and a sound overlay of bytes that stays one.
use Rattle.std.specs.Prelude.{Ok, Some}
use Prim.Native.Nat.{ℕ}
use mathlib.Core.Path.{◌≡◌, refl, sym, ◌∙◌, ap}
use mathlib.Core.Bool.{true}
use lib.IntN.{ℤ}
use mir.Syntax.{w64}
use mir.Val.{to_z}
use Rattle.base.specs.Bytes.{Bytes, all}
use Rattle.base.proofs.Split.{no}
use Rattle.little.specs.Little.{is_byte}
use Rattle.text.specs.Check.{is_text}
use Rattle.kind.specs.declared.Kind.{Kind}
use Rattle.model.specs.Record.{Meta, Record, kind_of, claim_of}
use Rattle.compact.specs.Cut.{pushed_record}
use Rattle.compact.specs.Fits.{fits_kept}
use Rattle.compact.specs.Held.{meta_of, head_in}
use Rattle.compact.specs.Legal.{legal, legal_meta}
use Rattle.compact.specs.declared.ArenaMeta.{ArenaMeta}
use Rattle.compact.specs.declared.PushHead.{PushHead}
use Rattle.compact.proofs.Cuts.{pushed}
use Rattle.compact_legal.specs.Whole.{kept_bytes}
use Rattle.compact_legal.proofs.Laws.{push_legal}
use Rattle.interner.specs.Strings.{Store, intern, added}
use Rattle.interner.specs.Texts.{handle_of, take_in, text_of}
use Rattle.interner.specs.Texts as Texts
use Rattle.interner.specs.Sound.{texts_of}
use Rattle.interner.specs.Interned.{Interned}
use Rattle.interner.specs.Interned as I
use Rattle.interner.proofs.Interns as Interns
use Rattle.kind_store.specs.KindStore.{KindStore, taken_in}
use Rattle.kind_store.specs.KindStore as KindStore
use Rattle.kind_store.proofs.KindStores.{delete_laid, push_laid, push_arena}
use Rattle.kind_sound.proofs.Keeps as Sounds
use Rattle.overlay_blocks.specs.Sizes.{largest}
use Rattle.overlay.specs.Overlay.{Overlay, kind_store_of, with_kind_store, with_texts}
use Rattle.overlay.specs.Given.{head_fits, meta_fits, InBytes}
use Rattle.overlay.specs.Sound.{Sound, is_sound}
use Rattle.overlay_store.specs.Calls.{bytes_of, handle_in}
use Rattle.overlay_direct.specs.Calls.{push_on, delete_on, intern_on}
use Rattle.overlay.proofs.Answers.{by_kept, kind_store_back, strings_sound}
use Rattle.overlay_store.proofs.Answers.{by_handle}
use Rattle.overlay_direct.proofs.Answers.{by_push_on, push_stored, push_refused, push_taken, by_delete_on, delete_stored, delete_refused, delete_taken, by_intern_on, intern_refused, intern_taken}
use Rattle.overlay.proofs.Bounds.{id_given, over_small, written_small}
use Rattle.overlay.proofs.KindStores.{kind_store_same, kind_store_other, kind_store_texts, kind_store_setting, texts_kind_store}
use Rattle.overlay.proofs.Tiles.{interned_sized}
use Rattle.overlay_store.proofs.Keeps.{kept_as, stored_as, record_given, delete_arena, by_intern, grown}
use Rattle.overlay.proofs.Keeps.{more_sound, put_sound, put_bytes}

-- ---- accepted calls

-- an accepted push: its head, metadata and parts make a legal record, whose bytes are appended under its id
pub record PushKept (k : Kind) (h : PushHead) (m : ArenaMeta) (parts : Bytes) (o : Overlay) : Type 0 where
  pub sound : is_sound o ≡ true
  pub held : Record ℕ
  pub made : pushed_record k (head_in k h) (meta_of m) parts ≡ Some held
  pub kind : kind_of held.body ≡ k
  pub meta : held.meta ≡ meta_of m
  pub lawful : legal o.texts.strings held ≡ true
  pub fits : fits_kept k (kept_as h held) ≡ true
  pub bytes : bytes_of k h m parts ≡ kept_bytes (kept_as h held)
  pub same : push_stored k h m parts o ≡ stored_as k o (kept_as h held)
  pub stored : (stored_as k o (kept_as h held)).answer ≡ (Ok tt)
  pub left : (push_on k h m parts o).overlay ≡ with_kind_store k (stored_as k o (kept_as h held)).kind_store o

module _ (k : Kind) (h : PushHead) (m : ArenaMeta) (parts : Bytes) (o : Overlay) where
  pub push_kept : head_fits h ≡ true → meta_fits m ≡ true → all is_byte parts ≡ true → taken_in (push_on k h m parts o).answer ≡ true → PushKept k h m parts o
  push_kept f g b e =
      let t = push_taken k h m parts o e in
      let x = push_legal o.texts.strings (pushed_record k (head_in k h) (meta_of m) parts) t.1.0 in
      let p = pushed k (head_in k h) (meta_of m) parts x.0 b x.1.0 in
      let y = record_given k h m parts x.0 f g b x.1.0 in
      let q : push_stored k h m parts o ≡ stored_as k o (kept_as h x.0) =
      ap (λ (z : Bytes). KindStore.pushed k o.setting (kind_store_of k o) (to_z w64 h.id) (claim_of (meta_of m)) z) y.0
      ∙ ap (λ (z : Meta ℕ). KindStore.pushed k o.setting (kind_store_of k o) (to_z w64 h.id) (claim_of z) (kept_bytes (kept_as h x.0))) (sym p.meta) in
      record {
        sound = t.0;
        held = x.0;
        made = x.1.0;
        kind = p.kind;
        meta = p.meta;
        lawful = x.1.1;
        fits = y.1;
        bytes = y.0;
        same = q;
        stored = sym (ap (λ (z : KindStore.KindStoreAfter). z.answer) q) ∙ t.1.1.0;
        left = t.1.1.1 ∙ ap (λ (z : KindStore.KindStoreAfter). with_kind_store k z.kind_store o) q;
      }

-- an accepted delete
pub record DeleteKept (k : Kind) (id : ℤ) (m : Meta ℕ) (o : Overlay) : Type 0 where
  pub sound : is_sound o ≡ true
  pub lawful : legal_meta o.texts.strings m ≡ true
  pub stored : (delete_stored k id m o).answer ≡ (Ok tt)
  pub left : (delete_on k id m o).overlay ≡ with_kind_store k (delete_stored k id m o).kind_store o

pub delete_kept : (k : Kind) (id : ℤ) (m : Meta ℕ) (o : Overlay) → taken_in (delete_on k id m o).answer ≡ true → DeleteKept k id m o
delete_kept k id m o e = let t = delete_taken k id m o e in record { sound = t.0; lawful = t.1.0; stored = t.1.1.0; left = t.1.1.1 }

-- an accepted text: held before, or the next one
pub record InternKept (t : Bytes) (o : Overlay) (n : ℕ) : Type 0 where
  pub sound : is_sound o ≡ true
  pub lawful : is_text t ≡ true
  pub left : (intern_on t o).overlay ≡ with_texts (intern o.texts t).store o
  pub texts : texts_of (intern o.texts t).store ≡ take_in (texts_of o.texts) t
  pub place : handle_of t (texts_of (intern o.texts t).store) ≡ Some n
  pub text : text_of (texts_of (intern o.texts t).store) n ≡ t

-- the handle that an accepted answer gives
is_handle : (i : Interned) (n : ℕ) → handle_in i ≡ Ok n → (Texts.intern_accepted i ≡ true) × (Texts.handle_answered i ≡ Some n)
is_handle (I.Held h) n e = (refl, cc)
is_handle (I.New h) n e = (refl, cc)
is_handle I.Full n e = no (cc)

pub intern_kept : (t : Bytes) (o : Overlay) (n : ℕ) → (intern_on t o).answer ≡ Ok n → InternKept t o n
intern_kept t o n e =
    let w = intern_taken t o n e in
    let s = strings_sound o w.0 in
    let a = is_handle (intern o.texts t).answer n w.1.1.0 in
    record {
      sound = w.0;
      lawful = w.1.0;
      left = w.1.1.1;
      texts = Interns.texts_after o.texts t s a.0;
      place = Interns.handle_after o.texts t s n a.1;
      text = Interns.text_answered o.texts t s n a.1;
    }

-- ---- what stays

-- what holds of an overlay with any kind store of the kind put holds after a push and a delete
module _ (k : Kind) (h : PushHead) (m : ArenaMeta) (parts : Bytes) (o : Overlay) where
  pub push_leaves : (P : Overlay → Type 0) → ((s : KindStore) → P (with_kind_store k s o)) → P (push_on k h m parts o).overlay
  push_leaves P f =
      by_push_on k h m parts o (λ s w. rw w (rw (kind_store_back k o) at (f (kind_store_of k o)))) (λ r s g w. rw w (rw (kind_store_back k o) at (f (kind_store_of k o))))
      (λ s g w. rw w (f (push_stored k h m parts o).kind_store))

  pub push_other : (j : Kind) → (j ≡ k → ⊥) → kind_store_of j (push_on k h m parts o).overlay ≡ kind_store_of j o
  push_other j n = push_leaves (λ z. kind_store_of j z ≡ kind_store_of j o) (λ s. kind_store_other j k s o n)

  pub push_texts : (push_on k h m parts o).overlay.texts ≡ o.texts
  push_texts = push_leaves (λ z. z.texts ≡ o.texts) (λ s. kind_store_texts k s o)

  pub push_setting : (push_on k h m parts o).overlay.setting ≡ o.setting
  push_setting = push_leaves (λ z. z.setting ≡ o.setting) (λ s. kind_store_setting k s o)

  -- its own kind is as the store leaves it
  pub push_kind_store : taken_in (push_on k h m parts o).answer ≡ true → kind_store_of k (push_on k h m parts o).overlay ≡ (push_stored k h m parts o).kind_store
  push_kind_store e = rw (push_taken k h m parts o e).1.1.1 (kind_store_same k _ o)

module _ (k : Kind) (id : ℤ) (m : Meta ℕ) (o : Overlay) where
  pub delete_leaves : (P : Overlay → Type 0) → ((s : KindStore) → P (with_kind_store k s o)) → P (delete_on k id m o).overlay
  delete_leaves P f =
      by_delete_on k id m o (λ s w. rw w (rw (kind_store_back k o) at (f (kind_store_of k o)))) (λ s g w. rw w (rw (kind_store_back k o) at (f (kind_store_of k o))))
      (λ s g w. rw w (f (delete_stored k id m o).kind_store))

  pub delete_other : (j : Kind) → (j ≡ k → ⊥) → kind_store_of j (delete_on k id m o).overlay ≡ kind_store_of j o
  delete_other j n = delete_leaves (λ z. kind_store_of j z ≡ kind_store_of j o) (λ s. kind_store_other j k s o n)

  pub delete_texts : (delete_on k id m o).overlay.texts ≡ o.texts
  delete_texts = delete_leaves (λ z. z.texts ≡ o.texts) (λ s. kind_store_texts k s o)

  pub delete_setting : (delete_on k id m o).overlay.setting ≡ o.setting
  delete_setting = delete_leaves (λ z. z.setting ≡ o.setting) (λ s. kind_store_setting k s o)

  pub delete_kind_store : taken_in (delete_on k id m o).answer ≡ true → kind_store_of k (delete_on k id m o).overlay ≡ (delete_stored k id m o).kind_store
  delete_kind_store e = rw (delete_taken k id m o e).1.1.1 (kind_store_same k _ o)

module _ (t : Bytes) (o : Overlay) where
  pub intern_leaves : (P : Overlay → Type 0) → ((s : Store) → P (with_texts s o)) → P (intern_on t o).overlay
  intern_leaves P f = by_intern_on t o (λ s w. rw w (f o.texts)) (λ s g w. rw w (f o.texts)) (λ s g w. rw w (f (intern o.texts t).store))

  pub intern_kind_store : (j : Kind) → kind_store_of j (intern_on t o).overlay ≡ kind_store_of j o
  intern_kind_store j = intern_leaves (λ z. kind_store_of j z ≡ kind_store_of j o) (λ s. texts_kind_store j s o)

  pub intern_setting : (intern_on t o).overlay.setting ≡ o.setting
  intern_setting = intern_leaves (λ z. z.setting ≡ o.setting) (λ s. refl)

-- ---- each call keeps an overlay sound, accepted or refused

module _ (k : Kind) (h : PushHead) (m : ArenaMeta) (parts : Bytes) (o : Overlay) where
  pub push_sound : head_fits h ≡ true → meta_fits m ≡ true → all is_byte parts ≡ true → Sound o → Sound (push_on k h m parts o).overlay
  push_sound f g b w =
      by_kept (push_on k h m parts o).answer
      (λ e. let p = push_kept k h m parts o f g b e in
      let x = kept_as h p.held in
      let c = claim_of p.held.meta in
      let l = push_laid k o.setting (kind_store_of k o) x.id c (w.kind_stores k).order (kept_bytes x) p.stored in
      rw p.left (put_sound k (stored_as k o x).kind_store o l.words l.size w
      (Sounds.push_sound o.texts.strings k o.setting (kind_store_of k o) c x p.fits p.lawful (id_given h f) (w.kind_stores k) p.stored)))
      (λ r e. rw (push_refused k h m parts o r e) w)

pub delete_sound : (k : Kind) (id : ℤ) (m : Meta ℕ) (o : Overlay) → Sound o → Sound (delete_on k id m o).overlay
delete_sound k id m o w =
    by_kept (delete_on k id m o).answer
    (λ e. let p = delete_kept k id m o e in
    let l = delete_laid k o.setting (kind_store_of k o) id (claim_of m) (w.kind_stores k).order p.stored in
    rw p.left (put_sound k (delete_stored k id m o).kind_store o l.words l.size w
    (Sounds.delete_sound o.texts.strings k o.setting (kind_store_of k o) id (claim_of m) (w.kind_stores k) p.stored)))
    (λ r e. rw (delete_refused k id m o r e) w)

module _ (t : Bytes) (o : Overlay) where
  pub intern_sound : Sound o → Sound (intern_on t o).overlay
  intern_sound w =
      by_handle (intern_on t o).answer
      (λ n e. let q = intern_kept t o n e in
      let p = Interns.sound_parts o.texts w.strings in
      let g = grown o.texts t p in
      rw q.left (record {
        sizes = interned_sized largest (intern o.texts t).store o g.words g.size w.sizes;
        strings = Interns.sound_of (intern o.texts t).store (Interns.keeps o.texts t p q.lawful);
        kind_stores = λ k. rw texts_kind_store (more_sound o.texts.strings (intern o.texts t).store.strings g.more k (kind_store_of k o) (w.kind_stores k));
      }))
      (λ r e. rw (intern_refused t o r e) w)

-- ---- each call keeps bytes bytes

pub push_bytes : (k : Kind) (h : PushHead) (m : ArenaMeta) (parts : Bytes) (o : Overlay) → all is_byte parts ≡ true → InBytes o → InBytes (push_on k h m parts o).overlay
push_bytes k h m parts o b w =
    by_kept (push_on k h m parts o).answer
    (λ e. let t = push_taken k h m parts o e in
    let a = push_arena k o.setting (kind_store_of k o) (to_z w64 h.id) (claim_of (meta_of m)) (bytes_of k h m parts) t.1.1.0 in
    rw t.1.1.1 (put_bytes k (push_stored k h m parts o).kind_store o
    (rw a (over_small (kind_store_of k o).arena (kind_store_of k o).used (bytes_of k h m parts) (w.arenas k) (written_small k (head_in k h) (meta_of m) parts b))) w))
    (λ r e. rw (push_refused k h m parts o r e) w)

pub delete_bytes : (k : Kind) (id : ℤ) (m : Meta ℕ) (o : Overlay) → InBytes o → InBytes (delete_on k id m o).overlay
delete_bytes k id m o w =
    by_kept (delete_on k id m o).answer
    (λ e. rw (delete_kept k id m o e).left (put_bytes k (delete_stored k id m o).kind_store o (rw delete_arena (w.arenas k)) w))
    (λ r e. rw (delete_refused k id m o r e) w)

pub intern_bytes : (t : Bytes) (o : Overlay) → all is_byte t ≡ true → InBytes o → InBytes (intern_on t o).overlay
unfolding added
intern_bytes t o b w =
    by_handle (intern_on t o).answer
    (λ n e. let q = intern_kept t o n e in
    rw q.left (record {
      arenas = λ k. rw texts_kind_store (w.arenas k);
      texts = by_intern o.texts t (strings_sound o q.sound) (λ i. rw i w.texts) (λ i. rw i (over_small o.texts.bytes o.texts.used t w.texts b));
    }))
    (λ r e. rw (intern_refused t o r e) w)
