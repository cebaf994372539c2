-- A direct call on an overlay: `intern`, push, delete, the regression setting. Done, or refused 12, it is so on both sides, with the same left.
use Rattle.std.proofs.lemmas.Option.{same_Some}
use Rattle.std.specs.Prelude.{None, Option, Some, Result, Ok, Err}
use Rattle.std.proofs.Common.{◌≡◌, ℕ, ◌<◌, true, List, [], ◌∷◌, ◌++◌, map, ℤ, sym, refl, ap, ◌∙◌, subst, append-nil, arith, w32, w64, SFits, to_z}
use mir.Facts.{Fits-of_lt, sfits_to_z}
use Rattle.base.specs.Bytes.{Bytes, all}
use Rattle.base.proofs.Split.{no}
use Rattle.little.specs.Little.{is_byte}
use Rattle.kind.specs.declared.Kind.{Kind}
use Rattle.kind.specs.declared.Kind.TheVariants as K
use Rattle.refusal.specs.declared.Refusal.TheVariants as R
use Rattle.model.specs.Record.{Meta, Tag, Body, place, refs, members, Record, kind_of, claim_of}
use Rattle.compact.specs.Layout.{Head}
use Rattle.compact.specs.Cut.{Cut, found, then_cut, times, used_up, whole, cut_tag, cut_body, cut_parts, pushed_record}
use Rattle.compact.specs.Held.{meta_of, head_in, node_head}
use Rattle.compact.specs.declared.ArenaMeta.{ArenaMeta}
use Rattle.compact.specs.declared.PushHead.{PushHead}
use Rattle.compact.proofs.Cuts.{pushed}
use Rattle.compact_legal.proofs.Laws.{push_legal}
use Rattle.interner.specs.Texts.{handle_of, take_in}
use Rattle.interner.specs.Sound.{texts_of}
use Rattle.kind_store.specs.KindStore.{taken_in}
use Rattle.kind_store.specs.WellFormed.{WellFormed}
use Rattle.kind_store.proofs.Answers.{push_12, delete_12}
use Rattle.kind_store.proofs.Claims.{given_claim}
use Rattle.overlay.specs.Overlay.{Overlay, kind_store_of}
use Rattle.overlay.specs.Sound.{Sound}
use Rattle.overlay.specs.Given.{head_fits, meta_fits, InBytes}
use Rattle.overlay.specs.Calls.{OverlayAfter, allow_on}
use Rattle.overlay.proofs.Answers.{is_taken, allow_taken}
use Rattle.overlay.proofs.Bounds.{id_given, meta_given}
use Rattle.overlay.proofs.Keeps.{allow_sound, allow_bytes}
use Rattle.overlay.proofs.KindStores.{setting_kind_store}
use Rattle.overlay.proofs.Tiles.{sized_arena}
use Rattle.overlay_store.specs.Calls.{bytes_of, store_push, store_delete}
use Rattle.overlay_direct.specs.Calls.{push_on, delete_on, intern_on}
use Rattle.overlay_direct.proofs.Answers.{by_fault, push_store, push_taken, push_refusal, delete_store, delete_taken, delete_refusal}
use Rattle.overlay_direct.proofs.Keeps.{push_kept, push_sound, push_bytes, delete_sound, delete_bytes, intern_kept, intern_sound, intern_bytes, intern_kind_store, intern_setting}
use Rattle.calls.proofs.Rows.{well_formed_sound}
use Rattle.published.specs.Compact.{refs_appended, members_appended, append_tags}
use Rattle.published.specs.Parse.{CompactDiffOverlay, intern_in, handle_in_overlay, allow, delete_kind}
use Rattle.refines.specs.OneKind.{allowed, SameFields}
use Rattle.refines.specs.Overlays.{element_kind, arena_meta, meta_words, tag_part, member_part, refs_in, members_in, push_handed, rust_push, rust_delete, fields_of, SameCore, SameOverlay}
use Rattle.refines.proofs.Appends.{push_record, same_parts}
use Rattle.refines.proofs.Stores.{refuse_push, refuse_delete, store_pushes, store_deletes}
use Rattle.refines.proofs.Texts.{texts_intern, handle_intern}

-- a sound overlay of bytes is well-formed
pub well_sound : (o : Overlay) → Sound o → InBytes o → (k : Kind) → WellFormed k (kind_store_of k o)
well_sound o sound bytes k =
    well_formed_sound o.texts.strings k (kind_store_of k o) (sound.kind_stores k) (bytes.arenas k)
    (omega (arith, sized_arena o sound.sizes k))

-- ---- what is handed to the Rust

-- a node's place is that of its head
place_given : (h : Head) (m : Meta ℕ) (parts : Bytes) (x : Record ℕ) → pushed_record K.Node h m parts ≡ Some x → x.body ≡ place h.lat h.lon
unfolding pushed_record cut_parts cut_body then_cut
place_given h m parts x e = go (times cut_tag h.tags parts) e
  where
    up : (ts : List (Tag ℕ)) (q : Bytes) → used_up (record { meta = m; body = place h.lat h.lon; tags = ts }) q ≡ Some x → x.body ≡ place h.lat h.lon
    up ts [] e = let z : record { meta = m; body = place h.lat h.lon; tags = ts } ≡ x = same_Some _ _ e in ap (λ (y : Record ℕ). y.body) (sym z)
    up ts (b ∷ q) e = no cc

    go : (o : Option (Cut (List (Tag ℕ)))) → whole (then_cut o (λ ts r. found (record { meta = m; body = place h.lat h.lon; tags = ts }) r)) ≡ Some x → x.body ≡ place h.lat h.lon
    go None e = no cc
    go (Some c) e = up c.item c.rest e

meta_words_lem : (m : ArenaMeta) → meta_words m ≡ arena_meta (meta_of m)
unfolding meta_of
meta_words_lem m = refl

body_given : (k : Kind) (h : PushHead) (m : ArenaMeta) (parts : Bytes) (x : Record ℕ) → k ≡ K.Node → pushed_record k (head_in k h) (meta_of m) parts ≡ Some x
    → x.body ≡ place (to_z w32 h.lat) (to_z w32 h.lon)
unfolding head_in node_head
body_given k h m parts x e made = place_given (head_in K.Node h) (meta_of m) parts x (rw e at made)

as_record : (k : Kind) (h : PushHead) (m : ArenaMeta) (r : CompactDiffOverlay) (meta : Meta ℕ) (body : Body ℕ) (tags : List (Tag ℕ)) → kind_of body ≡ k → meta ≡ meta_of m
    → (k ≡ K.Node → body ≡ place (to_z w32 h.lat) (to_z w32 h.lon))
    → push_handed k h m (Some (record { meta = meta; body = body; tags = tags })) r ≡ push_record r (to_z w64 h.id) (record { meta = meta; body = body; tags = tags })
unfolding meta_of
as_record K.Node h m r meta body tags e q n = rw (n refl, q)
as_record K.Way h m r meta (refs rs) tags e q n = rw q
as_record K.Way h m r meta (place lat lon) tags e q n = no cc
as_record K.Way h m r meta (members ms) tags e q n = no cc
as_record K.Relation h m r meta (members ms) tags e q n = rw q
as_record K.Relation h m r meta (place lat lon) tags e q n = no cc
as_record K.Relation h m r meta (refs rs) tags e q n = no cc

module _ (k : Kind) (h : PushHead) (m : ArenaMeta) (parts : Bytes) (b : all is_byte parts ≡ true) (x : Record ℕ) (made : pushed_record k (head_in k h) (meta_of m) parts ≡ Some x) where
  -- the parts are the bytes that the Rust appends for them
  pub parts_handed : parts ≡ refs_appended (refs_in x.body) ++ members_appended (map member_part (members_in x.body)) ++ append_tags (map tag_part x.tags)
  parts_handed = (rw append-nil at (pushed k (head_in k h) (meta_of m) parts x b made).here.is) ∙ sym (same_parts x)

  -- and the record is pushed that they make
  handed : (r : CompactDiffOverlay) → rust_push k h m parts r ≡ push_record r (to_z w64 h.id) x
  handed r =
      let p = pushed k (head_in k h) (meta_of m) parts x b made in
      rw made (as_record k h m r x.meta x.body x.tags p.kind p.meta (λ e. body_given k h m parts x e made))

-- what is done on both sides: the Rust answers, and holds the same
abbrev pub Does : Overlay → Result CompactDiffOverlay ℤ → Type 0
Does o x = (q : CompactDiffOverlay) × ((x ≡ Ok q) × SameOverlay o q)

module _ (o : Overlay) (r : CompactDiffOverlay) (w : SameOverlay o r) where
  well : (k : Kind) → WellFormed k (kind_store_of k o)
  well k = well_sound o w.sound w.bytes k

  -- ---- push

  module _ (k : Kind) (h : PushHead) (m : ArenaMeta) (parts : Bytes) (f : head_fits h ≡ true) (g : meta_fits m ≡ true) (b : all is_byte parts ≡ true) where
    pub push_done : taken_in (push_on k h m parts o).answer ≡ true → Does (push_on k h m parts o).overlay (rust_push k h m parts r)
    push_done e =
        let p = push_kept k h m parts o f g b e in
        let t = push_taken k h m parts o e in
        let q : push_on k h m parts o ≡ store_push k h m parts o = push_store k h m parts o t.0 t.1.0 in
        let a : (store_push k h m parts o).answer ≡ (Ok tt) = ap (λ (z : OverlayAfter). z.answer) (sym q) ∙ is_taken _ e in
        let v = store_pushes o r well w.core k h m parts p.held (id_given h f) p.kind p.meta p.bytes a in (
          v.0,
          (
            handed k h m parts b p.held p.made r ∙ v.1.0,
            record { sound = push_sound k h m parts o f g b w.sound; bytes = push_bytes k h m parts o b w.bytes; core = subst (λ (z : OverlayAfter). SameCore z.overlay v.0) (sym q) v.1.1 },
          ),
        )

    pub push_refuses : (v : ℤ) → (push_on k h m parts o).answer ≡ Err (R.Regression v) → rust_push k h m parts r ≡ Err v
    push_refuses v e =
        push_refusal k h m parts o (R.Regression v) e
        (λ s q. no cc)
        (λ s q. by_fault o.texts.strings (pushed_record k (head_in k h) (meta_of m) parts) (R.Regression v) q (λ z. no cc) (λ z. no cc) (λ z. no cc) (λ z. no cc))
        (λ s legal a.
        let x = push_legal o.texts.strings (pushed_record k (head_in k h) (meta_of m) parts) legal in
        let p = pushed k (head_in k h) (meta_of m) parts x.0 b x.1.0 in
        handed k h m parts b x.0 x.1.0 r ∙ (refuse_push o r well w.core.kinds w.core.allows k (to_z w64 h.id) x.0 (id_given h f) p.kind v
        (rw p.meta ((push_12 k o.setting (kind_store_of k o) (to_z w64 h.id) (claim_of (meta_of m)) (bytes_of k h m parts) v).0 a))))

  -- ---- delete

  module _ (k : Kind) (n : ℕ) (m : ArenaMeta) (f : n < 18446744073709551616) (g : meta_fits m ≡ true) where
    deleted_fits : SFits w64 (to_z w64 n)
    deleted_fits = sfits_to_z {w = w64} (Fits-of_lt f)

    pub delete_done : taken_in (delete_on k (to_z w64 n) (meta_of m) o).answer ≡ true → Does (delete_on k (to_z w64 n) (meta_of m) o).overlay (rust_delete k n m r)
    delete_done e =
        let t = delete_taken k (to_z w64 n) (meta_of m) o e in
        let q : delete_on k (to_z w64 n) (meta_of m) o ≡ store_delete k (to_z w64 n) (claim_of (meta_of m)) o = delete_store k (to_z w64 n) (meta_of m) o t.0 t.1.0 in
        let a : (store_delete k (to_z w64 n) (claim_of (meta_of m)) o).answer ≡ (Ok tt) = ap (λ (z : OverlayAfter). z.answer) (sym q) ∙ is_taken _ e in
        let v = store_deletes o r well w.core k (to_z w64 n) (meta_of m) deleted_fits (given_claim (meta_of m) (meta_given m g)) a in (
          v.0,
          (
            ap (delete_kind r (element_kind k) (to_z w64 n)) (meta_words_lem m) ∙ v.1.0,
            record { sound = delete_sound k (to_z w64 n) (meta_of m) o w.sound; bytes = delete_bytes k (to_z w64 n) (meta_of m) o w.bytes; core = subst (λ (z : OverlayAfter). SameCore z.overlay v.0) (sym q) v.1.1 },
          ),
        )

    pub delete_refuses : (v : ℤ) → (delete_on k (to_z w64 n) (meta_of m) o).answer ≡ Err (R.Regression v) → rust_delete k n m r ≡ Err v
    delete_refuses v e =
        delete_refusal k (to_z w64 n) (meta_of m) o (R.Regression v) e
        (λ s q. no cc) (λ s l q. no cc)
        (λ s l a. ap (delete_kind r (element_kind k) (to_z w64 n)) (meta_words_lem m) ∙ refuse_delete o r well w.core.kinds w.core.allows k (to_z w64 n) (meta_of m) deleted_fits v
        ((delete_12 k o.setting (kind_store_of k o) (to_z w64 n) (claim_of (meta_of m)) v).0 a))

  -- ---- a text, and the setting

  pub intern_done : (t : Bytes) (n : ℕ) → all is_byte t ≡ true → (intern_on t o).answer ≡ Ok n → (handle_in_overlay r t ≡ n) × SameOverlay (intern_on t o).overlay (intern_in r t)
  intern_done t n b e =
      let p = intern_kept t o n e in
      let i : handle_of t (take_in (texts_of o.texts) t) ≡ Some n = rw p.texts at p.place in
      let texts : texts_of (intern_on t o).overlay.texts ≡ take_in (texts_of o.texts) t = rw p.left p.texts in (
        same_Some _ _ (sym (handle_intern (texts_of o.texts) r.interner w.core.texts t) ∙ i),
        record {
          sound = intern_sound t o w.sound;
          bytes = intern_bytes t o b w.bytes;
          core = record {
            kinds = λ k. rw (intern_kind_store t o k) (left k);
            texts = rw texts (texts_intern (texts_of o.texts) r.interner w.core.texts t);
            allows = w.core.allows ∙ ap allowed (sym (intern_setting t o));
          };
        },
      )
    where
      left : (k : Kind) → SameFields (kind_store_of k o) (fields_of k (intern_in r t))
      left K.Node = w.core.kinds K.Node
      left K.Way = w.core.kinds K.Way
      left K.Relation = w.core.kinds K.Relation

  pub allow_done : (setting : ℕ) → taken_in (allow_on setting o).answer ≡ true → SameOverlay (allow_on setting o).overlay (allow r (allowed setting))
  allow_done setting e =
      let after = (allow_taken setting o e).1 in
      record {
        sound = allow_sound setting o w.sound;
        bytes = allow_bytes setting o w.bytes;
        core = record { kinds = λ k. rw (after, setting_kind_store k setting o) (left k); texts = rw after w.core.texts; allows = rw after };
      }
    where
      left : (k : Kind) → SameFields (kind_store_of k o) (fields_of k (allow r (allowed setting)))
      left K.Node = w.core.kinds K.Node
      left K.Way = w.core.kinds K.Way
      left K.Relation = w.core.kinds K.Relation
