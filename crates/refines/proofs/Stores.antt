-- A push and a delete of the store, with no test before them: what the Rust does then.
use Rattle.std.specs.Prelude.{Option, Ok, Err}
use Rattle.std.proofs.Common.{◌≡◌, ℕ, Bool, List, map, ℤ, sym, refl, ap, ◌∙◌, w64, SFits, to_z}
use Rattle.kind.proofs.Numbers.{by_kind}
use Rattle.base.specs.Bytes.{Bytes}
use Rattle.base.proofs.Split.{by_bool, no}
use Rattle.kind.specs.declared.Kind.{Kind}
use Rattle.kind.specs.declared.Kind.TheVariants as K
use Rattle.model.specs.Record.{Meta, Body, place, refs, members, Record, kind_of, flagged, claim_of}
use Rattle.compact.specs.Held.{meta_of}
use Rattle.compact.specs.Layout.{record_bytes}
use Rattle.compact.specs.declared.ArenaMeta.{ArenaMeta}
use Rattle.compact.specs.declared.PushHead.{PushHead}
use Rattle.kind_store.specs.KindStore as KindStore
use Rattle.kind_store.specs.KindStore.{KindStore, known_version, checked}
use Rattle.kind_store.specs.WellFormed.{WellFormed}
use Rattle.kind_store.proofs.Answers.{by_delete, answered}
use Rattle.kind_store.proofs.Claims.{Narrow}
use Rattle.kind_store.proofs.KindStores.{push_admitted}
use Rattle.overlay.specs.Overlay.{Overlay, kind_store_of, with_kind_store}
use Rattle.overlay.proofs.KindStores.{kind_store_same, kind_store_other, kind_store_texts, kind_store_setting}
use Rattle.overlay_store.specs.Calls.{bytes_of, store_push, store_delete}
use Rattle.published.specs.Std.{map_ok}
use Rattle.published.specs.Compact as C
use Rattle.published.specs.Parse as P
use Rattle.published.specs.Parse.{KindFields, CompactDiffOverlay, delete_kind}
use Rattle.refines.specs.Same.{version}
use Rattle.refines.specs.OneKind.{allowed, SameFields}
use Rattle.refines.specs.Overlays.{element_kind, arena_meta, tag_part, fields_of, with_fields, meta_off, SameCore}
use Rattle.refines.proofs.Acts.{clear_flag, push_err, push_ok, push_same, floors_left, delete_err, delete_ok, delete_same}
use Rattle.refines.proofs.Appends.{push_body, push_record, body_appended, record_appended, same_bytes}

-- ---- claims

same_claim : (m : Meta ℕ) → version (C.version_claim (arena_meta m)) ≡ claim_of m
unfolding C.version_claim claim_of
same_claim m = rw (clear_flag m.flags 8) (by_bool (flagged 8 m.flags) (λ t. rw t) (λ t. rw t))

-- ---- the Rust's push and delete by kind

push_body_lem : (k : Kind) (r : CompactDiffOverlay) (id : ℤ) (b : Body ℕ) (tags : List C.TagPart) (m : C.ArenaMeta) → kind_of b ≡ k
    → push_body r id b tags m ≡ map_ok (with_fields k r) (P.push r.allow_version_regression (meta_off k) (fields_of k r) id (body_appended id b tags m) m)
unfolding P.push_node P.push_way P.push_relation
push_body_lem K.Node r id (place lat lon) tags m e = refl
push_body_lem K.Node r id (refs rs) tags m e = no cc
push_body_lem K.Node r id (members ms) tags m e = no cc
push_body_lem K.Way r id (place lat lon) tags m e = no cc
push_body_lem K.Way r id (refs rs) tags m e = refl
push_body_lem K.Way r id (members ms) tags m e = no cc
push_body_lem K.Relation r id (place lat lon) tags m e = no cc
push_body_lem K.Relation r id (refs rs) tags m e = no cc
push_body_lem K.Relation r id (members ms) tags m e = refl

delete_fields : (k : Kind) (r : CompactDiffOverlay) (id : ℤ) (m : C.ArenaMeta)
    → delete_kind r (element_kind k) id m ≡ map_ok (with_fields k r) (P.delete r.allow_version_regression (meta_off k) (fields_of k r) id m)
unfolding delete_kind
delete_fields k r id m = refl

delete_admitted : (k : Kind) (setting : ℕ) (s : KindStore) (id : ℤ) (claim : Option ℤ) → (KindStore.deleted k setting s id claim).answer ≡ (Ok tt) → checked setting (known_version k s id) claim ≡ (Ok tt)
delete_admitted k setting s id claim e =
    by_delete k setting s id claim (λ v c x. let z = answered x e in no (cc)) (λ c a x. c) (λ c a x. c)

-- ---- one kind's fields put anew

fields_same : (k : Kind) (r : CompactDiffOverlay) (s : KindFields) → fields_of k (with_fields k r s) ≡ s
fields_same K.Node r s = refl
fields_same K.Way r s = refl
fields_same K.Relation r s = refl

fields_other : (j k : Kind) (r : CompactDiffOverlay) (s : KindFields) → (j ≡ k → ⊥) → fields_of j (with_fields k r s) ≡ fields_of j r
fields_other K.Node K.Node r s n = absurd (n refl)
fields_other K.Node K.Way r s n = refl
fields_other K.Node K.Relation r s n = refl
fields_other K.Way K.Node r s n = refl
fields_other K.Way K.Way r s n = absurd (n refl)
fields_other K.Way K.Relation r s n = refl
fields_other K.Relation K.Node r s n = refl
fields_other K.Relation K.Way r s n = refl
fields_other K.Relation K.Relation r s n = absurd (n refl)

fields_rest : (k : Kind) (r : CompactDiffOverlay) (s : KindFields) → ((with_fields k r s).interner ≡ r.interner) × ((with_fields k r s).allow_version_regression ≡ r.allow_version_regression)
fields_rest K.Node r s = (refl, refl)
fields_rest K.Way r s = (refl, refl)
fields_rest K.Relation r s = (refl, refl)

-- ---- a regression, whatever texts are held

module _ (o : Overlay) (r : CompactDiffOverlay) (well : (k : Kind) → WellFormed k (kind_store_of k o)) (kinds : (k : Kind) → SameFields (kind_store_of k o) (fields_of k r)) (allows : r.allow_version_regression ≡ allowed o.setting) where
  pub refuse_push : (k : Kind) (id : ℤ) (x : Record ℕ) → SFits w64 id → kind_of x.body ≡ k → (v : ℤ) → checked o.setting (known_version k (kind_store_of k o) id) (claim_of x.meta) ≡ Err v → push_record r id x ≡ Err v
  unfolding P.push
  refuse_push k id x f kind v e =
      let bytes = record_appended id x in
      let c = C.version_claim (arena_meta x.meta) in
      push_body_lem k r id x.body (map tag_part x.tags) (arena_meta x.meta) kind
      ∙ ap (map_ok (with_fields k r)) (ap (λ (b : Bool). P.push_with b (meta_off k) (fields_of k r) id bytes c) allows
      ∙ push_err k o.setting (kind_store_of k o) (fields_of k r) (well k) (kinds k) id f bytes c v (rw (same_claim x.meta) e))

  pub refuse_delete : (k : Kind) (id : ℤ) (m : Meta ℕ) → SFits w64 id → (v : ℤ) → checked o.setting (known_version k (kind_store_of k o) id) (claim_of m) ≡ Err v → delete_kind r (element_kind k) id (arena_meta m) ≡ Err v
  unfolding P.delete
  refuse_delete k id m f v e =
      let c = C.version_claim (arena_meta m) in
      delete_fields k r id (arena_meta m)
      ∙ ap (map_ok (with_fields k r)) (ap (λ (b : Bool). P.delete_with b (meta_off k) (fields_of k r) id c) allows
      ∙ delete_err k o.setting (kind_store_of k o) (fields_of k r) (well k) (kinds k) id f c v (rw (same_claim m) e))

-- ---- an act that is taken

module _ (o : Overlay) (r : CompactDiffOverlay) (well : (k : Kind) → WellFormed k (kind_store_of k o)) (w : SameCore o r) where
  put_core : (k : Kind) (t : KindStore) (s : KindFields) → SameFields t s → SameCore (with_kind_store k t o) (with_fields k r s)
  put_core k t s same =
      record {
        kinds = λ j. by_kind j k (λ e. rw (e, fields_same k r s, kind_store_same k t o) same) (λ n. rw (kind_store_other j k t o n, fields_other j k r s n) (w.kinds j));
        texts = rw (kind_store_texts k t o, (fields_rest k r s).0) w.texts;
        allows = (fields_rest k r s).1 ∙ (w.allows ∙ ap allowed (sym (kind_store_setting k t o)));
      }

  module _ (k : Kind) (h : PushHead) (m : ArenaMeta) (parts : Bytes) (x : Record ℕ) (f : SFits w64 (to_z w64 h.id))
      (kind : kind_of x.body ≡ k) (meta : x.meta ≡ meta_of m) (bytes : bytes_of k h m parts ≡ record_bytes (to_z w64 h.id) x) where
    abbrev id : ℤ
    id = to_z w64 h.id

    abbrev claim : Option ℤ
    claim = C.version_claim (arena_meta x.meta)

    claims : version claim ≡ claim_of (meta_of m)
    claims = same_claim x.meta ∙ ap claim_of meta

    rust_push_lem : push_record r id x ≡ map_ok (with_fields k r) (P.push_with (allowed o.setting) (meta_off k) (fields_of k r) id (record_bytes id x) claim)
    unfolding P.push
    rust_push_lem = rw (push_body_lem k r id x.body (map tag_part x.tags) (arena_meta x.meta) kind, w.allows, same_bytes id x)

    pub store_pushes : (store_push k h m parts o).answer ≡ (Ok tt) → (q : CompactDiffOverlay) × ((push_record r id x ≡ Ok q) × SameCore (store_push k h m parts o).overlay q)
    store_pushes e =
        let s = kind_store_of k o in
        let taken : (KindStore.pushed k o.setting s id (version claim) (record_bytes id x)).answer ≡ (Ok tt) = rw (claims, ← bytes) e in
        let n = floors_left k o.setting s (fields_of k r) (well k) (w.kinds k) id f (record_bytes id x) claim in
        let same = push_same k o.setting s (fields_of k r) (well k) (w.kinds k) id f (record_bytes id x) claim taken in (
          with_fields k r (P.appended (fields_of k r) n id (record_bytes id x)),
          (
            rw (rust_push_lem, push_ok k o.setting s (fields_of k r) (well k) (w.kinds k) id f (record_bytes id x) claim (push_admitted k o.setting s id (version claim) (record_bytes id x) taken)),
            rw (bytes, ← claims) (put_core k (KindStore.pushed k o.setting s id (version claim) (record_bytes id x)).kind_store (P.appended (fields_of k r) n id (record_bytes id x)) same),
          ),
        )

  module _ (k : Kind) (id : ℤ) (m : Meta ℕ) (f : SFits w64 id) (narrow : Narrow (claim_of m)) where
    rust_delete_lem : delete_kind r (element_kind k) id (arena_meta m) ≡ map_ok (with_fields k r) (P.delete_with (allowed o.setting) (meta_off k) (fields_of k r) id (C.version_claim (arena_meta m)))
    unfolding P.delete
    rust_delete_lem = rw (delete_fields k r id (arena_meta m), w.allows)

    pub store_deletes : (store_delete k id (claim_of m) o).answer ≡ (Ok tt)
        → (q : CompactDiffOverlay) × ((delete_kind r (element_kind k) id (arena_meta m) ≡ Ok q) × SameCore (store_delete k id (claim_of m) o).overlay q)
    store_deletes e =
        let s = kind_store_of k o in
        let c = C.version_claim (arena_meta m) in
        let p : version c ≡ claim_of m = same_claim m in
        let taken : (KindStore.deleted k o.setting s id (version c)).answer ≡ (Ok tt) = rw p e in
        let same = delete_same k o.setting s (fields_of k r) (well k) (w.kinds k) id f c (rw p narrow) taken in (
          with_fields k r (P.marked_deleted (meta_off k) (fields_of k r) id c),
          (
            rw (rust_delete_lem, delete_ok k o.setting s (fields_of k r) (well k) (w.kinds k) id f c (delete_admitted k o.setting s id (version c) taken)),
            rw (← p) (put_core k (KindStore.deleted k o.setting s id (version c)).kind_store (P.marked_deleted (meta_off k) (fields_of k r) id c) same),
          ),
        )
