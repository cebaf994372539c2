-- What an overlay holds is what the texts that were taken in and the acts that were accepted come to. One act or one text more keeps that, whoever makes it: a direct call or a reader's event.
use Rattle.std.specs.Prelude.{Err, Ok, Option}
use Prim.Native.Nat.{ℕ}
use mathlib.Core.Path.{◌≡◌, refl, sym, ◌∙◌, ap, subst}
use mathlib.Core.Bool.{Bool, true, false}
use mathlib.Core.Logic.{◌↔◌}
use mathlib.Core.List.{List, [], ◌∷◌, ◌++◌}
use native.Mathlib.Omega.{arith}
use lib.IntN.{ℤ}
use lib.ListN.{length}
use mir.Syntax.{w64}
use mir.Val.{SFits}
use Rattle.base.specs.Bytes.{Bytes, all}
use Rattle.base.proofs.Split.{clash}
use Rattle.base.proofs.Lists.{all_nil, all_cons, all_head, all_tail, all_append}
use Rattle.little.specs.Little.{is_byte}
use Rattle.text.specs.Check.{is_text}
use Rattle.kind.specs.declared.Kind.{Kind}
use Rattle.kind.specs.declared.Kind.TheVariants.{Node, Way, Relation}
use Rattle.kind.proofs.Numbers.{by_kind}
use Rattle.version_floor.specs.Version.{admit_of}
use Rattle.version_floor.proofs.Versions.{below_is}
use Rattle.refusal.specs.declared.Refusal.TheVariants.{Regression}
use Rattle.interner.specs.Texts.{text_of, take_in, no_texts, intern_accepted}
use Rattle.interner.specs.Strings.{intern}
use Rattle.interner.specs.Sound.{texts_of}
use Rattle.interner.proofs.Held.{text_stays}
use Rattle.interner.proofs.Interns as Interns
use Rattle.model.specs.Record.{claim_of}
use Rattle.model.specs.Act.{Act, Key, delete, key_of}
use Rattle.model.proofs.Keys.{other_key}
use Rattle.compact.specs.Cut.{KeptRecord}
use Rattle.compact.specs.Fits.{fits_signed, fits_kept}
use Rattle.compact.specs.Legal.{legal}
use Rattle.compact_legal.specs.Whole.{kept_bytes}
use Rattle.listing_page.specs.Summary as Summary
use Rattle.kind_store.specs.KindStore.{KindStore, known_version, checked, pushed, deleted, taken_in}
use Rattle.kind_store.specs.WellFormed.{rows_in, WellFormed}
use Rattle.kind_store.proofs.Answers.{push_regression, delete_regression}
use Rattle.kind_store.proofs.Claims.{Narrow}
use Rattle.kind_store.proofs.KindStores.{push_laid, push_arena, delete_laid, delete_arena}
use Rattle.kind_sound.specs.Sound.{SoundKindStore}
use Rattle.kind_sound.proofs.Keeps as Sounds
use Rattle.overlay_blocks.specs.Sizes.{largest}
use Rattle.overlay.specs.Overlay.{Overlay, kind_store_of, with_kind_store, with_texts, sizes_fit, empty}
use Rattle.overlay.specs.Given.{InBytes}
use Rattle.overlay.specs.Sound.{Sound}
use Rattle.overlay.specs.Calls.{OverlayAfter, set_up, allow_on}
use Rattle.overlay_store.specs.Calls.{Interning}
use Rattle.overlay_direct.specs.Calls.{intern_on}
use Rattle.overlay.proofs.Decides.{decides}
use Rattle.overlay.proofs.Answers.{by_set_up, by_allow}
use Rattle.overlay_direct.proofs.Answers.{intern_store}
use Rattle.overlay.proofs.Keeps.{setup_sound, setup_bytes, allow_sound, allow_bytes}
use Rattle.overlay_direct.proofs.Keeps.{intern_sound, intern_bytes}
use Rattle.overlay.proofs.Bounds.{over_small}
use Rattle.overlay.proofs.KindStores.{kind_store_same, kind_store_other, kind_store_texts, kind_store_setting, each_kind_store, texts_kind_store, setting_kind_store}
use Rattle.overlay.proofs.Tiles.{sized_arena, span_lent, put_sized}
use Rattle.calls.specs.Known.{Regresses}
use Rattle.listing.specs.Known.{known_in}
use Rattle.listing.specs.Table.{is_rank, Ranked}
use Rattle.listing.proofs.Summaries.{ranked_put, ranked_kind_store, ranked_texts, ranked_empty}
use Rattle.calls.proofs.Rows.{well_formed_sound}
use Rattle.reader.proofs.Small.{text_small}
use Rattle.calls.proofs.Small.{record_small}
use Rattle.calls.proofs.KindStores.{last_of}
use Rattle.calls.proofs.Tells.{Tells, key_in, push_of, push_key, id_fits, signed_fits, tells_push, tells_delete, tells_other, tells_texts, tells_nothing}

-- the id that an act names is one of 64 bits
abbrev pub named : Act Bytes → Bool
named a = fits_signed w64 (key_of a).id

-- an overlay, the texts that were taken in, in the order of their handles, and the accepted acts, in order; whether regression was refused throughout
pub record Reflects (refused : Bool) (o : Overlay) (held : List Bytes) (acts : List (Act Bytes)) : Type 0 where
  pub sound : Sound o
  pub bytes : InBytes o
  pub set : refused ≡ true → o.setting ≡ 0
  pub texts : texts_of o.texts ≡ held
  pub tells : (k : Kind) → Tells k refused (kind_store_of k o) held acts
  pub ids : all named acts ≡ true
  pub ranks : Ranked o

-- what no act names is not known
unnamed : (x : Summary.Known) (acts : List (Act Bytes)) (key : Key) → all named acts ≡ true → fits_signed w64 key.id ≡ false → Summary.known_from x acts key ≡ x
unfolding Summary.known_from
unnamed x [] key h f = refl
unnamed x (a ∷ acts) key h f =
    rw (other_key key (key_of a) (λ e. clash (all_head named a acts h) (rw e at f))) (unnamed x acts key (all_tail named a acts h) f)

module _ (refused : Bool) (o : Overlay) (held : List Bytes) (acts : List (Act Bytes)) (w : Reflects refused o held acts) where
  -- each kind store is fair
  pub well_formed_of : (k : Kind) → WellFormed k (kind_store_of k o)
  well_formed_of k = well_formed_sound o.texts.strings k (kind_store_of k o) (w.sound.kind_stores k) (w.bytes.arenas k) (omega (arith, sized_arena o w.sound.sizes k))

  -- ---- an act on a kind

  module _ (k : Kind) (t : KindStore) (a : Act Bytes) (kind : k ≡ (key_of a).kind) where
    -- the kind store of the kind put anew, where it is sound, of bytes and of its size, and tells of the act
    put_reflects : SoundKindStore o.texts.strings k t → all is_byte t.arena ≡ true → length t.table ≡ length (kind_store_of k o).table → length t.arena ≡ length (kind_store_of k o).arena
        → Tells k refused t held (acts ++ (a ∷ [])) → named a ≡ true → all is_rank (rows_in t) ≡ true → Reflects refused (with_kind_store k t o) held (acts ++ (a ∷ []))
    put_reflects s b e f told n r =
        record {
          sound = record {
            sizes = put_sized largest k t o e f w.sound.sizes;
            strings = rw kind_store_texts w.sound.strings;
            kind_stores = λ j. rw kind_store_texts (each_kind_store (SoundKindStore o.texts.strings) k t o s w.sound.kind_stores j);
          };
          bytes = record {
            arenas = each_kind_store (λ j z. all is_byte z.arena ≡ true) k t o b w.bytes.arenas;
            texts = rw kind_store_texts w.bytes.texts;
          };
          set = λ z. kind_store_setting k t o ∙ w.set z;
          texts = rw kind_store_texts w.texts;
          tells = λ j.
              by_kind j k
              (λ q. rw (q, kind_store_same k t o) told)
              (λ q. rw (kind_store_other j k t o q) (tells_other j refused (kind_store_of j o) held acts a (λ z. q (z ∙ sym kind)) (w.tells j)));
          ids = all_append named acts (a ∷ []) w.ids (all_cons named a [] n (all_nil named));
          ranks = ranked_kind_store k t o r w.ranks;
        }

  -- an accepted push of a legal record
  module _ (k : Kind) (x : KeptRecord) (fits : fits_kept k x ≡ true) (lawful : legal o.texts.strings x.held ≡ true)
      (taken : (pushed k o.setting (kind_store_of k o) x.id (claim_of x.held.meta) (kept_bytes x)).answer ≡ (Ok tt)) where
    pub reflects_push : Reflects refused (with_kind_store k (pushed k o.setting (kind_store_of k o) x.id (claim_of x.held.meta) (kept_bytes x)).kind_store o) held (acts ++ (push_of held x ∷ []))
    reflects_push =
        let strings = o.texts.strings in
        let s = kind_store_of k o in
        let c = claim_of x.held.meta in
        let p = w.sound.kind_stores k in
        let i = id_fits k x fits in
        let l = push_laid k o.setting s x.id c p.order (kept_bytes x) taken in
        put_reflects k (pushed k o.setting s x.id c (kept_bytes x)).kind_store (push_of held x) (ap (λ (z : Key). z.kind) (push_key k held x fits))
        (Sounds.push_sound strings k o.setting s c x fits lawful (signed_fits x.id i) p taken)
        (rw (push_arena k o.setting s x.id c (kept_bytes x) taken) (over_small s.arena s.used (kept_bytes x) (w.bytes.arenas k) (record_small strings x.id x.held lawful)))
        l.words l.size
        (tells_push strings k refused o.setting s held acts p (well_formed_of k) (w.tells k) x fits lawful taken w.set) i
        (rw l.rows (ranked_put x.id _ _ (signed_fits x.id i) (rows_in s) (w.ranks.rows k)))

  -- an accepted delete
  module _ (k : Kind) (id : ℤ) (claim : Option ℤ) (fits : fits_signed w64 id ≡ true) (narrow : Narrow claim) (taken : (deleted k o.setting (kind_store_of k o) id claim).answer ≡ (Ok tt)) where
    pub reflects_delete : Reflects refused (with_kind_store k (deleted k o.setting (kind_store_of k o) id claim).kind_store o) held (acts ++ (delete k id claim ∷ []))
    reflects_delete =
        let strings = o.texts.strings in
        let s = kind_store_of k o in
        let p = w.sound.kind_stores k in
        let l = delete_laid k o.setting s id claim p.order taken in
        put_reflects k (deleted k o.setting s id claim).kind_store (delete k id claim) refl
        (Sounds.delete_sound strings k o.setting s id claim p taken)
        (rw (delete_arena k o.setting s id claim (well_formed_of k) taken) (w.bytes.arenas k))
        l.words l.size
        (tells_delete strings k refused o.setting s held acts p (well_formed_of k) (w.tells k) id claim (signed_fits id fits) narrow taken) fits
        (rw l.rows (ranked_put id _ _ (signed_fits id fits) (rows_in s) (w.ranks.rows k)))

  -- a text taken in: the held handles keep their texts
  pub reflects_text : (t : Bytes) → is_text t ≡ true → intern_accepted (intern o.texts t).answer ≡ true
      → Reflects refused (with_texts (intern o.texts t).store o) (take_in held t) acts
  reflects_text t l a =
      let e : (intern_on t o).overlay ≡ with_texts (intern o.texts t).store o = ap (λ (z : Interning). z.overlay) (intern_store t o ((decides o w.bytes).1 w.sound) l) in
      let n : length held ≡ o.texts.strings = ap length (sym w.texts) ∙ Interns.length_texts o.texts in
      record {
        sound = subst Sound e (intern_sound t o w.sound);
        bytes = subst InBytes e (intern_bytes t o (text_small t l) w.bytes);
        set = w.set;
        texts = Interns.texts_after o.texts t (Interns.sound_parts o.texts w.sound.strings) a ∙ ap (λ (z : List Bytes). take_in z t) w.texts;
        tells = λ k.
            rw (texts_kind_store k (intern o.texts t).store o) (tells_texts o.texts.strings k refused o.setting (kind_store_of k o) held acts (w.sound.kind_stores k) (well_formed_of k) (w.tells k)
            (take_in held t) (λ h g. sym (text_stays held t h (rw n g))));
        ids = w.ids;
        ranks = ranked_texts (intern o.texts t).store o w.ranks;
      }

  -- the setting stored: where regression is refused throughout, it is 0
  pub reflects_setting : (setting : ℕ) → (refused ≡ true → setting ≡ 0) → Reflects refused (allow_on setting o).overlay held acts
  reflects_setting setting z =
      by_allow setting o (λ u e. clash ((decides o w.bytes).1 w.sound) u)
      (λ u e.
      let f = ap (λ (x : OverlayAfter). x.overlay) e in
      rw e (record {
        sound = subst Sound f (allow_sound setting o w.sound);
        bytes = subst InBytes f (allow_bytes setting o w.bytes);
        set = z;
        texts = w.texts;
        tells = λ k. rw (setting_kind_store k setting o) (w.tells k);
        ids = w.ids;
        ranks = record { rows = λ k. rw (setting_kind_store k setting o) (w.ranks.rows k) };
      }))

  -- ---- what that comes to

  -- where regression was refused throughout, what the overlay knows of an id is what the acts come to
  pub page_reflects : refused ≡ true → (key : Key) → SFits w64 key.id → known_in o key ≡ Summary.known acts key
  unfolding known_in
  page_reflects z key f =
      let t = w.tells key.kind in
      let l = ap (λ (x : List Bytes). last_of key.kind (kind_store_of key.kind o) (text_of x) key.id) w.texts ∙ t.last key.id f in
      let h = t.high z key.id f in
      λ i. record { last = l i; high = h i }

  -- of an id that has not 64 bits nothing is known
  pub ids_reflect : (key : Key) → fits_signed w64 key.id ≡ false → Summary.known acts key ≡ Summary.nothing
  unfolding Summary.known
  ids_reflect key f = unnamed Summary.nothing acts key w.ids f

  -- T13: what the store refuses 12, where regression was refused throughout
  module _ (z : refused ≡ true) (k : Kind) (id : ℤ) (fits : SFits w64 id) (claim : Option ℤ) (v : ℤ) where
    regresses : (admit_of (known_version k (kind_store_of k o) id) claim ≡ Err v) ↔ Regresses acts (key_in k id) claim v
    regresses =
        let h = (w.tells k).high z id fits in
        let b = below_is (known_version k (kind_store_of k o) id) claim v in (
          λ e. let r = b.0 e in record { version = r.0; claims = r.1.1.0; known = sym h ∙ r.1.0; below = r.1.1.1 },
          λ r. b.1 (r.version, (h ∙ r.known, (r.claims, r.below))),
        )

    -- an answer that is given where the check refuses
    as_checked : (P : ℕ → Type 0) → P 0 ↔ (admit_of (known_version k (kind_store_of k o) id) claim ≡ Err v) → P o.setting ↔ Regresses acts (key_in k id) claim v
    as_checked P e =
        let f = subst (λ (n : ℕ). P n ↔ (admit_of (known_version k (kind_store_of k o) id) claim ≡ Err v)) (sym (w.set z)) e in
        (λ x. regresses.0 (f.0 x), λ x. f.1 (regresses.1 x))

    pub admit_regresses : (checked o.setting (known_version k (kind_store_of k o) id) claim ≡ Err v) ↔ Regresses acts (key_in k id) claim v
    unfolding checked
    admit_regresses = as_checked (λ n. checked n (known_version k (kind_store_of k o) id) claim ≡ Err v) ((λ x. x, λ x. x))

    pub push_regresses : (bytes : Bytes) → ((pushed k o.setting (kind_store_of k o) id claim bytes).answer ≡ Err (Regression v)) ↔ Regresses acts (key_in k id) claim v
    push_regresses bytes = as_checked (λ n. (pushed k n (kind_store_of k o) id claim bytes).answer ≡ Err (Regression v)) (push_regression k (kind_store_of k o) id claim bytes v)

    pub delete_regresses : ((deleted k o.setting (kind_store_of k o) id claim).answer ≡ Err (Regression v)) ↔ Regresses acts (key_in k id) claim v
    delete_regresses = as_checked (λ n. (deleted k n (kind_store_of k o) id claim).answer ≡ Err (Regression v)) (delete_regression k (kind_store_of k o) id claim v)

-- ---- an empty overlay stands for no act

pub reflects_empty : (refused : Bool) (setting : ℕ) (o : Overlay) → (refused ≡ true → setting ≡ 0) → sizes_fit largest o ≡ true → InBytes o → Reflects refused (empty setting o) no_texts []
reflects_empty refused setting o set fit b = by_set_up o.sizes setting o (λ s e. clash fit s) (λ s e. go (ap (λ (z : OverlayAfter). z.answer) e) (ap (λ (z : OverlayAfter). z.overlay) e))
  where
    told : (k : Kind) → Tells k refused (kind_store_of k (empty setting o)) no_texts []
    told Node = tells_nothing Node refused o.nodes.table o.nodes.arena no_texts
    told Way = tells_nothing Way refused o.ways.table o.ways.arena no_texts
    told Relation = tells_nothing Relation refused o.relations.table o.relations.arena no_texts

    go : (set_up o.sizes setting o).answer ≡ (Ok tt) → (set_up o.sizes setting o).overlay ≡ empty setting o → Reflects refused (empty setting o) no_texts []
    go e f =
        record {
          sound = subst Sound f (setup_sound o.sizes setting o (ap taken_in e));
          bytes = subst InBytes f (setup_bytes o.sizes setting o b);
          set = set;
          texts = Interns.fresh_texts o.texts.spans o.texts.bytes (span_lent o fit);
          tells = told;
          ids = all_nil named;
          ranks = ranked_empty setting o;
        }
