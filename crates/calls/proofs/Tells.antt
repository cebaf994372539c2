-- What a kind store tells is what the accepted acts on its kind come to: an accepted push, an accepted delete, an act on another kind and a text taken in keep that.
use Rattle.std.specs.Prelude.{Ok, Option, Some}
use Prim.Native.Nat.{ℕ, ◌+◌, ◌<◌}
use mathlib.Core.Path.{◌≡◌, refl, sym, ◌∙◌, ap}
use mathlib.Core.Bool.{Bool, true, false, cond}
use mathlib.Core.List.{List, [], ◌∷◌, ◌++◌}
use native.Mathlib.Omega.{arith}
use lib.IntN.{ℤ}
use lib.ListN.{length}
use mir.Syntax.{w64}
use mir.Val.{SFits}
use borrow.Author.Tests.{ltb-true}
use Rattle.base.specs.Bytes.{Bytes}
use Rattle.base.proofs.Split.{by_bool, by_eq, both_left, both_right}
use Rattle.kind.specs.Kind.{same_kind}
use Rattle.kind.specs.declared.Kind.{Kind}
use Rattle.kind.proofs.Numbers as Numbers
use Rattle.osm_id.specs.Order.{rank}
use Rattle.osm_id.proofs.Orders.{rank_injective}
use Rattle.version_floor.specs.Version.{higher}
use Rattle.interner.specs.Texts.{text_of}
use Rattle.model.specs.Record.{Meta, Body, place, refs, members, kind_of, claim_of}
use Rattle.model.specs.Act.{Act, Key, push, delete, key_of, claimed_by, left_by}
use Rattle.model.specs.Swap.{swap_record}
use Rattle.model.proofs.Keys.{same_key_lem, other_key}
use Rattle.model.proofs.Swaps.{body_kind, act_key, act_claim}
use Rattle.compact.specs.Layout.{Head, head_bytes, meta_bytes, head_of, parts_bytes, record_bytes}
use Rattle.compact.specs.Cut.{KeptRecord}
use Rattle.compact.specs.Fits.{fits_signed, fits_meta, fits_head, fitting, fits_kept}
use Rattle.compact.specs.Legal.{legal}
use Rattle.compact_legal.specs.Whole.{kept_bytes}
use Rattle.kind_table.specs.Rows.{find}
use Rattle.kind_table.specs.Words.{rows_from, rows_of}
use Rattle.kind_table.proofs.Tables.{sound_empty}
use Rattle.listing_page.specs.Summary as Summary
use Rattle.listing_page.proofs.Tables.{known_more}
use Rattle.kind_store.specs.KindStore.{KindStore, kind_store_with, known_version, pushed, deleted}
use Rattle.kind_store.specs.WellFormed.{WellFormed}
use Rattle.kind_store.proofs.Claims.{Narrow}
use Rattle.kind_store.proofs.KindStores.{known_none, push_used, push_raises, push_other, delete_used, delete_raises, delete_other}
use Rattle.kind_sound.specs.Sound.{SoundKindStore}
use Rattle.calls.specs.Known.{record_length, pushed_by, pushed_bytes}
use Rattle.listing.proofs.Rows.{kept_kind}
use Rattle.calls.proofs.Lengths.{record_length_lem, pushed_more}
use Rattle.calls.proofs.KindStores.{last_of, last_agrees, push_last, push_last_other, delete_last, delete_last_other}

abbrev pub key_in : Kind → ℤ → Key
key_in k id = record { kind = k; id = id }

-- a kind store of a kind and the accepted acts; the highest version only where regression was refused throughout
pub record Tells (k : Kind) (refused : Bool) (s : KindStore) (held : List Bytes) (acts : List (Act Bytes)) : Type 0 where
  pub used : s.used ≡ pushed_bytes k acts
  pub last : (id : ℤ) → SFits w64 id → last_of k s (text_of held) id ≡ (Summary.known acts (key_in k id)).last
  pub high : refused ≡ true → (id : ℤ) → SFits w64 id → known_version k s id ≡ (Summary.known acts (key_in k id)).high

-- ---- what is known after one act more

module _ (acts : List (Act Bytes)) (a : Act Bytes) (key : Key) where
  known_own : key ≡ key_of a → Summary.known (acts ++ (a ∷ [])) key ≡ Summary.learn a (Summary.known acts key)
  known_own e = known_more acts a key ∙ rw ((same_key_lem key (key_of a)).1 e)

  known_other : (key ≡ key_of a → ⊥) → Summary.known (acts ++ (a ∷ [])) key ≡ Summary.known acts key
  known_other n = known_more acts a key ∙ rw (other_key key (key_of a) n)

-- ---- an act on an id of the kind

module _ (k : Kind) (refused : Bool) (s t : KindStore) (held : List Bytes) (acts : List (Act Bytes)) (a : Act Bytes) (id : ℤ) (fits : SFits w64 id) (own : key_in k id ≡ key_of a) where
  -- what holds of its own id and of the others makes what holds of all
  tells_on : Tells k refused s held acts → t.used ≡ s.used + pushed_by k a
      → last_of k t (text_of held) id ≡ Some (left_by a)
      → ((other : ℤ) → (rank other ≡ rank id → ⊥) → last_of k t (text_of held) other ≡ last_of k s (text_of held) other)
      → (refused ≡ true → known_version k t id ≡ higher (known_version k s id) (claimed_by a))
      → ((other : ℤ) → (rank other ≡ rank id → ⊥) → known_version k t other ≡ known_version k s other)
      → Tells k refused t held (acts ++ (a ∷ []))
  tells_on w used last lasts high highs =
      record {
        used = used ∙ (ap (λ (n : ℕ). n + pushed_by k a) w.used ∙ sym (pushed_more k acts a));
        last = λ i f.
            by_eq (rank i) (rank id)
            (λ e. let q : i ≡ id = rank_injective f fits e in rw (q, known_own acts a (key_in k id) own) last)
            (λ n. rw (known_other acts a (key_in k i) (other i n)) (lasts i n ∙ w.last i f));
        high = λ z i f.
            by_eq (rank i) (rank id)
            (λ e. let q : i ≡ id = rank_injective f fits e in rw (q, known_own acts a (key_in k id) own, ← w.high z id fits) (high z))
            (λ n. rw (known_other acts a (key_in k i) (other i n)) (highs i n ∙ w.high z i f));
      }
    where
      other : (i : ℤ) → (rank i ≡ rank id → ⊥) → key_in k i ≡ key_of a → ⊥
      other i n e = n (ap (λ (x : Key). rank x.id) (e ∙ sym own))

-- ---- an act on another kind

other_kind : (a b : Kind) → (a ≡ b → ⊥) → same_kind a b ≡ false
other_kind a b n = by_bool (same_kind a b) (λ t. absurd (n (Numbers.same_yes a b t))) (λ t. t)

pushed_other : (k : Kind) (a : Act Bytes) → (k ≡ (key_of a).kind → ⊥) → pushed_by k a ≡ 0
pushed_other k (push id r) n = ap (λ (t : Bool). cond t (record_length r) 0) (other_kind k (kind_of r.body) n)
pushed_other k (delete j id claim) n = refl

pub tells_other : (k : Kind) (refused : Bool) (s : KindStore) (held : List Bytes) (acts : List (Act Bytes)) (a : Act Bytes) → (k ≡ (key_of a).kind → ⊥)
    → Tells k refused s held acts → Tells k refused s held (acts ++ (a ∷ []))
tells_other k refused s held acts a n w =
    let other : (id : ℤ) → key_in k id ≡ key_of a → ⊥ = λ id e. n (ap (λ (x : Key). x.kind) e) in
    record {
      used = rw (pushed_more k acts a, pushed_other k a n) (omega (arith, w.used));
      last = λ id f. rw (known_other acts a (key_in k id) (other id)) (w.last id f);
      high = λ z id f. rw (known_other acts a (key_in k id) (other id)) (w.high z id f);
    }

-- ---- an accepted push of a legal record under its own id

head_id_fits : (id : ℤ) (b : Body ℕ) (n : ℕ) → fits_head (kind_of b) (head_of id b n) ≡ true → fits_signed w64 id ≡ true
unfolding fits_head head_of
head_id_fits id (place lat lon) n h = both_left _ _ h
head_id_fits id (refs rs) n h = both_left _ _ h
head_id_fits id (members ms) n h = both_left _ _ h

pub id_fits : (k : Kind) (x : KeptRecord) → fits_kept k x ≡ true → fits_signed w64 x.id ≡ true
unfolding fits_kept fitting
id_fits k x h = head_id_fits x.id x.held.body (length x.held.tags) (both_left _ _ (both_right _ _ h))

pub signed_fits : (id : ℤ) → fits_signed w64 id ≡ true → SFits w64 id
unfolding fits_signed
signed_fits id h = record { sfits = ltb-true _ _ h }

meta_fits : (k : Kind) (x : KeptRecord) → fits_kept k x ≡ true → fits_meta x.held.meta ≡ true
unfolding fits_kept fitting
meta_fits k x h = both_left _ _ (both_right _ _ (both_right _ _ h))

-- a record's bytes begin with its head and its metadata
kept_parts : (k : Kind) (x : KeptRecord) → fits_kept k x ≡ true
    → kept_bytes x ≡ head_bytes k (head_of x.id x.held.body (length x.held.tags)) ++ meta_bytes x.held.meta ++ parts_bytes x.held
unfolding record_bytes
kept_parts k x h = rw (kept_kind k x h)

bytes_raise : (k : Kind) (setting : ℕ) (s : KindStore) (id : ℤ) (h : Head) (m : Meta ℕ) (parts bytes : Bytes) → bytes ≡ head_bytes k h ++ meta_bytes m ++ parts → WellFormed k s → fits_meta m ≡ true
    → (pushed k setting s id (claim_of m) bytes).answer ≡ (Ok tt) → setting ≡ 0 → known_version k (pushed k setting s id (claim_of m) bytes).kind_store id ≡ higher (known_version k s id) (claim_of m)
bytes_raise k setting s id h m parts bytes e well_formed f taken z = rw e (push_raises k setting s id h m parts well_formed f (rw e at taken) z)

-- the act that a push of a record is, where these texts are held
abbrev pub push_of : List Bytes → KeptRecord → Act Bytes
push_of held x = push x.id (swap_record (text_of held) x.held)

pub push_key : (k : Kind) (held : List Bytes) (x : KeptRecord) → fits_kept k x ≡ true → key_in k x.id ≡ key_of (push_of held x)
push_key k held x fits = ap (λ (j : Kind). key_in j x.id) (sym (kept_kind k x fits)) ∙ sym (act_key (text_of held) (push x.id x.held))

module _ (strings : ℕ) (k : Kind) (refused : Bool) (setting : ℕ) (s : KindStore) (held : List Bytes) (acts : List (Act Bytes)) (w : SoundKindStore strings k s) (well_formed : WellFormed k s) (told : Tells k refused s held acts) where
  module _ (x : KeptRecord) (fits : fits_kept k x ≡ true) (lawful : legal strings x.held ≡ true)
      (taken : (pushed k setting s x.id (claim_of x.held.meta) (kept_bytes x)).answer ≡ (Ok tt)) where
    own_used : (pushed k setting s x.id (claim_of x.held.meta) (kept_bytes x)).kind_store.used ≡ s.used + pushed_by k (push_of held x)
    own_used =
        rw (push_used k setting s x.id (claim_of x.held.meta) (kept_bytes x) taken, body_kind (text_of held) x.held.body, kept_kind k x fits, Numbers.same_refl k, record_length_lem (text_of held) x.id x.held)

    pub tells_push : (refused ≡ true → setting ≡ 0) → Tells k refused (pushed k setting s x.id (claim_of x.held.meta) (kept_bytes x)).kind_store held (acts ++ (push_of held x ∷ []))
    tells_push set =
        let claim = claim_of x.held.meta in
        let t = (pushed k setting s x.id claim (kept_bytes x)).kind_store in
        let h = head_of x.id x.held.body (length x.held.tags) in
        tells_on k refused s t held acts (push_of held x) x.id (signed_fits x.id (id_fits k x fits)) (push_key k held x fits) told own_used
        (push_last strings k setting s x fits lawful w taken (text_of held) well_formed.short)
        (push_last_other strings k setting s x fits lawful w taken (text_of held))
        (λ z. bytes_raise k setting s x.id h x.held.meta (parts_bytes x.held) (kept_bytes x) (kept_parts k x fits) well_formed (meta_fits k x fits) taken (set z)
        ∙ ap (higher (known_version k s x.id)) (sym (act_claim (text_of held) (push x.id x.held))))
        (push_other k setting s x.id claim (kept_bytes x) taken well_formed)

  -- ---- an accepted delete

  pub tells_delete : (id : ℤ) (claim : Option ℤ) → SFits w64 id → Narrow claim → (deleted k setting s id claim).answer ≡ (Ok tt)
      → Tells k refused (deleted k setting s id claim).kind_store held (acts ++ (delete k id claim ∷ []))
  tells_delete id claim f n taken =
      let t = (deleted k setting s id claim).kind_store in
      tells_on k refused s t held acts (delete k id claim) id f refl told (omega (arith, delete_used k setting s id claim well_formed taken))
      (delete_last strings k setting s id claim w well_formed taken (text_of held))
      (delete_last_other strings k setting s id claim w well_formed taken (text_of held))
      (λ z. delete_raises k setting s id claim well_formed taken n)
      (delete_other k setting s id claim well_formed taken)

  -- ---- more texts held

  pub tells_texts : (more : List Bytes) → ((h : ℕ) → h < strings → text_of held h ≡ text_of more h) → Tells k refused s more acts
  tells_texts more a =
      record {
        used = told.used;
        last = λ id f. sym (last_agrees strings k s w (text_of held) (text_of more) a id) ∙ told.last id f;
        high = told.high;
      }

-- ---- a kind store that holds nothing

pub tells_nothing : (k : Kind) (refused : Bool) (table : List ℕ) (arena : Bytes) (held : List Bytes) → Tells k refused (kind_store_with table 0 arena 0) held []
unfolding pushed_bytes Summary.known Summary.known_from rows_of rows_from find
tells_nothing k refused table arena held =
    record {
      used = refl;
      last = λ id f. refl;
      high = λ z id f. known_none k (kind_store_with table 0 arena 0) (sound_empty table) id refl;
    }
