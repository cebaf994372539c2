-- An event that is refused, in storage: the Rust refuses it with the same number, unless the refusal is one that the Rust has not.
use Rattle.std.specs.Prelude.{None, Ok, Option, Result, Some, Err}
use Rattle.std.proofs.Common.{◌≡◌, ℕ, Bool, true, false, cond, [], take, ℤ, sym, refl, ap, ◌∙◌, subst, w64, to_z}
use Rattle.base.specs.Bytes.{Bytes, both, all}
use Rattle.base.proofs.Split.{by_bool, clash, no}
use Rattle.kind.specs.declared.Kind.{Kind}
use Rattle.kind.specs.declared.Kind.TheVariants as K
use Rattle.refusal.specs.Refusal.{number_of}
use Rattle.refusal.specs.declared.Refusal.{Refusal}
use Rattle.refusal.specs.declared.Refusal.TheVariants as R
use Rattle.nesting.specs.declared.Place.{Place}
use Rattle.model.specs.Record.{Meta, Body, Record, kind_of, flagged, claim_of}
use Rattle.compact.specs.Held.{meta_of}
use Rattle.compact.specs.declared.ArenaMeta.{ArenaMeta}
use Rattle.interner.specs.Strings as Strings
use Rattle.interner.specs.Interned.{Interned}
use Rattle.interner.specs.Interned as I
use Rattle.kind_store.specs.KindStore.{known_version, checked}
use Rattle.kind_store.specs.WellFormed.{WellFormed}
use Rattle.kind_store.proofs.Answers.{push_12, delete_12}
use Rattle.overlay.specs.Overlay.{Overlay, kind_store_of, with_texts}
use Rattle.overlay.proofs.KindStores.{texts_kind_store}
use Rattle.overlay.proofs.Bounds.{id_given}
use Rattle.overlay_store.specs.Calls.{store_push, store_delete, bytes_of}
use Rattle.overlay_store.proofs.Answers.{by_pushed, by_deleted}
use Rattle.event_decision.specs.Decision.{Decision, refuses, moves, begins, deletes, tags, refers, joins, ends}
use Rattle.event_decision.proofs.Lawful.{Lawful}
use Rattle.reader.specs.State.{State, state_sound}
use Rattle.reader.specs.Given.{StateGiven}
use Rattle.reader.specs.Step.{Step, stops, on_handle, taking_user, bits_with_user, head_for, clears_to, step_of, tag_within, part_within}
use Rattle.reader.specs.Step as S
use Rattle.reader.proofs.Legals.{claim_same, bits_id, body_in}
use Rattle.published.specs.Parse.{CompactDiffOverlay, delete_kind}
use Rattle.published.specs.XmlParse.{CompactSink, Staging, end_element, user_interned, user_handle}
use Rattle.published.specs.XmlParse as X
use Rattle.refines.specs.OneKind.{allowed, SameFields}
use Rattle.refines.specs.Overlays.{element_kind, fields_of, SameCore}
use Rattle.refines.specs.Domain.{event_outside, inside_of}
use Rattle.refines.proofs.Appends.{push_record}
use Rattle.refines.proofs.Sinks.{RustTurn, deleted_at, user_of, sunk_at, done_as}
use Rattle.refines.proofs.Sinks as D
use Rattle.refines.specs.Staged.{staging_of}
use Rattle.refines.proofs.Stores.{refuse_push, refuse_delete}
use Rattle.refines.proofs.Turns.{bare, bare_staging, meta_handled_lem, kind_in, push_as, Ordered, staged_at, held, stands}

fields_user : (r : CompactDiffOverlay) (u : Option Bytes) (k : Kind) → fields_of k (user_interned r u) ≡ fields_of k r
fields_user r None k = refl
fields_user r (Some t) K.Node = refl
fields_user r (Some t) K.Way = refl
fields_user r (Some t) K.Relation = refl

allows_user : (r : CompactDiffOverlay) (u : Option Bytes) → (user_interned r u).allow_version_regression ≡ r.allow_version_regression
allows_user r None = refl
allows_user r (Some t) = refl

-- ---- what a step's refusal tells of the Rust

module _ (t : RustTurn) where
  abbrev ToldOf : Step → Type 0
  ToldOf (S.goes l) = Unit {0}
  ToldOf (S.stops x) = inside_of event_outside (number_of x) ≡ true → t ≡ D.stops x

  told_handle : (i : Interned) (f : ℕ → Step) → ((n : ℕ) → ToldOf (f n)) → ToldOf (on_handle i f)
  unfolding inside_of all both
  told_handle (I.Held n) f h = h n
  told_handle (I.New n) f h = h n
  told_handle I.Full f h = λ z. clash z refl

  told_user : (m : Meta Bytes) (o : Overlay) (f : ArenaMeta → Overlay → Step) → ((n : ℕ) (q : Overlay) → ((k : Kind) → kind_store_of k q ≡ kind_store_of k o) → q.setting ≡ o.setting → ToldOf (f (bits_with_user m n) q)) → ToldOf (taking_user m o f)
  unfolding taking_user
  told_user m o f h =
      by_bool (flagged 4 m.flags)
      (λ b. rw b (told_handle (Strings.intern o.texts m.user).answer (λ n. f (bits_with_user m n) (with_texts (Strings.intern o.texts m.user).store o))
      (λ n. h n (with_texts (Strings.intern o.texts m.user).store o) (λ k. texts_kind_store k (Strings.intern o.texts m.user).store o) refl)))
      (λ b. rw b (h 0 o (λ k. refl) refl))

  told_within : (b : Bool) (l : S.Advanced) → ToldOf (cond b (S.goes l) (S.stops R.TooManyParts))
  unfolding inside_of all both
  told_within true l = tt
  told_within false l = λ z. clash z refl

  told_admit : (a : Result Unit ℤ) (x : Step) → ((v : ℤ) → a ≡ Err v → t ≡ D.stops (R.Regression v)) → (a ≡ (Ok tt) → ToldOf x) → ToldOf (S.unless_below a x)
  told_admit (Ok tt) x f g = g refl
  told_admit (Err v) x f g = λ z. f v refl

  told_kept : (y : Result Unit Refusal) (x : Step) → ((r : Refusal) → y ≡ Err r → inside_of event_outside (number_of r) ≡ true → t ≡ D.stops r) → ToldOf x → ToldOf (S.on_kept y x)
  told_kept (Ok tt) x f g = g
  told_kept (Err r) x f g = f r refl

-- ---- each decision

module _ (s : State) (g : StateGiven s) (e : state_sound s ≡ true) (well : (k : Kind) → WellFormed k (kind_store_of k s.overlay))
    (k : CompactSink) (w : SameCore s.overlay k.overlay) (st : k.staging ≡ staged_at s.reader.place s.reader.pending s.parts) where
  user_kinds : (u : Option Bytes) (j : Kind) → SameFields (kind_store_of j s.overlay) (fields_of j (user_interned k.overlay u))
  user_kinds u j = rw (fields_user k.overlay u j) (w.kinds j)

  user_allows : (u : Option Bytes) → (user_interned k.overlay u).allow_version_regression ≡ allowed s.overlay.setting
  user_allows u = allows_user k.overlay u ∙ w.allows

  -- a push of a staged element that is refused
  refused_turn : (p : Place) (r : CompactDiffOverlay) (i v : ℤ) (x : Record ℕ) → push_record r i x ≡ Err v → sunk_at p (X.end_staged r (Some (staging_of i x))) ≡ D.stops (R.Regression v)
  refused_turn p r i v x a = rw (push_as r i x.meta x.body x.tags, a)

  empty_told : (p : Place) (i : ℤ) (m : Meta Bytes) (b : Body Bytes) → Lawful s.reader.place (begins true p i m b) → ToldOf (done_as (begins true p i m b) k) (step_of (begins true p i m b) s)
  unfolding step_of done_as end_element inside_of all both
  empty_told p i m b l =
      let n = user_handle k.overlay (user_of m) in
      let x = bare (meta_of (bits_with_user m n)) (body_in b) in
      let cl : (h : ℕ) → claim_of (meta_of (bits_with_user m h)) ≡ claim_of m = claim_same m l.0.legal in
      told_admit _ (checked s.overlay.setting (known_version (kind_of b) (kind_store_of (kind_of b) s.overlay) i) (claim_of m))
      (taking_user m s.overlay (λ a o. S.on_after (store_push (kind_of b) (head_for i b) a [] o) (clears_to s p)))
      (λ v a. ap (λ (y : Staging). sunk_at p (X.end_staged (user_interned k.overlay (user_of m)) (Some y))) (sym (bare_staging k.overlay i m l.0.legal b n refl))
      ∙ refused_turn p (user_interned k.overlay (user_of m)) i v x
      (refuse_push s.overlay (user_interned k.overlay (user_of m)) well (user_kinds (user_of m)) (user_allows (user_of m)) (kind_of b) i x l.0.fits (kind_in b) v (rw (cl n) a)))
      (λ a. told_user _ m s.overlay (λ a o. S.on_after (store_push (kind_of b) (head_for i b) a [] o) (clears_to s p)) (λ h q same set.
      told_kept _ (store_push (kind_of b) (head_for i b) (bits_with_user m h) [] q).answer (clears_to s p (store_push (kind_of b) (head_for i b) (bits_with_user m h) [] q).overlay) (λ y z.
      let z' = bits_id i b l.0.fits in
      by_pushed (kind_of b) q.setting (kind_store_of (kind_of b) q) (to_z w64 (head_for i b).id) (claim_of (meta_of (bits_with_user m h))) (bytes_of (kind_of b) (head_for i b) (bits_with_user m h) []) y z
      (λ v t. let c = (push_12 (kind_of b) q.setting (kind_store_of (kind_of b) q) (to_z w64 (head_for i b).id) (claim_of (meta_of (bits_with_user m h))) (bytes_of (kind_of b) (head_for i b) (bits_with_user m h) []) v).0 (z ∙ ap Err t) in
      let c2 : checked s.overlay.setting (known_version (kind_of b) (kind_store_of (kind_of b) s.overlay) i) (claim_of m) ≡ Err v = rw (same (kind_of b), set, z', cl h) at c in
      no cc)
      (λ t f. clash (rw t at f) refl) (λ t f. clash (rw t at f) refl)) tt))

  delete_told : (j : Kind) (p : Place) (i : ℤ) (m : Meta Bytes) → Lawful s.reader.place (deletes j p i m) → ToldOf (done_as (deletes j p i m) k) (step_of (deletes j p i m) s)
  unfolding step_of done_as inside_of all both
  delete_told j p i m l =
      let n = user_handle k.overlay (user_of m) in
      let cl = claim_same m l.legal n in
      told_admit _ (checked s.overlay.setting (known_version j (kind_store_of j s.overlay) i) (claim_of m))
      (taking_user m s.overlay (λ a o. S.on_after (store_delete j i (claim_of m) o) (clears_to s p)))
      (λ v a. ap (deleted_at p) (ap (delete_kind (user_interned k.overlay (user_of m)) (element_kind j) i) (sym (meta_handled_lem k.overlay m l.legal n refl))
      ∙ refuse_delete s.overlay (user_interned k.overlay (user_of m)) well (user_kinds (user_of m)) (user_allows (user_of m)) j i (meta_of (bits_with_user m n)) l.fits v (rw cl a)))
      (λ a. told_user _ m s.overlay (λ a o. S.on_after (store_delete j i (claim_of m) o) (clears_to s p)) (λ h q same set.
      told_kept _ (store_delete j i (claim_of m) q).answer (clears_to s p (store_delete j i (claim_of m) q).overlay) (λ y z.
      by_deleted j q.setting (kind_store_of j q) i (claim_of m) y z
      (λ v t. let c = (delete_12 j q.setting (kind_store_of j q) i (claim_of m) v).0 (z ∙ ap Err t) in
      let c2 : checked s.overlay.setting (known_version j (kind_store_of j s.overlay) i) (claim_of m) ≡ Err v = rw (same j, set) at c in
      no cc)
      (λ t f. clash (rw t at f) refl)) tt))

  end_told : (p : Place) → Ordered s.reader.place (ends p) → ToldOf (done_as (ends p) k) (step_of (ends p) s)
  unfolding step_of done_as end_element inside_of all both
  end_told p h =
      let x = s.reader.pending in
      let j = s.reader.place.kind in
      let v = held s g e well k w st in
      let parts = take x.used s.parts in
      told_kept _ (store_push j x.head x.meta parts s.overlay).answer (clears_to s p (store_push j x.head x.meta parts s.overlay).overlay) (λ y z.
      by_pushed j s.overlay.setting (kind_store_of j s.overlay) (to_z w64 x.head.id) (claim_of (meta_of x.meta)) (bytes_of j x.head x.meta parts) y z
      (λ u t f. let c = (push_12 j s.overlay.setting (kind_store_of j s.overlay) (to_z w64 x.head.id) (claim_of (meta_of x.meta)) (bytes_of j x.head x.meta parts) u).0 (z ∙ ap Err t) in
      ap (λ (y : Option Staging). sunk_at p (X.end_staged k.overlay y)) (stands s g e well k w st h.1)
      ∙ (refused_turn p k.overlay (to_z w64 x.head.id) u v.held
      (refuse_push s.overlay k.overlay well w.kinds w.allows j (to_z w64 x.head.id) v.held (id_given x.head v.head) v.stages.kind u (rw v.stages.meta c))
      ∙ ap D.stops (sym t)))
      (λ t f. clash (rw t at f) refl) (λ t f. clash (rw t at f) refl)) tt

  told : (d : Decision) → Lawful s.reader.place d → Ordered s.reader.place d → ToldOf (done_as d k) (step_of d s)
  unfolding step_of done_as
  told (refuses x) l h = λ f. refl
  told (moves p) l h = tt
  told (begins true p i m b) l h = empty_told p i m b l
  told (begins false p i m b) l h = told_user _ m s.overlay (λ a o. S.goes (record { overlay = o; place = p; pending = record { head = head_for i b; meta = a; used = 0 }; parts = s.parts })) (λ n q same set. tt)
  told (deletes j p i m) l h = delete_told j p i m l
  told (tags p t) l h = told_handle _ (Strings.intern s.overlay.texts t.key).answer _ (λ n. told_within _ (tag_within s t) _)
  told (refers p z) l h = told_within _ (part_within s 2000) _
  told (joins p x) l h = told_handle _ (Strings.intern s.overlay.texts x.role).answer _ (λ n. told_within _ (part_within s 2000) _)
  told (ends p) l h = end_told p h

  pub refused_told_lem : (d : Decision) → Lawful s.reader.place d → Ordered s.reader.place d → (x : Refusal) → step_of d s ≡ S.stops x → inside_of event_outside (number_of x) ≡ true → done_as d k ≡ D.stops x
  refused_told_lem d l h x f = subst (λ (y : Step). ToldOf (done_as d k) y) f (told d l h)
