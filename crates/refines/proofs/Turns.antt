-- An event in storage: an accepted one leaves on both sides the same overlay, the same place and the same staged element.
use Rattle.std.proofs.lemmas.Option.{same_Some}
use Rattle.std.specs.Prelude.{None, Option, Some, Ok}
use Rattle.std.proofs.Common.{◌≡◌, ℕ, ◌+◌, ◌≤◌, Bool, true, false, cond, List, [], ◌∷◌, map, length, take, ℤ, sym, refl, ap, ◌∙◌, arith, to_z-of_z, w64, SFits, to_z, of_z, lt-ltb}
use mathlib.Core.List.{map-append}
use Rattle.base.specs.Bytes.{Bytes}
use Rattle.base.proofs.Split.{by_bool}
use Rattle.base.proofs.Lists.{all_nil}
use Rattle.little.specs.Little.{is_byte}
use Rattle.little.proofs.Littles.{bytes_take}
use Rattle.kind.specs.Kind.{kind_number}
use Rattle.kind.specs.declared.Kind.{Kind}
use Rattle.kind.specs.declared.Kind.TheVariants as K
use Rattle.text.specs.Check.{is_text}
use Rattle.nesting.specs.Name.{name_of}
use Rattle.nesting.specs.Nesting.{at, opened, opened_at, in_doc, in_root, in_section, in_element, closed, closed_to}
use Rattle.nesting.specs.declared.Name.{Name}
use Rattle.nesting.specs.declared.Name.TheVariants as N
use Rattle.nesting.specs.declared.Action.{Action}
use Rattle.nesting.specs.declared.Action.TheVariants as A
use Rattle.nesting.specs.declared.Level.{Level}
use Rattle.nesting.specs.declared.Level.TheVariants as L
use Rattle.nesting.specs.declared.Place.{Place}
use Rattle.model.specs.Record.{Meta, Member, Tag, Body, place, refs, members, Record, kind_of, flagged, claim_of}
use Rattle.compact.specs.Cut.{pushed_record, cut_parts, cut_body, times, then_cut}
use Rattle.compact.specs.Held.{meta_of, head_in, node_head, counts_head}
use Rattle.compact.specs.Legal.{limits, within_limits}
use Rattle.refusal.specs.declared.Refusal.TheVariants as R
use Rattle.compact.specs.Fits.{fits_number}
use Rattle.compact.specs.declared.ArenaMeta.{ArenaMeta}
use Rattle.compact.specs.declared.PushHead.{PushHead}
use Rattle.reader_stage.specs.Stage.{staged, ref_part, member_part, tag_part}
use Rattle.reader_stage.proofs.Parts.{with_tag, with_ref, with_member}
use Rattle.interner.specs.Strings as Strings
use Rattle.interner.specs.Texts.{handle_of, take_in}
use Rattle.interner.specs.Sound.{texts_of}
use Rattle.interner.specs.Interned.{Interned}
use Rattle.interner.specs.Interned as I
use Rattle.interner.proofs.Interns.{length_texts}
use Rattle.interner.proofs.Held.{holds}
use Rattle.event.specs.Event.{Attr, Event, starts, closes, others}
use Rattle.event_fields.specs.Field.{Field, got, bad, id_field, metadata_of, body_for, tag_of, ref_of, member_of}
use Rattle.event_decision.specs.Decision.{Decision, refuses, moves, begins, deletes, tags, refers, joins, ends, on_field, decide_opened, decide_closed, decide_event, element_begins}
use Rattle.kind_store.specs.WellFormed.{WellFormed}
use Rattle.kind_store.specs.KindStore.{known_version, checked}
use Rattle.kind_store.proofs.Claims.{Narrow, given_claim}
use Rattle.overlay.specs.Overlay.{Overlay, kind_store_of, with_texts}
use Rattle.overlay.proofs.KindStores.{texts_kind_store}
use Rattle.overlay.proofs.Bounds.{meta_given, id_given}
use Rattle.overlay_store.specs.Calls.{store_push, store_delete, handle_in}
use Rattle.overlay_store.proofs.Keeps.{record_given}
use Rattle.overlay_direct.specs.Calls.{intern_on}
use Rattle.overlay_direct.proofs.Answers.{intern_store}
use Rattle.overlay_direct.proofs.Keeps.{intern_kept}
use Rattle.event_decision.proofs.Lawful.{Lawful, First}
use Rattle.reader.specs.declared.Pending.{Pending}
use Rattle.reader.specs.State.{State, state_sound, pending_record, more_tags, more_parts}
use Rattle.reader.specs.Given.{StateGiven}
use Rattle.reader.specs.Step.{Advanced, Step, on_handle, with_text, taking_user, bits_with_user, head_for, member_bits, clears_to, tag_within, part_within, part_place, step_of}
use Rattle.reader.specs.Step as S
use Rattle.reader.proofs.Acts.{Fine, a_text, takes_fine, strings_few}
use Rattle.reader.proofs.Advances.{state_fine, state_held, limit_tag, limit_ref, limit_member}
use Rattle.reader.proofs.Element.{PartStaged, stages_back, tag_grows, ref_grows, member_grows, way_body, relation_body}
use Rattle.reader.proofs.Held.{Held, held_few}
use Rattle.event_fields.proofs.Metadata.{Legal}
use Rattle.reader.proofs.Legals.{claim_same, meta_fits_lem, head_fits_lem, bits_id, body_in}
use Rattle.reader.proofs.Steps.{EachStep, stopped, leaves, each_admit, each_after, each_within}
use Rattle.published.specs.Parse.{CompactDiffOverlay, intern_in, handle_in_overlay}
use Rattle.published.specs.XmlParse.{CompactSink, Staging, end_element, sink_with, user_interned, user_handle, push_staged, zip_tags}
use Rattle.published.specs.XmlParse as X
use Rattle.refines.specs.Overlays as W
use Rattle.refines.specs.Overlays.{element_kind, arena_meta, fields_of, SameCore}
use Rattle.refines.specs.Driving.{drive_state}
use Rattle.refines.proofs.Appends.{push_record}
use Rattle.refines.proofs.Sinks.{goes, user_of, meta_handled, staging_for, begun, sunk_at, done_as}
use Rattle.refines.specs.Staged.{staging_of, staged_as, if_pushed, if_open}
use Rattle.refines.proofs.Stores.{store_pushes, store_deletes}
use Rattle.refines.proofs.Texts.{texts_intern, handle_intern}

-- ---- what stands staged at a place

abbrev pub shows : Place → Option Staging → Option Staging
shows p st = if_open p.level (if_pushed p.section st)

abbrev pub staged_at : Place → Pending → Bytes → Option Staging
staged_at p x parts = shows p (staged_as (to_z w64 x.head.id) (pending_record p.kind parts x))

-- where each decision is made, and where it leads
abbrev pub Ordered : Place → Decision → Type 0
Ordered p (refuses r) = Unit {0}
Ordered p (moves q) = (st : Option Staging) → shows q st ≡ shows p st
Ordered p (begins true q id m b) = (st : Option Staging) → shows q st ≡ None
Ordered p (begins false q id m b) = (st : Option Staging) → shows q st ≡ st
Ordered p (deletes k q id m) = (st : Option Staging) → shows q st ≡ None
Ordered p (tags q t) = ((st : Option Staging) → shows q st ≡ st) × ((st : Option Staging) → shows p st ≡ st)
Ordered p (refers q z) = ((st : Option Staging) → shows q st ≡ st) × ((st : Option Staging) → shows p st ≡ st)
Ordered p (joins q m) = ((st : Option Staging) → shows q st ≡ st) × ((st : Option Staging) → shows p st ≡ st)
Ordered p (ends q) = ((st : Option Staging) → shows q st ≡ None) × ((st : Option Staging) → shows p st ≡ st)

ordered_field : {A : Type 0} (p : Place) (x : Field A) (f : A → Decision) → ((a : A) → Ordered p (f a)) → Ordered p (on_field x f)
ordered_field p (got a) f h = h a
ordered_field p (bad r) f h = tt

abbrev placed : Level → Action → Kind → Place
placed l a k = record { level = l; section = a; kind = k }

begins_ordered : (empty : Bool) (a : Action) (k j : Kind) (attrs : List Attr) → Ordered (placed L.Section a k) (element_begins a empty j (cond empty (placed L.Section a k) (placed L.Element a j)) attrs)
begins_ordered true A.Create k j attrs = ordered_field (placed L.Section A.Create k) (id_field attrs) _ (λ id. ordered_field (placed L.Section A.Create k) (metadata_of attrs) _ (λ m. ordered_field (placed L.Section A.Create k) (body_for j attrs) _ (λ b st. refl)))
begins_ordered true A.Modify k j attrs = ordered_field (placed L.Section A.Modify k) (id_field attrs) _ (λ id. ordered_field (placed L.Section A.Modify k) (metadata_of attrs) _ (λ m. ordered_field (placed L.Section A.Modify k) (body_for j attrs) _ (λ b st. refl)))
begins_ordered true A.Delete k j attrs = ordered_field (placed L.Section A.Delete k) (id_field attrs) _ (λ id. ordered_field (placed L.Section A.Delete k) (metadata_of attrs) _ (λ m st. refl))
begins_ordered false A.Create k j attrs = ordered_field (placed L.Section A.Create k) (id_field attrs) _ (λ id. ordered_field (placed L.Section A.Create k) (metadata_of attrs) _ (λ m. ordered_field (placed L.Section A.Create k) (body_for j attrs) _ (λ b st. refl)))
begins_ordered false A.Modify k j attrs = ordered_field (placed L.Section A.Modify k) (id_field attrs) _ (λ id. ordered_field (placed L.Section A.Modify k) (metadata_of attrs) _ (λ m. ordered_field (placed L.Section A.Modify k) (body_for j attrs) _ (λ b st. refl)))
begins_ordered false A.Delete k j attrs = ordered_field (placed L.Section A.Delete k) (id_field attrs) _ (λ id. ordered_field (placed L.Section A.Delete k) (metadata_of attrs) _ (λ m st. refl))

opens_ordered : (empty : Bool) (l : Level) (a : Action) (k : Kind) (n : Name) (attrs : List Attr) → Ordered (placed l a k) (decide_opened (opened_at l empty n (placed l a k)) empty a attrs)
unfolding opened_at in_doc in_root in_section in_element
opens_ordered empty L.Leaf a k n attrs = tt
opens_ordered empty L.Other a k n attrs = tt
opens_ordered empty L.Done a k n attrs = tt
opens_ordered empty L.Doc a k N.OsmChange attrs = λ st. by_bool empty (λ t. rw t) (λ t. rw t)
opens_ordered empty L.Doc a k N.Create attrs = tt
opens_ordered empty L.Doc a k N.Modify attrs = tt
opens_ordered empty L.Doc a k N.Delete attrs = tt
opens_ordered empty L.Doc a k N.Node attrs = tt
opens_ordered empty L.Doc a k N.Way attrs = tt
opens_ordered empty L.Doc a k N.Relation attrs = tt
opens_ordered empty L.Doc a k N.Tag attrs = tt
opens_ordered empty L.Doc a k N.Nd attrs = tt
opens_ordered empty L.Doc a k N.Member attrs = tt
opens_ordered empty L.Doc a k N.Bounds attrs = tt
opens_ordered empty L.Doc a k N.Unknown attrs = tt
opens_ordered empty L.Root a k N.OsmChange attrs = tt
opens_ordered empty L.Root a k N.Create attrs = λ st. by_bool empty (λ t. rw t) (λ t. rw t)
opens_ordered empty L.Root a k N.Modify attrs = λ st. by_bool empty (λ t. rw t) (λ t. rw t)
opens_ordered empty L.Root a k N.Delete attrs = λ st. by_bool empty (λ t. rw t) (λ t. rw t)
opens_ordered empty L.Root a k N.Node attrs = tt
opens_ordered empty L.Root a k N.Way attrs = tt
opens_ordered empty L.Root a k N.Relation attrs = tt
opens_ordered empty L.Root a k N.Tag attrs = λ st. by_bool empty (λ t. rw t) (λ t. rw t)
opens_ordered empty L.Root a k N.Nd attrs = λ st. by_bool empty (λ t. rw t) (λ t. rw t)
opens_ordered empty L.Root a k N.Member attrs = λ st. by_bool empty (λ t. rw t) (λ t. rw t)
opens_ordered empty L.Root a k N.Bounds attrs = λ st. by_bool empty (λ t. rw t) (λ t. rw t)
opens_ordered empty L.Root a k N.Unknown attrs = λ st. by_bool empty (λ t. rw t) (λ t. rw t)
opens_ordered empty L.Section a k N.OsmChange attrs = tt
opens_ordered empty L.Section a k N.Create attrs = tt
opens_ordered empty L.Section a k N.Modify attrs = tt
opens_ordered empty L.Section a k N.Delete attrs = tt
opens_ordered empty L.Section a k N.Node attrs = begins_ordered empty a k K.Node attrs
opens_ordered empty L.Section a k N.Way attrs = begins_ordered empty a k K.Way attrs
opens_ordered empty L.Section a k N.Relation attrs = begins_ordered empty a k K.Relation attrs
opens_ordered empty L.Section a k N.Tag attrs = tt
opens_ordered empty L.Section a k N.Nd attrs = tt
opens_ordered empty L.Section a k N.Member attrs = tt
opens_ordered empty L.Section a k N.Bounds attrs = tt
opens_ordered empty L.Section a k N.Unknown attrs = tt
opens_ordered empty L.Element a k N.OsmChange attrs = tt
opens_ordered empty L.Element a k N.Create attrs = tt
opens_ordered empty L.Element a k N.Modify attrs = tt
opens_ordered empty L.Element a k N.Delete attrs = tt
opens_ordered empty L.Element a k N.Node attrs = tt
opens_ordered empty L.Element a k N.Way attrs = tt
opens_ordered empty L.Element a k N.Relation attrs = tt
opens_ordered empty L.Element A.Create K.Node N.Tag attrs = ordered_field (placed L.Element A.Create K.Node) (tag_of attrs) _ (λ x. (λ st. by_bool empty (λ t. rw t) (λ t. rw t), λ st. refl))
opens_ordered empty L.Element A.Create K.Way N.Tag attrs = ordered_field (placed L.Element A.Create K.Way) (tag_of attrs) _ (λ x. (λ st. by_bool empty (λ t. rw t) (λ t. rw t), λ st. refl))
opens_ordered empty L.Element A.Create K.Relation N.Tag attrs = ordered_field (placed L.Element A.Create K.Relation) (tag_of attrs) _ (λ x. (λ st. by_bool empty (λ t. rw t) (λ t. rw t), λ st. refl))
opens_ordered empty L.Element A.Modify K.Node N.Tag attrs = ordered_field (placed L.Element A.Modify K.Node) (tag_of attrs) _ (λ x. (λ st. by_bool empty (λ t. rw t) (λ t. rw t), λ st. refl))
opens_ordered empty L.Element A.Modify K.Way N.Tag attrs = ordered_field (placed L.Element A.Modify K.Way) (tag_of attrs) _ (λ x. (λ st. by_bool empty (λ t. rw t) (λ t. rw t), λ st. refl))
opens_ordered empty L.Element A.Modify K.Relation N.Tag attrs = ordered_field (placed L.Element A.Modify K.Relation) (tag_of attrs) _ (λ x. (λ st. by_bool empty (λ t. rw t) (λ t. rw t), λ st. refl))
opens_ordered empty L.Element A.Delete K.Node N.Tag attrs = ordered_field (placed L.Element A.Delete K.Node) (tag_of attrs) _ (λ x. λ st. by_bool empty (λ t. rw t) (λ t. rw t))
opens_ordered empty L.Element A.Delete K.Way N.Tag attrs = ordered_field (placed L.Element A.Delete K.Way) (tag_of attrs) _ (λ x. λ st. by_bool empty (λ t. rw t) (λ t. rw t))
opens_ordered empty L.Element A.Delete K.Relation N.Tag attrs = ordered_field (placed L.Element A.Delete K.Relation) (tag_of attrs) _ (λ x. λ st. by_bool empty (λ t. rw t) (λ t. rw t))
opens_ordered empty L.Element A.Create K.Node N.Nd attrs = tt
opens_ordered empty L.Element A.Create K.Way N.Nd attrs = ordered_field (placed L.Element A.Create K.Way) (ref_of attrs) _ (λ x. (λ st. by_bool empty (λ t. rw t) (λ t. rw t), λ st. refl))
opens_ordered empty L.Element A.Create K.Relation N.Nd attrs = tt
opens_ordered empty L.Element A.Modify K.Node N.Nd attrs = tt
opens_ordered empty L.Element A.Modify K.Way N.Nd attrs = ordered_field (placed L.Element A.Modify K.Way) (ref_of attrs) _ (λ x. (λ st. by_bool empty (λ t. rw t) (λ t. rw t), λ st. refl))
opens_ordered empty L.Element A.Modify K.Relation N.Nd attrs = tt
opens_ordered empty L.Element A.Delete K.Node N.Nd attrs = tt
opens_ordered empty L.Element A.Delete K.Way N.Nd attrs = ordered_field (placed L.Element A.Delete K.Way) (ref_of attrs) _ (λ x. λ st. by_bool empty (λ t. rw t) (λ t. rw t))
opens_ordered empty L.Element A.Delete K.Relation N.Nd attrs = tt
opens_ordered empty L.Element A.Create K.Node N.Member attrs = tt
opens_ordered empty L.Element A.Create K.Way N.Member attrs = tt
opens_ordered empty L.Element A.Create K.Relation N.Member attrs = ordered_field (placed L.Element A.Create K.Relation) (member_of attrs) _ (λ x. (λ st. by_bool empty (λ t. rw t) (λ t. rw t), λ st. refl))
opens_ordered empty L.Element A.Modify K.Node N.Member attrs = tt
opens_ordered empty L.Element A.Modify K.Way N.Member attrs = tt
opens_ordered empty L.Element A.Modify K.Relation N.Member attrs = ordered_field (placed L.Element A.Modify K.Relation) (member_of attrs) _ (λ x. (λ st. by_bool empty (λ t. rw t) (λ t. rw t), λ st. refl))
opens_ordered empty L.Element A.Delete K.Node N.Member attrs = tt
opens_ordered empty L.Element A.Delete K.Way N.Member attrs = tt
opens_ordered empty L.Element A.Delete K.Relation N.Member attrs = ordered_field (placed L.Element A.Delete K.Relation) (member_of attrs) _ (λ x. λ st. by_bool empty (λ t. rw t) (λ t. rw t))
opens_ordered empty L.Element A.Create K.Node N.Bounds attrs = tt
opens_ordered empty L.Element A.Create K.Way N.Bounds attrs = λ st. by_bool empty (λ t. rw t) (λ t. rw t)
opens_ordered empty L.Element A.Create K.Relation N.Bounds attrs = λ st. by_bool empty (λ t. rw t) (λ t. rw t)
opens_ordered empty L.Element A.Modify K.Node N.Bounds attrs = tt
opens_ordered empty L.Element A.Modify K.Way N.Bounds attrs = λ st. by_bool empty (λ t. rw t) (λ t. rw t)
opens_ordered empty L.Element A.Modify K.Relation N.Bounds attrs = λ st. by_bool empty (λ t. rw t) (λ t. rw t)
opens_ordered empty L.Element A.Delete K.Node N.Bounds attrs = tt
opens_ordered empty L.Element A.Delete K.Way N.Bounds attrs = λ st. by_bool empty (λ t. rw t) (λ t. rw t)
opens_ordered empty L.Element A.Delete K.Relation N.Bounds attrs = λ st. by_bool empty (λ t. rw t) (λ t. rw t)
opens_ordered empty L.Element a k N.Unknown attrs = tt

closes_ordered : (l : Level) (a : Action) (k : Kind) → Ordered (placed l a k) (decide_closed l a (at (closed_to l) (placed l a k)))
unfolding closed_to
closes_ordered L.Doc a k = λ st. refl
closes_ordered L.Root a k = λ st. refl
closes_ordered L.Section a k = λ st. refl
closes_ordered L.Element A.Create k = (λ st. refl, λ st. refl)
closes_ordered L.Element A.Modify k = (λ st. refl, λ st. refl)
closes_ordered L.Element A.Delete k = λ st. refl
closes_ordered L.Leaf a k = λ st. refl
closes_ordered L.Other a k = λ st. refl
closes_ordered L.Done a k = λ st. refl

pub ordered : (e : Event) (p : Place) → Ordered p (decide_event e p)
unfolding decide_event opened closed
ordered (starts empty n attrs) p = opens_ordered empty p.level p.section p.kind (name_of n) attrs
ordered closes p = closes_ordered p.level p.section p.kind
ordered others p = λ st. refl

-- ---- a text that is taken in

pub record CoreText (q : Overlay) (r : CompactDiffOverlay) (t : Bytes) (n : ℕ) : Type 0 where
  pub handle : handle_in_overlay r t ≡ n
  pub core : SameCore q (intern_in r t)
  pub below : n ≤ 4096
  pub fine : Fine q

module _ (o : Overlay) (r : CompactDiffOverlay) (w : SameCore o r) (f : Fine o) where
  fields_interner : (t : Bytes) (k : Kind) → fields_of k (intern_in r t) ≡ fields_of k r
  fields_interner t K.Node = refl
  fields_interner t K.Way = refl
  fields_interner t K.Relation = refl

  took_core : (t : Bytes) (n : ℕ) → is_text t ≡ true → handle_in (Strings.intern o.texts t).answer ≡ Ok n → CoreText (with_texts (Strings.intern o.texts t).store o) r t n
  took_core t n l e =
      let z = intern_store t o f.sound l in
      let a : (intern_on t o).answer ≡ Ok n = ap (λ x. x.answer) z ∙ e in
      let p = intern_kept t o n a in
      let left : (intern_on t o).overlay ≡ with_texts (Strings.intern o.texts t).store o = p.left in
      let fine : Fine (with_texts (Strings.intern o.texts t).store o) = rw left at (takes_fine f (a_text t n l a)) in
      let i : handle_of t (take_in (texts_of o.texts) t) ≡ Some n = rw p.texts at p.place in
      let b = (holds t (texts_of (Strings.intern o.texts t).store) n p.place).below in
      record {
        handle = same_Some _ _ (sym (handle_intern (texts_of o.texts) r.interner w.texts t) ∙ i);
        core = record {
          kinds = λ k. rw (texts_kind_store k (Strings.intern o.texts t).store o, fields_interner t k) (w.kinds k);
          texts = rw p.texts (texts_intern (texts_of o.texts) r.interner w.texts t);
          allows = w.allows;
        };
        below = omega (arith, b, length_texts (Strings.intern o.texts t).store, strings_few (with_texts (Strings.intern o.texts t).store o) fine.sound);
        fine = fine;
      }

  module _ {P : Advanced → Type 0} where
    core_text : (t : Bytes) (g : ℕ → Overlay → Step) → is_text t ≡ true → ((n : ℕ) → CoreText (with_texts (Strings.intern o.texts t).store o) r t n → EachStep P (g n (with_texts (Strings.intern o.texts t).store o)))
        → EachStep P (with_text t o g)
    core_text t g l h = go (Strings.intern o.texts t).answer refl
      where
        go : (i : Interned) → (Strings.intern o.texts t).answer ≡ i → EachStep P (on_handle i (λ n. g n (with_texts (Strings.intern o.texts t).store o)))
        go (I.Held n) e = h n (took_core t n l (ap handle_in e))
        go (I.New n) e = h n (took_core t n l (ap handle_in e))
        go I.Full e = stopped

    -- the user that metadata names
    core_user : (m : Meta Bytes) (g : ArenaMeta → Overlay → Step) → is_text m.user ≡ true
        → ((n : ℕ) (q : Overlay) → user_handle r (user_of m) ≡ n → SameCore q (user_interned r (user_of m)) → n ≤ 4096 → Fine q → ((k : Kind) → kind_store_of k q ≡ kind_store_of k o) → EachStep P (g (bits_with_user m n) q))
        → EachStep P (taking_user m o g)
    unfolding taking_user
    core_user m g l h =
        by_bool (flagged 4 m.flags)
        (λ t. let hh = rw t at h in rw t (core_text m.user (λ n q. g (bits_with_user m n) q) l (λ n c. hh n _ c.handle c.core c.below c.fine (λ k. texts_kind_store k (Strings.intern o.texts m.user).store o))))
        (λ t. let hh = rw t at h in rw t (hh 0 o refl w (omega arith) f (λ k. refl)))

-- ---- an element that begins

-- metadata that an event gives, with its user's handle
pub meta_handled_lem : (r : CompactDiffOverlay) (m : Meta Bytes) (w : Legal m) (n : ℕ) → user_handle r (user_of m) ≡ n → arena_meta (meta_of (bits_with_user m n)) ≡ meta_handled r m
unfolding meta_of
meta_handled_lem r m w n e =
    rw (to_z-of_z w.version_fits, to_z-of_z w.timestamp_fits, to_z-of_z w.changeset_fits, to_z-of_z w.uid_fits, e)

abbrev pub bare : Meta ℕ → Body ℕ → Record ℕ
bare m b = record { meta = m; body = b; tags = [] }

pub bare_record : (id : ℤ) (b : Body Bytes) → First b → (m : Meta ℕ) → pushed_record (kind_of b) (head_in (kind_of b) (head_for id b)) m [] ≡ Some (bare m (body_in b))
unfolding pushed_record cut_parts cut_body times then_cut head_in node_head counts_head
bare_record id (place lat lon) f m = rw (to_z-of_z f.0.1, to_z-of_z f.1.1)
bare_record id (refs rs) f m = refl
bare_record id (members ms) f m = refl

pub bare_staging : (r : CompactDiffOverlay) (id : ℤ) (m : Meta Bytes) (w : Legal m) (b : Body Bytes) (n : ℕ) → user_handle r (user_of m) ≡ n
    → staging_of id (bare (meta_of (bits_with_user m n)) (body_in b)) ≡ staging_for r id m b
bare_staging r id m w (place lat lon) n e = rw (meta_handled_lem r m w n e)
bare_staging r id m w (refs rs) n e = rw (meta_handled_lem r m w n e)
bare_staging r id m w (members ms) n e = rw (meta_handled_lem r m w n e)

pub kind_in : (b : Body Bytes) → kind_of (body_in b) ≡ kind_of b
kind_in (place lat lon) = refl
kind_in (refs rs) = refl
kind_in (members ms) = refl

-- keys and values, staged apart, are the tags
zip_parts : (ts : List (Tag ℕ)) → zip_tags (map (λ (t : Tag ℕ). t.key) ts) (map (λ (t : Tag ℕ). t.value) ts) ≡ map W.tag_part ts
unfolding zip_tags
zip_parts [] = refl
zip_parts (t ∷ ts) = rw (zip_parts ts)

-- a staged element is pushed as its record
pub push_as : (r : CompactDiffOverlay) (id : ℤ) (m : Meta ℕ) (b : Body ℕ) (ts : List (Tag ℕ)) → push_staged (element_kind (kind_of b)) r (staging_of id (record { meta = m; body = b; tags = ts })) ≡ push_record r id (record { meta = m; body = b; tags = ts })
push_as r id m (place lat lon) ts = rw (zip_parts ts)
push_as r id m (refs rs) ts = rw (zip_parts ts)
push_as r id m (members ms) ts = rw (zip_parts ts)

-- one ref or member more of a staged element
ref_staged : (i : ℤ) (r : Record ℕ) (rs : List ℤ) (z : ℤ) → r.body ≡ refs rs → X.add_ref z (staging_of i r) ≡ staging_of i (with_ref r rs z)
ref_staged i r rs z e = rw e

member_staged : (i : ℤ) (r : Record ℕ) (ms : List (Member ℕ)) (u : Member ℕ) → r.body ≡ members ms → X.add_member (W.member_part u) (staging_of i r) ≡ staging_of i (with_member r ms u)
member_staged i r ms u e = rw (e, map-append W.member_part ms (u ∷ []))

-- ---- what is decided, done on both sides

pub record Follows (d : Decision) (k : CompactSink) (l : Advanced) : Type 0 where
  pub sink : CompactSink
  pub done : done_as d k ≡ goes (drive_state l.place) sink
  pub core : SameCore l.overlay sink.overlay
  pub staged : sink.staging ≡ staged_at l.place l.pending l.parts

module _ (s : State) (g : StateGiven s) (e : state_sound s ≡ true) (well : (k : Kind) → WellFormed k (kind_store_of k s.overlay))
    (k : CompactSink) (w : SameCore s.overlay k.overlay) (st : k.staging ≡ staged_at s.reader.place s.reader.pending s.parts) where
  abbrev pub here : Place
  here = s.reader.place

  abbrev pub pending : Pending
  pending = s.reader.pending

  abbrev pub id : ℤ
  id = to_z w64 pending.head.id

  fine : Fine s.overlay
  fine = state_fine s g e

  pub held : Held s.overlay.texts.strings here.kind s.parts pending
  held = state_held s g e

  pub is_held : pending_record here.kind s.parts pending ≡ Some held.held
  unfolding pending_record
  is_held = stages_back here.kind pending.head pending.meta (take pending.used s.parts) held.held held.stages

  -- where an element stands open, it is staged
  pub stands : ((x : Option Staging) → shows here x ≡ x) → k.staging ≡ Some (staging_of id held.held)
  stands h = st ∙ (h _ ∙ ap (staged_as id) is_held)

  -- an element ends: it is pushed, and nothing is staged any more
  module _ (o : Overlay) (r : CompactDiffOverlay) (c : SameCore o r) (same : (j : Kind) → kind_store_of j o ≡ kind_store_of j s.overlay) where
    well_on : (j : Kind) → WellFormed j (kind_store_of j o)
    well_on j = rw (same j) (well j)

  -- ---- an element begins

  begun_record : (p : Place) (i : ℤ) (m : Meta Bytes) (b : Body Bytes) → First b → p.kind ≡ kind_of b → (n : ℕ)
      → pending_record p.kind s.parts (record { head = head_for i b; meta = bits_with_user m n; used = 0 }) ≡ Some (bare (meta_of (bits_with_user m n)) (body_in b))
  unfolding pending_record
  begun_record p i m b f q n = rw q (bare_record i b f (meta_of (bits_with_user m n)))

  begin_follows : (p : Place) (i : ℤ) (m : Meta Bytes) (b : Body Bytes) → Lawful here (begins false p i m b) → Ordered here (begins false p i m b) → EachStep (Follows (begins false p i m b) k) (step_of (begins false p i m b) s)
  unfolding step_of done_as
  begin_follows p i m b l h =
      core_user s.overlay k.overlay w fine m (λ a o. S.goes (record { overlay = o; place = p; pending = record { head = head_for i b; meta = a; used = 0 }; parts = s.parts })) l.0.user (λ n q u c small f same.
      leaves (record {
        sink = begun k i m b;
        done = refl;
        core = c;
        staged =
            ap Some (sym (bare_staging k.overlay i m l.0.legal b n u))
            ∙ (sym (h _)
            ∙ (ap (λ (z : ℤ). shows p (staged_as z (Some (bare (meta_of (bits_with_user m n)) (body_in b))))) (sym (bits_id i b l.0.fits))
            ∙ ap (λ z. shows p (staged_as (to_z w64 (head_for i b).id) z)) (sym (begun_record p i m b l.1.0 l.1.1 n))));
      }))

  -- what a push of a staged element comes to
  pub pushed_turn : (p : Place) (r q : CompactDiffOverlay) (i : ℤ) (x : Record ℕ) → push_record r i x ≡ Ok q → sunk_at p (X.end_staged r (Some (staging_of i x))) ≡ goes (drive_state p) (record { overlay = q; staging = None })
  pushed_turn p r q i x a = rw (push_as r i x.meta x.body x.tags, a)

  empty_follows : (p : Place) (i : ℤ) (m : Meta Bytes) (b : Body Bytes) → Lawful here (begins true p i m b) → Ordered here (begins true p i m b) → EachStep (Follows (begins true p i m b) k) (step_of (begins true p i m b) s)
  unfolding step_of done_as end_element
  empty_follows p i m b l h =
      each_admit (checked s.overlay.setting (known_version (kind_of b) (kind_store_of (kind_of b) s.overlay) i) (claim_of m))
      (taking_user m s.overlay (λ a o. S.on_after (store_push (kind_of b) (head_for i b) a [] o) (clears_to s p)))
      (core_user s.overlay k.overlay w fine m (λ a o. S.on_after (store_push (kind_of b) (head_for i b) a [] o) (clears_to s p)) l.0.user (λ n q u c small f same.
      each_after (store_push (kind_of b) (head_for i b) (bits_with_user m n) [] q) (clears_to s p) (λ a.
      let x = bare (meta_of (bits_with_user m n)) (body_in b) in
      let z : to_z w64 (head_for i b).id ≡ i = bits_id i b l.0.fits in
      let made = bare_record i b l.1.0 (meta_of (bits_with_user m n)) in
      let y = record_given (kind_of b) (head_for i b) (bits_with_user m n) [] x (head_fits_lem i b l.0.fits l.1.0) (meta_fits_lem m l.0.legal n small) (all_nil is_byte) made in
      let fits : SFits w64 (to_z w64 (head_for i b).id) = rw z l.0.fits in
      let v = store_pushes q (user_interned k.overlay (user_of m)) (well_on q (user_interned k.overlay (user_of m)) c same) c (kind_of b) (head_for i b) (bits_with_user m n) [] x
      fits (kind_in b) refl y.0 a in
      let t = pushed_turn p (user_interned k.overlay (user_of m)) v.0 i x (rw z at v.1.0) in
      leaves (record {
        sink = record { overlay = v.0; staging = None };
        done = ap (λ (y : Staging). sunk_at p (X.end_staged (user_interned k.overlay (user_of m)) (Some y))) (sym (bare_staging k.overlay i m l.0.legal b n u)) ∙ t;
        core = v.1.1;
        staged = sym (h _);
      }))))

  delete_follows : (j : Kind) (p : Place) (i : ℤ) (m : Meta Bytes) → Lawful here (deletes j p i m) → Ordered here (deletes j p i m) → EachStep (Follows (deletes j p i m) k) (step_of (deletes j p i m) s)
  unfolding step_of done_as
  delete_follows j p i m l h =
      each_admit (checked s.overlay.setting (known_version j (kind_store_of j s.overlay) i) (claim_of m))
      (taking_user m s.overlay (λ a o. S.on_after (store_delete j i (claim_of m) o) (clears_to s p)))
      (core_user s.overlay k.overlay w fine m (λ a o. S.on_after (store_delete j i (claim_of m) o) (clears_to s p)) l.user (λ n q u c small f same.
      each_after (store_delete j i (claim_of m) q) (clears_to s p) (λ a.
      let x = meta_of (bits_with_user m n) in
      let cl : claim_of x ≡ claim_of m = claim_same m l.legal n in
      let narrow : Narrow (claim_of x) = given_claim x (meta_given (bits_with_user m n) (meta_fits_lem m l.legal n small)) in
      let v = store_deletes q (user_interned k.overlay (user_of m)) (well_on q (user_interned k.overlay (user_of m)) c same) c j i x l.fits narrow (rw cl a) in
      leaves (record {
        sink = record { overlay = v.0; staging = None };
        done = rw (← meta_handled_lem k.overlay m l.legal n u, v.1.0);
        core = rw (← cl) v.1.1;
        staged = sym (h _);
      }))))

  -- ---- a child

  few : within_limits limits held.held ≡ true
  few = held_few s.overlay.texts.strings here.kind s.parts pending held

  handle_small : (n : ℕ) → n ≤ 4096 → fits_number 4 n ≡ true
  unfolding fits_number
  handle_small n l = lt-ltb n 4294967296 (omega arith)

  -- one part more is one part more of what is staged
  grown : (p : Place) → p.kind ≡ here.kind → ((x : Option Staging) → shows p x ≡ x) → (j : PushHead) → j.id ≡ pending.head.id → (at : ℕ) (x : Bytes) (next : Record ℕ)
      → PartStaged here.kind j pending.meta s.parts pending.used at x next
      → staged_at p (record { head = j; meta = pending.meta; used = pending.used + length x }) (staged s.parts pending.used at x) ≡ Some (staging_of id next)
  unfolding pending_record
  grown p q sh j i put x next b =
      let z = staged s.parts pending.used put x in
      let y : Pending = record { head = j; meta = pending.meta; used = pending.used + length x } in
      let made : pending_record p.kind z y ≡ Some next = rw q (stages_back here.kind j pending.meta (take (pending.used + length x) z) next b.stages) in
      sh _ ∙ (ap (staged_as (to_z w64 j.id)) made ∙ ap (λ (v : ℕ). Some (staging_of (to_z w64 v) next)) i)

  tag_follows : (p : Place) (t : Tag Bytes) → Lawful here (tags p t) → Ordered here (tags p t) → EachStep (Follows (tags p t) k) (step_of (tags p t) s)
  unfolding step_of done_as
  tag_follows p t l h =
      core_text s.overlay k.overlay w fine t.key (λ key o. S.stages (tag_within s t) s o p (more_tags pending.head) pending.used (tag_part key t.value)) l.1.0 (λ n c.
      each_within (tag_within s t)
      (record { overlay = with_texts (Strings.intern s.overlay.texts t.key).store s.overlay; place = p; pending = record { head = more_tags pending.head; meta = pending.meta; used = pending.used + length (tag_part n t.value) }; parts = staged s.parts pending.used pending.used (tag_part n t.value) })
      R.TooManyParts (λ y.
      let u : Tag ℕ = record { key = n; value = t.value } in
      let lim = sym (limit_tag s g e held.held is_held t n) ∙ y in
      let b = tag_grows here.kind pending.head pending.meta s.parts pending.used held.held held.stages held.fits few g.reader.room u (handle_small n c.below) lim in
      record {
        sink = sink_with (intern_in k.overlay t.key) (Some (X.add_tag (handle_in_overlay k.overlay t.key) t.value (staging_of id held.held)));
        done = ap (λ (y : Option Staging). sunk_at p (X.staged (intern_in k.overlay t.key) y (X.add_tag (handle_in_overlay k.overlay t.key) t.value))) (stands h.1);
        core = c.core;
        staged = rw (c.handle, grown p l.0 h.0 (more_tags pending.head) refl pending.used (tag_part n t.value) (with_tag held.held u) b, map-append (λ (v : Tag ℕ). v.key) held.held.tags (u ∷ []), map-append (λ (v : Tag ℕ). v.value) held.held.tags (u ∷ []));
      }))

  ref_follows : (p : Place) (z : ℤ) → Lawful here (refers p z) → Ordered here (refers p z) → EachStep (Follows (refers p z) k) (step_of (refers p z) s)
  unfolding step_of done_as
  ref_follows p z l h =
      let x = way_body held.held.body (held.stages.kind ∙ l.1.0) in
      each_within (part_within s limits.refs)
      (record { overlay = s.overlay; place = p; pending = record { head = more_parts pending.head; meta = pending.meta; used = pending.used + length (ref_part (of_z w64 z)) }; parts = staged s.parts pending.used (part_place s) (ref_part (of_z w64 z)) })
      R.TooManyParts (λ y.
      let lim = sym (limit_ref s g e held.held is_held x.0 z l.1.0 x.1) ∙ y in
      let b = ref_grows here.kind pending.head pending.meta s.parts pending.used held.held held.stages held.fits few g.reader.room x.0 z l.1.0 x.1 l.1.1 lim in
      record {
        sink = sink_with k.overlay (Some (X.add_ref z (staging_of id held.held)));
        done = ap (λ (y : Option Staging). sunk_at p (X.staged k.overlay y (X.add_ref z))) (stands h.1);
        core = w;
        staged = ap Some (ref_staged id held.held x.0 z x.1) ∙ sym (grown p l.0 h.0 (more_parts pending.head) refl (part_place s) (ref_part (of_z w64 z)) (with_ref held.held x.0 z) b);
      })

  member_follows : (p : Place) (x : Member Bytes) → Lawful here (joins p x) → Ordered here (joins p x) → EachStep (Follows (joins p x) k) (step_of (joins p x) s)
  unfolding step_of done_as
  member_follows p x l h =
      let v = relation_body held.held.body (held.stages.kind ∙ l.1.0) in
      core_text s.overlay k.overlay w fine x.role (λ role o. S.stages (part_within s limits.members) s o p (more_parts pending.head) (part_place s) (member_part (member_bits x role))) l.1.1.1 (λ n c.
      each_within (part_within s limits.members)
      (record { overlay = with_texts (Strings.intern s.overlay.texts x.role).store s.overlay; place = p; pending = record { head = more_parts pending.head; meta = pending.meta; used = pending.used + length (member_part (member_bits x n)) }; parts = staged s.parts pending.used (part_place s) (member_part (member_bits x n)) })
      R.TooManyParts (λ y.
      let u : Member ℕ = record { ref = x.ref; type = x.type; role = n } in
      let lim = sym (limit_member s g e held.held is_held v.0 u l.1.0 v.1) ∙ y in
      let b = member_grows here.kind pending.head pending.meta s.parts pending.used held.held held.stages held.fits few g.reader.room v.0 u l.1.0 v.1 l.1.1.0 (handle_small n c.below) lim in
      record {
        sink = sink_with (intern_in k.overlay x.role) (Some (X.add_member (record { ref_id = x.ref; type_byte = kind_number x.type; role_id = handle_in_overlay k.overlay x.role }) (staging_of id held.held)));
        done = ap (λ (y : Option Staging). sunk_at p (X.staged (intern_in k.overlay x.role) y (X.add_member (record { ref_id = x.ref; type_byte = kind_number x.type; role_id = handle_in_overlay k.overlay x.role })))) (stands h.1);
        core = c.core;
        staged =
            ap (λ (a : ℕ). Some (X.add_member (record { ref_id = x.ref; type_byte = kind_number x.type; role_id = a }) (staging_of id held.held))) c.handle
            ∙ (ap Some (member_staged id held.held v.0 u v.1)
            ∙ sym (grown p l.0 h.0 (more_parts pending.head) refl (part_place s) (member_part (member_bits x n)) (with_member held.held v.0 u) b));
      }))

  -- ---- an element ends

  end_follows : (p : Place) → Lawful here (ends p) → Ordered here (ends p) → EachStep (Follows (ends p) k) (step_of (ends p) s)
  unfolding step_of done_as end_element
  end_follows p l h =
      each_after (store_push here.kind pending.head pending.meta (take pending.used s.parts) s.overlay) (clears_to s p) (λ a.
      let made = stages_back here.kind pending.head pending.meta (take pending.used s.parts) held.held held.stages in
      let y = record_given here.kind pending.head pending.meta (take pending.used s.parts) held.held held.head held.meta (bytes_take pending.used s.parts g.reader.bytes) made in
      let v = store_pushes s.overlay k.overlay well w here.kind pending.head pending.meta (take pending.used s.parts) held.held
      (id_given pending.head held.head) held.stages.kind held.stages.meta y.0 a in
      leaves (record {
        sink = record { overlay = v.0; staging = None };
        done = ap (λ (y : Option Staging). sunk_at p (X.end_staged k.overlay y)) (stands h.1) ∙ (pushed_turn p k.overlay v.0 id held.held v.1.0);
        core = v.1.1;
        staged = sym (h.0 _);
      }))

  pub follows : (d : Decision) → Lawful here d → Ordered here d → EachStep (Follows d k) (step_of d s)
  unfolding step_of done_as
  follows (refuses x) l h = stopped
  follows (moves p) l h =
      leaves (record { sink = k; done = refl; core = w; staged = st ∙ (sym (h _) ∙ ap (λ (j : Kind). shows p (staged_as id (pending_record j s.parts pending))) (sym l)) })
  follows (begins true p i m b) l h = empty_follows p i m b l h
  follows (begins false p i m b) l h = begin_follows p i m b l h
  follows (deletes j p i m) l h = delete_follows j p i m l h
  follows (tags p t) l h = tag_follows p t l h
  follows (refers p z) l h = ref_follows p z l h
  follows (joins p x) l h = member_follows p x l h
  follows (ends p) l h = end_follows p l h
