-- D1: what the Rust keeps of an event that it refuses.
use Rattle.std.specs.Prelude.{None, Option, Some, Result, Ok, Err}
use Rattle.std.proofs.Common.{◌≡◌, Bool, true, false, cond, ℤ, refl}
use Rattle.base.specs.Ascii.{ascii}
use Rattle.base.specs.Bytes.{Bytes, same, either}
use Rattle.base.proofs.Split.{by_bool, no}
use Rattle.published.specs.Std.{ElementKind, Node, Way, Relation, from_name}
use Rattle.published.specs.Compact.{Tag}
use Rattle.published.specs.Parse.{CompactDiffOverlay, delete_kind}
use Rattle.published.specs.XmlParse.{Error, internal, misplaced, BytesStart, Event, Start, Empty, End, OscAction, Level, Doc, Root, Section, Element, Leaf, Done, DriveState, Driven, CompactSink, Sunk, Staging, MetaSoFar, Coordinates, ParsedMember, default, NotPublished, parse_i64_attr, parse_tag, parse_nd, parse_member, scan_meta_attrs, sink_with, user_interned, arena_meta_of, action_for, end_element, push_staged, live, begin_element, handle_element_child, handle_open, handle_close, drive_event}
use Rattle.published.specs.XmlParse as X
use Rattle.refines.specs.Differences.{user_read, user_begun, kept_text}

-- where this is refused, and not by the error that the driver never meets, that overlay is left
abbrev Leaves : CompactDiffOverlay → CompactDiffOverlay → Result (Unit {0}) Error → Type 0
Leaves kept left result = (x : Error) → result ≡ Err x → (x ≡ internal → ⊥) → left ≡ kept

taken : (kept left : CompactDiffOverlay) → Leaves kept left (Ok tt)
taken kept left x e n = no cc

-- ---- a sink's functions

after_sunk : (kept : CompactDiffOverlay) (d next : DriveState) (s : Sunk) → Leaves kept s.sink.overlay s.result → Leaves kept (X.sunk_then d next s).sink.overlay (X.sunk_then d next s).result
after_sunk kept d next s h = go s.result h
  where
    go : (r : Result (Unit {0}) Error) → Leaves kept s.sink.overlay r → Leaves kept (X.then_state d next s.sink r).sink.overlay (X.then_state d next s.sink r).result
    go (Ok u) h = taken kept _
    go (Err e) h = h

pushes_leave : (o : CompactDiffOverlay) (x : Result CompactDiffOverlay ℤ) → Leaves o (X.pushed_as o x).sink.overlay (X.pushed_as o x).result
pushes_leave o (Ok p) = taken o p
pushes_leave o (Err v) = λ x e n. refl

ends_leave : (s : CompactSink) → Leaves s.overlay (end_element s).sink.overlay (end_element s).result
unfolding end_element
ends_leave s = go s.staging
  where
    go : (st : Option Staging) → Leaves s.overlay (X.end_staged s.overlay st).sink.overlay (X.end_staged s.overlay st).result
    go None = taken _ _
    go (Some st) = pushes_leave s.overlay (push_staged st.kind s.overlay st)

-- a child: only the error that the driver never meets comes after its text was taken in
staged_leaves : (kept o : CompactDiffOverlay) (st : Option Staging) (f : Staging → Staging) → Leaves kept (X.staged o st f).sink.overlay (X.staged o st f).result
staged_leaves kept o None f = λ x e n. absurd (n cc)
staged_leaves kept o (Some st) f = taken kept o

tag_leaves : (s : CompactSink) (x : Result Tag Error) → Leaves s.overlay (X.sink_tag s x).sink.overlay (X.sink_tag s x).result
tag_leaves s (Ok t) = staged_leaves s.overlay _ s.staging _
tag_leaves s (Err e) = λ x q n. refl

nd_leaves : (s : CompactSink) (x : Result ℤ Error) → Leaves s.overlay (X.sink_nd s x).sink.overlay (X.sink_nd s x).result
nd_leaves s (Ok r) = staged_leaves s.overlay _ s.staging _
nd_leaves s (Err e) = λ x q n. refl

member_leaves : (s : CompactSink) (x : Result ParsedMember Error) → Leaves s.overlay (X.sink_member s x).sink.overlay (X.sink_member s x).result
member_leaves s (Ok m) = staged_leaves s.overlay _ s.staging _
member_leaves s (Err e) = λ x q n. refl

dropped_leaves : {A : Type 0} (s : CompactSink) (x : Result A Error) → Leaves s.overlay (X.dropped s x).sink.overlay (X.dropped s x).result
dropped_leaves s (Ok a) = taken _ _
dropped_leaves s (Err e) = λ x q n. refl

abbrev SunkLeaves : CompactSink → Sunk → Type 0
SunkLeaves s x = Leaves s.overlay x.sink.overlay x.result

by_test : (s : CompactSink) (b : Bool) (x y : Sunk) → SunkLeaves s x → SunkLeaves s y → SunkLeaves s (cond b x y)
by_test s true x y f g = f
by_test s false x y f g = g

refused_leaves : (s : CompactSink) (e : Error) → SunkLeaves s (X.failed s e)
refused_leaves s e x q n = refl

way_leaves : (s : CompactSink) (k : ElementKind) (x : Sunk) → SunkLeaves s x → SunkLeaves s (X.only_way k s x)
way_leaves s Node x h = refused_leaves s misplaced
way_leaves s Way x h = h
way_leaves s Relation x h = refused_leaves s misplaced

relation_leaves : (s : CompactSink) (k : ElementKind) (x : Sunk) → SunkLeaves s x → SunkLeaves s (X.only_relation k s x)
relation_leaves s Node x h = refused_leaves s misplaced
relation_leaves s Way x h = refused_leaves s misplaced
relation_leaves s Relation x h = h

either_leaves : (s : CompactSink) (k : ElementKind) (x : Sunk) → SunkLeaves s x → SunkLeaves s (X.way_or_relation k s x)
either_leaves s Node x h = refused_leaves s misplaced
either_leaves s Way x h = h
either_leaves s Relation x h = h

child_leaves : (e : BytesStart) (a : OscAction) (k : ElementKind) (s : CompactSink) → SunkLeaves s (handle_element_child e a k s)
unfolding handle_element_child
child_leaves e a k s =
    by_test s (same e.name (ascii "tag")) _ _ (by_test s (live a) _ _ (tag_leaves s (parse_tag e)) (dropped_leaves s (parse_tag e)))
    (by_test s (same e.name (ascii "nd")) _ _ (way_leaves s k _ (by_test s (live a) _ _ (nd_leaves s (parse_nd e)) (dropped_leaves s (parse_nd e))))
    (by_test s (same e.name (ascii "member")) _ _ (relation_leaves s k _ (by_test s (live a) _ _ (member_leaves s (parse_member e)) (dropped_leaves s (parse_member e))))
    (by_test s (either (same e.name (ascii "bbox")) (same e.name (ascii "bounds"))) _ _ (either_leaves s k _ (taken _ _)) (refused_leaves s misplaced))))

-- ---- an element that begins

module _ (np : NotPublished) (s : CompactSink) (d : DriveState) (k : ElementKind) (e : BytesStart) where
  abbrev DrivenLeaves : Option Bytes → Driven → Type 0
  DrivenLeaves t x = Leaves (user_interned s.overlay t) x.sink.overlay x.result

  -- where it stands afterwards; an empty one ends at once
  abbrev comes : Bool → DriveState → Sunk → Driven
  comes true next x = X.ended d x
  comes false next x = X.sunk_then d next x

  failed_comes : (t : Option Bytes) (b : Bool) (next : DriveState) (q : CompactSink) (x : Error) → q.overlay ≡ user_interned s.overlay t → DrivenLeaves t (comes b next (X.failed q x))
  failed_comes t true next q x h y z n = h
  failed_comes t false next q x h y z n = h

  staged_comes : (b : Bool) (next : DriveState) (id : ℤ) (m : MetaSoFar) (c : Result Coordinates Error) → DrivenLeaves m.user (comes b next (X.begin_staged np s k id m c))
  staged_comes b next id m (Err x) = failed_comes m.user b next _ x refl
  staged_comes true next id m (Ok c) = after_sunk (user_interned s.overlay m.user) d d (end_element (X.begin_staged np s k id m (Ok c)).sink) (ends_leave (X.begin_staged np s k id m (Ok c)).sink)
  staged_comes false next id m (Ok c) = taken _ _

  deleted_comes : (b : Bool) (next : DriveState) (t : Option Bytes) (st : Option Staging) (x : Result CompactDiffOverlay ℤ) → DrivenLeaves t (comes b next (X.deleted_as (sink_with (user_interned s.overlay t) st) x))
  unfolding end_element
  deleted_comes true next t st (Ok o) = taken _ _
  deleted_comes false next t st (Ok o) = taken _ _
  deleted_comes b next t st (Err v) = failed_comes t b next _ _ refl

  begun_leaves : (b : Bool) (next : DriveState) (a : Bool) (i : Result ℤ Error) (m : Result MetaSoFar Error) → X.scan_meta_attrs np default e.attributes ≡ m
      → DrivenLeaves (user_read i m) (comes b next (X.begin_id np s a k e i))
  begun_leaves b next a (Err x) m q = failed_comes None b next s x refl
  begun_leaves b next a (Ok id) (Err x) q = rw q (failed_comes None b next s x refl)
  begun_leaves b next true (Ok id) (Ok m) q = rw q (staged_comes b next id m (X.coordinates np k e))
  begun_leaves b next false (Ok id) (Ok m) q = rw q (deleted_comes b next m.user s.staging (delete_kind (user_interned s.overlay m.user) k id (arena_meta_of s.overlay m)))

  begins_leave : (b : Bool) (next : DriveState) (a : OscAction)
      → DrivenLeaves (user_read (parse_i64_attr e (ascii "id")) (scan_meta_attrs np default e.attributes)) (comes b next (begin_element np s a k e))
  unfolding begin_element
  begins_leave b next a = begun_leaves b next (live a) (parse_i64_attr e (ascii "id")) (scan_meta_attrs np default e.attributes) refl

-- ---- an event

module _ (np : NotPublished) where
  section_leaves : (b : Bool) (e : BytesStart) (d : DriveState) (s : CompactSink) (k : Option ElementKind)
      → Leaves (user_interned s.overlay (user_begun np Section k e)) (X.open_section np b e d s k).sink.overlay (X.open_section np b e d s k).result
  section_leaves b e d s None = λ x q n. refl
  section_leaves true e d s (Some k) = begins_leave np s d k e true d d.section
  section_leaves false e d s (Some k) = begins_leave np s d k e false (record { level = Element; section = d.section; open_kind = k }) d.section

  root_leaves : (b : Bool) (e : BytesStart) (d : DriveState) (s : CompactSink) (a : Option OscAction) (k : Option ElementKind)
      → Leaves s.overlay (X.open_root np b e d s a k).sink.overlay (X.open_root np b e d s a k).result
  root_leaves b e d s (Some a) k = taken _ _
  root_leaves b e d s None (Some k) = λ x q n. refl
  root_leaves b e d s None None = by_bool (same e.name X.ROOT) (λ t. rw t (λ x q n. refl)) (λ t. rw t (taken _ _))

  opens_leave : (l : Level) (b : Bool) (e : BytesStart) (d : DriveState) (s : CompactSink)
      → Leaves (user_interned s.overlay (user_begun np l (from_name e.name) e)) (X.open_at np l b e d s).sink.overlay (X.open_at np l b e d s).result
  opens_leave Element b e d s = after_sunk s.overlay d (cond b d (X.at_level d Leaf)) _ (child_leaves e d.section d.open_kind s)
  opens_leave Section b e d s = section_leaves b e d s (from_name e.name)
  opens_leave Root b e d s = root_leaves b e d s (action_for e.name) (from_name e.name)
  opens_leave Doc b e d s = by_bool (same e.name X.ROOT) (λ t. rw t (taken _ _)) (λ t. rw t (λ x q n. refl))
  opens_leave Leaf b e d s = λ x q n. refl
  opens_leave Level.Other b e d s = λ x q n. refl
  opens_leave Done b e d s = λ x q n. refl

  closes_leave : (l : Level) (d : DriveState) (s : CompactSink) → Leaves s.overlay (X.close_at l d s).sink.overlay (X.close_at l d s).result
  closes_leave Leaf d s = taken _ _
  closes_leave Element d s = after_sunk s.overlay d (X.at_level d Section) _ (ends_leave s)
  closes_leave Section d s = taken _ _
  closes_leave Level.Other d s = taken _ _
  closes_leave Root d s = taken _ _
  closes_leave Doc d s = taken _ _
  closes_leave Done d s = taken _ _

  -- D1, exactly: a refused event leaves the overlay as it was, but for the user's name where id and metadata were good
  pub refused_keeps : (e : Event) (d : DriveState) (s : CompactSink) (x : Error) → (drive_event np e d s).result ≡ Err x → (x ≡ internal → ⊥)
      → (drive_event np e d s).sink.overlay ≡ user_interned s.overlay (kept_text np e d)
  unfolding drive_event handle_open handle_close
  refused_keeps (Start e) d s = opens_leave d.level false e d s
  refused_keeps (Empty e) d s = opens_leave d.level true e d s
  refused_keeps End d s = closes_leave d.level d s
  refused_keeps Event.Other d s = taken _ _
