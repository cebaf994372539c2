-- xml_parse.rs, handle_open and handle_close: what the Rust does with an event is what the library decides of it, done by the Rust's sink.
use Rattle.std.specs.Prelude.{None, Option, Some, Result, Ok, Err}
use Rattle.std.proofs.Common.{◌≡◌, Bool, true, false, cond, List, [], map, ℤ, sym, refl, ap, ◌∙◌, w64}
use Rattle.base.specs.Ascii.{ascii}
use Rattle.base.specs.Bytes.{Bytes, same, both, either}
use Rattle.base.proofs.Split.{by_bool}
use Rattle.base.proofs.Lists.{same_yes}
use Rattle.kind.specs.Kind.{kind_number}
use Rattle.kind.specs.declared.Kind.{Kind}
use Rattle.kind.specs.declared.Kind.TheVariants as K
use Rattle.degrees.specs.declared.Axis.TheVariants.{Latitude, Longitude}
use Rattle.nesting.specs.Name.{name_of, name_in, spellings}
use Rattle.nesting.specs.Nesting.{at, opened, opened_at, in_doc, in_root, in_section, in_element, closed, closed_to}
use Rattle.nesting.specs.declared.Name.{Name}
use Rattle.nesting.specs.declared.Name.TheVariants as N
use Rattle.nesting.specs.declared.Action.{Action}
use Rattle.nesting.specs.declared.Action.TheVariants as A
use Rattle.nesting.specs.declared.Level.{Level}
use Rattle.nesting.specs.declared.Level.TheVariants as L
use Rattle.nesting.specs.declared.Place.{Place}
use Rattle.model.specs.Record.{Member, Tag, Body, place, refs, members, kind_of}
use Rattle.event.specs.Event.{Attr, Event, starts, closes, others, value_of, or_empty}
use Rattle.event_fields.specs.Field.{got, and_then, id_field, metadata_of, body_for, member_of, integer_field}
use Rattle.event_fields.specs.Field as F
use Rattle.event_decision.specs.Decision.{begins, deletes, tags, refers, joins, on_field, push_begins, delete_begins, element_begins, unless_delete, decide_opened, decide_closed, decide_event}
use Rattle.published.specs.Std.{ElementKind, from_name}
use Rattle.published.specs.Std as O
use Rattle.published.specs.Compact as C
use Rattle.published.specs.Parse.{CompactDiffOverlay, delete_kind}
use Rattle.published.specs.XmlParse.{Error, BytesStart, MetaSoFar, CompactSink, Staging, Sunk, DriveState, action_for, handle_element_child, parse_tag, parse_nd, parse_member, parse_i64_attr, parse_str_attr, begin_element, handle_open, handle_close, drive_event, end_element, sunk_then, ended}
use Rattle.published.specs.XmlParse as X
use Rattle.refines.specs.Overlays.{element_kind}
use Rattle.refines.specs.Driving.{attribute, bytes_start, by_documents, rust_event, action, level, drive_state}
use Rattle.refines.specs.Staged.{lat_of, lon_of}
use Rattle.refines.proofs.Sinks.{refusal_of, RustTurn, goes, stops, turn_from, driven, field_of, meta_so_far, done_as, deleted_at}
use Rattle.refines.proofs.Readers.{same_integer_field, same_text_field, same_coordinate, same_metadata, same_user, same_tag, same_nd, same_attr, field_then}

-- ---- names: a name is told by the Rust as its spelling is

abbrev spell : Name → Bytes
spell N.OsmChange = ascii "osmChange"
spell N.Create = ascii "create"
spell N.Modify = ascii "modify"
spell N.Delete = ascii "delete"
spell N.Node = ascii "node"
spell N.Way = ascii "way"
spell N.Relation = ascii "relation"
spell N.Tag = ascii "tag"
spell N.Nd = ascii "nd"
spell N.Member = ascii "member"
spell N.Bounds = ascii "bounds"
spell N.Unknown = []

record Spelled (s t : Bytes) : Type 0 where
  pub action : action_for s ≡ action_for t
  pub kind : from_name s ≡ from_name t
  pub root : same s (ascii "osmChange") ≡ same t (ascii "osmChange")
  pub tag : same s (ascii "tag") ≡ same t (ascii "tag")
  pub nd : same s (ascii "nd") ≡ same t (ascii "nd")
  pub member : same s (ascii "member") ≡ same t (ascii "member")
  pub bounds : either (same s (ascii "bbox")) (same s (ascii "bounds")) ≡ either (same t (ascii "bbox")) (same t (ascii "bounds"))

module _ (s : Bytes) where
  -- none of the words
  unspelled : same s (ascii "osmChange") ≡ false → same s (ascii "create") ≡ false → same s (ascii "modify") ≡ false → same s (ascii "delete") ≡ false → same s (ascii "node") ≡ false → same s (ascii "way") ≡ false → same s (ascii "relation") ≡ false → same s (ascii "tag") ≡ false → same s (ascii "nd") ≡ false → same s (ascii "member") ≡ false → same s (ascii "bbox") ≡ false → same s (ascii "bounds") ≡ false → Spelled s (spell (name_of s))
  unfolding action_for from_name same both either name_of name_in spellings
  unspelled f1 f2 f3 f4 f5 f6 f7 f8 f9 f10 f11 f12 =
      let n : name_of s ≡ N.Unknown = rw (f1, f2, f3, f4, f5, f6, f7, f8, f9, f10, f11, f12) in
      rw n (record {
        action = rw (f2, f3, f4);
        kind = rw (f5, f6, f7);
        root = f1;
        tag = f8;
        nd = f9;
        member = f10;
        bounds = rw (f11, f12);
      })

  word : (w : Bytes) → Spelled w (spell (name_of w)) → (same s w ≡ false → Spelled s (spell (name_of s))) → Spelled s (spell (name_of s))
  word w h f = by_bool (same s w) (λ t. rw (same_yes s w t) h) f

  spelled : Spelled s (spell (name_of s))
  unfolding action_for from_name same both either name_of name_in spellings
  spelled =
      word (ascii "osmChange") (record { action = refl; kind = refl; root = refl; tag = refl; nd = refl; member = refl; bounds = refl })
      (λ f1. word (ascii "create") (record { action = refl; kind = refl; root = refl; tag = refl; nd = refl; member = refl; bounds = refl })
      (λ f2. word (ascii "modify") (record { action = refl; kind = refl; root = refl; tag = refl; nd = refl; member = refl; bounds = refl })
      (λ f3. word (ascii "delete") (record { action = refl; kind = refl; root = refl; tag = refl; nd = refl; member = refl; bounds = refl })
      (λ f4. word (ascii "node") (record { action = refl; kind = refl; root = refl; tag = refl; nd = refl; member = refl; bounds = refl })
      (λ f5. word (ascii "way") (record { action = refl; kind = refl; root = refl; tag = refl; nd = refl; member = refl; bounds = refl })
      (λ f6. word (ascii "relation") (record { action = refl; kind = refl; root = refl; tag = refl; nd = refl; member = refl; bounds = refl })
      (λ f7. word (ascii "tag") (record { action = refl; kind = refl; root = refl; tag = refl; nd = refl; member = refl; bounds = refl })
      (λ f8. word (ascii "nd") (record { action = refl; kind = refl; root = refl; tag = refl; nd = refl; member = refl; bounds = refl })
      (λ f9. word (ascii "member") (record { action = refl; kind = refl; root = refl; tag = refl; nd = refl; member = refl; bounds = refl })
      (λ f10. word (ascii "bbox") (record { action = refl; kind = refl; root = refl; tag = refl; nd = refl; member = refl; bounds = refl })
      (λ f11. word (ascii "bounds") (record { action = refl; kind = refl; root = refl; tag = refl; nd = refl; member = refl; bounds = refl })
      (λ f12. unspelled f1 f2 f3 f4 f5 f6 f7 f8 f9 f10 f11 f12))))))))))))

-- ---- members

abbrev kind_from : ElementKind → Kind
kind_from O.Node = K.Node
kind_from O.Way = K.Way
kind_from O.Relation = K.Relation

abbrev member_from : X.ParsedMember → Member Bytes
member_from m = record { ref = m.ref_id; type = kind_from m.kind; role = m.role }

kind_byte : (k : ElementKind) → C.member_type_to_byte k ≡ kind_number (kind_from k)
kind_byte O.Node = refl
kind_byte O.Way = refl
kind_byte O.Relation = refl

same_type : (t : Bytes) → field_of kind_from (X.ok_or X.unknown_member_type (from_name t)) ≡ F.type_named (name_of t)
unfolding from_name same both
same_type t = rw (spelled t).kind (go (name_of t))
  where
    go : (n : Name) → field_of kind_from (X.ok_or X.unknown_member_type (from_name (spell n))) ≡ F.type_named n
    go N.OsmChange = refl
    go N.Create = refl
    go N.Modify = refl
    go N.Delete = refl
    go N.Node = refl
    go N.Way = refl
    go N.Relation = refl
    go N.Tag = refl
    go N.Nd = refl
    go N.Member = refl
    go N.Bounds = refl
    go N.Unknown = refl

module _ (name : Bytes) (attrs : List Attr) where
  role_is : X.or_empty (X.find_attr (map attribute attrs) (ascii "role")) ≡ or_empty (value_of (ascii "role") attrs)
  role_is = rw (same_attr attrs (ascii "role")) (go (value_of (ascii "role") attrs))
    where
      go : (o : Option Bytes) → X.or_empty o ≡ or_empty o
      go None = refl
      go (Some v) = refl

  same_member : field_of member_from (parse_member (bytes_start name attrs)) ≡ member_of attrs
  unfolding parse_member member_of
  same_member =
      field_then (λ a. a) member_from (parse_str_attr (bytes_start name attrs) (ascii "type")) _
      (λ t. and_then (F.type_named (name_of t)) (λ k. and_then (integer_field w64 (ascii "ref") attrs) (λ r. got (record { ref = r; type = k; role = or_empty (value_of (ascii "role") attrs) }))))
      (λ t. field_then kind_from member_from (X.ok_or X.unknown_member_type (from_name t)) _
      (λ k. and_then (integer_field w64 (ascii "ref") attrs) (λ r. got (record { ref = r; type = k; role = or_empty (value_of (ascii "role") attrs) })))
      (λ k. field_then (λ a. a) member_from (parse_i64_attr (bytes_start name attrs) (ascii "ref")) _
      (λ r. got (record { ref = r; type = kind_from k; role = or_empty (value_of (ascii "role") attrs) })) (λ r. rw role_is)
      ∙ ap (λ z. and_then z (λ r. got (record { ref = r; type = kind_from k; role = or_empty (value_of (ascii "role") attrs) }))) (same_integer_field name attrs (ascii "ref")))
      ∙ ap (λ z. and_then z (λ k. and_then (integer_field w64 (ascii "ref") attrs) (λ r. got (record { ref = r; type = k; role = or_empty (value_of (ascii "role") attrs) })))) (same_type t))
      ∙ ap (λ z. and_then z (λ t. and_then (F.type_named (name_of t)) (λ k. and_then (integer_field w64 (ascii "ref") attrs) (λ r. got (record { ref = r; type = k; role = or_empty (value_of (ascii "role") attrs) }))))) (same_text_field name attrs (ascii "type"))

-- ---- what a sink leaves, then the state

sunk_turn : (d next : DriveState) (x : Sunk) → driven (sunk_then d next x) ≡ turn_from next x.sink x.result
sunk_turn d next x = go x.result
  where
    go : (r : Result (Unit {0}) Error) → driven (X.then_state d next x.sink r) ≡ turn_from next x.sink r
    go (Ok u) = refl
    go (Err e) = refl

-- ---- an element begins

module _ (p : Place) (attrs : List Attr) (name : Bytes) (s : CompactSink) where
  -- where it stands afterwards, and what it comes to: an empty one ends at once
  abbrev next_place : Bool → Kind → Place
  next_place empty k = cond empty p (record { level = L.Element; section = p.section; kind = k })

  abbrev comes : Bool → Kind → Sunk → RustTurn
  comes true k x = driven (ended (drive_state p) x)
  comes false k x = driven (sunk_then (drive_state p) (drive_state (record { level = L.Element; section = p.section; kind = k })) x)

  failed_comes : (empty : Bool) (k : Kind) (q : CompactSink) (e : Error) → comes empty k (X.failed q e) ≡ stops (refusal_of e)
  failed_comes true k q e = refl
  failed_comes false k q e = refl

  abbrev start : BytesStart
  start = bytes_start name attrs

  -- pushed

  staged_comes : (empty : Bool) (k : Kind) (id : ℤ) (m : MetaSoFar) (b : Body Bytes) → element_kind (kind_of b) ≡ element_kind k
      → comes empty k (X.sunk (X.user_interned s.overlay m.user)
      (Some (record { kind = element_kind k; id = id; lat = lat_of b; lon = lon_of b; meta = X.arena_meta_of s.overlay m; tag_keys = []; tag_values = []; refs = []; members = [] })))
      ≡ done_as (begins empty (next_place empty k) id (meta_so_far m) b) s
  unfolding done_as
  staged_comes true k id m b e =
      rw (same_user m, e) (sunk_turn (drive_state p) (drive_state p) (end_element (record {
        overlay = X.user_interned s.overlay m.user;
        staging = Some (record { kind = element_kind k; id = id; lat = lat_of b; lon = lon_of b; meta = X.arena_meta_of s.overlay m; tag_keys = []; tag_values = []; refs = []; members = [] });
      })))
  staged_comes false k id m b e = rw (same_user m, e)

  body_comes : (empty : Bool) (k : Kind) (id : ℤ) (m : MetaSoFar)
      → comes empty k (X.begin_staged by_documents s (element_kind k) id m (X.coordinates by_documents (element_kind k) start)) ≡ done_as (on_field (body_for k attrs) (λ b. begins empty (next_place empty k) id (meta_so_far m) b)) s
  unfolding done_as
  body_comes empty K.Way id m = staged_comes empty K.Way id m (refs []) refl
  body_comes empty K.Relation id m = staged_comes empty K.Relation id m (members []) refl
  body_comes empty K.Node id m =
      rw (← same_coordinate name attrs Latitude, ← same_coordinate name attrs Longitude) (go (by_documents.lat start) (by_documents.lon start))
    where
      go : (x y : Result ℤ Error) → comes empty K.Node (X.begin_staged by_documents s O.Node id m (X.then x (λ lat. X.then y (λ lon. Ok (record { lat = lat; lon = lon })))))
          ≡ done_as (on_field (and_then (field_of (λ a. a) x) (λ lat. and_then (field_of (λ a. a) y) (λ lon. got (place lat lon)))) (λ b. begins empty (next_place empty K.Node) id (meta_so_far m) b)) s
      go (Err e) y = failed_comes empty K.Node (X.sink_with (X.user_interned s.overlay m.user) s.staging) e
      go (Ok lat) (Err e) = failed_comes empty K.Node (X.sink_with (X.user_interned s.overlay m.user) s.staging) e
      go (Ok lat) (Ok lon) = staged_comes empty K.Node id m (place lat lon) refl

  meta_comes : (empty : Bool) (k : Kind) (id : ℤ) (x : Result MetaSoFar Error)
      → comes empty k (X.begin_with by_documents s true (element_kind k) start id x) ≡ done_as (on_field (field_of meta_so_far x) (λ m. on_field (body_for k attrs) (λ b. begins empty (next_place empty k) id m b))) s
  unfolding done_as
  meta_comes empty k id (Err e) = failed_comes empty k s e
  meta_comes empty k id (Ok m) = body_comes empty k id m

  id_comes : (empty : Bool) (k : Kind) (x : Result ℤ Error)
      → comes empty k (X.begin_id by_documents s true (element_kind k) start x)
      ≡ done_as (on_field (field_of (λ a. a) x) (λ id. on_field (metadata_of attrs) (λ m. on_field (body_for k attrs) (λ b. begins empty (next_place empty k) id m b)))) s
  unfolding done_as
  id_comes empty k (Err e) = failed_comes empty k s e
  id_comes empty k (Ok id) = rw (← same_metadata attrs) (meta_comes empty k id (X.scan_meta_attrs by_documents X.default (map attribute attrs)))

  pushed_comes : (empty : Bool) (k : Kind)
      → comes empty k (X.begin_id by_documents s true (element_kind k) start (parse_i64_attr start (ascii "id"))) ≡ done_as (push_begins empty k (next_place empty k) attrs) s
  unfolding id_field
  pushed_comes empty k = rw (← same_integer_field name attrs (ascii "id")) (id_comes empty k (parse_i64_attr start (ascii "id")))

  -- deleted

  deleted_sunk : (empty : Bool) (k : Kind) (q : CompactSink) (x : Result CompactDiffOverlay ℤ) → comes empty k (X.deleted_as q x) ≡ deleted_at (next_place empty k) x
  unfolding end_element
  deleted_sunk true k q (Ok o) = refl
  deleted_sunk true k q (Err v) = refl
  deleted_sunk false k q (Ok o) = refl
  deleted_sunk false k q (Err v) = refl

  deleted_meta : (empty : Bool) (k : Kind) (id : ℤ) (x : Result MetaSoFar Error)
      → comes empty k (X.begin_with by_documents s false (element_kind k) start id x) ≡ done_as (on_field (field_of meta_so_far x) (λ m. deletes k (next_place empty k) id m)) s
  unfolding done_as
  deleted_meta empty k id (Err e) = failed_comes empty k s e
  deleted_meta empty k id (Ok m) =
      rw (same_user m)
      (deleted_sunk empty k (X.sink_with (X.user_interned s.overlay m.user) s.staging) (delete_kind (X.user_interned s.overlay m.user) (element_kind k) id (X.arena_meta_of s.overlay m)))

  deleted_id : (empty : Bool) (k : Kind) (x : Result ℤ Error)
      → comes empty k (X.begin_id by_documents s false (element_kind k) start x) ≡ done_as (on_field (field_of (λ a. a) x) (λ id. on_field (metadata_of attrs) (λ m. deletes k (next_place empty k) id m))) s
  unfolding done_as
  deleted_id empty k (Err e) = failed_comes empty k s e
  deleted_id empty k (Ok id) = rw (← same_metadata attrs) (deleted_meta empty k id (X.scan_meta_attrs by_documents X.default (map attribute attrs)))

  deleted_comes : (empty : Bool) (k : Kind)
      → comes empty k (X.begin_id by_documents s false (element_kind k) start (parse_i64_attr start (ascii "id"))) ≡ done_as (delete_begins k (next_place empty k) attrs) s
  unfolding id_field
  deleted_comes empty k = rw (← same_integer_field name attrs (ascii "id")) (deleted_id empty k (parse_i64_attr start (ascii "id")))

  begins_comes : (empty : Bool) (k : Kind) (a : Action) → comes empty k (begin_element by_documents s (action a) (element_kind k) start) ≡ done_as (element_begins a empty k (next_place empty k) attrs) s
  unfolding begin_element
  begins_comes empty k A.Create = pushed_comes empty k
  begins_comes empty k A.Modify = pushed_comes empty k
  begins_comes empty k A.Delete = deleted_comes empty k

-- ---- a child of an element

abbrev tag_from : C.Tag → Tag Bytes
tag_from t = record { key = t.k; value = t.v }

module _ (d : DriveState) (q : Place) (s : CompactSink) where
  tag_comes : (a : Action) (x : Result C.Tag Error)
      → driven (sunk_then d (drive_state q) (cond (X.live (action a)) (X.sink_tag s x) (X.dropped s x))) ≡ done_as (on_field (field_of tag_from x) (λ t. unless_delete a q (tags q t))) s
  unfolding done_as
  tag_comes A.Create (Ok t) = sunk_turn d (drive_state q) (X.sink_tag s (Ok t))
  tag_comes A.Create (Err e) = refl
  tag_comes A.Modify (Ok t) = sunk_turn d (drive_state q) (X.sink_tag s (Ok t))
  tag_comes A.Modify (Err e) = refl
  tag_comes A.Delete (Ok t) = refl
  tag_comes A.Delete (Err e) = refl

  nd_comes : (a : Action) (x : Result ℤ Error)
      → driven (sunk_then d (drive_state q) (cond (X.live (action a)) (X.sink_nd s x) (X.dropped s x))) ≡ done_as (on_field (field_of (λ z. z) x) (λ z. unless_delete a q (refers q z))) s
  unfolding done_as
  nd_comes A.Create (Ok t) = sunk_turn d (drive_state q) (X.sink_nd s (Ok t))
  nd_comes A.Create (Err e) = refl
  nd_comes A.Modify (Ok t) = sunk_turn d (drive_state q) (X.sink_nd s (Ok t))
  nd_comes A.Modify (Err e) = refl
  nd_comes A.Delete (Ok t) = refl
  nd_comes A.Delete (Err e) = refl

  member_comes : (a : Action) (x : Result X.ParsedMember Error)
      → driven (sunk_then d (drive_state q) (cond (X.live (action a)) (X.sink_member s x) (X.dropped s x))) ≡ done_as (on_field (field_of member_from x) (λ m. unless_delete a q (joins q m))) s
  unfolding done_as
  member_comes A.Create (Ok m) = rw (← kind_byte m.kind) (sunk_turn d (drive_state q) (X.sink_member s (Ok m)))
  member_comes A.Create (Err e) = refl
  member_comes A.Modify (Ok m) = rw (← kind_byte m.kind) (sunk_turn d (drive_state q) (X.sink_member s (Ok m)))
  member_comes A.Modify (Err e) = refl
  member_comes A.Delete (Ok m) = refl
  member_comes A.Delete (Err e) = refl

respelled : (name : Bytes) (attrs : List Attr) (a : X.OscAction) (k : ElementKind) (s : CompactSink)
    → handle_element_child (bytes_start name attrs) a k s ≡ handle_element_child (bytes_start (spell (name_of name)) attrs) a k s
unfolding handle_element_child parse_tag parse_nd parse_member parse_str_attr parse_i64_attr
respelled name attrs a k s = let t = spelled name in rw (t.tag, t.nd, t.member, t.bounds)

module _ (empty : Bool) (attrs : List Attr) (a : Action) (s : CompactSink) where
  abbrev in_element_of : Kind → Place
  in_element_of k = record { level = L.Element; section = a; kind = k }

  abbrev child_state : Kind → DriveState
  child_state k = drive_state (in_element_of k)

  -- a child that is not empty stands open
  leaf_state : (k : Kind) → cond empty (child_state k) (X.at_level (child_state k) X.Leaf) ≡ drive_state (cond empty (in_element_of k) (at L.Leaf (in_element_of k)))
  leaf_state k = by_bool empty (λ t. rw t) (λ t. rw t)

  child_comes : (n : Name) (k : Kind)
      → driven (sunk_then (child_state k) (drive_state (cond empty (in_element_of k) (at L.Leaf (in_element_of k)))) (handle_element_child (bytes_start (spell n) attrs) (action a) (element_kind k) s))
      ≡ done_as (decide_opened (in_element empty n (in_element_of k)) empty a attrs) s
  unfolding handle_element_child same both either in_element done_as
  child_comes N.Tag k = rw (← same_tag (ascii "tag") attrs) (tag_comes (child_state k) (cond empty (in_element_of k) (at L.Leaf (in_element_of k))) s a (parse_tag (bytes_start (ascii "tag") attrs)))
  child_comes N.Nd K.Node = refl
  child_comes N.Nd K.Way = rw (← same_nd (ascii "nd") attrs) (nd_comes (child_state K.Way) (cond empty (in_element_of K.Way) (at L.Leaf (in_element_of K.Way))) s a (parse_nd (bytes_start (ascii "nd") attrs)))
  child_comes N.Nd K.Relation = refl
  child_comes N.Member K.Node = refl
  child_comes N.Member K.Way = refl
  child_comes N.Member K.Relation =
      rw (← same_member (ascii "member") attrs) (member_comes (child_state K.Relation) (cond empty (in_element_of K.Relation) (at L.Leaf (in_element_of K.Relation))) s a (parse_member (bytes_start (ascii "member") attrs)))
  child_comes N.Bounds K.Node = refl
  child_comes N.Bounds K.Way = refl
  child_comes N.Bounds K.Relation = refl
  child_comes N.OsmChange k = refl
  child_comes N.Create k = refl
  child_comes N.Modify k = refl
  child_comes N.Delete k = refl
  child_comes N.Node k = refl
  child_comes N.Way k = refl
  child_comes N.Relation k = refl
  child_comes N.Unknown k = refl

-- ---- an open or an empty element, at each level

abbrev placed : Level → Action → Kind → Place
placed l a k = record { level = l; section = a; kind = k }

module _ (empty : Bool) (name : Bytes) (attrs : List Attr) (a : Action) (k : Kind) (s : CompactSink) where
  doc_opens : driven (X.open_at by_documents X.Doc empty (bytes_start name attrs) (drive_state (placed L.Doc a k)) s) ≡ done_as (decide_opened (in_doc empty (name_of name) (placed L.Doc a k)) empty a attrs) s
  unfolding same both in_doc done_as
  doc_opens = rw (spelled name).root (go (name_of name))
    where
      go : (n : Name) → driven (cond (same (spell n) (ascii "osmChange")) (X.driven (X.at_level (drive_state (placed L.Doc a k)) (cond empty X.Done X.Root)) s) (X.refused (drive_state (placed L.Doc a k)) s X.misplaced))
          ≡ done_as (decide_opened (in_doc empty n (placed L.Doc a k)) empty a attrs) s
      go N.OsmChange = by_bool empty (λ t. rw t) (λ t. rw t)
      go N.Create = refl
      go N.Modify = refl
      go N.Delete = refl
      go N.Node = refl
      go N.Way = refl
      go N.Relation = refl
      go N.Tag = refl
      go N.Nd = refl
      go N.Member = refl
      go N.Bounds = refl
      go N.Unknown = refl

  root_opens : driven (X.open_at by_documents X.Root empty (bytes_start name attrs) (drive_state (placed L.Root a k)) s) ≡ done_as (decide_opened (in_root empty (name_of name) (placed L.Root a k)) empty a attrs) s
  unfolding action_for from_name same both in_root done_as
  root_opens = rw ((spelled name).action, (spelled name).kind) (go (name_of name) (spelled name).root)
    where
      go : (n : Name) → same name (ascii "osmChange") ≡ same (spell n) (ascii "osmChange")
          → driven (X.open_root by_documents empty (bytes_start name attrs) (drive_state (placed L.Root a k)) s (action_for (spell n)) (from_name (spell n)))
          ≡ done_as (decide_opened (in_root empty n (placed L.Root a k)) empty a attrs) s
      go N.OsmChange e = rw e
      go N.Create e = by_bool empty (λ t. rw t) (λ t. rw t)
      go N.Modify e = by_bool empty (λ t. rw t) (λ t. rw t)
      go N.Delete e = by_bool empty (λ t. rw t) (λ t. rw t)
      go N.Node e = refl
      go N.Way e = refl
      go N.Relation e = refl
      go N.Tag e = rw e (by_bool empty (λ t. rw t) (λ t. rw t))
      go N.Nd e = rw e (by_bool empty (λ t. rw t) (λ t. rw t))
      go N.Member e = rw e (by_bool empty (λ t. rw t) (λ t. rw t))
      go N.Bounds e = rw e (by_bool empty (λ t. rw t) (λ t. rw t))
      go N.Unknown e = rw e (by_bool empty (λ t. rw t) (λ t. rw t))

  element_begins_lem : (j : Kind) → driven (X.open_section by_documents empty (bytes_start name attrs) (drive_state (placed L.Section a k)) s (Some (element_kind j)))
      ≡ done_as (element_begins a empty j (next_place (placed L.Section a k) attrs name s empty j) attrs) s
  element_begins_lem j = go empty refl
    where
      go : (t : Bool) → empty ≡ t → driven (X.open_section by_documents t (bytes_start name attrs) (drive_state (placed L.Section a k)) s (Some (element_kind j)))
          ≡ done_as (element_begins a t j (next_place (placed L.Section a k) attrs name s t j) attrs) s
      go true e = begins_comes (placed L.Section a k) attrs name s true j a
      go false e = begins_comes (placed L.Section a k) attrs name s false j a

  section_opens : driven (X.open_at by_documents X.Section empty (bytes_start name attrs) (drive_state (placed L.Section a k)) s) ≡ done_as (decide_opened (in_section empty (name_of name) (placed L.Section a k)) empty a attrs) s
  unfolding from_name same both in_section done_as
  section_opens = rw (spelled name).kind (go (name_of name))
    where
      go : (n : Name) → driven (X.open_section by_documents empty (bytes_start name attrs) (drive_state (placed L.Section a k)) s (from_name (spell n)))
          ≡ done_as (decide_opened (in_section empty n (placed L.Section a k)) empty a attrs) s
      go N.Node = element_begins_lem K.Node
      go N.Way = element_begins_lem K.Way
      go N.Relation = element_begins_lem K.Relation
      go N.OsmChange = refl
      go N.Create = refl
      go N.Modify = refl
      go N.Delete = refl
      go N.Tag = refl
      go N.Nd = refl
      go N.Member = refl
      go N.Bounds = refl
      go N.Unknown = refl

  element_opens : driven (X.open_at by_documents X.Element empty (bytes_start name attrs) (drive_state (placed L.Element a k)) s) ≡ done_as (decide_opened (in_element empty (name_of name) (placed L.Element a k)) empty a attrs) s
  element_opens = rw (respelled name attrs (action a) (element_kind k) s, leaf_state empty attrs a s k) (child_comes empty attrs a s (name_of name) k)

  opens : (l : Level) → driven (X.open_at by_documents (level l) empty (bytes_start name attrs) (drive_state (placed l a k)) s) ≡ done_as (decide_opened (opened_at l empty (name_of name) (placed l a k)) empty a attrs) s
  unfolding opened_at done_as
  opens L.Doc = doc_opens
  opens L.Root = root_opens
  opens L.Section = section_opens
  opens L.Element = element_opens
  opens L.Leaf = refl
  opens L.Other = refl
  opens L.Done = refl

-- ---- an event

-- while an element of a delete section stands open, nothing is staged
abbrev pub NothingStaged : Level → Action → CompactSink → Type 0
NothingStaged l a s = l ≡ L.Element → a ≡ A.Delete → s.staging ≡ None

closes_comes : (l : Level) (a : Action) (k : Kind) (s : CompactSink) → NothingStaged l a s
    → driven (X.close_at (level l) (drive_state (placed l a k)) s) ≡ done_as (decide_closed l a (at (closed_to l) (placed l a k))) s
unfolding closed_to done_as end_element
closes_comes L.Doc a k s e = refl
closes_comes L.Root a k s e = refl
closes_comes L.Section a k s e = refl
closes_comes L.Leaf a k s e = refl
closes_comes L.Other a k s e = refl
closes_comes L.Done a k s e = refl
closes_comes L.Element A.Create k s e = sunk_turn (drive_state (placed L.Element A.Create k)) (drive_state (placed L.Section A.Create k)) (end_element s)
closes_comes L.Element A.Modify k s e = sunk_turn (drive_state (placed L.Element A.Modify k)) (drive_state (placed L.Section A.Modify k)) (end_element s)
closes_comes L.Element A.Delete k s e =
    let z = e refl refl in ap (λ (st : Option Staging). driven (sunk_then (drive_state (placed L.Element A.Delete k)) (drive_state (placed L.Section A.Delete k)) (X.end_staged s.overlay st))) z
    ∙ ap (λ (st : Option Staging). goes (drive_state (placed L.Section A.Delete k)) (record { overlay = s.overlay; staging = st })) (sym z)

pub drive_decided : (e : Event) (p : Place) (s : CompactSink) → NothingStaged p.level p.section s
    → driven (drive_event by_documents (rust_event e) (drive_state p) s) ≡ done_as (decide_event e p) s
unfolding drive_event handle_open handle_close decide_event opened closed done_as
drive_decided (starts true n attrs) p s h = opens true n attrs p.section p.kind s p.level
drive_decided (starts false n attrs) p s h = opens false n attrs p.section p.kind s p.level
drive_decided closes p s h = closes_comes p.level p.section p.kind s h
drive_decided others p s h = refl
