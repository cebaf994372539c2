-- xml_parse.rs, the part that is bought: the readers of attributes, `CompactSink`, handle_open, handle_close, and of drive_osc one turn of its loop and the end test. The sink stands
-- before the driver that calls it. An event is what quick-xml hands over: a name and attributes. The Rust reads k, v, type, role
-- and user normalized and the other values raw; events come from lines here, and a value is both. Left out: `LexSink` and batches, files, cancellation, paths and messages.
use Rattle.std.specs.Prelude.{ℕ, ◌+◌, Bool, true, false, cond, List, [], ◌∷◌, ◌++◌, ℤ, pos, None, Option, Some, Result, Ok, Err}
use Rattle.base.specs.Ascii.{ascii}
use Rattle.base.specs.Bytes.{Bytes, same, either}
use Rattle.published.specs.Std.{ElementKind, Node, Way, Relation, from_name, parse_int}
use Rattle.published.specs.Compact.{ArenaMeta, TagPart, MemberPart, Tag, member_type_to_byte, META_FLAG_PRESENT, META_FLAG_HIDDEN, META_FLAG_HAS_USER, META_FLAG_HAS_VERSION}
use Rattle.published.specs.Parse.{CompactDiffOverlay, intern_in, handle_in_overlay, push_node, push_way, push_relation, delete_kind}

-- quick_xml's Attribute, BytesStart and Event; `Other` is each event that drive_osc passes over
pub record Attribute : Type 0 where
  pub key : Bytes
  pub value : Bytes

pub record BytesStart : Type 0 where
  pub name : Bytes
  pub attributes : List Attribute

pub data Event : Type 0 where
  Start : BytesStart → Event
  Empty : BytesStart → Event
  End : Event
  Other : Event

-- pub(crate) enum OscAction
pub data OscAction : Type 0 where
  Create : OscAction
  Modify : OscAction
  Delete : OscAction

-- the errors, told apart as their makers tell them apart; VersionRegression carries what is held
pub data Error : Type 0 where
  misplaced : Error
  outside_section : Error
  missing_attr : Error
  not_integer : Error
  bad_timestamp : Error
  bad_coordinate : Error
  unknown_member_type : Error
  version_regression : ℤ → Error
  truncated : Error
  internal : Error
  -- the two that degrees alone have: they belong to what is not published (`NotPublished`)
  not_degrees : Error
  both_forms : Error

-- `?`
abbrev pub then : {A B : Type 0} → Result A Error → (A → Result B Error) → Result B Error
then (Ok a) f = f a
then (Err e) f = Err e

-- .ok_or(e), .map_err(|_| e)
abbrev pub ok_or : {A : Type 0} → Error → Option A → Result A Error
ok_or e None = Err e
ok_or e (Some a) = Ok a

-- ---- attributes

-- the loop of parse_i64_attr, append_str_attr and append_str_attr_optional: the first attribute of a name
unfoldable pub find_attr : List Attribute → Bytes → Option Bytes
find_attr [] name = None
find_attr (a ∷ attrs) name = cond (same a.key name) (Some a.value) (find_attr attrs name)

-- fn parse_i64_attr(e, name) -> ParseResult<i64>
unfoldable pub parse_i64_attr : BytesStart → Bytes → Result ℤ Error
parse_i64_attr e name = then (ok_or missing_attr (find_attr e.attributes name)) (λ v. ok_or not_integer (parse_int 63 v))

-- fn parse_str_attr(e, name) -> ParseResult<String>
unfoldable pub parse_str_attr : BytesStart → Bytes → Result Bytes Error
parse_str_attr e name = ok_or missing_attr (find_attr e.attributes name)

-- fn append_str_attr_optional(e, name, out), of an empty `out`
abbrev pub or_empty : Option Bytes → Bytes
or_empty None = []
or_empty (Some v) = v

-- ---- object children

-- fn parse_tag(e) -> ParseResult<(String, String)>
unfoldable pub parse_tag : BytesStart → Result Tag Error
parse_tag e = then (parse_str_attr e (ascii "k")) (λ k. then (parse_str_attr e (ascii "v")) (λ v. Ok (record { k = k; v = v })))

-- fn parse_nd(e) -> ParseResult<i64>
unfoldable pub parse_nd : BytesStart → Result ℤ Error
parse_nd e = parse_i64_attr e (ascii "ref")

-- struct ParsedMember
pub record ParsedMember : Type 0 where
  pub kind : ElementKind
  pub ref_id : ℤ
  pub role : Bytes

-- fn parse_member(e) -> ParseResult<ParsedMember>
unfoldable pub parse_member : BytesStart → Result ParsedMember Error
parse_member e =
    then (parse_str_attr e (ascii "type")) (λ t. then (ok_or unknown_member_type (from_name t)) (λ kind. then (parse_i64_attr e (ascii "ref")) (λ r.
    Ok (record { kind = kind; ref_id = r; role = or_empty (find_attr e.attributes (ascii "role")) }))))

-- ---- what is not published, the timestamp reader of commands/mod.rs; and `coord_to_decimicro`, which document 01 leaves out: degrees as a float there, lat7 and lon7 or degrees in whole numbers here

pub record NotPublished : Type 0 where
  pub parse_rfc3339_utc : Bytes → Option ℤ
  pub lat : BytesStart → Result ℤ Error
  pub lon : BytesStart → Result ℤ Error

-- ---- metadata: scan_meta_attrs with the closure of arena_meta

-- what arena_meta holds while it scans: `any`, two bits of `meta.flags`, the fields of `meta`, and `user`
pub record MetaSoFar : Type 0 where
  pub any : Bool
  pub hidden : Bool
  pub has_version : Bool
  pub version : ℤ
  pub timestamp : ℤ
  pub changeset : ℤ
  pub uid : ℤ
  pub user : Option Bytes

-- ArenaMeta::default(), and no user
abbrev pub default : MetaSoFar
default = record { any = false; hidden = false; has_version = false; version = pos 0; timestamp = pos 0; changeset = pos 0; uid = pos 0; user = None }

module _ (np : NotPublished) where
  -- one attribute: any = true; f(field, &attr)?;
  unfoldable pub scan_one : MetaSoFar → Attribute → Result MetaSoFar Error
  scan_one m a =
      cond (same a.key (ascii "version"))
      (then (ok_or not_integer (parse_int 31 a.value)) (λ z.
      Ok (record { any = true; hidden = m.hidden; has_version = true; version = z; timestamp = m.timestamp; changeset = m.changeset; uid = m.uid; user = m.user })))
      (cond (same a.key (ascii "timestamp"))
      (then (ok_or bad_timestamp (np.parse_rfc3339_utc a.value)) (λ z.
      Ok (record { any = true; hidden = m.hidden; has_version = m.has_version; version = m.version; timestamp = z; changeset = m.changeset; uid = m.uid; user = m.user })))
      (cond (same a.key (ascii "changeset"))
      (then (ok_or not_integer (parse_int 63 a.value)) (λ z.
      Ok (record { any = true; hidden = m.hidden; has_version = m.has_version; version = m.version; timestamp = m.timestamp; changeset = z; uid = m.uid; user = m.user })))
      (cond (same a.key (ascii "uid"))
      (then (ok_or not_integer (parse_int 31 a.value)) (λ z.
      Ok (record { any = true; hidden = m.hidden; has_version = m.has_version; version = m.version; timestamp = m.timestamp; changeset = m.changeset; uid = z; user = m.user })))
      (cond (same a.key (ascii "user"))
      (Ok (record { any = true; hidden = m.hidden; has_version = m.has_version; version = m.version; timestamp = m.timestamp; changeset = m.changeset; uid = m.uid; user = Some a.value }))
      (cond (same a.key (ascii "visible"))
      (Ok (record { any = true; hidden = cond (same a.value (ascii "false")) true m.hidden; has_version = m.has_version; version = m.version; timestamp = m.timestamp; changeset = m.changeset; uid = m.uid; user = m.user }))
      (Ok m))))))

  unfoldable pub scan_meta_attrs : MetaSoFar → List Attribute → Result MetaSoFar Error
  scan_meta_attrs m [] = Ok m
  scan_meta_attrs m (a ∷ attrs) = then (scan_one m a) (λ n. scan_meta_attrs n attrs)

abbrev pub bit : Bool → ℕ → ℕ
bit true n = n
bit false n = 0

abbrev pub given : Option Bytes → Bool
given None = false
given (Some t) = true

-- meta.flags, as arena_meta leaves it
abbrev pub flags_of : MetaSoFar → ℕ
flags_of m = bit m.any META_FLAG_PRESENT + bit m.hidden META_FLAG_HIDDEN + bit (given m.user) META_FLAG_HAS_USER + bit m.has_version META_FLAG_HAS_VERSION

-- if let Some(name) = user { meta.user_id = overlay.intern(&name)?; .. }: what it leaves of the overlay, and the handle
abbrev pub user_interned : CompactDiffOverlay → Option Bytes → CompactDiffOverlay
user_interned o None = o
user_interned o (Some t) = intern_in o t

abbrev pub user_handle : CompactDiffOverlay → Option Bytes → ℕ
user_handle o None = 0
user_handle o (Some t) = handle_in_overlay o t

-- the ArenaMeta that arena_meta(e, overlay) returns
abbrev pub arena_meta_of : CompactDiffOverlay → MetaSoFar → ArenaMeta
arena_meta_of o m =
    record { flags = flags_of m; version = m.version; timestamp = m.timestamp; changeset = m.changeset; uid = m.uid; user_id = user_handle o m.user }

-- ---- the sink

-- struct Staging
pub record Staging : Type 0 where
  pub kind : ElementKind
  pub id : ℤ
  pub lat : ℤ
  pub lon : ℤ
  pub meta : ArenaMeta
  pub tag_keys : List ℕ
  pub tag_values : List Bytes
  pub refs : List ℤ
  pub members : List MemberPart

-- struct CompactSink
pub record CompactSink : Type 0 where
  pub overlay : CompactDiffOverlay
  pub staging : Option Staging

-- what a function leaves of the sink, and what it answers
pub record Sunk : Type 0 where
  pub sink : CompactSink
  pub result : Result (Unit {0}) Error

abbrev pub sink_with : CompactDiffOverlay → Option Staging → CompactSink
sink_with o st = record { overlay = o; staging = st }

abbrev pub sunk : CompactDiffOverlay → Option Staging → Sunk
sunk o st = record { sink = sink_with o st; result = Ok tt }

abbrev pub failed : CompactSink → Error → Sunk
failed s e = record { sink = s; result = Err e }

-- self.staged()?: the staged element changed, or an error where there is none
abbrev pub staged : CompactDiffOverlay → Option Staging → (Staging → Staging) → Sunk
staged o None f = failed (sink_with o None) internal
staged o (Some st) f = sunk o (Some (f st))

abbrev pub add_tag : ℕ → Bytes → Staging → Staging
add_tag k v st =
    record { kind = st.kind; id = st.id; lat = st.lat; lon = st.lon; meta = st.meta; tag_keys = st.tag_keys ++ (k ∷ []); tag_values = st.tag_values ++ (v ∷ []); refs = st.refs; members = st.members }

abbrev pub add_ref : ℤ → Staging → Staging
add_ref r st =
    record { kind = st.kind; id = st.id; lat = st.lat; lon = st.lon; meta = st.meta; tag_keys = st.tag_keys; tag_values = st.tag_values; refs = st.refs ++ (r ∷ []); members = st.members }

abbrev pub add_member : MemberPart → Staging → Staging
add_member m st =
    record { kind = st.kind; id = st.id; lat = st.lat; lon = st.lon; meta = st.meta; tag_keys = st.tag_keys; tag_values = st.tag_values; refs = st.refs; members = st.members ++ (m ∷ []) }

-- fn tag(&mut self, e), after parse_tag(e)
abbrev pub sink_tag : CompactSink → Result Tag Error → Sunk
sink_tag s (Err e) = failed s e
sink_tag s (Ok t) = staged (intern_in s.overlay t.k) s.staging (add_tag (handle_in_overlay s.overlay t.k) t.v)

-- fn nd(&mut self, e), after parse_nd(e)
abbrev pub sink_nd : CompactSink → Result ℤ Error → Sunk
sink_nd s (Err e) = failed s e
sink_nd s (Ok r) = staged s.overlay s.staging (add_ref r)

-- fn member(&mut self, e), after parse_member(e)
abbrev pub sink_member : CompactSink → Result ParsedMember Error → Sunk
sink_member s (Err e) = failed s e
sink_member s (Ok m) =
    staged (intern_in s.overlay m.role) s.staging
    (add_member (record { ref_id = m.ref_id; type_byte = member_type_to_byte m.kind; role_id = handle_in_overlay s.overlay m.role }))

-- self.overlay.delete_..(id, &meta)?; self.staging = None;
abbrev pub deleted_as : CompactSink → Result CompactDiffOverlay ℤ → Sunk
deleted_as s (Ok o) = sunk o None
deleted_as s (Err v) = failed s (version_regression v)

-- st.tag_keys.iter().zip(st.tag_values.iter())
unfoldable pub zip_tags : List ℕ → List Bytes → List TagPart
zip_tags [] vs = []
zip_tags (k ∷ ks) [] = []
zip_tags (k ∷ ks) (v ∷ vs) = record { key_id = k; value = v } ∷ zip_tags ks vs

abbrev pub push_staged : ElementKind → CompactDiffOverlay → Staging → Result CompactDiffOverlay ℤ
push_staged Node o st = push_node o st.id st.lat st.lon (zip_tags st.tag_keys st.tag_values) st.meta
push_staged Way o st = push_way o st.id st.refs (zip_tags st.tag_keys st.tag_values) st.meta
push_staged Relation o st = push_relation o st.id st.members (zip_tags st.tag_keys st.tag_values) st.meta

-- self.staging.take() comes before the push
abbrev pub pushed_as : CompactDiffOverlay → Result CompactDiffOverlay ℤ → Sunk
pushed_as o (Ok p) = sunk p None
pushed_as o (Err v) = failed (sink_with o None) (version_regression v)

abbrev pub end_staged : CompactDiffOverlay → Option Staging → Sunk
end_staged o None = sunk o None
end_staged o (Some st) = pushed_as o (push_staged st.kind o st)

-- fn end_element(&mut self)
unfoldable pub end_element : CompactSink → Sunk
end_element s = end_staged s.overlay s.staging

-- let live = section != OscAction::Delete;
abbrev pub live : OscAction → Bool
live Create = true
live Modify = true
live Delete = false

pub record Coordinates : Type 0 where
  pub lat : ℤ
  pub lon : ℤ

module _ (np : NotPublished) where
  -- let (lat, lon) = if kind == ElementKind::Node { .. } else { (0, 0) };
  abbrev pub coordinates : ElementKind → BytesStart → Result Coordinates Error
  coordinates Node e = then (np.lat e) (λ lat. then (np.lon e) (λ lon. Ok (record { lat = lat; lon = lon })))
  coordinates Way e = Ok (record { lat = pos 0; lon = pos 0 })
  coordinates Relation e = Ok (record { lat = pos 0; lon = pos 0 })

  -- self.staging = Some(Staging { .. })
  abbrev pub begin_staged : CompactSink → ElementKind → ℤ → MetaSoFar → Result Coordinates Error → Sunk
  begin_staged s kind id m (Err e) = failed (sink_with (user_interned s.overlay m.user) s.staging) e
  begin_staged s kind id m (Ok c) =
      sunk (user_interned s.overlay m.user)
      (Some (record { kind = kind; id = id; lat = c.lat; lon = c.lon; meta = arena_meta_of s.overlay m; tag_keys = []; tag_values = []; refs = []; members = [] }))

  abbrev pub begin_delete : CompactSink → ElementKind → ℤ → MetaSoFar → Sunk
  begin_delete s kind id m =
      deleted_as (sink_with (user_interned s.overlay m.user) s.staging) (delete_kind (user_interned s.overlay m.user) kind id (arena_meta_of s.overlay m))

  -- let meta = arena_meta(e, self.overlay)?;
  abbrev pub begin_with : CompactSink → Bool → ElementKind → BytesStart → ℤ → Result MetaSoFar Error → Sunk
  begin_with s live kind e id (Err x) = failed s x
  begin_with s true kind e id (Ok m) = begin_staged s kind id m (coordinates kind e)
  begin_with s false kind e id (Ok m) = begin_delete s kind id m

  -- let id = parse_i64_attr(e, "id")?;
  abbrev pub begin_id : CompactSink → Bool → ElementKind → BytesStart → Result ℤ Error → Sunk
  begin_id s live kind e (Err x) = failed s x
  begin_id s live kind e (Ok id) = begin_with s live kind e id (scan_meta_attrs np default e.attributes)

  -- fn begin_element(&mut self, action, kind, e)
  unfoldable pub begin_element : CompactSink → OscAction → ElementKind → BytesStart → Sunk
  begin_element s action kind e = begin_id s (live action) kind e (parse_i64_attr e (ascii "id"))

-- ---- the driver

-- fn action_for(name: &str) -> Option<OscAction>
unfoldable pub action_for : Bytes → Option OscAction
action_for n = cond (same n (ascii "create")) (Some Create) (cond (same n (ascii "modify")) (Some Modify) (cond (same n (ascii "delete")) (Some Delete) None))

-- enum Level
pub data Level : Type 0 where
  Doc : Level
  Root : Level
  Other : Level
  Section : Level
  Element : Level
  Leaf : Level
  Done : Level

-- struct DriveState; `open_kind` is its `open`
pub record DriveState : Type 0 where
  pub level : Level
  pub section : OscAction
  pub open_kind : ElementKind

abbrev pub at_level : DriveState → Level → DriveState
at_level d l = record { level = l; section = d.section; open_kind = d.open_kind }

-- const ROOT
abbrev pub ROOT : Bytes
ROOT = ascii "osmChange"

-- what a function leaves of state and sink, and what it answers
pub record Driven : Type 0 where
  pub state : DriveState
  pub sink : CompactSink
  pub result : Result (Unit {0}) Error

abbrev pub driven : DriveState → CompactSink → Driven
driven d s = record { state = d; sink = s; result = Ok tt }

abbrev pub refused : DriveState → CompactSink → Error → Driven
refused d s e = record { state = d; sink = s; result = Err e }

-- `..?;` and then the state
abbrev pub then_state : DriveState → DriveState → CompactSink → Result (Unit {0}) Error → Driven
then_state d next s (Ok u) = driven next s
then_state d next s (Err e) = refused d s e

abbrev pub sunk_then : DriveState → DriveState → Sunk → Driven
sunk_then d next s = then_state d next s.sink s.result

-- parse_..(e).map(drop)
abbrev pub dropped : {A : Type 0} → CompactSink → Result A Error → Sunk
dropped s (Ok a) = record { sink = s; result = Ok tt }
dropped s (Err e) = failed s e

-- the arms of handle_element_child's match by kind: ("nd", Way), ("member", Relation), ("bbox" | "bounds", Way | Relation)
abbrev pub only_way : ElementKind → CompactSink → Sunk → Sunk
only_way Node s x = failed s misplaced
only_way Way s x = x
only_way Relation s x = failed s misplaced

abbrev pub only_relation : ElementKind → CompactSink → Sunk → Sunk
only_relation Node s x = failed s misplaced
only_relation Way s x = failed s misplaced
only_relation Relation s x = x

abbrev pub way_or_relation : ElementKind → CompactSink → Sunk → Sunk
way_or_relation Node s x = failed s misplaced
way_or_relation Way s x = x
way_or_relation Relation s x = x

-- fn handle_element_child(name, e, section, kind, sink)
unfoldable pub handle_element_child : BytesStart → OscAction → ElementKind → CompactSink → Sunk
handle_element_child e section kind s =
    cond (same e.name (ascii "tag")) (cond (live section) (sink_tag s (parse_tag e)) (dropped s (parse_tag e)))
    (cond (same e.name (ascii "nd")) (only_way kind s (cond (live section) (sink_nd s (parse_nd e)) (dropped s (parse_nd e))))
    (cond (same e.name (ascii "member")) (only_relation kind s (cond (live section) (sink_member s (parse_member e)) (dropped s (parse_member e))))
    (cond (either (same e.name (ascii "bbox")) (same e.name (ascii "bounds"))) (way_or_relation kind s (record { sink = s; result = Ok tt }))
    (failed s misplaced))))

-- sink.begin_element(..)?; end_element(sink, path)?;
abbrev pub end_begun : DriveState → CompactSink → Result (Unit {0}) Error → Driven
end_begun d s (Ok u) = sunk_then d d (end_element s)
end_begun d s (Err e) = refused d s e

abbrev pub ended : DriveState → Sunk → Driven
ended d x = end_begun d x.sink x.result

module _ (np : NotPublished) where
  -- fn handle_open(e, is_empty, state, sink, path), level by level
  abbrev pub open_section : Bool → BytesStart → DriveState → CompactSink → Option ElementKind → Driven
  open_section is_empty e d s None = refused d s misplaced
  open_section true e d s (Some kind) = ended d (begin_element np s d.section kind e)
  open_section false e d s (Some kind) = sunk_then d (record { level = Element; section = d.section; open_kind = kind }) (begin_element np s d.section kind e)

  abbrev pub open_root : Bool → BytesStart → DriveState → CompactSink → Option OscAction → Option ElementKind → Driven
  open_root is_empty e d s (Some action) k = driven (cond is_empty d (record { level = Section; section = action; open_kind = d.open_kind })) s
  open_root is_empty e d s None (Some kind) = refused d s outside_section
  open_root is_empty e d s None None = cond (same e.name ROOT) (refused d s misplaced) (driven (cond is_empty d (at_level d Level.Other)) s)

  abbrev pub open_at : Level → Bool → BytesStart → DriveState → CompactSink → Driven
  open_at Element is_empty e d s = sunk_then d (cond is_empty d (at_level d Leaf)) (handle_element_child e d.section d.open_kind s)
  open_at Section is_empty e d s = open_section is_empty e d s (from_name e.name)
  open_at Root is_empty e d s = open_root is_empty e d s (action_for e.name) (from_name e.name)
  open_at Doc is_empty e d s = cond (same e.name ROOT) (driven (at_level d (cond is_empty Done Root)) s) (refused d s misplaced)
  open_at Leaf is_empty e d s = refused d s misplaced
  open_at Level.Other is_empty e d s = refused d s misplaced
  open_at Done is_empty e d s = refused d s misplaced

  unfoldable pub handle_open : BytesStart → Bool → DriveState → CompactSink → Driven
  handle_open e is_empty d s = open_at d.level is_empty e d s

-- fn handle_close(state, sink, path)
abbrev pub close_at : Level → DriveState → CompactSink → Driven
close_at Leaf d s = driven (at_level d Element) s
close_at Element d s = sunk_then d (at_level d Section) (end_element s)
close_at Section d s = driven (at_level d Root) s
close_at Level.Other d s = driven (at_level d Root) s
close_at Root d s = driven (at_level d Done) s
close_at Doc d s = driven d s
close_at Done d s = driven d s

unfoldable pub handle_close : DriveState → CompactSink → Driven
handle_close d s = close_at d.level d s

-- drive_osc: the state that it begins with
abbrev pub fresh : DriveState
fresh = record { level = Doc; section = Create; open_kind = Node }

-- one turn of its loop
unfoldable pub drive_event : NotPublished → Event → DriveState → CompactSink → Driven
drive_event np (Start e) d s = handle_open np e false d s
drive_event np (Empty e) d s = handle_open np e true d s
drive_event np End d s = handle_close d s
drive_event np Event.Other d s = driven d s

-- and its end: if state.level != Level::Done { return Err(..) }
abbrev pub end_test : Level → Result (Unit {0}) Error
end_test Doc = Err truncated
end_test Root = Err truncated
end_test Level.Other = Err truncated
end_test Section = Err truncated
end_test Element = Err truncated
end_test Leaf = Err truncated
end_test Done = Ok tt
