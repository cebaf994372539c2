-- Where an accepted event leads, and which elements stand open at a place.
use Rattle.std.specs.Prelude.{Ok, None, Option, Some, ℤ}
use Prim.Native.Nat.{ℕ, ◌+◌, ◌<◌, ◌≤◌}
use mathlib.Core.Path.{◌≡◌, refl, sym, ◌∙◌, ap, subst}
use mathlib.Core.Bool.{Bool, true, false, cond}
use mathlib.Core.List.{List, [], ◌∷◌}
use lib.ListN.{length}
use Rattle.base.specs.Ascii.{ascii}
use Rattle.base.specs.Bytes.{Bytes}
use Rattle.base.proofs.Split.{no, clash}
use Rattle.base.proofs.Lists.{same_yes}
use Rattle.kind.specs.declared.Kind.{Kind}
use Rattle.kind.specs.declared.Kind.TheVariants as K
use Rattle.nesting.specs.Name.{name_of}
use Rattle.nesting.specs.declared.Name.{Name}
use Rattle.nesting.specs.declared.Name.TheVariants as N
use Rattle.nesting.specs.declared.Action.{Action}
use Rattle.nesting.specs.declared.Action.TheVariants as A
use Rattle.nesting.specs.declared.Level.{Level}
use Rattle.nesting.specs.declared.Level.TheVariants as L
use Rattle.nesting.specs.declared.Place.{Place}
use Rattle.nesting.specs.declared.Child.{Child}
use Rattle.nesting.specs.declared.Child.TheVariants as C
use Rattle.nesting.specs.Opened.{Opened}
use Rattle.nesting.specs.Opened as O
use Rattle.nesting.specs.Nesting.{at, in_doc, in_root, in_section, in_way, in_relation, not_in_node, in_element, opened_at, opened, closed, closed_to}
use Rattle.nesting.specs.Marks.{place_taken}
use Rattle.nesting.proofs.Names.{name_exactly}
use Rattle.event.specs.Event.{Attr, starts, closes, reads, event_of}
use Rattle.event_fields.specs.Field.{Field, got, bad, id_field, metadata_of, body_for, tag_of, ref_of, member_of}
use Rattle.event_decision.specs.Decision.{Decision, refuses, moves, begins, deletes, tags, refers, joins, ends, on_field, push_begins, delete_begins, element_begins, child_of}
use Rattle.event_decision.specs.Decision.{decide, decide_reading, decide_event, decide_opened, decide_closed}
use Rattle.model.specs.Record.{Meta, Body}
use Rattle.acts.specs.Turn.{Reader, Turn, turn_of, turn}
use Rattle.reader.specs.State.{State}
use Rattle.reader.specs.Given.{StateGiven}
use Rattle.reader.specs.Event.{event_on}
use Rattle.reader.specs.Means.{reader_of}
use Rattle.reader.proofs.Events.{event_accepted}
use Rattle.file_reader.specs.File.{keeps_name, action_bytes, kind_bytes, open_at}
use Rattle.file_events.specs.Open.{behind_innermost, with_start, innermost}

-- ---- where an event leads

got_place : (x t : Turn) → got x ≡ got t → x.reader.place ≡ t.reader.place
got_place x t e = let z : x ≡ t = cc e in ap (λ (y : Turn). y.reader.place) z

on_field_turn : {X : Type 0} (f : Field X) (h : X → Decision) (r : Reader) (t : Turn) → turn_of (on_field f h) r ≡ got t → (a : X) × (turn_of (h a) r ≡ got t)
unfolding turn_of
on_field_turn (got a) h r t e = (a, e)
on_field_turn (bad x) h r t e = no (cc e)

module _ (r : Reader) (t : Turn) where
  begun_place : (empty : Bool) (q : Place) (id : ℤ) (m : Meta Bytes) (b : Body Bytes) → turn_of (begins empty q id m b) r ≡ got t → q ≡ t.reader.place
  unfolding turn_of
  begun_place true q id m b e = got_place _ t e
  begun_place false q id m b e = got_place _ t e

  push_place : (empty : Bool) (k : Kind) (q : Place) (attrs : List Attr) → turn_of (push_begins empty k q attrs) r ≡ got t → q ≡ t.reader.place
  push_place empty k q attrs e =
      let a = on_field_turn (id_field attrs) (λ id. on_field (metadata_of attrs) (λ m. on_field (body_for k attrs) (λ b. begins empty q id m b))) r t e in
      let b = on_field_turn (metadata_of attrs) (λ m. on_field (body_for k attrs) (λ b. begins empty q a.0 m b)) r t a.1 in
      let c = on_field_turn (body_for k attrs) (λ x. begins empty q a.0 b.0 x) r t b.1 in
      begun_place empty q a.0 b.0 c.0 c.1

  delete_place : (k : Kind) (q : Place) (attrs : List Attr) → turn_of (delete_begins k q attrs) r ≡ got t → q ≡ t.reader.place
  unfolding turn_of
  delete_place k q attrs e =
      let a = on_field_turn (id_field attrs) (λ id. on_field (metadata_of attrs) (λ m. deletes k q id m)) r t e in
      let b = on_field_turn (metadata_of attrs) (λ m. deletes k q a.0 m) r t a.1 in
      got_place _ t b.1

  child_place : (c : Child) (a : Action) (q : Place) (attrs : List Attr) → turn_of (child_of c a q attrs) r ≡ got t → q ≡ t.reader.place
  unfolding turn_of
  child_place C.Tag A.Create q attrs e = got_place _ t (on_field_turn (tag_of attrs) (λ x. tags q x) r t e).1
  child_place C.Tag A.Modify q attrs e = got_place _ t (on_field_turn (tag_of attrs) (λ x. tags q x) r t e).1
  child_place C.Tag A.Delete q attrs e = got_place _ t (on_field_turn (tag_of attrs) (λ x. moves q) r t e).1
  child_place C.Nd A.Create q attrs e = got_place _ t (on_field_turn (ref_of attrs) (λ x. refers q x) r t e).1
  child_place C.Nd A.Modify q attrs e = got_place _ t (on_field_turn (ref_of attrs) (λ x. refers q x) r t e).1
  child_place C.Nd A.Delete q attrs e = got_place _ t (on_field_turn (ref_of attrs) (λ x. moves q) r t e).1
  child_place C.Member A.Create q attrs e = got_place _ t (on_field_turn (member_of attrs) (λ x. joins q x) r t e).1
  child_place C.Member A.Modify q attrs e = got_place _ t (on_field_turn (member_of attrs) (λ x. joins q x) r t e).1
  child_place C.Member A.Delete q attrs e = got_place _ t (on_field_turn (member_of attrs) (λ x. moves q) r t e).1

  opened_place : (o : Opened) (empty : Bool) (a : Action) (attrs : List Attr) → turn_of (decide_opened o empty a attrs) r ≡ got t → place_taken o ≡ Some t.reader.place
  unfolding turn_of place_taken
  opened_place O.Misplaced empty a attrs e = no (cc e)
  opened_place O.OutsideSection empty a attrs e = no (cc e)
  opened_place (O.Goes q) empty a attrs e = ap (λ x. Some x) (got_place _ t e)
  opened_place (O.Begins k q) empty A.Create attrs e = ap (λ x. Some x) (push_place empty k q attrs e)
  opened_place (O.Begins k q) empty A.Modify attrs e = ap (λ x. Some x) (push_place empty k q attrs e)
  opened_place (O.Begins k q) empty A.Delete attrs e = ap (λ x. Some x) (delete_place k q attrs e)
  opened_place (O.Holds c q) empty a attrs e = ap (λ x. Some x) (child_place c a q attrs e)

  closed_place : (l : Level) (a : Action) (q : Place) → turn_of (decide_closed l a q) r ≡ got t → q ≡ t.reader.place
  unfolding turn_of
  closed_place L.Element A.Create q e = got_place _ t e
  closed_place L.Element A.Modify q e = got_place _ t e
  closed_place L.Element A.Delete q e = got_place _ t e
  closed_place L.Doc a q e = got_place _ t e
  closed_place L.Root a q e = got_place _ t e
  closed_place L.Section a q e = got_place _ t e
  closed_place L.Leaf a q e = got_place _ t e
  closed_place L.Other a q e = got_place _ t e
  closed_place L.Done a q e = got_place _ t e

module _ (line : Bytes) (s : State) (g : StateGiven s) (a : (event_on line s).answer ≡ Ok tt) where
  pub start_leads : (empty : Bool) (n : Bytes) (attrs : List Attr) → event_of line ≡ reads (starts empty n attrs)
      → place_taken (opened empty (name_of n) s.reader.place) ≡ Some (event_on line s).state.reader.place
  unfolding turn decide decide_event reader_of
  start_leads empty n attrs e =
      let w = event_accepted line s g a in
      let p : (event_on line s).state.reader.place ≡ w.comes.reader.place = ap (λ (r : Reader). r.place) w.reader in
      let t : turn_of (decide_reading (event_of line) s.reader.place) (reader_of s) ≡ got w.comes = w.is in
      opened_place (reader_of s) w.comes (opened empty (name_of n) s.reader.place) empty s.reader.place.section attrs
      (ap (λ x. turn_of (decide_reading x s.reader.place) (reader_of s)) (sym e) ∙ t)
      ∙ ap (λ x. Some x) (sym p)

  pub close_leads : event_of line ≡ reads closes → closed s.reader.place ≡ (event_on line s).state.reader.place
  unfolding turn decide decide_event reader_of
  close_leads e =
      let w = event_accepted line s g a in
      let p : (event_on line s).state.reader.place ≡ w.comes.reader.place = ap (λ (r : Reader). r.place) w.reader in
      let t : turn_of (decide_reading (event_of line) s.reader.place) (reader_of s) ≡ got w.comes = w.is in
      closed_place (reader_of s) w.comes s.reader.place.level s.reader.place.section (closed s.reader.place)
      (ap (λ x. turn_of (decide_reading x s.reader.place) (reader_of s)) (sym e) ∙ t)
      ∙ sym p

-- ---- which elements stand open at a place

abbrev root : Bytes
root = ascii "osmChange"

-- the names of those that are open, where `kept` is the name of one that is kept
abbrev pub StandOpen : Level → Place → Bytes → List Bytes → Type 0
StandOpen L.Doc p kept names = names ≡ []
StandOpen L.Root p kept names = names ≡ root ∷ []
StandOpen L.Section p kept names = names ≡ action_bytes p.section ∷ (root ∷ [])
StandOpen L.Element p kept names = names ≡ kind_bytes p.kind ∷ (action_bytes p.section ∷ (root ∷ []))
StandOpen L.Leaf p kept names = names ≡ kept ∷ (kind_bytes p.kind ∷ (action_bytes p.section ∷ (root ∷ [])))
StandOpen L.Other p kept names = names ≡ kept ∷ (root ∷ [])
StandOpen L.Done p kept names = names ≡ []

pub stands_innermost : (l : Level) (p : Place) (kept : Bytes) (names : List Bytes) → StandOpen l p kept names → open_at l p kept ≡ innermost names
stands_innermost L.Doc p kept names e = rw e
stands_innermost L.Root p kept names e = rw e
stands_innermost L.Section p kept names e = rw e
stands_innermost L.Element p kept names e = rw e
stands_innermost L.Leaf p kept names e = rw e
stands_innermost L.Other p kept names e = rw e
stands_innermost L.Done p kept names e = rw e

pub close_stands : (p : Place) (kept after : Bytes) (names : List Bytes) → StandOpen p.level p kept names → StandOpen (closed p).level (closed p) after (behind_innermost names)
unfolding closed closed_to
close_stands p kept after names e = go p.level e
  where
    go : (l : Level) → StandOpen l p kept names → StandOpen (closed_to l) (at (closed_to l) p) after (behind_innermost names)
    go L.Doc e = ap behind_innermost e
    go L.Root e = ap behind_innermost e
    go L.Section e = ap behind_innermost e
    go L.Element e = ap behind_innermost e
    go L.Leaf e = ap behind_innermost e
    go L.Other e = ap behind_innermost e
    go L.Done e = ap behind_innermost e

way_taken : (k : Kind) (o : Opened) {q : Place} → place_taken (in_way k o) ≡ Some q → place_taken o ≡ Some q
unfolding place_taken
way_taken K.Node o e = no (cc e)
way_taken K.Way o e = e
way_taken K.Relation o e = no (cc e)

relation_taken : (k : Kind) (o : Opened) {q : Place} → place_taken (in_relation k o) ≡ Some q → place_taken o ≡ Some q
unfolding place_taken
relation_taken K.Node o e = no (cc e)
relation_taken K.Way o e = no (cc e)
relation_taken K.Relation o e = e

bounds_taken : (k : Kind) (o : Opened) {q : Place} → place_taken (not_in_node k o) ≡ Some q → place_taken o ≡ Some q
unfolding place_taken
bounds_taken K.Node o e = no (cc e)
bounds_taken K.Way o e = e
bounds_taken K.Relation o e = e

-- where no name is kept, none matters
pub unkept_stands : (l : Level) (p : Place) (a b : Bytes) (names : List Bytes) → keeps_name l ≡ false → StandOpen l p a names → StandOpen l p b names
unfolding keeps_name
unkept_stands L.Doc p a b names k e = e
unkept_stands L.Root p a b names k e = e
unkept_stands L.Section p a b names k e = e
unkept_stands L.Element p a b names k e = e
unkept_stands L.Leaf p a b names k e = clash refl k
unkept_stands L.Other p a b names k e = clash refl k
unkept_stands L.Done p a b names k e = e

nowhere : {X : Type 0} {q : Place} → place_taken O.Misplaced ≡ Some q → X
unfolding place_taken
nowhere e = no (cc e)

module _ (n kept : Bytes) (p q : Place) (names : List Bytes) where
  moved : (z : Place) (ms : List Bytes) → place_taken (O.Goes z) ≡ Some q → StandOpen z.level z n ms → StandOpen q.level q n ms
  unfolding place_taken
  moved z ms e h = let k : z ≡ q = cc e in subst (λ y. StandOpen y.level y n ms) k h

  begun : (k : Kind) (z : Place) (ms : List Bytes) → place_taken (O.Begins k z) ≡ Some q → StandOpen z.level z n ms → StandOpen q.level q n ms
  unfolding place_taken
  begun k z ms e h = let j : z ≡ q = cc e in subst (λ y. StandOpen y.level y n ms) j h

  holding : (c : Child) (z : Place) (ms : List Bytes) → place_taken (O.Holds c z) ≡ Some q → StandOpen z.level z n ms → StandOpen q.level q n ms
  unfolding place_taken
  holding c z ms e h = let j : z ≡ q = cc e in subst (λ y. StandOpen y.level y n ms) j h

  stays_at : (l : Level) → p.level ≡ l → StandOpen l p n names → StandOpen p.level p n names
  stays_at l h e = subst (λ z. StandOpen z p n names) (sym h) e

  put_on : (s : Bytes) (ms : List Bytes) → n ≡ s → names ≡ ms → n ∷ names ≡ s ∷ ms
  put_on s ms a b = λ i. a i ∷ b i

  at_doc : (x : Name) (empty : Bool) → name_of n ≡ x → names ≡ [] → place_taken (in_doc empty x p) ≡ Some q → StandOpen q.level q n (with_start empty n names)
  unfolding in_doc place_taken
  at_doc N.OsmChange false i e o = moved (at L.Root p) (n ∷ names) o (put_on root [] (same_yes n root ((name_exactly n N.OsmChange (λ z. no (cc z))).0 i)) e)
  at_doc N.OsmChange true i e o = moved (at L.Done p) names o e
  at_doc x empty i e o = no (cc o)

  at_root : (x : Name) (empty : Bool) → p.level ≡ L.Root → name_of n ≡ x → names ≡ root ∷ [] → place_taken (in_root empty x p) ≡ Some q
      → StandOpen q.level q n (with_start empty n names)
  unfolding in_root place_taken
  at_root N.Create false h i e o = moved _ (n ∷ names) o (put_on (ascii "create") (root ∷ []) (same_yes n (ascii "create") ((name_exactly n N.Create (λ z. no (cc z))).0 i)) e)
  at_root N.Modify false h i e o = moved _ (n ∷ names) o (put_on (ascii "modify") (root ∷ []) (same_yes n (ascii "modify") ((name_exactly n N.Modify (λ z. no (cc z))).0 i)) e)
  at_root N.Delete false h i e o = moved _ (n ∷ names) o (put_on (ascii "delete") (root ∷ []) (same_yes n (ascii "delete") ((name_exactly n N.Delete (λ z. no (cc z))).0 i)) e)
  at_root N.Tag false h i e o = moved (at L.Other p) (n ∷ names) o (put_on n (root ∷ []) refl e)
  at_root N.Nd false h i e o = moved (at L.Other p) (n ∷ names) o (put_on n (root ∷ []) refl e)
  at_root N.Member false h i e o = moved (at L.Other p) (n ∷ names) o (put_on n (root ∷ []) refl e)
  at_root N.Bounds false h i e o = moved (at L.Other p) (n ∷ names) o (put_on n (root ∷ []) refl e)
  at_root N.Unknown false h i e o = moved (at L.Other p) (n ∷ names) o (put_on n (root ∷ []) refl e)
  at_root N.Create true h i e o = moved p names o (stays_at L.Root h e)
  at_root N.Modify true h i e o = moved p names o (stays_at L.Root h e)
  at_root N.Delete true h i e o = moved p names o (stays_at L.Root h e)
  at_root N.Tag true h i e o = moved p names o (stays_at L.Root h e)
  at_root N.Nd true h i e o = moved p names o (stays_at L.Root h e)
  at_root N.Member true h i e o = moved p names o (stays_at L.Root h e)
  at_root N.Bounds true h i e o = moved p names o (stays_at L.Root h e)
  at_root N.Unknown true h i e o = moved p names o (stays_at L.Root h e)
  at_root N.OsmChange empty h i e o = no (cc o)
  at_root N.Node empty h i e o = no (cc o)
  at_root N.Way empty h i e o = no (cc o)
  at_root N.Relation empty h i e o = no (cc o)

  at_section : (x : Name) (empty : Bool) → p.level ≡ L.Section → name_of n ≡ x → names ≡ action_bytes p.section ∷ (root ∷ []) → place_taken (in_section empty x p) ≡ Some q
      → StandOpen q.level q n (with_start empty n names)
  unfolding in_section place_taken
  at_section N.Node false h i e o = begun K.Node _ (n ∷ names) o (put_on (ascii "node") _ (same_yes n (ascii "node") ((name_exactly n N.Node (λ z. no (cc z))).0 i)) e)
  at_section N.Way false h i e o = begun K.Way _ (n ∷ names) o (put_on (ascii "way") _ (same_yes n (ascii "way") ((name_exactly n N.Way (λ z. no (cc z))).0 i)) e)
  at_section N.Relation false h i e o = begun K.Relation _ (n ∷ names) o
      (put_on (ascii "relation") _ (same_yes n (ascii "relation") ((name_exactly n N.Relation (λ z. no (cc z))).0 i)) e)
  at_section N.Node true h i e o = begun K.Node p names o (stays_at L.Section h e)
  at_section N.Way true h i e o = begun K.Way p names o (stays_at L.Section h e)
  at_section N.Relation true h i e o = begun K.Relation p names o (stays_at L.Section h e)
  at_section N.OsmChange empty h i e o = no (cc o)
  at_section N.Create empty h i e o = no (cc o)
  at_section N.Modify empty h i e o = no (cc o)
  at_section N.Delete empty h i e o = no (cc o)
  at_section N.Tag empty h i e o = no (cc o)
  at_section N.Nd empty h i e o = no (cc o)
  at_section N.Member empty h i e o = no (cc o)
  at_section N.Bounds empty h i e o = no (cc o)
  at_section N.Unknown empty h i e o = no (cc o)

  at_element : (x : Name) (empty : Bool) → p.level ≡ L.Element → names ≡ kind_bytes p.kind ∷ (action_bytes p.section ∷ (root ∷ [])) → place_taken (in_element empty x p) ≡ Some q
      → StandOpen q.level q n (with_start empty n names)
  unfolding in_element
  at_element N.Tag false h e o = holding C.Tag (at L.Leaf p) (n ∷ names) o (ap (λ z. n ∷ z) e)
  at_element N.Nd false h e o = holding C.Nd (at L.Leaf p) (n ∷ names) (way_taken p.kind (O.Holds C.Nd (at L.Leaf p)) o) (ap (λ z. n ∷ z) e)
  at_element N.Member false h e o = holding C.Member (at L.Leaf p) (n ∷ names) (relation_taken p.kind (O.Holds C.Member (at L.Leaf p)) o) (ap (λ z. n ∷ z) e)
  at_element N.Bounds false h e o = moved (at L.Leaf p) (n ∷ names) (bounds_taken p.kind (O.Goes (at L.Leaf p)) o) (ap (λ z. n ∷ z) e)
  at_element N.Tag true h e o = holding C.Tag p names o (stays_at L.Element h e)
  at_element N.Nd true h e o = holding C.Nd p names (way_taken p.kind (O.Holds C.Nd p) o) (stays_at L.Element h e)
  at_element N.Member true h e o = holding C.Member p names (relation_taken p.kind (O.Holds C.Member p) o) (stays_at L.Element h e)
  at_element N.Bounds true h e o = moved p names (bounds_taken p.kind (O.Goes p) o) (stays_at L.Element h e)
  at_element N.OsmChange empty h e o = nowhere o
  at_element N.Create empty h e o = nowhere o
  at_element N.Modify empty h e o = nowhere o
  at_element N.Delete empty h e o = nowhere o
  at_element N.Node empty h e o = nowhere o
  at_element N.Way empty h e o = nowhere o
  at_element N.Relation empty h e o = nowhere o
  at_element N.Unknown empty h e o = nowhere o

  -- the element that an open begins stands open, the innermost
  pub start_stands : (empty : Bool) → StandOpen p.level p kept names → place_taken (opened empty (name_of n) p) ≡ Some q → StandOpen q.level q n (with_start empty n names)
  unfolding opened opened_at
  start_stands empty e o = go p.level refl e o
    where
      go : (l : Level) → p.level ≡ l → StandOpen l p kept names → place_taken (opened_at l empty (name_of n) p) ≡ Some q → StandOpen q.level q n (with_start empty n names)
      go L.Doc h e o = at_doc (name_of n) empty refl e o
      go L.Root h e o = at_root (name_of n) empty h refl e o
      go L.Section h e o = at_section (name_of n) empty h refl e o
      go L.Element h e o = at_element (name_of n) empty h e o
      go L.Leaf h e o = nowhere o
      go L.Other h e o = nowhere o
      go L.Done h e o = nowhere o
