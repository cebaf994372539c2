-- A push is made of its element's opening and of its children in order: "a push from that and its children in order".
use Rattle.std.specs.Prelude.{None, Option, Some}
use mathlib.Core.Path.{◌≡◌, refl, sym, ◌∙◌, ap, subst}
use mathlib.Core.Bool.{Bool, true, false}
use mathlib.Core.List.{List, [], ◌∷◌, ◌++◌, append_assoc, append-nil}
use lib.IntN.{ℤ}
use Rattle.base.specs.Bytes.{Bytes}
use Rattle.base.proofs.Split.{clash, no}
use Rattle.kind.specs.declared.Kind.TheVariants as K
use Rattle.nesting.specs.Name.{name_of}
use Rattle.nesting.specs.Nesting.{opened, closed, closed_to}
use Rattle.nesting.specs.declared.Name.{Name}
use Rattle.nesting.specs.declared.Action.TheVariants as A
use Rattle.nesting.specs.declared.Level.TheVariants as L
use Rattle.nesting.specs.declared.Place.{Place}
use Rattle.nesting.specs.declared.Child.{Child}
use Rattle.nesting.specs.declared.Child.TheVariants as C
use Rattle.nesting.specs.Opened.{Opened}
use Rattle.model.specs.Record.{Meta, Member, Tag, Body, place, refs, members, kind_of}
use Rattle.model.specs.Act.{push}
use Rattle.event.specs.Event.{Attr, starts, closes, others, Reading, reads, refused, event_of}
use Rattle.event_fields.specs.Field.{Field, got, bad, tag_of, ref_of, member_of}
use Rattle.event_decision.specs.Decision.{Decision, begins, refers, joins, decide}
use Rattle.event_decision.proofs.Lawful.{Lawful, decide_lawful}
use Rattle.event_decision.proofs.Places.{child_named, is_inside, Leads, leads}
use Rattle.event_decision.proofs.Decided.{Pushing, Starts, Decides, decided, decides_so, decide_exactly}
use Rattle.event_decision.proofs.Decided as D
use Rattle.acts.specs.Turn.{Staged, Reader, Turn, first, user_text, body_with_ref, body_with_member, turn_of, turn}
use Rattle.acts.proofs.Turns.{OfTurn, of_turn, act_in, KindAgrees}

-- ---- the children among some lines

pub record Children : Type 0 where
  pub tags : List (Tag Bytes)
  pub refs : List ℤ
  pub members : List (Member Bytes)

abbrev pub no_children : Children
no_children = record { tags = []; refs = []; members = [] }

abbrev pub joined : Children → Children → Children
joined a b = record { tags = a.tags ++ b.tags; refs = a.refs ++ b.refs; members = a.members ++ b.members }

abbrev pub list_of : {A : Type 0} → Field A → List A
list_of (got a) = a ∷ []
list_of (bad r) = []

-- the child that stands in some attributes
abbrev pub child_in : Option Child → List Attr → Children
child_in None attrs = no_children
child_in (Some C.Tag) attrs = record { tags = list_of (tag_of attrs); refs = []; members = [] }
child_in (Some C.Nd) attrs = record { tags = []; refs = list_of (ref_of attrs); members = [] }
child_in (Some C.Member) attrs = record { tags = []; refs = []; members = list_of (member_of attrs) }

abbrev pub children_in : Reading → Children
children_in (reads (starts e n attrs)) = child_in (child_named (name_of n)) attrs
children_in (reads closes) = no_children
children_in (reads others) = no_children
children_in (refused r) = no_children

-- in order, by the lines alone
unfoldable pub children_of : List Bytes → Children
children_of [] = no_children
children_of (line ∷ lines) = joined (children_in (event_of line)) (children_of lines)

-- a body with further refs or members
abbrev pub grown : Body Bytes → Children → Body Bytes
grown (place lat lon) c = place lat lon
grown (refs rs) c = refs (rs ++ c.refs)
grown (members ms) c = members (ms ++ c.members)

-- an element with further children
abbrev pub with_children : Staged → Children → Staged
with_children s c = record { id = s.id; held = record { meta = s.held.meta; body = grown s.held.body c; tags = s.held.tags ++ c.tags } }

-- ---- one line inside an element

module _ (s : Staged) where
  grows_by : {b : Body Bytes} {ts : List (Tag Bytes)} (c : Children) → b ≡ grown s.held.body c → ts ≡ s.held.tags ++ c.tags
      → record { id = s.id; held = record { meta = s.held.meta; body = b; tags = ts } } ≡ with_children s c
  grows_by c h k = λ i. record { id = s.id; held = record { meta = s.held.meta; body = h i; tags = k i } }

  grown_none : (b : Body Bytes) (ts : List (Tag Bytes)) → b ≡ grown b (record { tags = ts; refs = []; members = [] })
  grown_none (place lat lon) ts = refl
  grown_none (refs rs) ts = ap refs (sym (append-nil rs))
  grown_none (members ms) ts = ap members (sym (append-nil ms))

  grown_ref : (z : ℤ) (b : Body Bytes) → body_with_ref z b ≡ grown b (record { tags = []; refs = z ∷ []; members = [] })
  grown_ref z (place lat lon) = refl
  grown_ref z (refs rs) = refl
  grown_ref z (members ms) = ap members (sym (append-nil ms))

  grown_member : (m : Member Bytes) (b : Body Bytes) → body_with_member m b ≡ grown b (record { tags = []; refs = []; members = m ∷ [] })
  grown_member m (place lat lon) = refl
  grown_member m (refs rs) = ap refs (sym (append-nil rs))
  grown_member m (members ms) = refl

  with_none : s ≡ with_children s no_children
  with_none = grows_by no_children (grown_none s.held.body []) (sym (append-nil s.held.tags))

-- where a ref or a member is taken the element that stands open has that list
way_body : (b : Body Bytes) → kind_of b ≡ K.Way → (rs : List ℤ) × (b ≡ refs rs)
way_body (place lat lon) e = no (cc)
way_body (refs rs) e = (rs, refl)
way_body (members ms) e = no (cc)

relation_body : (b : Body Bytes) → kind_of b ≡ K.Relation → (ms : List (Member Bytes)) × (b ≡ members ms)
relation_body (place lat lon) e = no (cc)
relation_body (refs rs) e = no (cc)
relation_body (members ms) e = (ms, refl)

module _ (line : Bytes) (r : Reader) (agrees : KindAgrees r) (q : Place) where
  pub has_refs : (z : ℤ) → decide line r.place ≡ refers q z → (rs : List ℤ) × (r.staged.held.body ≡ refs rs)
  has_refs z e = let l : Lawful r.place (refers q z) = rw e at (decide_lawful line r.place) in way_body r.staged.held.body (agrees ∙ l.1.0)

  pub has_members : (m : Member Bytes) → decide line r.place ≡ joins q m → (ms : List (Member Bytes)) × (r.staged.held.body ≡ members ms)
  has_members m e = let l : Lawful r.place (joins q m) = rw e at (decide_lawful line r.place) in relation_body r.staged.held.body (agrees ∙ l.1.0)

-- what a line leaves of an element that stays open
pub record Grows (r : Reader) (c : Children) (t : Turn) : Type 0 where
  pub staged : t.reader.staged ≡ with_children r.staged c
  pub section : t.reader.place.section ≡ r.place.section

module _ (r : Reader) (inside : is_inside r.place.level ≡ true) (pushing : Pushing r.place) where
  abbrev Growing : Children → Field Turn → Type 0
  Growing c = OfTurn (λ t. is_inside t.reader.place.level ≡ true → Grows r c t)

  start_grows : (e : Bool) (n : Name) (attrs : List Attr) (o : Opened) {d : Decision} → Leads e n r.place o → Starts r.place e attrs o d → Growing (child_in (child_named n) attrs) (turn_of d r)
  unfolding turn_of
  start_grows e n attrs o l (D.refuse x) = tt
  start_grows e n attrs o l D.goes = λ i. record { staged = rw (l.inside inside).1 (with_none r.staged); section = (l.inside inside).0 }
  start_grows e n attrs o l (D.begin s i j b) = clash inside l.outside
  start_grows e n attrs o l (D.delete s i j) = clash inside l.outside
  start_grows e n attrs o l (D.tag {t = t} s f) = λ i. record { staged = rw (l.child, f) (grows_by r.staged _ (grown_none r.staged r.staged.held.body (t ∷ [])) refl); section = l.section }
  start_grows e n attrs o l (D.ref {z = z} s f) = λ i. record { staged = rw (l.child, f) (grows_by r.staged _ (grown_ref r.staged z r.staged.held.body) (sym (append-nil r.staged.held.tags))); section = l.section }
  start_grows e n attrs o l (D.member {m = m} s f) = λ i. record { staged = rw (l.child, f) (grows_by r.staged _ (grown_member r.staged m r.staged.held.body) (sym (append-nil r.staged.held.tags))); section = l.section }
  start_grows e n attrs o l (D.drop s c) = absurd (pushing s)

  line_grows : {x : Reading} {d : Decision} → Decides r.place x d → Growing (children_in x) (turn_of d r)
  unfolding turn_of closed closed_to
  line_grows D.bad_line = tt
  line_grows (D.start {e = e} {n = n} {attrs = attrs} s) = start_grows e (name_of n) attrs (opened e (name_of n) r.place) (leads e (name_of n) r.place) s
  line_grows (D.end l s) = rw l (λ i. clash i refl)
  line_grows (D.close h) = λ i. record { staged = with_none r.staged; section = refl }
  line_grows D.other = λ i. record { staged = with_none r.staged; section = refl }

-- ---- the lines between an element's opening and its close

-- a reader takes lines, one after the other, and stands inside an element after each
pub data Inside : Reader → List Bytes → Reader → Type 0 where
  here : {r : Reader} → Inside r [] r
  next : {r q : Reader} {line : Bytes} {lines : List Bytes} {t : Turn} → turn line r ≡ got t → is_inside t.reader.place.level ≡ true → Inside t.reader lines q → Inside r (line ∷ lines) q

grown_more : (b : Body Bytes) (c d : Children) → grown (grown b c) d ≡ grown b (joined c d)
grown_more (place lat lon) c d = refl
grown_more (refs rs) c d = ap refs (append_assoc rs c.refs d.refs)
grown_more (members ms) c d = ap members (append_assoc ms c.members d.members)

-- then its children are those of the lines, in their order, and its section is the same
pub children_kept : {r q : Reader} {lines : List Bytes} → is_inside r.place.level ≡ true → Pushing r.place → Inside r lines q
    → (q.staged ≡ with_children r.staged (children_of lines)) × Pushing q.place
unfolding children_of turn decide
children_kept {r} h s here = (with_none r.staged, s)
children_kept {r} {lines = line ∷ lines} h s (next {t = t} e k i) =
    let g = of_turn (λ (u : Turn). is_inside u.reader.place.level ≡ true → Grows r (children_in (event_of line)) u) (line_grows r h s (decided r.place (event_of line))) e k in
    let f = children_kept k (λ x. s (sym g.section ∙ x)) i in (
      f.0 ∙ ap (λ (y : Staged). with_children y (children_of lines)) g.staged
          ∙ grows_by r.staged (joined (children_in (event_of line)) (children_of lines)) (grown_more r.staged.held.body _ _) (append_assoc r.staged.held.tags _ _),
      f.1,
    )

-- an element that begins stands open, in a section that pushes
start_begins : (p : Place) (e : Bool) (n : Name) (attrs : List Attr) (o : Opened) {q : Place} {id : ℤ} {m : Meta Bytes} {b : Body Bytes} → Leads e n p o → Starts p e attrs o (begins false q id m b)
    → (is_inside q.level ≡ true) × Pushing q
start_begins p e n attrs o l (D.begin s i j b) = rw l.leads_to (refl, s)

pub line_begins : (p : Place) (x : Reading) {q : Place} {id : ℤ} {m : Meta Bytes} {b : Body Bytes} → Decides p x (begins false q id m b) → (is_inside q.level ≡ true) × Pushing q
line_begins p x (D.start {e = e} {n = n} {attrs = attrs} s) = start_begins p e (name_of n) attrs (opened e (name_of n) p) (leads e (name_of n) p) s

-- the opening of an element that is to be pushed (where exactly, decision.proofs.Decided says), the lines inside it, and its close: the push of its record
pub element_pushed : (r : Reader) {q : Reader} (line last : Bytes) {lines : List Bytes} {t : Turn} {p : Place} {id : ℤ} {m : Meta Bytes} {b : Body Bytes}
    → decide line r.place ≡ begins false p id m b → turn line r ≡ got t → Inside t.reader lines q → q.place.level ≡ L.Element → event_of last ≡ reads closes
    → act_in (turn last q) ≡ Some (push id (record { meta = m; body = grown b (children_of lines); tags = (children_of lines).tags }))
unfolding turn turn_of decide
element_pushed r {q} line last {lines} {t} {p} {id = id} {m = m} {b = b} d e i l c =
    let a : Reader = record { place = p; staged = record { id = id; held = first m b } } in
    let u : Turn = record { reader = a; texts = user_text m; act = None } in
    let f : got u ≡ got t = rw d at e in
    let h : u ≡ t = cc in
    let g = line_begins r.place (event_of line) ((decide_exactly line r.place _).0 d) in
    let k = children_kept {r = a} g.0 g.1 (subst (λ (y : Turn). Inside y.reader lines q) (sym h) i) in
    rw (c, decides_so q.place (D.end l k.1), k.0)

-- ---- a `delete` section

-- "children are checked and dropped": whatever is taken inside an element there takes no text in, makes no act and puts nothing together
pub record Drops (r : Reader) (t : Turn) : Type 0 where
  pub staged : t.reader.staged ≡ r.staged
  pub texts : t.texts ≡ []
  pub act : t.act ≡ None

module _ (r : Reader) (inside : is_inside r.place.level ≡ true) (deleting : r.place.section ≡ A.Delete) where
  start_drops : (e : Bool) (n : Name) (attrs : List Attr) (o : Opened) {d : Decision} → Leads e n r.place o → Starts r.place e attrs o d → OfTurn (Drops r) (turn_of d r)
  unfolding turn_of
  start_drops e n attrs o l (D.refuse x) = tt
  start_drops e n attrs o l D.goes = record { staged = refl; texts = refl; act = refl }
  start_drops e n attrs o l (D.begin s i j b) = clash inside l.outside
  start_drops e n attrs o l (D.delete s i j) = clash inside l.outside
  start_drops e n attrs o l (D.tag s f) = absurd (s deleting)
  start_drops e n attrs o l (D.ref s f) = absurd (s deleting)
  start_drops e n attrs o l (D.member s f) = absurd (s deleting)
  start_drops e n attrs o l (D.drop s c) = record { staged = refl; texts = refl; act = refl }

  line_drops : {x : Reading} {d : Decision} → Decides r.place x d → OfTurn (Drops r) (turn_of d r)
  unfolding turn_of
  line_drops D.bad_line = tt
  line_drops (D.start {e = e} {n = n} {attrs = attrs} s) = start_drops e (name_of n) attrs (opened e (name_of n) r.place) (leads e (name_of n) r.place) s
  line_drops (D.end l s) = absurd (s deleting)
  line_drops (D.close h) = record { staged = refl; texts = refl; act = refl }
  line_drops D.other = record { staged = refl; texts = refl; act = refl }

  pub delete_drops : (line : Bytes) {t : Turn} → turn line r ≡ got t → Drops r t
  unfolding turn decide
  delete_drops line e = of_turn (Drops r) (line_drops (decided r.place (event_of line))) e
