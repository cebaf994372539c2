-- What a decision holds is within the bounds of its fields: numbers fit their widths, metadata is legal, texts are text, and the place that it leads to is of the kind
-- of the element that stands open.
use Rattle.std.specs.Prelude.{None, Option, Some}
use Prim.Native.Nat.{◌≤◌}
use mathlib.Core.Path.{◌≡◌, refl, ap}
use mathlib.Core.Bool.{Bool, true, false, cond}
use mathlib.Core.List.{List, []}
use lib.IntN.{ℤ, nat_abs}
use mir.Syntax.{w32, w64}
use mir.Val.{SFits}
use Rattle.base.specs.Ascii.{ascii}
use Rattle.base.specs.Bytes.{Bytes, all}
use Rattle.text.specs.Check.{is_text}
use Rattle.text.proofs.Theorem.{text_nil}
use Rattle.kind.specs.declared.Kind.{Kind}
use Rattle.kind.specs.declared.Kind.TheVariants as K
use Rattle.nesting.specs.Name.{name_of}
use Rattle.nesting.specs.declared.Name.{Name}
use Rattle.nesting.specs.Nesting.{opened}
use Rattle.nesting.specs.declared.Level.TheVariants as L
use Rattle.nesting.specs.declared.Place.{Place}
use Rattle.nesting.specs.Opened.{Opened}
use Rattle.model.specs.Record.{Meta, Body, place, refs, members, kind_of}
use Rattle.event.specs.Event.{Attr, Reading, event_of, value_of, or_empty}
use Rattle.event.proofs.Events.{values_text}
use Rattle.event_fields.specs.Field.{Field, got, id_field, latitude, longitude, metadata_of, body_for}
use Rattle.event_fields.proofs.Fields.{then_got, value_all, tag_got, member_got, integer_fits, ref_fits, member_fits, latitude_fits, longitude_fits}
use Rattle.event_fields.proofs.Metadata.{Legal, meta_legal, meta_user}
use Rattle.event_decision.specs.Decision.{Decision, refuses, moves, begins, deletes, tags, refers, joins, ends, decide}
use Rattle.event_decision.proofs.Places.{Leads, leads, closed_kind}
use Rattle.event_decision.proofs.Decided.{Starts, Decides, decided}
use Rattle.event_decision.proofs.Decided as D

-- what an element that begins gives
pub record Given (id : ℤ) (m : Meta Bytes) : Type 0 where
  pub fits : SFits w64 id
  pub legal : Legal m
  pub user : is_text m.user ≡ true

-- what it holds at first: a node's place in range, no refs, no members
abbrev pub First : Body Bytes → Type 0
First (place lat lon) = ((nat_abs lat ≤ 900000000) × SFits w32 lat) × ((nat_abs lon ≤ 1800000000) × SFits w32 lon)
First (refs rs) = rs ≡ []
First (members ms) = ms ≡ []

abbrev pub Lawful : Place → Decision → Type 0
Lawful p (refuses r) = Unit {0}
Lawful p (moves q) = q.kind ≡ p.kind
Lawful p (begins e q id m b) = Given id m × (First b × (q.kind ≡ cond e p.kind (kind_of b)))
Lawful p (deletes k q id m) = Given id m
Lawful p (tags q t) = (q.kind ≡ p.kind) × ((is_text t.key ≡ true) × (is_text t.value ≡ true))
Lawful p (refers q z) = (q.kind ≡ p.kind) × ((p.kind ≡ K.Way) × SFits w64 z)
Lawful p (joins q m) = (q.kind ≡ p.kind) × ((p.kind ≡ K.Relation) × (SFits w64 m.ref × (is_text m.role ≡ true)))
Lawful p (ends q) = q.kind ≡ p.kind

got_first : {b c : Body Bytes} {k : Kind} → ◌≡◌ {A = Field (Body Bytes)} (got b) (got c) → First b × (kind_of b ≡ k) → First c × (kind_of c ≡ k)
got_first {b} {c} e f = let q : b ≡ c = cc in rw q at f

pub body_first : (attrs : List Attr) (k : Kind) {b : Body Bytes} → body_for k attrs ≡ got b → First b × (kind_of b ≡ k)
body_first attrs K.Node e =
    let x = then_got _ (latitude attrs) e in
    let y = then_got _ (longitude attrs) x.1.1 in
    got_first y.1.1 ((latitude_fits attrs x.1.0, longitude_fits attrs y.1.0), refl)
body_first attrs K.Way e = got_first e (refl, refl)
body_first attrs K.Relation e = got_first e (refl, refl)

module _ (attrs : List Attr) (h : all (λ (a : Attr). is_text a.value) attrs ≡ true) where
  given : {id : ℤ} {m : Meta Bytes} → id_field attrs ≡ got id → metadata_of attrs ≡ got m → Given id m
  unfolding id_field
  given a b = record { fits = integer_fits (ascii "id") attrs w64 a; legal = meta_legal attrs b; user = meta_user is_text attrs text_nil h b }

  role_text : (o : Option Bytes) → value_of (ascii "role") attrs ≡ o → is_text (or_empty o) ≡ true
  role_text None q = text_nil
  role_text (Some v) q = value_all is_text (ascii "role") attrs h q

  begun_kind : (e : Bool) (k : Kind) (p : Place) {q : Place} → q ≡ cond e p (record { level = L.Element; section = p.section; kind = k }) → q.kind ≡ cond e p.kind k
  begun_kind true k p l = ap (λ (x : Place). x.kind) l
  begun_kind false k p l = ap (λ (x : Place). x.kind) l

  start_lawful : (e : Bool) (n : Name) (p : Place) (o : Opened) {d : Decision} → Leads e n p o → Starts p e attrs o d → Lawful p d
  start_lawful e n p o l (D.refuse x) = tt
  start_lawful e n p o l D.goes = l.kind
  start_lawful e n p o l (D.begin {k = k} s i j x) = let f = body_first attrs k x in (given i j, (f.0, rw f.1 (begun_kind e k p l.leads_to)))
  start_lawful e n p o l (D.delete s i j) = given i j
  start_lawful e n p o l (D.tag {t = t} s f) = let g = (tag_got attrs t).0 f in (l.kind, (value_all is_text (ascii "k") attrs h g.0, value_all is_text (ascii "v") attrs h g.1))
  start_lawful e n p o l (D.ref s f) = (l.kind, (l.child_of_lem, ref_fits attrs f))
  start_lawful e n p o l (D.member {m = m} s f) =
      (l.kind, (l.child_of_lem, (member_fits attrs f, rw ((member_got attrs m).0 f).1.1 (role_text (value_of (ascii "role") attrs) refl))))
  start_lawful e n p o l (D.drop s c) = l.kind

line_lawful : (line : Bytes) (p : Place) (x : Reading) {d : Decision} → event_of line ≡ x → Decides p x d → Lawful p d
line_lawful line p x q D.bad_line = tt
line_lawful line p x q (D.start {e = e} {n = n} {attrs = attrs} s) =
    start_lawful attrs (values_text line e n attrs q) e (name_of n) p (opened e (name_of n) p) (leads e (name_of n) p) s
line_lawful line p x q (D.end l s) = closed_kind p
line_lawful line p x q (D.close h) = closed_kind p
line_lawful line p x q D.other = refl

pub decide_lawful : (line : Bytes) (p : Place) → Lawful p (decide line p)
unfolding decide
decide_lawful line p = line_lawful line p (event_of line) refl (decided p (event_of line))
