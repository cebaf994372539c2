-- What is decided of a line holds what the line's attributes read as: an element's kind, id, metadata and coordinates, a child's tag, ref or member. A field that were forgotten in
-- `decide` and in its code would break this law.
use Rattle.std.specs.Prelude.{Some}
use mathlib.Core.Path.{◌≡◌, refl, ap}
use mathlib.Core.Bool.{Bool, true}
use mathlib.Core.List.{List}
use lib.IntN.{ℤ}
use Rattle.base.specs.Ascii.{ascii}
use Rattle.base.specs.Bytes.{Bytes, both, same}
use Rattle.base.proofs.Split.{no}
use Rattle.base.proofs.Lists.{same_yes}
use Rattle.refusal.specs.declared.Refusal.{Refusal}
use Rattle.kind.specs.declared.Kind.{Kind}
use Rattle.kind.specs.declared.Kind.TheVariants as K
use Rattle.nesting.specs.Name.{spellings, name_in, name_of}
use Rattle.nesting.specs.Grammar.{kind_name}
use Rattle.nesting.specs.Nesting.{opened}
use Rattle.nesting.proofs.Names.{name_exactly}
use Rattle.nesting.specs.declared.Name.{Name}
use Rattle.nesting.specs.declared.Name.TheVariants as N
use Rattle.nesting.specs.declared.Action.TheVariants as A
use Rattle.nesting.specs.declared.Place.{Place}
use Rattle.nesting.specs.declared.Child.{Child}
use Rattle.nesting.specs.declared.Child.TheVariants as C
use Rattle.nesting.specs.Opened.{Opened}
use Rattle.model.specs.Record.{Meta, Member, Tag, Body, kind_of}
use Rattle.event.specs.Event.{Attr, starts, closes, Reading, reads, none_twice, event_of}
use Rattle.event.proofs.Events.{attrs_once}
use Rattle.event_fields.specs.Field.{got, body_for}
use Rattle.event_fields.proofs.Fields.{word_of}
use Rattle.event_fields.proofs.Given.{BodyGiven, ElementGiven, RefGiven, TagGiven, MemberGiven, ref_given, body_given, element_given, tag_given, member_given}
use Rattle.event_decision.specs.Decision.{Decision, decide}
use Rattle.event_decision.proofs.Places.{child_named, Leads, leads}
use Rattle.event_decision.proofs.Lawful.{body_first}
use Rattle.event_decision.proofs.Decided.{Pushing, Starts, Decides, decided}
use Rattle.event_decision.proofs.Decided as D

-- what is decided of a line at a place, with what it holds, by what the line reads as
pub data Gives (p : Place) : Reading → Decision → Type 0 where
  -- an element of the kind that its name says, in a `create` or `modify` section
  begins : {e : Bool} {n : Bytes} {attrs : List Attr} {q : Place} {id : ℤ} {m : Meta Bytes} {b : Body Bytes} → Pushing p → n ≡ word_of (kind_of b) → ElementGiven attrs id m
      → BodyGiven attrs (kind_of b) b → Gives p (reads (starts e n attrs)) (Decision.begins e q id m b)
  -- the same in a `delete` section
  deletes : {e : Bool} {n : Bytes} {attrs : List Attr} {q : Place} {k : Kind} {id : ℤ} {m : Meta Bytes} → p.section ≡ A.Delete → n ≡ word_of k → ElementGiven attrs id m
      → Gives p (reads (starts e n attrs)) (Decision.deletes k q id m)
  -- the children: `tag` anywhere, `nd` in a way, `member` in a relation
  tags : {e : Bool} {n : Bytes} {attrs : List Attr} {q : Place} {t : Tag Bytes} → Pushing p → n ≡ ascii "tag" → TagGiven attrs t → Gives p (reads (starts e n attrs)) (Decision.tags q t)
  refers : {e : Bool} {n : Bytes} {attrs : List Attr} {q : Place} {z : ℤ} → Pushing p → p.kind ≡ K.Way → n ≡ ascii "nd" → RefGiven attrs z
      → Gives p (reads (starts e n attrs)) (Decision.refers q z)
  joins : {e : Bool} {n : Bytes} {attrs : List Attr} {q : Place} {m : Member Bytes} → Pushing p → p.kind ≡ K.Relation → n ≡ ascii "member" → MemberGiven attrs m
      → Gives p (reads (starts e n attrs)) (Decision.joins q m)
  -- the others hold nothing of a line but a place
  refuses : {x : Reading} {r : Refusal} → Gives p x (Decision.refuses r)
  moves : {x : Reading} {q : Place} → Gives p x (Decision.moves q)
  ends : {q : Place} → Pushing p → Gives p (reads closes) (Decision.ends q)

-- ---- names

kind_word : (n : Bytes) (k : Kind) → name_of n ≡ kind_name k → n ≡ word_of k
kind_word n K.Node e = same_yes n _ ((name_exactly n N.Node (λ x. no (cc))).0 e)
kind_word n K.Way e = same_yes n _ ((name_exactly n N.Way (λ x. no (cc))).0 e)
kind_word n K.Relation e = same_yes n _ ((name_exactly n N.Relation (λ x. no (cc))).0 e)

abbrev child_name : Child → Name
child_name C.Tag = N.Tag
child_name C.Nd = N.Nd
child_name C.Member = N.Member

child_is : (n : Name) {c : Child} → child_named n ≡ Some c → n ≡ child_name c
child_is N.Tag {c} e = let q : C.Tag ≡ c = cc in ap child_name q
child_is N.Nd {c} e = let q : C.Nd ≡ c = cc in ap child_name q
child_is N.Member {c} e = let q : C.Member ≡ c = cc in ap child_name q
child_is N.OsmChange e = no (cc)
child_is N.Create e = no (cc)
child_is N.Modify e = no (cc)
child_is N.Delete e = no (cc)
child_is N.Node e = no (cc)
child_is N.Way e = no (cc)
child_is N.Relation e = no (cc)
child_is N.Bounds e = no (cc)
child_is N.Unknown e = no (cc)

-- the word of a child
abbrev pub child_word : Child → Bytes
child_word C.Tag = ascii "tag"
child_word C.Nd = ascii "nd"
child_word C.Member = ascii "member"

child_spelled_lem : (n : Bytes) (c : Child) → name_of n ≡ child_name c → n ≡ child_word c
child_spelled_lem n C.Tag e = same_yes n _ ((name_exactly n N.Tag (λ x. no (cc))).0 e)
child_spelled_lem n C.Nd e = same_yes n _ ((name_exactly n N.Nd (λ x. no (cc))).0 e)
child_spelled_lem n C.Member e = same_yes n _ ((name_exactly n N.Member (λ x. no (cc))).0 e)

pub child_spelled : (n : Bytes) (c : Child) → child_named (name_of n) ≡ Some c → n ≡ child_word c
child_spelled n c e = child_spelled_lem n c (child_is (name_of n) e)

pub spelled_child : (n : Bytes) (c : Child) → n ≡ child_word c → child_named (name_of n) ≡ Some c
unfolding name_of spellings name_in same both
spelled_child n C.Tag e = rw e
spelled_child n C.Nd e = rw e
spelled_child n C.Member e = rw e

-- ---- an open or an empty element

module _ (e : Bool) (n : Bytes) (attrs : List Attr) (once : none_twice attrs ≡ true) (p : Place) where
  begun : (k : Kind) (b : Body Bytes) {q : Place} {id : ℤ} {m : Meta Bytes} → Pushing p → name_of n ≡ kind_name k → ElementGiven attrs id m → body_for k attrs ≡ got b
      → Gives p (reads (starts e n attrs)) (Decision.begins e q id m b)
  begun k b s h g x = begins s (rw (body_first attrs k x).1 (kind_word n k h)) g (rw (body_first attrs k x).1 ((body_given attrs k b).0 x))

  start_gives : (o : Opened) {d : Decision} → Leads e (name_of n) p o → Starts p e attrs o d → Gives p (reads (starts e n attrs)) d
  start_gives o l (D.refuse x) = refuses
  start_gives o l D.goes = moves
  start_gives o l (D.begin {k = k} {b = b} s i j x) = begun k b s l.kind (element_given attrs once i j) x
  start_gives o l (D.delete {k = k} s i j) = deletes s (kind_word n k l.kind) (element_given attrs once i j)
  start_gives o l (D.tag {t = t} s f) = tags s (child_spelled n C.Tag l.child) ((tag_given attrs t).0 f)
  start_gives o l (D.ref {z = z} s f) = refers s l.child_of_lem (child_spelled n C.Nd l.child) ((ref_given attrs z).0 f)
  start_gives o l (D.member {m = m} s f) = joins s l.child_of_lem (child_spelled n C.Member l.child) ((member_given attrs m).0 f)
  start_gives o l (D.drop s c) = moves

line_gives : (line : Bytes) (p : Place) (x : Reading) {d : Decision} → event_of line ≡ x → Decides p x d → Gives p x d
line_gives line p x q D.bad_line = refuses
line_gives line p x q (D.start {e = e} {n = n} {attrs = attrs} s) = start_gives e n attrs (attrs_once line e n attrs q) p (opened e (name_of n) p) (leads e (name_of n) p) s
line_gives line p x q (D.end l s) = ends s
line_gives line p x q (D.close h) = moves
line_gives line p x q D.other = moves

pub decide_gives : (line : Bytes) (p : Place) → Gives p (event_of line) (decide line p)
unfolding decide
decide_gives line p = line_gives line p (event_of line) refl (decided p (event_of line))
