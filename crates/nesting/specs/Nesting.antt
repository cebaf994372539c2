-- Document 01, xml_parse.rs: the levels, and what an open, an empty and a close do there.
use Rattle.std.specs.Prelude.{Bool, cond}
use Rattle.kind.specs.declared.Kind.{Kind}
use Rattle.kind.specs.declared.Kind.TheVariants as K
use Rattle.nesting.specs.declared.Name.{Name}
use Rattle.nesting.specs.declared.Name.TheVariants.{OsmChange, Create, Modify, Delete, Node, Way, Relation, Tag, Nd, Member, Bounds, Unknown}
use Rattle.nesting.specs.declared.Action.{Action}
use Rattle.nesting.specs.declared.Action.TheVariants as A
use Rattle.nesting.specs.declared.Level.{Level}
use Rattle.nesting.specs.declared.Level.TheVariants.{Doc, Root, Section, Element, Leaf, Other, Done}
use Rattle.nesting.specs.declared.Place.{Place}
use Rattle.nesting.specs.declared.Child.TheVariants as C
use Rattle.nesting.specs.Opened.{Opened}
use Rattle.nesting.specs.Opened.{Misplaced, OutsideSection, Goes, Begins, Holds}

-- the same place at another level
abbrev pub at : Level → Place → Place
at l p = record { level = l; section = p.section; kind = p.kind }

-- a reader begins before the document
abbrev pub start : Place
start = record { level = Doc; section = A.Create; kind = K.Node }

-- where an element that is not empty stands open, and where an empty one leaves the level
abbrev pub unless : Bool → Level → Place → Place
unless empty l p = cond empty p (at l p)

-- "Doc: only `osmChange`; an empty one ends in Done."
unfoldable pub in_doc : Bool → Name → Place → Opened
in_doc empty OsmChange p = Goes (at (cond empty Done Root) p)
in_doc empty Create p = Misplaced
in_doc empty Modify p = Misplaced
in_doc empty Delete p = Misplaced
in_doc empty Node p = Misplaced
in_doc empty Way p = Misplaced
in_doc empty Relation p = Misplaced
in_doc empty Tag p = Misplaced
in_doc empty Nd p = Misplaced
in_doc empty Member p = Misplaced
in_doc empty Bounds p = Misplaced
in_doc empty Unknown p = Misplaced

-- "`create`, `modify`, `delete` open a section if not empty"
abbrev pub section_of : Bool → Action → Place → Opened
section_of empty a p = Goes (cond empty p (record { level = Section; section = a; kind = p.kind }))

-- "Root: ..; an object there is refused 6; `osmChange` is misplaced; other names open Other, or pass if empty."
unfoldable pub in_root : Bool → Name → Place → Opened
in_root empty Create p = section_of empty A.Create p
in_root empty Modify p = section_of empty A.Modify p
in_root empty Delete p = section_of empty A.Delete p
in_root empty Node p = OutsideSection
in_root empty Way p = OutsideSection
in_root empty Relation p = OutsideSection
in_root empty OsmChange p = Misplaced
in_root empty Tag p = Goes (unless empty Other p)
in_root empty Nd p = Goes (unless empty Other p)
in_root empty Member p = Goes (unless empty Other p)
in_root empty Bounds p = Goes (unless empty Other p)
in_root empty Unknown p = Goes (unless empty Other p)

-- an element of a kind begins, and stands open unless it is empty
abbrev pub begins_as : Bool → Kind → Place → Opened
begins_as empty k p = Begins k (cond empty p (record { level = Element; section = p.section; kind = k }))

-- "Section: `node`, `way`, `relation`."
unfoldable pub in_section : Bool → Name → Place → Opened
in_section empty Node p = begins_as empty K.Node p
in_section empty Way p = begins_as empty K.Way p
in_section empty Relation p = begins_as empty K.Relation p
in_section empty OsmChange p = Misplaced
in_section empty Create p = Misplaced
in_section empty Modify p = Misplaced
in_section empty Delete p = Misplaced
in_section empty Tag p = Misplaced
in_section empty Nd p = Misplaced
in_section empty Member p = Misplaced
in_section empty Bounds p = Misplaced
in_section empty Unknown p = Misplaced

-- "`nd` in a way", "`member` in a relation", "`bbox` and `bounds` in those two"
abbrev pub in_way : Kind → Opened → Opened
in_way K.Node o = Misplaced
in_way K.Way o = o
in_way K.Relation o = Misplaced

abbrev pub in_relation : Kind → Opened → Opened
in_relation K.Node o = Misplaced
in_relation K.Way o = Misplaced
in_relation K.Relation o = o

abbrev pub not_in_node : Kind → Opened → Opened
not_in_node K.Node o = Misplaced
not_in_node K.Way o = o
not_in_node K.Relation o = o

-- "Element: `tag` anywhere, ..; a non-empty child goes to Leaf."
unfoldable pub in_element : Bool → Name → Place → Opened
in_element empty Tag p = Holds C.Tag (unless empty Leaf p)
in_element empty Nd p = in_way p.kind (Holds C.Nd (unless empty Leaf p))
in_element empty Member p = in_relation p.kind (Holds C.Member (unless empty Leaf p))
in_element empty Bounds p = not_in_node p.kind (Goes (unless empty Leaf p))
in_element empty OsmChange p = Misplaced
in_element empty Create p = Misplaced
in_element empty Modify p = Misplaced
in_element empty Delete p = Misplaced
in_element empty Node p = Misplaced
in_element empty Way p = Misplaced
in_element empty Relation p = Misplaced
in_element empty Unknown p = Misplaced

-- "Leaf, Other, Done: each open is misplaced."
unfoldable pub opened_at : Level → Bool → Name → Place → Opened
opened_at Doc = in_doc
opened_at Root = in_root
opened_at Section = in_section
opened_at Element = in_element
opened_at Leaf = λ empty n p. Misplaced
opened_at Other = λ empty n p. Misplaced
opened_at Done = λ empty n p. Misplaced

unfoldable pub opened : Bool → Name → Place → Opened
opened empty n p = opened_at p.level empty n p

-- "A close goes Leaf to Element to Section to Root to Done, Other to Root; in Doc and Done it changes nothing."
unfoldable pub closed_to : Level → Level
closed_to Doc = Doc
closed_to Root = Done
closed_to Section = Root
closed_to Element = Section
closed_to Leaf = Element
closed_to Other = Root
closed_to Done = Done

unfoldable pub closed : Place → Place
closed p = at (closed_to p.level) p
