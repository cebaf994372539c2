-- The OpenStreetMap wiki's pages OsmChange and OSM XML: a change document as a tree of elements, how the tree is written, and what it changes.
-- Beyond the pages stand three extras, each marked so: elements of other names under the root, `bbox` and `bounds` in a way or a relation, and closes before
-- the root and after it.
use Rattle.std.specs.Prelude.{ℕ, zero, suc, List, [], ◌∷◌, ◌++◌}
use Rattle.kind.specs.declared.Kind.{Kind}
use Rattle.kind.specs.declared.Kind.TheVariants as K
use Rattle.nesting.specs.declared.Name.{Name}
use Rattle.nesting.specs.declared.Name.TheVariants as N
use Rattle.nesting.specs.declared.Action.{Action}
use Rattle.nesting.specs.declared.Action.TheVariants as A
use Rattle.nesting.specs.Marks.{Mark, opens, empties, closes, Change, pushes, deletes}

-- an element as it is written: `<x/>`, or `<x>`, what it holds, and `</x>`
pub data Written (A : Type 0) : Type 0 where
  empty : Written A
  full : A → Written A

-- an element that holds no element
abbrev pub Bare : Type 0
Bare = Written (Unit {0})

-- OSM XML: a node holds tags, a way tags and node references, a relation tags and members
pub data Part : Kind → Type 0 where
  tag : {k : Kind} → Bare → Part k
  nd : Bare → Part K.Way
  member : Bare → Part K.Relation
  -- extra: `bbox` or `bounds` in a way, and in a relation
  way_bounds : Bare → Part K.Way
  relation_bounds : Bare → Part K.Relation

-- OSM XML: a node, a way or a relation, with its parts
pub data Object : Type 0 where
  object : (k : Kind) → Written (List (Part k)) → Object

-- extra: a name under the root that is none of `osmChange`, `create`, `modify`, `delete`, `node`, `way`, `relation`
pub data Foreign : Type 0 where
  foreign_tag : Foreign
  foreign_nd : Foreign
  foreign_member : Foreign
  foreign_bounds : Foreign
  foreign_unknown : Foreign

-- OsmChange: under the root stand blocks, `create`, `modify` or `delete`, which hold objects
pub data Item : Type 0 where
  block : Action → Written (List Object) → Item
  -- extra: an element of another name, which holds no element
  foreign : Foreign → Bare → Item

-- OsmChange: the root is `osmChange`
pub record Document : Type 0 where
  -- extra: how many closes stand before the root
  pub before : ℕ
  pub root : Written (List Item)
  -- extra: how many closes stand after it
  pub after : ℕ

-- what each of a list gives, in order
unfoldable pub each_gives : {A B : Type 0} → (A → List B) → List A → List B
each_gives f [] = []
each_gives f (x ∷ xs) = f x ++ each_gives f xs

-- the marks of an element, by its name and the marks of what it holds
unfoldable pub written : {A : Type 0} → Name → (A → List Mark) → Written A → List Mark
written n inner empty = empties n ∷ []
written n inner (full a) = opens n ∷ (inner a ++ (closes ∷ []))

abbrev pub bare : Name → Bare → List Mark
bare n w = written n (λ u. []) w

unfoldable pub part_marks : {k : Kind} → Part k → List Mark
part_marks (tag w) = bare N.Tag w
part_marks (nd w) = bare N.Nd w
part_marks (member w) = bare N.Member w
part_marks (way_bounds w) = bare N.Bounds w
part_marks (relation_bounds w) = bare N.Bounds w

abbrev pub kind_name : Kind → Name
kind_name K.Node = N.Node
kind_name K.Way = N.Way
kind_name K.Relation = N.Relation

unfoldable pub object_marks : Object → List Mark
object_marks (object k w) = written (kind_name k) (each_gives part_marks) w

abbrev pub action_name : Action → Name
action_name A.Create = N.Create
action_name A.Modify = N.Modify
action_name A.Delete = N.Delete

abbrev pub foreign_name : Foreign → Name
foreign_name foreign_tag = N.Tag
foreign_name foreign_nd = N.Nd
foreign_name foreign_member = N.Member
foreign_name foreign_bounds = N.Bounds
foreign_name foreign_unknown = N.Unknown

unfoldable pub item_marks : Item → List Mark
item_marks (block a w) = written (action_name a) (each_gives object_marks) w
item_marks (foreign f w) = bare (foreign_name f) w

unfoldable pub strays : ℕ → List Mark
strays zero = []
strays (suc n) = closes ∷ strays n

-- a document as it is written
unfoldable pub events : Document → List Mark
events d = strays d.before ++ (written N.OsmChange (each_gives item_marks) d.root ++ strays d.after)

-- what an object of a kind becomes: in `create` and `modify` a push, in `delete` a deletion
unfoldable pub becomes : Action → Kind → Change
becomes A.Create k = pushes k
becomes A.Modify k = pushes k
becomes A.Delete k = deletes k

unfoldable pub object_changes : Action → Object → List Change
object_changes a (object k w) = becomes a k ∷ []

-- what an element holds, if anything
unfoldable pub inside : {A B : Type 0} → (A → List B) → Written A → List B
inside f empty = []
inside f (full a) = f a

unfoldable pub item_changes : Item → List Change
item_changes (block a w) = inside (each_gives (object_changes a)) w
item_changes (foreign f w) = []

-- what a document changes, in its order
unfoldable pub changes : Document → List Change
changes d = inside (each_gives item_changes) d.root
