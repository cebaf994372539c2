-- The names that document 01 gives to elements. Names compare as raw bytes.
use Rattle.std.specs.Prelude.{cond, List, [], ◌∷◌, None, Option, Some}
use Rattle.base.specs.Ascii.{ascii}
use Rattle.base.specs.Bytes.{Bytes, same}
use Rattle.kind.specs.declared.Kind.{Kind}
use Rattle.kind.specs.declared.Kind.TheVariants as K
use Rattle.nesting.specs.declared.Name.{Name}
use Rattle.nesting.specs.declared.Name.TheVariants.{OsmChange, Create, Modify, Delete, Node, Way, Relation, Tag, Nd, Member, Bounds, Unknown}

-- a name and its bytes
pub record Spelling : Type 0 where
  pub bytes : Bytes
  pub name : Name

unfoldable pub spellings : List Spelling
spellings =
    record { bytes = ascii "osmChange"; name = OsmChange }
    ∷ record { bytes = ascii "create"; name = Create }
    ∷ record { bytes = ascii "modify"; name = Modify }
    ∷ record { bytes = ascii "delete"; name = Delete }
    ∷ record { bytes = ascii "node"; name = Node }
    ∷ record { bytes = ascii "way"; name = Way }
    ∷ record { bytes = ascii "relation"; name = Relation }
    ∷ record { bytes = ascii "tag"; name = Tag }
    ∷ record { bytes = ascii "nd"; name = Nd }
    ∷ record { bytes = ascii "member"; name = Member }
    ∷ record { bytes = ascii "bbox"; name = Bounds }
    ∷ record { bytes = ascii "bounds"; name = Bounds }
    ∷ []

unfoldable pub name_in : List Spelling → Bytes → Name
name_in [] s = Unknown
name_in (p ∷ ps) s = cond (same s p.bytes) p.name (name_in ps s)

unfoldable pub name_of : Bytes → Name
name_of s = name_in spellings s

-- the kind whose elements have a name
abbrev pub kind_named : Name → Option Kind
kind_named Node = Some K.Node
kind_named Way = Some K.Way
kind_named Relation = Some K.Relation
kind_named OsmChange = None
kind_named Create = None
kind_named Modify = None
kind_named Delete = None
kind_named Tag = None
kind_named Nd = None
kind_named Member = None
kind_named Bounds = None
kind_named Unknown = None
