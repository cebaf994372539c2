-- Where an open or an empty element leads: of which kind and section that place is, which names are children, and of which elements a child is.
use Rattle.std.specs.Prelude.{None, Option, Some}
use mathlib.Core.Path.{◌≡◌, refl, ap}
use mathlib.Core.Bool.{Bool, true, false, cond}
use Rattle.base.proofs.Split.{clash}
use Rattle.kind.specs.declared.Kind.{Kind}
use Rattle.kind.specs.declared.Kind.TheVariants as K
use Rattle.nesting.specs.Grammar.{kind_name}
use Rattle.nesting.specs.Nesting.{unless, section_of, in_doc, in_root, in_section, in_way, in_relation, not_in_node, in_element, opened_at, opened, closed}
use Rattle.nesting.specs.declared.Name.{Name}
use Rattle.nesting.specs.declared.Name.TheVariants as N
use Rattle.nesting.specs.declared.Action.{Action}
use Rattle.nesting.specs.declared.Action.TheVariants as A
use Rattle.nesting.specs.declared.Child.{Child}
use Rattle.nesting.specs.declared.Child.TheVariants as C
use Rattle.nesting.specs.declared.Level.{Level}
use Rattle.nesting.specs.declared.Level.TheVariants as L
use Rattle.nesting.specs.declared.Place.{Place}
use Rattle.nesting.specs.Opened.{Opened}
use Rattle.nesting.specs.Opened as O

-- which children an element of a kind has
abbrev pub Child_of : Child → Kind → Type 0
Child_of C.Tag k = Unit {0}
Child_of C.Nd k = k ≡ K.Way
Child_of C.Member k = k ≡ K.Relation

-- the child that a name stands for
abbrev pub child_named : Name → Option Child
child_named N.Tag = Some C.Tag
child_named N.Nd = Some C.Nd
child_named N.Member = Some C.Member
child_named N.OsmChange = None
child_named N.Create = None
child_named N.Modify = None
child_named N.Delete = None
child_named N.Node = None
child_named N.Way = None
child_named N.Relation = None
child_named N.Bounds = None
child_named N.Unknown = None

-- between an element's opening and its close
abbrev pub is_inside : Level → Bool
is_inside L.Element = true
is_inside L.Leaf = true
is_inside L.Doc = false
is_inside L.Root = false
is_inside L.Section = false
is_inside L.Other = false
is_inside L.Done = false

-- a place that is gone to is of the same kind; inside an element it is in the same section, and the name is no child's
pub record Going (n : Name) (p q : Place) : Type 0 where
  pub kind : q.kind ≡ p.kind
  pub inside : is_inside p.level ≡ true → (q.section ≡ p.section) × (child_named n ≡ None)

-- an element begins outside elements, has the name of its kind, and stands open unless it is empty
pub record Beginning (e : Bool) (n : Name) (k : Kind) (p q : Place) : Type 0 where
  pub kind : n ≡ kind_name k
  pub outside : is_inside p.level ≡ false
  pub leads_to : q ≡ cond e p (record { level = L.Element; section = p.section; kind = k })

-- a child has its name, and is of an element that has such children
pub record Holding (n : Name) (c : Child) (p q : Place) : Type 0 where
  pub kind : q.kind ≡ p.kind
  pub section : q.section ≡ p.section
  pub child : child_named n ≡ Some c
  pub child_of_lem : Child_of c p.kind

abbrev pub Leads : Bool → Name → Place → Opened → Type 0
Leads e n p O.Misplaced = Unit {0}
Leads e n p O.OutsideSection = Unit {0}
Leads e n p (O.Goes q) = Going n p q
Leads e n p (O.Begins k q) = Beginning e n k p q
Leads e n p (O.Holds c q) = Holding n c p q

unless_kind : (e : Bool) (l : Level) (p : Place) → (unless e l p).kind ≡ p.kind
unless_kind true l p = refl
unless_kind false l p = refl

unless_section : (e : Bool) (l : Level) (p : Place) → (unless e l p).section ≡ p.section
unless_section true l p = refl
unless_section false l p = refl

module _ (e : Bool) (p : Place) (outside : is_inside p.level ≡ false) where
  outside_goes : {n : Name} (q : Place) → q.kind ≡ p.kind → Going n p q
  outside_goes q k = record { kind = k; inside = λ i. clash i outside }

  section_leads : {n : Name} (a : Action) → Leads e n p (section_of e a p)
  section_leads a = outside_goes _ (go e)
    where
      go : (e : Bool) → (cond e p (record { level = L.Section; section = a; kind = p.kind })).kind ≡ p.kind
      go true = refl
      go false = refl

  doc_leads : (n : Name) → Leads e n p (in_doc e n p)
  unfolding in_doc
  doc_leads N.OsmChange = outside_goes _ refl
  doc_leads N.Create = tt
  doc_leads N.Modify = tt
  doc_leads N.Delete = tt
  doc_leads N.Node = tt
  doc_leads N.Way = tt
  doc_leads N.Relation = tt
  doc_leads N.Tag = tt
  doc_leads N.Nd = tt
  doc_leads N.Member = tt
  doc_leads N.Bounds = tt
  doc_leads N.Unknown = tt

  root_leads : (n : Name) → Leads e n p (in_root e n p)
  unfolding in_root
  root_leads N.OsmChange = tt
  root_leads N.Create = section_leads A.Create
  root_leads N.Modify = section_leads A.Modify
  root_leads N.Delete = section_leads A.Delete
  root_leads N.Node = tt
  root_leads N.Way = tt
  root_leads N.Relation = tt
  root_leads N.Tag = outside_goes _ (unless_kind e L.Other p)
  root_leads N.Nd = outside_goes _ (unless_kind e L.Other p)
  root_leads N.Member = outside_goes _ (unless_kind e L.Other p)
  root_leads N.Bounds = outside_goes _ (unless_kind e L.Other p)
  root_leads N.Unknown = outside_goes _ (unless_kind e L.Other p)

  in_section_leads : (n : Name) → Leads e n p (in_section e n p)
  unfolding in_section
  in_section_leads N.OsmChange = tt
  in_section_leads N.Create = tt
  in_section_leads N.Modify = tt
  in_section_leads N.Delete = tt
  in_section_leads N.Node = record { kind = refl; outside = outside; leads_to = refl }
  in_section_leads N.Way = record { kind = refl; outside = outside; leads_to = refl }
  in_section_leads N.Relation = record { kind = refl; outside = outside; leads_to = refl }
  in_section_leads N.Tag = tt
  in_section_leads N.Nd = tt
  in_section_leads N.Member = tt
  in_section_leads N.Bounds = tt
  in_section_leads N.Unknown = tt

module _ (e : Bool) (p : Place) where
  holding : {n : Name} (c : Child) → child_named n ≡ Some c → Child_of c p.kind → Leads e n p (O.Holds c (unless e L.Leaf p))
  holding c h k = record { kind = unless_kind e L.Leaf p; section = unless_section e L.Leaf p; child = h; child_of_lem = k }

  way_leads : (k : Kind) → p.kind ≡ k → Leads e N.Nd p (in_way k (O.Holds C.Nd (unless e L.Leaf p)))
  way_leads K.Node h = tt
  way_leads K.Way h = holding C.Nd refl h
  way_leads K.Relation h = tt

  relation_leads : (k : Kind) → p.kind ≡ k → Leads e N.Member p (in_relation k (O.Holds C.Member (unless e L.Leaf p)))
  relation_leads K.Node h = tt
  relation_leads K.Way h = tt
  relation_leads K.Relation h = holding C.Member refl h

  bounds_lead : (k : Kind) → Leads e N.Bounds p (not_in_node k (O.Goes (unless e L.Leaf p)))
  bounds_lead K.Node = tt
  bounds_lead K.Way = record { kind = unless_kind e L.Leaf p; inside = λ i. (unless_section e L.Leaf p, refl) }
  bounds_lead K.Relation = record { kind = unless_kind e L.Leaf p; inside = λ i. (unless_section e L.Leaf p, refl) }

  element_leads : (n : Name) → Leads e n p (in_element e n p)
  unfolding in_element
  element_leads N.OsmChange = tt
  element_leads N.Create = tt
  element_leads N.Modify = tt
  element_leads N.Delete = tt
  element_leads N.Node = tt
  element_leads N.Way = tt
  element_leads N.Relation = tt
  element_leads N.Tag = holding C.Tag refl tt
  element_leads N.Nd = way_leads p.kind refl
  element_leads N.Member = relation_leads p.kind refl
  element_leads N.Bounds = bounds_lead p.kind
  element_leads N.Unknown = tt

  level_leads : (n : Name) (l : Level) → p.level ≡ l → Leads e n p (opened_at l e n p)
  unfolding opened_at
  level_leads n L.Doc h = doc_leads e p (ap is_inside h) n
  level_leads n L.Root h = root_leads e p (ap is_inside h) n
  level_leads n L.Section h = in_section_leads e p (ap is_inside h) n
  level_leads n L.Element h = element_leads n
  level_leads n L.Leaf h = tt
  level_leads n L.Other h = tt
  level_leads n L.Done h = tt

pub leads : (e : Bool) (n : Name) (p : Place) → Leads e n p (opened e n p)
unfolding opened
leads e n p = level_leads e p n p.level refl

pub closed_kind : (p : Place) → (closed p).kind ≡ p.kind
unfolding closed
closed_kind p = refl
