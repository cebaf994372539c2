-- Every document is taken to its end, and makes its changes: piece by piece, from the parts of an object to the root.
use Rattle.std.specs.Prelude.{Option, Some}
use Prim.Native.Nat.{ℕ, zero, suc}
use mathlib.Core.Path.{◌≡◌, refl, ap, subst}
use mathlib.Core.Bool.{Bool, true, false}
use mathlib.Core.List.{List, [], ◌∷◌, ◌++◌, append-nil}
use Rattle.kind.specs.declared.Kind.{Kind}
use Rattle.kind.specs.declared.Kind.TheVariants as K
use Rattle.nesting.specs.declared.Name.{Name}
use Rattle.nesting.specs.declared.Name.TheVariants as N
use Rattle.nesting.specs.declared.Action.{Action}
use Rattle.nesting.specs.declared.Action.TheVariants as A
use Rattle.nesting.specs.declared.Level.{Level}
use Rattle.nesting.specs.declared.Level.TheVariants.{Root, Section, Element, Leaf, Other, Done}
use Rattle.nesting.specs.declared.Place.{Place}
use Rattle.nesting.specs.Nesting.{at, unless, start, begins_as, section_of, in_doc, in_root, in_section, in_element, opened_at, opened, closed_to, closed}
use Rattle.nesting.specs.Marks.{place_taken, mark_step, made_at_opening, made_at_end, opened_makes, closed_makes, makes}
use Rattle.nesting.specs.Grammar.{Written, empty, full, Bare, Part, tag, nd, member, way_bounds, relation_bounds, Object, object, Foreign, foreign_tag, foreign_nd, foreign_member, foreign_bounds, foreign_unknown, Item, block, foreign, Document, each_gives, written, bare, part_marks, kind_name, object_marks, action_name, foreign_name, item_marks, strays, events, becomes, object_changes, inside, item_changes, changes}
use Rattle.nesting.proofs.Reading.{Leads, stays, goes, joins, making, alone, around}

abbrev pub place : Level → Action → Kind → Place
place l a k = record { level = l; section = a; kind = k }

-- a bare element that only moves to the level l and back
quiet : (n : Name) (l : Level) (p : Place) → ((e : Bool) → place_taken (opened e n p) ≡ Some (unless e l p)) → ((e : Bool) → opened_makes e p.section (opened e n p) ≡ [])
    → closed (at l p) ≡ p → closed_makes l p.section p.kind ≡ [] → (w : Bare) → Leads p (bare n w) [] p
unfolding written mark_step makes
quiet n l p t o c d empty = making (alone (t true)) (o true)
quiet n l p t o c d (full u) = subst (λ (q : Place). Leads p (bare n (full u)) [] q) c (making (around (t false) (stays (at l p))) (rw (o false, d)))

part_leads : (a : Action) {k : Kind} (x : Part k) → Leads (place Element a k) (part_marks x) [] (place Element a k)
unfolding part_marks place_taken opened_makes closed_makes opened opened_at in_element closed closed_to
part_leads a (tag w) = quiet N.Tag Leaf _ (λ e. refl) (λ e. refl) refl refl w
part_leads a (nd w) = quiet N.Nd Leaf _ (λ e. refl) (λ e. refl) refl refl w
part_leads a (member w) = quiet N.Member Leaf _ (λ e. refl) (λ e. refl) refl refl w
part_leads a (way_bounds w) = quiet N.Bounds Leaf _ (λ e. refl) (λ e. refl) refl refl w
part_leads a (relation_bounds w) = quiet N.Bounds Leaf _ (λ e. refl) (λ e. refl) refl refl w

parts_lead : (a : Action) {k : Kind} (xs : List (Part k)) → Leads (place Element a k) (each_gives part_marks xs) [] (place Element a k)
unfolding each_gives
parts_lead a [] = stays _
parts_lead a (x ∷ xs) = joins (part_leads a x) (parts_lead a xs)

-- an object begins in its block
begun : (e : Bool) (k : Kind) (a : Action) (k₀ : Kind) → opened e (kind_name k) (place Section a k₀) ≡ begins_as e k (place Section a k₀)
unfolding opened opened_at in_section
begun e K.Node a k₀ = refl
begun e K.Way a k₀ = refl
begun e K.Relation a k₀ = refl

at_once : (a : Action) (k : Kind) → made_at_opening true a k ≡ becomes a k ∷ []
unfolding made_at_opening becomes
at_once A.Create k = refl
at_once A.Modify k = refl
at_once A.Delete k = refl

by_the_end : (a : Action) (k : Kind) → made_at_opening false a k ++ made_at_end a k ≡ becomes a k ∷ []
unfolding made_at_opening made_at_end becomes
by_the_end A.Create k = refl
by_the_end A.Modify k = refl
by_the_end A.Delete k = refl

object_leads : (a : Action) (k₀ : Kind) (o : Object) → (k : Kind) × Leads (place Section a k₀) (object_marks o) (object_changes a o) (place Section a k)
unfolding object_marks object_changes written mark_step makes place_taken opened_makes closed_makes closed closed_to
object_leads a k₀ (object k empty) = (k₀, making (alone (rw (begun true k a k₀))) (rw (begun true k a k₀) (at_once a k)))
object_leads a k₀ (object k (full xs)) = (k, making (around (rw (begun false k a k₀)) (parts_lead a xs)) (rw (begun false k a k₀) (by_the_end a k)))

objects_lead : (a : Action) (k₀ : Kind) (os : List Object) → (k : Kind) × Leads (place Section a k₀) (each_gives object_marks os) (each_gives (object_changes a) os) (place Section a k)
unfolding each_gives
objects_lead a k₀ [] = (k₀, stays _)
objects_lead a k₀ (o ∷ os) =
    let x = object_leads a k₀ o in
    let y = objects_lead a x.0 os in
    (y.0, joins x.1 y.1)

-- a block begins under the root
blocked : (e : Bool) (a a₀ : Action) (k : Kind) → opened e (action_name a) (place Root a₀ k) ≡ section_of e a (place Root a₀ k)
unfolding opened opened_at in_root
blocked e A.Create a₀ k = refl
blocked e A.Modify a₀ k = refl
blocked e A.Delete a₀ k = refl

foreign_leads : (a : Action) (k : Kind) (f : Foreign) (w : Bare) → Leads (place Root a k) (bare (foreign_name f) w) [] (place Root a k)
unfolding place_taken opened_makes closed_makes opened opened_at in_root closed closed_to
foreign_leads a k foreign_tag w = quiet N.Tag Other _ (λ e. refl) (λ e. refl) refl refl w
foreign_leads a k foreign_nd w = quiet N.Nd Other _ (λ e. refl) (λ e. refl) refl refl w
foreign_leads a k foreign_member w = quiet N.Member Other _ (λ e. refl) (λ e. refl) refl refl w
foreign_leads a k foreign_bounds w = quiet N.Bounds Other _ (λ e. refl) (λ e. refl) refl refl w
foreign_leads a k foreign_unknown w = quiet N.Unknown Other _ (λ e. refl) (λ e. refl) refl refl w

item_leads : (a₀ : Action) (k₀ : Kind) (i : Item) → (a : Action) × (k : Kind) × Leads (place Root a₀ k₀) (item_marks i) (item_changes i) (place Root a k)
unfolding item_marks item_changes inside written mark_step makes place_taken opened_makes closed_makes closed closed_to
item_leads a₀ k₀ (block a empty) = (a₀, k₀, making (alone (rw (blocked true a a₀ k₀))) (rw (blocked true a a₀ k₀)))
item_leads a₀ k₀ (block a (full os)) =
    let x = objects_lead a k₀ os in
    (a, x.0, making (around (rw (blocked false a a₀ k₀)) x.1) (rw (blocked false a a₀ k₀) (append-nil _)))
item_leads a₀ k₀ (foreign f w) = (a₀, k₀, foreign_leads a₀ k₀ f w)

items_lead : (a₀ : Action) (k₀ : Kind) (is : List Item) → (a : Action) × (k : Kind) × Leads (place Root a₀ k₀) (each_gives item_marks is) (each_gives item_changes is) (place Root a k)
unfolding each_gives
items_lead a₀ k₀ [] = (a₀, k₀, stays _)
items_lead a₀ k₀ (i ∷ is) =
    let x = item_leads a₀ k₀ i in
    let y = items_lead x.0 x.1 is in
    (y.0, y.1, joins x.2 y.2)

-- closes where nothing is open
strays_lead : (p : Place) → closed p ≡ p → closed_makes p.level p.section p.kind ≡ [] → (n : ℕ) → Leads p (strays n) [] p
unfolding strays mark_step makes
strays_lead p e d zero = stays p
strays_lead p e d (suc n) = making (goes (ap {B = Option Place} Some e) (strays_lead p e d n)) (rw d)

root_leads : (w : Written (List Item)) → (a : Action) × (k : Kind) × Leads start (written N.OsmChange (each_gives item_marks) w) (inside (each_gives item_changes) w) (place Done a k)
unfolding inside written mark_step makes place_taken opened_makes closed_makes closed closed_to opened opened_at in_doc
root_leads empty = (A.Create, K.Node, alone refl)
root_leads (full is) =
    let x = items_lead A.Create K.Node is in
    (x.0, x.1, making (around refl x.2) (append-nil _))

pub document_leads : (d : Document) → (a : Action) × (k : Kind) × Leads start (events d) (changes d) (place Done a k)
unfolding events changes closed closed_to closed_makes
document_leads d =
    let x = root_leads d.root in
    (x.0, x.1, making (joins (strays_lead start refl refl d.before) (joins x.2 (strays_lead (place Done x.0 x.1) refl refl d.after))) (append-nil _))
