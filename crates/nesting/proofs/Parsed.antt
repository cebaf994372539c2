-- What the levels take to the end is a document: from each place, the marks that are left are those of what is left of one. By the marks, from the last.
use Rattle.std.proofs.lemmas.Option.{none-some, same_Some}
use Rattle.std.specs.Prelude.{None, Option, Some}
use Rattle.base.specs.Options.{bind}
use Prim.Native.Nat.{ℕ, suc}
use mathlib.Core.Path.{◌≡◌, refl, sym, ◌∙◌, ap, subst}
use mathlib.Core.Bool.{Bool, true, false, cond}
use mathlib.Core.List.{List, [], ◌∷◌, ◌++◌, append_assoc}
use Rattle.kind.specs.declared.Kind.{Kind}
use Rattle.kind.specs.declared.Kind.TheVariants as K
use Rattle.nesting.specs.declared.Name.{Name}
use Rattle.nesting.specs.declared.Name.TheVariants as N
use Rattle.nesting.specs.declared.Action.{Action}
use Rattle.nesting.specs.declared.Action.TheVariants as A
use Rattle.nesting.specs.declared.Level.{Level}
use Rattle.nesting.specs.declared.Level.TheVariants.{Doc, Root, Section, Element, Leaf, Other, Done}
use Rattle.nesting.specs.declared.Place.{Place}
use Rattle.nesting.specs.Nesting.{at, unless, section_of, begins_as, in_doc, in_root, in_section, in_element, opened_at, opened, closed_to, closed}
use Rattle.nesting.specs.Marks.{Mark, opens, empties, closes, place_taken, mark_step, run}
use Rattle.nesting.specs.Grammar.{empty, full, Bare, Part, tag, nd, member, way_bounds, relation_bounds, Object, object, Foreign, foreign_tag, foreign_nd, foreign_member, foreign_bounds, foreign_unknown, Item, block, foreign, Document, each_gives, written, bare, part_marks, kind_name, object_marks, action_name, foreign_name, item_marks, strays, events}
use Rattle.nesting.proofs.Taken.{place}

-- what is left of a document at a level, for an open object of kind k
abbrev Rest : Level → Kind → Type 0
Rest Doc k = Document
Rest Root k = List Item × ℕ
Rest Section k = List Object × (List Item × ℕ)
Rest Element k = List (Part k) × (List Object × (List Item × ℕ))
Rest Leaf k = List (Part k) × (List Object × (List Item × ℕ))
Rest Other k = List Item × ℕ
Rest Done k = ℕ

-- its marks
abbrev root_tail : List Item × ℕ → List Mark
root_tail r = each_gives item_marks r.0 ++ (closes ∷ strays r.1)

abbrev section_tail : List Object × (List Item × ℕ) → List Mark
section_tail r = each_gives object_marks r.0 ++ (closes ∷ root_tail r.1)

abbrev element_tail : (k : Kind) → List (Part k) × (List Object × (List Item × ℕ)) → List Mark
element_tail k r = each_gives part_marks r.0 ++ (closes ∷ section_tail r.1)

abbrev tail : (l : Level) (k : Kind) → Rest l k → List Mark
tail Doc k d = events d
tail Root k r = root_tail r
tail Section k r = section_tail r
tail Element k r = element_tail k r
tail Leaf k r = closes ∷ element_tail k r
tail Other k r = closes ∷ root_tail r
tail Done k n = strays n

abbrev Left : Level → Kind → List Mark → Type 0
Left l k ms = (r : Rest l k) × (tail l k r ≡ ms)

-- the same at the place where a mark leads, if anywhere
abbrev After : Option Place → List Mark → Type 0
After None ms = ⊥
After (Some q) ms = Left q.level q.kind ms

-- an open or an empty element
abbrev mark : Bool → Name → Mark
mark e n = cond e (empties n) (opens n)

next : (m : Mark) {xs ys : List Mark} → xs ≡ ys → m ∷ xs ≡ m ∷ ys
next m e = ap {B = List Mark} (λ zs. m ∷ zs) e

-- One mark more in front, level by level: an open or an empty element that is taken there begins a piece of the document.
module _ (a : Action) {ms : List Mark} where
  part_back : {k : Kind} (n : Name) (x : Bare → Part k) → ((w : Bare) → part_marks (x w) ≡ bare n w) → (e : Bool) → After (Some (unless e Leaf (place Element a k))) ms → Left Element k (mark e n ∷ ms)
  unfolding each_gives written
  part_back n x s true h = ((x empty ∷ h.0.0, h.0.1), rw (s empty) (next _ h.1))
  part_back n x s false h = ((x (full tt) ∷ h.0.0, h.0.1), rw (s (full tt)) (next _ h.1))

  element_back : (k : Kind) (e : Bool) (n : Name) → After (place_taken (in_element e n (place Element a k))) ms → Left Element k (mark e n ∷ ms)
  unfolding place_taken in_element part_marks
  element_back k e N.OsmChange h = absurd h
  element_back k e N.Create h = absurd h
  element_back k e N.Modify h = absurd h
  element_back k e N.Delete h = absurd h
  element_back k e N.Node h = absurd h
  element_back k e N.Way h = absurd h
  element_back k e N.Relation h = absurd h
  element_back k e N.Tag h = part_back N.Tag tag (λ w. refl) e h
  element_back K.Node e N.Nd h = absurd h
  element_back K.Way e N.Nd h = part_back N.Nd nd (λ w. refl) e h
  element_back K.Relation e N.Nd h = absurd h
  element_back K.Node e N.Member h = absurd h
  element_back K.Way e N.Member h = absurd h
  element_back K.Relation e N.Member h = part_back N.Member member (λ w. refl) e h
  element_back K.Node e N.Bounds h = absurd h
  element_back K.Way e N.Bounds h = part_back N.Bounds way_bounds (λ w. refl) e h
  element_back K.Relation e N.Bounds h = part_back N.Bounds relation_bounds (λ w. refl) e h
  element_back k e N.Unknown h = absurd h

  object_back : (k₀ k : Kind) (e : Bool) → After (place_taken (begins_as e k (place Section a k₀))) ms → Left Section k₀ (mark e (kind_name k) ∷ ms)
  unfolding place_taken each_gives object_marks written
  object_back k₀ k true h = ((object k empty ∷ h.0.0, h.0.1), next _ h.1)
  object_back k₀ k false h = ((object k (full h.0.0) ∷ h.0.1.0, h.0.1.1), rw append_assoc (rw append_assoc (next _ h.1)))

  section_back : (k : Kind) (e : Bool) (n : Name) → After (place_taken (in_section e n (place Section a k))) ms → Left Section k (mark e n ∷ ms)
  unfolding place_taken in_section
  section_back k e N.OsmChange h = absurd h
  section_back k e N.Create h = absurd h
  section_back k e N.Modify h = absurd h
  section_back k e N.Delete h = absurd h
  section_back k e N.Node h = object_back k K.Node e h
  section_back k e N.Way h = object_back k K.Way e h
  section_back k e N.Relation h = object_back k K.Relation e h
  section_back k e N.Tag h = absurd h
  section_back k e N.Nd h = absurd h
  section_back k e N.Member h = absurd h
  section_back k e N.Bounds h = absurd h
  section_back k e N.Unknown h = absurd h

  block_back : (k : Kind) (b : Action) (e : Bool) → After (place_taken (section_of e b (place Root a k))) ms → Left Root k (mark e (action_name b) ∷ ms)
  unfolding place_taken each_gives item_marks written
  block_back k b true h = ((block b empty ∷ h.0.0, h.0.1), next _ h.1)
  block_back k b false h = ((block b (full h.0.0) ∷ h.0.1.0, h.0.1.1), rw append_assoc (rw append_assoc (next _ h.1)))

  foreign_back : (k : Kind) (f : Foreign) (e : Bool) → After (Some (unless e Other (place Root a k))) ms → Left Root k (mark e (foreign_name f) ∷ ms)
  unfolding place_taken each_gives item_marks written
  foreign_back k f true h = ((foreign f empty ∷ h.0.0, h.0.1), next _ h.1)
  foreign_back k f false h = ((foreign f (full tt) ∷ h.0.0, h.0.1), next _ h.1)

  root_back : (k : Kind) (e : Bool) (n : Name) → After (place_taken (in_root e n (place Root a k))) ms → Left Root k (mark e n ∷ ms)
  unfolding place_taken in_root
  root_back k e N.OsmChange h = absurd h
  root_back k e N.Create h = block_back k A.Create e h
  root_back k e N.Modify h = block_back k A.Modify e h
  root_back k e N.Delete h = block_back k A.Delete e h
  root_back k e N.Node h = absurd h
  root_back k e N.Way h = absurd h
  root_back k e N.Relation h = absurd h
  root_back k e N.Tag h = foreign_back k foreign_tag e h
  root_back k e N.Nd h = foreign_back k foreign_nd e h
  root_back k e N.Member h = foreign_back k foreign_member e h
  root_back k e N.Bounds h = foreign_back k foreign_bounds e h
  root_back k e N.Unknown h = foreign_back k foreign_unknown e h

  document_back : (k : Kind) (e : Bool) → After (Some (at (cond e Done Root) (place Doc a k))) ms → Left Doc k (mark e N.OsmChange ∷ ms)
  unfolding events strays written
  document_back k true h = (record { before = 0; root = empty; after = h.0 }, next _ h.1)
  document_back k false h = (record { before = 0; root = full h.0.0; after = h.0.1 }, rw append_assoc (next _ h.1))

  doc_back : (k : Kind) (e : Bool) (n : Name) → After (place_taken (in_doc e n (place Doc a k))) ms → Left Doc k (mark e n ∷ ms)
  unfolding place_taken in_doc
  doc_back k e N.OsmChange h = document_back k e h
  doc_back k e N.Create h = absurd h
  doc_back k e N.Modify h = absurd h
  doc_back k e N.Delete h = absurd h
  doc_back k e N.Node h = absurd h
  doc_back k e N.Way h = absurd h
  doc_back k e N.Relation h = absurd h
  doc_back k e N.Tag h = absurd h
  doc_back k e N.Nd h = absurd h
  doc_back k e N.Member h = absurd h
  doc_back k e N.Bounds h = absurd h
  doc_back k e N.Unknown h = absurd h

  opened_back : (l : Level) (k : Kind) (e : Bool) (n : Name) → After (place_taken (opened e n (place l a k))) ms → Left l k (mark e n ∷ ms)
  unfolding place_taken opened opened_at
  opened_back Doc k e n h = doc_back k e n h
  opened_back Root k e n h = root_back k e n h
  opened_back Section k e n h = section_back k e n h
  opened_back Element k e n h = element_back k e n h
  opened_back Leaf k e n h = absurd h
  opened_back Other k e n h = absurd h
  opened_back Done k e n h = absurd h

  -- a close ends a piece, or is a stray
  closed_back : (l : Level) (k : Kind) → After (Some (closed (place l a k))) ms → Left l k (closes ∷ ms)
  unfolding closed closed_to each_gives strays events
  closed_back Doc k h = (record { before = suc h.0.before; root = h.0.root; after = h.0.after }, next _ h.1)
  closed_back Root k h = (([], h.0), next _ h.1)
  closed_back Section k h = (([], h.0), next _ h.1)
  closed_back Element k h = (([], h.0), next _ h.1)
  closed_back Leaf k h = (h.0, next _ h.1)
  closed_back Other k h = (h.0, next _ h.1)
  closed_back Done k h = (suc h.0, next _ h.1)

back : (p : Place) (m : Mark) {ms : List Mark} → After (mark_step p m) ms → Left p.level p.kind (m ∷ ms)
unfolding mark_step
back p (opens n) h = opened_back p.section p.level p.kind false n h
back p (empties n) h = opened_back p.section p.level p.kind true n h
back p closes h = closed_back p.section p.level p.kind h

ended : (l : Level) (k : Kind) → l ≡ Done → Left l k []
unfolding strays
ended l k e = subst (λ (x : Level). Left x k []) (sym e) (0, refl)

pub parsed : (ms : List Mark) (p q : Place) → run p ms ≡ Some q → q.level ≡ Done → Left p.level p.kind ms
unfolding run bind
parsed [] p q e d = ended _ _ (ap (λ (x : Place). x.level) (same_Some p q e) ∙ d)
parsed (m ∷ ms) p q e d = back p m (go (mark_step p m) e (λ x i. parsed ms x q i d))
  where
    go : (o : Option Place) → bind o (λ x. run x ms) ≡ Some q → ((x : Place) → run x ms ≡ Some q → Left x.level x.kind ms) → After o ms
    go None i f = none-some q i
    go (Some x) i f = f x i
