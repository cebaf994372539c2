-- T16: the levels take a list of marks to its end exactly when it is that of a document, and make of it what the document says: of each object in `create` and
-- `modify` a push, in `delete` a deletion.
use mathlib.Core.Path.{◌≡◌, refl, subst}
use mathlib.Core.Logic.{◌↔◌}
use mathlib.Core.List.{List, [], ◌∷◌}
use Rattle.kind.specs.declared.Kind.TheVariants as K
use Rattle.nesting.specs.declared.Name.TheVariants as N
use Rattle.nesting.specs.declared.Action.TheVariants as A
use Rattle.nesting.specs.declared.Level.TheVariants.{Done}
use Rattle.nesting.specs.Nesting.{start}
use Rattle.nesting.specs.Marks.{Mark, opens, empties, closes, Accepted, pushes, deletes, changes_from}
use Rattle.nesting.specs.Grammar.{Document, empty, full, tag, object, block, each_gives, written, part_marks, object_marks, item_marks, strays, events, becomes, object_changes, inside, item_changes, changes}
use Rattle.nesting.proofs.Taken.{place, document_leads}
use Rattle.nesting.proofs.Parsed.{parsed}

accepts : (d : Document) → Accepted (events d)
accepts d =
    let x = document_leads d in
    (place Done x.0 x.1, x.2.runs, refl)

pub documents : (ms : List Mark) → Accepted ms ↔ ((d : Document) × (events d ≡ ms))
documents ms = (λ x. parsed ms start x.0 x.1 x.2, λ x. subst Accepted x.1 (accepts x.0))

pub document_changes : (d : Document) → changes_from start (events d) ≡ changes d
document_changes d = (document_leads d).2.does

-- document 01's Input A: a node with a tag is pushed, a way is deleted
input_a : Document
input_a = record {
  before = 0;
  root = full (block A.Modify (full (object K.Node (full (tag empty ∷ [])) ∷ [])) ∷ block A.Delete (full (object K.Way empty ∷ [])) ∷ []);
  after = 0;
}

input_a_marks : events input_a
    ≡ opens N.OsmChange ∷ opens N.Modify ∷ opens N.Node ∷ empties N.Tag ∷ closes ∷ closes ∷ opens N.Delete ∷ empties N.Way ∷ closes ∷ closes ∷ []
unfolding input_a events strays each_gives written item_marks object_marks part_marks
input_a_marks = refl

input_a_changes : changes_from start (events input_a) ≡ pushes K.Node ∷ deletes K.Way ∷ []
unfolding input_a changes inside each_gives item_changes object_changes becomes
input_a_changes = document_changes input_a
