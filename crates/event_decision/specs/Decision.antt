-- Document 01: what one event is to do, from its line and the place of its reader alone, or which of 2 to 11 it is, or of 23 and 24. "Places go top to bottom": line, nesting, fields.
-- What a reader keeps of it (acts) and what is done in storage (reader) go by the decision; whether the store's row refuses it, 12 to 16, is decided there.
use Rattle.std.specs.Prelude.{Bool, List, ℤ}
use Rattle.base.specs.Bytes.{Bytes}
use Rattle.refusal.specs.declared.Refusal.{Refusal}
use Rattle.refusal.specs.declared.Refusal.TheVariants as R
use Rattle.kind.specs.declared.Kind.{Kind}
use Rattle.nesting.specs.Name.{name_of}
use Rattle.nesting.specs.Nesting.{opened, closed}
use Rattle.nesting.specs.declared.Action.{Action}
use Rattle.nesting.specs.declared.Action.TheVariants as A
use Rattle.nesting.specs.declared.Level.{Level}
use Rattle.nesting.specs.declared.Level.TheVariants as L
use Rattle.nesting.specs.declared.Place.{Place}
use Rattle.nesting.specs.declared.Child.{Child}
use Rattle.nesting.specs.declared.Child.TheVariants as C
use Rattle.nesting.specs.Opened.{Opened}
use Rattle.nesting.specs.Opened as O
use Rattle.model.specs.Record.{Meta, Member, Tag, Body}
use Rattle.event.specs.Event.{Attr, Event, starts, closes, others, Reading, reads, refused, event_of}
use Rattle.event_fields.specs.Field.{Field, got, bad, id_field, metadata_of, body_for, tag_of, ref_of, member_of}

-- what an event is to do; each but a refusal says where its reader stands after it
pub data Decision : Type 0 where
  -- 2 to 11, 23, 24
  refuses : Refusal → Decision
  -- the place alone changes
  moves : Place → Decision
  -- an element that is to be pushed begins, with its id, its metadata and what it holds at first; where the test is true it is empty, and ends too
  begins : Bool → Place → ℤ → Meta Bytes → Body Bytes → Decision
  -- an id of a kind is to be deleted, with the metadata that claims its version
  deletes : Kind → Place → ℤ → Meta Bytes → Decision
  -- the element that stands open gets a tag, a ref, a member
  tags : Place → Tag Bytes → Decision
  refers : Place → ℤ → Decision
  joins : Place → Member Bytes → Decision
  -- the element that stands open ends, and is to be pushed
  ends : Place → Decision

-- a field, then what follows it; a bad field is refused
abbrev pub on_field : {A : Type 0} → Field A → (A → Decision) → Decision
on_field (got a) f = f a
on_field (bad r) f = refuses r

-- ---- an element begins

-- "Fields: id; then metadata in line order; then a pushed node's lat7; then lon7." Document 02: each in either form.
abbrev pub push_begins : Bool → Kind → Place → List Attr → Decision
push_begins empty k p attrs = on_field (id_field attrs) (λ id. on_field (metadata_of attrs) (λ m. on_field (body_for k attrs) (λ b. begins empty p id m b)))

-- "In a delete section the delete happens at the opening"
abbrev pub delete_begins : Kind → Place → List Attr → Decision
delete_begins k p attrs = on_field (id_field attrs) (λ id. on_field (metadata_of attrs) (λ m. deletes k p id m))

abbrev pub element_begins : Action → Bool → Kind → Place → List Attr → Decision
element_begins A.Create empty k p attrs = push_begins empty k p attrs
element_begins A.Modify empty k p attrs = push_begins empty k p attrs
element_begins A.Delete empty k p attrs = delete_begins k p attrs

-- ---- inside an element

-- "In a delete section .. children are checked and dropped", and the close of the element pushes nothing
abbrev pub unless_delete : Action → Place → Decision → Decision
unless_delete A.Create p d = d
unless_delete A.Modify p d = d
unless_delete A.Delete p d = moves p

abbrev pub child_of : Child → Action → Place → List Attr → Decision
child_of C.Tag a p attrs = on_field (tag_of attrs) (λ t. unless_delete a p (tags p t))
child_of C.Nd a p attrs = on_field (ref_of attrs) (λ z. unless_delete a p (refers p z))
child_of C.Member a p attrs = on_field (member_of attrs) (λ m. unless_delete a p (joins p m))

-- ---- an event

-- an open or an empty element, by where it leads: 5, 6, or on
abbrev pub decide_opened : Opened → Bool → Action → List Attr → Decision
decide_opened O.Misplaced empty a attrs = refuses R.Misplaced
decide_opened O.OutsideSection empty a attrs = refuses R.OutsideSection
decide_opened (O.Goes p) empty a attrs = moves p
decide_opened (O.Begins k p) empty a attrs = element_begins a empty k p attrs
decide_opened (O.Holds c p) empty a attrs = child_of c a p attrs

-- a close, which leads to p: "A push happens when its element ends."
abbrev pub decide_closed : Level → Action → Place → Decision
decide_closed L.Element a p = unless_delete a p (ends p)
decide_closed L.Doc a p = moves p
decide_closed L.Root a p = moves p
decide_closed L.Section a p = moves p
decide_closed L.Leaf a p = moves p
decide_closed L.Other a p = moves p
decide_closed L.Done a p = moves p

-- "An `other` event does nothing."
unfoldable pub decide_event : Event → Place → Decision
decide_event (starts empty n attrs) p = decide_opened (opened empty (name_of n) p) empty p.section attrs
decide_event closes p = decide_closed p.level p.section (closed p)
decide_event others p = moves p

abbrev pub decide_reading : Reading → Place → Decision
decide_reading (reads e) p = decide_event e p
decide_reading (refused r) p = refuses r

-- an event's line, at a place
unfoldable pub decide : Bytes → Place → Decision
decide line p = decide_reading (event_of line) p
