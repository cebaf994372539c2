-- Document 01: what one event does to its reader, which texts it takes in and which act it makes, by what is decided of it: one clause a decision.
use Rattle.std.specs.Prelude.{true, false, cond, List, [], ◌∷◌, ◌++◌, ℤ, pos, None, Option, Some}
use Rattle.base.specs.Bytes.{Bytes}
use Rattle.kind.specs.declared.Kind.{Kind}
use Rattle.kind.specs.declared.Kind.TheVariants as K
use Rattle.nesting.specs.Nesting.{start}
use Rattle.nesting.specs.declared.Place.{Place}
use Rattle.model.specs.Record.{Meta, Member, Tag, Body, place, refs, members, Record, flagged, claim_of}
use Rattle.model.specs.Act.{Act, push, delete}
use Rattle.event_fields.specs.Field.{Field, got, bad, no_meta}
use Rattle.event_decision.specs.Decision.{Decision, refuses, moves, begins, deletes, tags, refers, joins, ends, decide}

-- the element that a reader is putting together: its id and its record so far
pub record Staged : Type 0 where
  pub id : ℤ
  pub held : Record Bytes

abbrev pub no_body : Kind → Body Bytes
no_body K.Node = place (pos 0) (pos 0)
no_body K.Way = refs []
no_body K.Relation = members []

-- what stands there between elements, which nothing is made of: the next element begins anew
abbrev pub no_element : Kind → Staged
no_element k = record { id = pos 0; held = record { meta = no_meta; body = no_body k; tags = [] } }

-- a reader: where it stands, and the element that it is putting together
pub record Reader : Type 0 where
  pub place : Place
  pub staged : Staged

abbrev pub fresh : Reader
fresh = record { place = start; staged = no_element start.kind }

-- what an event comes to
pub record Turn : Type 0 where
  pub reader : Reader
  pub texts : List Bytes
  pub act : Option (Act Bytes)

-- an element as it begins
abbrev pub first : Meta Bytes → Body Bytes → Record Bytes
first m b = record { meta = m; body = b; tags = [] }

-- the user that metadata names is a text of its own
abbrev pub user_text : Meta Bytes → List Bytes
user_text m = cond (flagged 4 m.flags) (m.user ∷ []) []

-- ---- a child: the list that it belongs to grows by it, at the end

abbrev pub with_tag : Tag Bytes → Record Bytes → Record Bytes
with_tag t r = record { meta = r.meta; body = r.body; tags = r.tags ++ (t ∷ []) }

abbrev pub body_with_ref : ℤ → Body Bytes → Body Bytes
body_with_ref z (place lat lon) = place lat lon
body_with_ref z (refs rs) = refs (rs ++ (z ∷ []))
body_with_ref z (members ms) = members ms

abbrev pub with_ref : ℤ → Record Bytes → Record Bytes
with_ref z r = record { meta = r.meta; body = body_with_ref z r.body; tags = r.tags }

abbrev pub body_with_member : Member Bytes → Body Bytes → Body Bytes
body_with_member m (place lat lon) = place lat lon
body_with_member m (refs rs) = refs rs
body_with_member m (members ms) = members (ms ++ (m ∷ []))

abbrev pub with_member : Member Bytes → Record Bytes → Record Bytes
with_member m r = record { meta = r.meta; body = body_with_member m r.body; tags = r.tags }

-- ---- a turn

-- the element grows by a child
abbrev pub grows : Place → (Record Bytes → Record Bytes) → List Bytes → Reader → Turn
grows p f ts r = record { reader = record { place = p; staged = record { id = r.staged.id; held = f r.staged.held } }; texts = ts; act = None }

-- nothing stands there any more
abbrev pub clears : Place → List Bytes → Act Bytes → Turn
clears p ts a = record { reader = record { place = p; staged = no_element p.kind }; texts = ts; act = Some a }

unfoldable pub turn_of : Decision → Reader → Field Turn
turn_of (refuses x) r = bad x
turn_of (moves p) r = got (record { reader = record { place = p; staged = r.staged }; texts = []; act = None })
turn_of (begins true p id m b) r = got (clears p (user_text m) (push id (first m b)))
turn_of (begins false p id m b) r =
    got (record { reader = record { place = p; staged = record { id = id; held = first m b } }; texts = user_text m; act = None })
turn_of (deletes k p id m) r = got (clears p (user_text m) (delete k id (claim_of m)))
turn_of (tags p t) r = got (grows p (with_tag t) (t.key ∷ []) r)
turn_of (refers p z) r = got (grows p (with_ref z) [] r)
turn_of (joins p m) r = got (grows p (with_member m) (m.role ∷ []) r)
turn_of (ends p) r = got (clears p [] (push r.staged.id r.staged.held))

-- a line as a reader takes it
unfoldable pub turn : Bytes → Reader → Field Turn
turn line r = turn_of (decide line r.place) r
