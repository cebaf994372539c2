-- What is decided of a line at a place, exactly: for each outcome, where it is decided and nowhere else.
use mathlib.Core.Path.{◌≡◌, refl}
use mathlib.Core.Bool.{Bool}
use mathlib.Core.Logic.{◌↔◌}
use mathlib.Core.List.{List}
use lib.IntN.{ℤ}
use Rattle.base.specs.Bytes.{Bytes}
use Rattle.base.proofs.Split.{no}
use Rattle.refusal.specs.declared.Refusal.{Refusal}
use Rattle.refusal.specs.declared.Refusal.TheVariants as R
use Rattle.kind.specs.declared.Kind.{Kind}
use Rattle.nesting.specs.Name.{name_of}
use Rattle.nesting.specs.Nesting.{opened, closed}
use Rattle.nesting.specs.declared.Action.{Action}
use Rattle.nesting.specs.declared.Action.TheVariants as A
use Rattle.nesting.specs.declared.Level.{Level}
use Rattle.nesting.specs.declared.Level.TheVariants as L
use Rattle.nesting.specs.declared.Place.{Place}
use Rattle.nesting.specs.declared.Child.{Child}
use Rattle.nesting.specs.declared.Child.TheVariants as C
use Rattle.nesting.specs.Opened.{Opened}
use Rattle.nesting.specs.Opened as O
use Rattle.model.specs.Record.{Meta, Member, Tag, Body}
use Rattle.event.specs.Event.{Attr, starts, closes, others, Reading, reads, refused, event_of}
use Rattle.event_fields.specs.Field.{Field, got, bad, id_field, metadata_of, body_for, tag_of, ref_of, member_of}
use Rattle.event_decision.specs.Decision.{Decision, refuses, moves, begins, deletes, tags, refers, joins, ends, on_field, push_begins, element_begins, unless_delete, child_of, decide_opened, decide_closed, decide_event, decide_reading, decide}

-- a `create` or a `modify` section
abbrev pub Pushing : Place → Type 0
Pushing p = p.section ≡ A.Delete → ⊥

-- the fields of a child, checked
pub data Checked (attrs : List Attr) : Child → Type 0 where
  tag : {t : Tag Bytes} → tag_of attrs ≡ got t → Checked attrs C.Tag
  ref : {z : ℤ} → ref_of attrs ≡ got z → Checked attrs C.Nd
  member : {m : Member Bytes} → member_of attrs ≡ got m → Checked attrs C.Member

-- an open or an empty element is refused: 5 and 6; then the fields, each whole before the next
pub data Refuses (p : Place) (attrs : List Attr) : Opened → Refusal → Type 0 where
  misplaced : Refuses p attrs O.Misplaced R.Misplaced
  outside : Refuses p attrs O.OutsideSection R.OutsideSection
  bad_id : {k : Kind} {q : Place} {r : Refusal} → id_field attrs ≡ bad r → Refuses p attrs (O.Begins k q) r
  bad_meta : {k : Kind} {q : Place} {id : ℤ} {r : Refusal} → id_field attrs ≡ got id → metadata_of attrs ≡ bad r → Refuses p attrs (O.Begins k q) r
  bad_body : {k : Kind} {q : Place} {id : ℤ} {m : Meta Bytes} {r : Refusal} → Pushing p → id_field attrs ≡ got id → metadata_of attrs ≡ got m → body_for k attrs ≡ bad r
      → Refuses p attrs (O.Begins k q) r
  bad_tag : {q : Place} {r : Refusal} → tag_of attrs ≡ bad r → Refuses p attrs (O.Holds C.Tag q) r
  bad_ref : {q : Place} {r : Refusal} → ref_of attrs ≡ bad r → Refuses p attrs (O.Holds C.Nd q) r
  bad_member : {q : Place} {r : Refusal} → member_of attrs ≡ bad r → Refuses p attrs (O.Holds C.Member q) r

-- what is decided of an open or an empty element, by where it leads
pub data Starts (p : Place) (e : Bool) (attrs : List Attr) : Opened → Decision → Type 0 where
  refuse : {o : Opened} {r : Refusal} → Refuses p attrs o r → Starts p e attrs o (refuses r)
  -- neither an object nor a child that is kept
  goes : {q : Place} → Starts p e attrs (O.Goes q) (moves q)
  -- an object
  begin : {k : Kind} {q : Place} {id : ℤ} {m : Meta Bytes} {b : Body Bytes} → Pushing p → id_field attrs ≡ got id → metadata_of attrs ≡ got m → body_for k attrs ≡ got b
      → Starts p e attrs (O.Begins k q) (begins e q id m b)
  -- "In a delete section the delete happens at the opening"
  delete : {k : Kind} {q : Place} {id : ℤ} {m : Meta Bytes} → p.section ≡ A.Delete → id_field attrs ≡ got id → metadata_of attrs ≡ got m
      → Starts p e attrs (O.Begins k q) (deletes k q id m)
  -- a child
  tag : {q : Place} {t : Tag Bytes} → Pushing p → tag_of attrs ≡ got t → Starts p e attrs (O.Holds C.Tag q) (tags q t)
  ref : {q : Place} {z : ℤ} → Pushing p → ref_of attrs ≡ got z → Starts p e attrs (O.Holds C.Nd q) (refers q z)
  member : {q : Place} {m : Member Bytes} → Pushing p → member_of attrs ≡ got m → Starts p e attrs (O.Holds C.Member q) (joins q m)
  -- ".. and children are checked and dropped"
  drop : {c : Child} {q : Place} → p.section ≡ A.Delete → Checked attrs c → Starts p e attrs (O.Holds c q) (moves q)

-- what is decided of a line, by what it reads as
pub data Decides (p : Place) : Reading → Decision → Type 0 where
  -- 2 to 4
  bad_line : {r : Refusal} → Decides p (refused r) (refuses r)
  start : {e : Bool} {n : Bytes} {attrs : List Attr} {d : Decision} → Starts p e attrs (opened e (name_of n) p) d → Decides p (reads (starts e n attrs)) d
  -- "A push happens when its element ends."
  end : p.level ≡ L.Element → Pushing p → Decides p (reads closes) (ends (closed p))
  -- any other close
  close : (p.level ≡ L.Element → p.section ≡ A.Delete) → Decides p (reads closes) (moves (closed p))
  -- "An `other` event does nothing."
  other : Decides p (reads others) (moves p)

-- ---- what is decided is so decided

module _ (p : Place) where
  pub by_section : {C : Type 0} (a : Action) → p.section ≡ a → (Pushing p → C) → (p.section ≡ A.Delete → C) → C
  by_section A.Create s f g = f (λ d. no (cc))
  by_section A.Modify s f g = f (λ d. no (cc))
  by_section A.Delete s f g = g s

  module _ (e : Bool) (attrs : List Attr) where
    by_field : {A : Type 0} (o : Opened) (f : Field A) (g : A → Decision) → ((r : Refusal) → f ≡ bad r → Refuses p attrs o r)
        → ((a : A) → f ≡ got a → Starts p e attrs o (g a)) → Starts p e attrs o (on_field f g)
    by_field o (got a) g b h = h a refl
    by_field o (bad r) g b h = refuse (b r refl)

    push_decided : (k : Kind) (q : Place) → Pushing p → Starts p e attrs (O.Begins k q) (push_begins e k q attrs)
    push_decided k q d = by_field _ _ _ (λ r. bad_id) (λ id i. by_field _ _ _ (λ r. bad_meta i) (λ m j. by_field _ _ _ (λ r. bad_body d i j) (λ b. begin d i j)))

    element_decided : (k : Kind) (q : Place) (a : Action) → p.section ≡ a → Starts p e attrs (O.Begins k q) (element_begins a e k q attrs)
    element_decided k q A.Create s = push_decided k q (λ d. no (cc))
    element_decided k q A.Modify s = push_decided k q (λ d. no (cc))
    element_decided k q A.Delete s = by_field _ _ _ (λ r. bad_id) (λ id i. by_field _ _ _ (λ r. bad_meta i) (λ m. delete s i))

    unless_decided : (a : Action) (c : Child) (q : Place) (d : Decision) → p.section ≡ a → (Pushing p → Starts p e attrs (O.Holds c q) d) → Checked attrs c
        → Starts p e attrs (O.Holds c q) (unless_delete a q d)
    unless_decided A.Create c q d s f k = f (λ z. no (cc))
    unless_decided A.Modify c q d s f k = f (λ z. no (cc))
    unless_decided A.Delete c q d s f k = drop s k

    child_decided : (c : Child) (q : Place) (a : Action) → p.section ≡ a → Starts p e attrs (O.Holds c q) (child_of c a q attrs)
    child_decided C.Tag q a s = by_field _ _ _ (λ r. bad_tag) (λ t f. unless_decided a C.Tag q _ s (λ d. tag d f) (tag f))
    child_decided C.Nd q a s = by_field _ _ _ (λ r. bad_ref) (λ z f. unless_decided a C.Nd q _ s (λ d. ref d f) (ref f))
    child_decided C.Member q a s = by_field _ _ _ (λ r. bad_member) (λ m f. unless_decided a C.Member q _ s (λ d. member d f) (member f))

    start_decided : (o : Opened) → Starts p e attrs o (decide_opened o e p.section attrs)
    start_decided O.Misplaced = refuse misplaced
    start_decided O.OutsideSection = refuse outside
    start_decided (O.Goes q) = goes
    start_decided (O.Begins k q) = element_decided k q p.section refl
    start_decided (O.Holds c q) = child_decided c q p.section refl

  end_decided : (a : Action) → p.level ≡ L.Element → p.section ≡ a → Decides p (reads closes) (unless_delete a (closed p) (ends (closed p)))
  end_decided A.Create l s = end l (λ d. no (cc))
  end_decided A.Modify l s = end l (λ d. no (cc))
  end_decided A.Delete l s = close (λ x. s)

  close_decided : (l : Level) → p.level ≡ l → Decides p (reads closes) (decide_closed l p.section (closed p))
  close_decided L.Element h = end_decided p.section h refl
  close_decided L.Doc h = close (λ x. no (cc))
  close_decided L.Root h = close (λ x. no (cc))
  close_decided L.Section h = close (λ x. no (cc))
  close_decided L.Leaf h = close (λ x. no (cc))
  close_decided L.Other h = close (λ x. no (cc))
  close_decided L.Done h = close (λ x. no (cc))

  pub decided : (x : Reading) → Decides p x (decide_reading x p)
  unfolding decide_event
  decided (reads (starts e n attrs)) = start (start_decided e attrs (opened e (name_of n) p))
  decided (reads closes) = close_decided p.level refl
  decided (reads others) = other
  decided (refused r) = bad_line

  -- ---- and nothing else is

  kept : (a : Action) (q : Place) (d : Decision) → (a ≡ A.Delete → ⊥) → unless_delete a q d ≡ d
  kept A.Create q d h = refl
  kept A.Modify q d h = refl
  kept A.Delete q d h = absurd (h refl)

  module _ (e : Bool) (attrs : List Attr) where
    pushing : (a : Action) (k : Kind) (q : Place) → (a ≡ A.Delete → ⊥) → element_begins a e k q attrs ≡ push_begins e k q attrs
    pushing A.Create k q h = refl
    pushing A.Modify k q h = refl
    pushing A.Delete k q h = absurd (h refl)

    dropped : {c : Child} (q : Place) → Checked attrs c → child_of c A.Delete q attrs ≡ moves q
    dropped q (tag f) = rw f
    dropped q (ref f) = rw f
    dropped q (member f) = rw f

    refuses_so : {o : Opened} {r : Refusal} → Refuses p attrs o r → decide_opened o e p.section attrs ≡ refuses r
    refuses_so misplaced = refl
    refuses_so outside = refl
    refuses_so (bad_id {k = k} {q = q} i) = by_section p.section refl (λ h. rw (pushing p.section k q h, i)) (λ s. rw (s, i))
    refuses_so (bad_meta {k = k} {q = q} i j) = by_section p.section refl (λ h. rw (pushing p.section k q h, i, j)) (λ s. rw (s, i, j))
    refuses_so (bad_body {k = k} {q = q} h i j b) = rw (pushing p.section k q h, i, j, b)
    refuses_so (bad_tag f) = rw f
    refuses_so (bad_ref f) = rw f
    refuses_so (bad_member f) = rw f

    starts_so : {o : Opened} {d : Decision} → Starts p e attrs o d → decide_opened o e p.section attrs ≡ d
    starts_so (refuse x) = refuses_so x
    starts_so goes = refl
    starts_so (begin {k = k} {q = q} h i j b) = rw (pushing p.section k q h, i, j, b)
    starts_so (delete s i j) = rw (s, i, j)
    starts_so (tag h f) = rw f (kept p.section _ _ h)
    starts_so (ref h f) = rw f (kept p.section _ _ h)
    starts_so (member h f) = rw f (kept p.section _ _ h)
    starts_so (drop {q = q} s k) = rw s (dropped q k)

  closes_so : (l : Level) (a : Action) → (l ≡ L.Element → a ≡ A.Delete) → decide_closed l a (closed p) ≡ moves (closed p)
  closes_so L.Element a h = rw (h refl)
  closes_so L.Doc a h = refl
  closes_so L.Root a h = refl
  closes_so L.Section a h = refl
  closes_so L.Leaf a h = refl
  closes_so L.Other a h = refl
  closes_so L.Done a h = refl

  pub decides_so : {x : Reading} {d : Decision} → Decides p x d → decide_reading x p ≡ d
  unfolding decide_event
  decides_so bad_line = refl
  decides_so (start {e = e} {attrs = attrs} s) = starts_so e attrs s
  decides_so (end l h) = rw l (kept p.section _ _ h)
  decides_so (close h) = closes_so p.level p.section h
  decides_so other = refl

pub decide_exactly : (line : Bytes) (p : Place) (d : Decision) → (decide line p ≡ d) ↔ Decides p (event_of line) d
unfolding decide
decide_exactly line p d = (λ h. rw h at (decided p (event_of line)), λ h. decides_so p h)
