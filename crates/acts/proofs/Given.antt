-- An act in the words of the lines that make it: a push holds what its element's opening and the lines inside it give, in their order, a delete what its opening gives.
use Rattle.std.specs.Prelude.{None, Some}
use mathlib.Core.Path.{◌≡◌, refl, sym, ap, subst}
use mathlib.Core.Bool.{Bool, true, false}
use mathlib.Core.List.{List, [], ◌∷◌, append-nil}
use lib.IntN.{ℤ}
use Rattle.base.specs.Ascii.{ascii}
use Rattle.base.specs.Bytes.{Bytes}
use Rattle.base.proofs.Split.{clash, no}
use Rattle.kind.specs.declared.Kind.{Kind}
use Rattle.nesting.specs.Name.{name_of}
use Rattle.nesting.specs.Nesting.{opened}
use Rattle.nesting.specs.declared.Child.{Child}
use Rattle.nesting.specs.declared.Child.TheVariants as C
use Rattle.nesting.specs.declared.Level.TheVariants as L
use Rattle.nesting.specs.declared.Place.{Place}
use Rattle.nesting.specs.Opened.{Opened}
use Rattle.model.specs.Record.{Meta, Member, Tag, Body, place, refs, members, claim_of, kind_of}
use Rattle.model.specs.Act.{Act, push, delete}
use Rattle.event.specs.Event.{Attr, starts, closes, others, Reading, reads, refused, event_of}
use Rattle.event_fields.specs.Field.{got}
use Rattle.event_fields.proofs.Fields.{word_of}
use Rattle.event_fields.proofs.Given.{BodyGiven, ElementGiven, RefGiven, TagGiven, MemberGiven, ref_given, tag_given, member_given}
use Rattle.event_decision.specs.Decision.{Decision, decide}
use Rattle.event_decision.proofs.Places.{child_named, is_inside, Leads, leads}
use Rattle.event_decision.proofs.Decided.{Pushing, Starts, Decides, decided, decide_exactly}
use Rattle.event_decision.proofs.Decided as D
use Rattle.event_decision.proofs.Given.{child_word, child_spelled, spelled_child, Gives, decide_gives}
use Rattle.acts.specs.Turn.{Reader, Turn, first, user_text, turn_of, turn}
use Rattle.acts.proofs.Turns.{act_in}
use Rattle.acts.proofs.Elements.{Children, no_children, joined, child_in, children_in, children_of, grown, Inside, here, next, children_kept, line_begins, element_pushed}

-- ---- the lines inside an element

-- the name of no child
abbrev pub NoChild : Reading → Type 0
NoChild (reads (starts e n attrs)) = (n ≡ ascii "tag" → ⊥) × ((n ≡ ascii "nd" → ⊥) × (n ≡ ascii "member" → ⊥))
NoChild (reads closes) = Unit {0}
NoChild (reads others) = Unit {0}
NoChild (refused r) = Unit {0}

-- what a line gives
pub data OneGiven : Reading → Children → Type 0 where
  tag : {e : Bool} {attrs : List Attr} {t : Tag Bytes} → TagGiven attrs t → OneGiven (reads (starts e (ascii "tag") attrs)) (record { tags = t ∷ []; refs = []; members = [] })
  ref : {e : Bool} {attrs : List Attr} {z : ℤ} → RefGiven attrs z → OneGiven (reads (starts e (ascii "nd") attrs)) (record { tags = []; refs = z ∷ []; members = [] })
  member : {e : Bool} {attrs : List Attr} {m : Member Bytes} → MemberGiven attrs m → OneGiven (reads (starts e (ascii "member") attrs)) (record { tags = []; refs = []; members = m ∷ [] })
  other : {x : Reading} → NoChild x → OneGiven x no_children

-- and what lines give, in their order
pub data ChildrenGiven : List Bytes → Children → Type 0 where
  none : ChildrenGiven [] no_children
  more : {line : Bytes} {lines : List Bytes} {c d : Children} → OneGiven (event_of line) c → ChildrenGiven lines d → ChildrenGiven (line ∷ lines) (joined c d)

-- ---- an act

pub data ActGiven : List Bytes → Act Bytes → Type 0 where
  -- an element's opening, the lines inside it and, where it is not empty, its close
  pushes : {line : Bytes} {lines : List Bytes} {e : Bool} {n : Bytes} {attrs : List Attr} {id : ℤ} {m : Meta Bytes} {b : Body Bytes} {c : Children}
      → event_of line ≡ reads (starts e n attrs) → n ≡ word_of (kind_of b) → ElementGiven attrs id m → BodyGiven attrs (kind_of b) b → ChildrenGiven lines c
      → ActGiven (line ∷ lines) (push id (record { meta = m; body = grown b c; tags = c.tags }))
  -- the opening alone: "It claims the version it gives"
  deletes : {line : Bytes} {e : Bool} {n : Bytes} {attrs : List Attr} {k : Kind} {id : ℤ} {m : Meta Bytes}
      → event_of line ≡ reads (starts e n attrs) → n ≡ word_of k → ElementGiven attrs id m → ActGiven (line ∷ []) (delete k id (claim_of m))

-- ---- one line

no_child : (e : Bool) (n : Bytes) (attrs : List Attr) → child_named (name_of n) ≡ None → NoChild (reads (starts e n attrs))
no_child e n attrs h = (λ q. named_not C.Tag q, (λ q. named_not C.Nd q, λ q. named_not C.Member q))
  where
    named_not : (c : Child) → n ≡ child_word c → ⊥
    named_not c q = no (cc (h, spelled_child n c q))

module _ (r : Reader) (inside : is_inside r.place.level ≡ true) (pushing : Pushing r.place) where
  start_given : (e : Bool) (n : Bytes) (attrs : List Attr) (o : Opened) {d : Decision} {t : Turn} → Leads e (name_of n) r.place o → Starts r.place e attrs o d → turn_of d r ≡ got t
      → OneGiven (reads (starts e n attrs)) (child_in (child_named (name_of n)) attrs)
  unfolding turn_of
  start_given e n attrs o l (D.refuse x) h = no (cc)
  start_given e n attrs o l D.goes h = let i = (l.inside inside).1 in rw i (other (no_child e n attrs i))
  start_given e n attrs o l (D.begin s i j b) h = clash inside l.outside
  start_given e n attrs o l (D.delete s i j) h = clash inside l.outside
  start_given e n attrs o l (D.tag {t = t} s f) h = rw (l.child, f, child_spelled n C.Tag l.child) (tag ((tag_given attrs t).0 f))
  start_given e n attrs o l (D.ref {z = z} s f) h = rw (l.child, f, child_spelled n C.Nd l.child) (ref ((ref_given attrs z).0 f))
  start_given e n attrs o l (D.member {m = m} s f) h = rw (l.child, f, child_spelled n C.Member l.child) (member ((member_given attrs m).0 f))
  start_given e n attrs o l (D.drop s c) h = absurd (pushing s)

  line_given : {x : Reading} {d : Decision} {t : Turn} → Decides r.place x d → turn_of d r ≡ got t → OneGiven x (children_in x)
  unfolding turn_of
  line_given D.bad_line h = no (cc)
  line_given (D.start {e = e} {n = n} {attrs = attrs} s) h = start_given e n attrs (opened e (name_of n) r.place) (leads e (name_of n) r.place) s h
  line_given (D.end l s) h = other tt
  line_given (D.close c) h = other tt
  line_given D.other h = other tt

-- what the lines inside an element give is what its children are
pub children_given : {r q : Reader} {lines : List Bytes} → is_inside r.place.level ≡ true → Pushing r.place → Inside r lines q → ChildrenGiven lines (children_of lines)
unfolding children_of turn decide
children_given h s here = none
children_given {r} {lines = line ∷ lines} h s (next {t = t} e k i) =
    more (line_given r h s (decided r.place (event_of line)) e) (children_given k (children_kept h s (next e k here)).1 i)

-- ---- acts

bare : (b : Body Bytes) → grown b no_children ≡ b
bare (place lat lon) = refl
bare (refs rs) = ap refs (append-nil rs)
bare (members ms) = ap members (append-nil ms)

push_by : (line : Bytes) {lines : List Bytes} {x : Reading} {p q : Place} {e : Bool} {id : ℤ} {m : Meta Bytes} {b : Body Bytes} {c : Children} → event_of line ≡ x
    → Gives p x (Decision.begins e q id m b) → ChildrenGiven lines c → ActGiven (line ∷ lines) (push id (record { meta = m; body = grown b c; tags = c.tags }))
push_by line h (Gives.begins s n g f) k = pushes h n g f k

-- the opening of an element that is to be pushed, the lines inside it, and its close: the act that they make holds what they give
pub push_given : (r : Reader) {q : Reader} (line last : Bytes) {lines : List Bytes} {t : Turn} {p : Place} {id : ℤ} {m : Meta Bytes} {b : Body Bytes} {a : Act Bytes}
    → decide line r.place ≡ Decision.begins false p id m b → turn line r ≡ got t → Inside t.reader lines q → q.place.level ≡ L.Element → event_of last ≡ reads closes
    → act_in (turn last q) ≡ Some a → ActGiven (line ∷ lines) a
unfolding turn turn_of
push_given r {q} line last {lines} {t} {p} {id} {m} {b} {a} d e i l c h =
    let s : Reader = record { place = p; staged = record { id = id; held = first m b } } in
    let u : Turn = record { reader = s; texts = user_text m; act = None } in
    let f : got u ≡ got t = rw d at e in
    let w : u ≡ t = cc in
    let j : Inside s lines q = subst (λ (y : Turn). Inside y.reader lines q) (sym w) i in
    let g = line_begins r.place (event_of line) ((decide_exactly line r.place _).0 d) in
    let k = children_given {r = s} g.0 g.1 j in
    let v : push id (record { meta = m; body = grown b (children_of lines); tags = (children_of lines).tags }) ≡ a = cc (element_pushed r line last d e i l c, h) in
    rw (← v) (push_by line refl (rw d at (decide_gives line r.place)) k)

-- an act that a line makes by itself
act_by : (line : Bytes) (r : Reader) {x : Reading} {d : Decision} {a : Act Bytes} → event_of line ≡ x → (x ≡ reads closes → ⊥) → Gives r.place x d → act_in (turn_of d r) ≡ Some a → ActGiven (line ∷ []) a
unfolding turn_of
act_by line r {a = a} h c (Gives.begins {e = true} {id = id} {m = m} {b = b} s n g f) k =
    let v : push id (first m b) ≡ a = cc in
    rw (← v) (subst (λ (y : Body Bytes). ActGiven (line ∷ []) (push id (record { meta = m; body = y; tags = [] }))) (bare b) (pushes h n g f none))
act_by line r h c (Gives.begins {e = false} s n g f) k = no (cc)
act_by line r {a = a} h c (Gives.deletes {k = j} {id = id} {m = m} s n g) k = let v : delete j id (claim_of m) ≡ a = cc in rw (← v) (deletes h n g)
act_by line r h c (Gives.tags s n g) k = no (cc)
act_by line r h c (Gives.refers s w n g) k = no (cc)
act_by line r h c (Gives.joins s w n g) k = no (cc)
act_by line r h c Gives.refuses k = no (cc)
act_by line r h c Gives.moves k = no (cc)
act_by line r h c (Gives.ends s) k = absurd (c refl)

-- an empty element, or an element in a `delete` section: the act that its line makes holds what it gives
pub act_given : (line : Bytes) (r : Reader) {a : Act Bytes} → (event_of line ≡ reads closes → ⊥) → act_in (turn line r) ≡ Some a → ActGiven (line ∷ []) a
unfolding turn
act_given line r c h = act_by line r refl c (decide_gives line r.place) h
