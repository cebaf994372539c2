-- What a turn comes to: where it makes an act and that it makes none elsewhere, the texts that it takes in, and what every turn keeps of its reader.
use Rattle.std.specs.Prelude.{None, Option, Some}
use mathlib.Core.Path.{◌≡◌, refl, sym, ◌∙◌}
use mathlib.Core.Bool.{Bool, true, false}
use mathlib.Core.Logic.{◌↔◌}
use mathlib.Core.List.{List, [], ◌∷◌}
use lib.IntN.{ℤ}
use Rattle.base.specs.Ascii.{ascii}
use Rattle.base.specs.Bytes.{Bytes, all}
use Rattle.base.proofs.Split.{by_bool, no}
use Rattle.base.proofs.Lists.{all_nil, all_cons}
use Rattle.refusal.specs.First.{first_of}
use Rattle.kind.specs.declared.Kind.{Kind}
use Rattle.kind.specs.declared.Kind.TheVariants as K
use Rattle.nesting.specs.Name.{name_of}
use Rattle.nesting.specs.Nesting.{opened}
use Rattle.nesting.specs.declared.Action.TheVariants as A
use Rattle.nesting.specs.declared.Level.TheVariants as L
use Rattle.nesting.specs.declared.Place.{Place}
use Rattle.nesting.specs.Opened.{Opened}
use Rattle.nesting.specs.Opened as O
use Rattle.model.specs.Record.{Meta, Member, Body, place, refs, members, flagged, claim_of, kind_of}
use Rattle.model.specs.Act.{Act, push, delete}
use Rattle.event.specs.Event.{Attr, starts, closes, others, Reading, reads, refused, event_of, value_of, or_empty}
use Rattle.event_fields.specs.Field.{Field, got, bad, id_field, metadata_of, body_for}
use Rattle.event_fields.proofs.Fields.{value_all, tag_got, member_got}
use Rattle.event_fields.proofs.Metadata.{meta_user}
use Rattle.event_decision.specs.Decision.{Decision, refuses, moves, begins, deletes, tags, refers, joins, ends, decide_reading, decide}
use Rattle.event_decision.specs.Table.{refusal_in, decide_table}
use Rattle.event_decision.proofs.Table.{refusal_of, decide_first}
use Rattle.event_decision.proofs.Lawful.{Lawful, decide_lawful}
use Rattle.event_decision.proofs.Decided.{Pushing, Starts, Decides, decided, decides_so}
use Rattle.event_decision.proofs.Decided as D
use Rattle.acts.specs.Turn.{Reader, fresh, Turn, first, user_text, no_body, body_with_ref, body_with_member, turn_of, turn}

-- what is true of a turn, where there is one
abbrev pub OfTurn : (Turn → Type 0) → Field Turn → Type 0
OfTurn P (got t) = P t
OfTurn P (bad r) = Unit {0}

pub of_turn : (P : Turn → Type 0) {f : Field Turn} {t : Turn} → OfTurn P f → f ≡ got t → P t
of_turn P h e = rw e at h

-- "An `other` event does nothing."
pub other_does_nothing : (line : Bytes) (r : Reader) → event_of line ≡ reads others → turn line r ≡ got (record { reader = r; texts = []; act = None })
unfolding turn turn_of decide
other_does_nothing line r e = rw (e, decides_so r.place D.other)

-- ---- refusals

refused_so : (d : Decision) (r : Reader) → refusal_of (turn_of d r) ≡ refusal_in d
unfolding turn_of
refused_so (refuses x) r = refl
refused_so (moves p) r = refl
refused_so (begins true p id m b) r = refl
refused_so (begins false p id m b) r = refl
refused_so (deletes k p id m) r = refl
refused_so (tags p t) r = refl
refused_so (refers p z) r = refl
refused_so (joins p m) r = refl
refused_so (ends p) r = refl

-- a line is refused by the first row of its table that holds, at the place of its reader and whatever that has put together
pub turn_first : (line : Bytes) (r : Reader) → refusal_of (turn line r) ≡ first_of (decide_table line r.place)
unfolding turn
turn_first line r = refused_so (decide line r.place) r ∙ decide_first line r.place

-- ---- acts

-- the act of what an event comes to, if there is one
abbrev pub act_in : Field Turn → Option (Act Bytes)
act_in (got t) = t.act
act_in (bad x) = None

-- a line makes an act, by what it reads as
pub data Made (r : Reader) : Reading → Act Bytes → Type 0 where
  -- the close of an element in a `create` or `modify` section
  at_close : r.place.level ≡ L.Element → Pushing r.place → Made r (reads closes) (push r.staged.id r.staged.held)
  -- an empty element there
  at_empty : {n : Bytes} {attrs : List Attr} {k : Kind} {q : Place} {id : ℤ} {m : Meta Bytes} {b : Body Bytes} → opened true (name_of n) r.place ≡ O.Begins k q → Pushing r.place
      → id_field attrs ≡ got id → metadata_of attrs ≡ got m → body_for k attrs ≡ got b → Made r (reads (starts true n attrs)) (push id (first m b))
  -- the opening of an element, empty or not, in a `delete` section
  at_opening : {e : Bool} {n : Bytes} {attrs : List Attr} {k : Kind} {q : Place} {id : ℤ} {m : Meta Bytes} → opened e (name_of n) r.place ≡ O.Begins k q → r.place.section ≡ A.Delete
      → id_field attrs ≡ got id → metadata_of attrs ≡ got m → Made r (reads (starts e n attrs)) (delete k id (claim_of m))

module _ (r : Reader) {a : Act Bytes} where
  begin_makes : (e : Bool) {n : Bytes} {attrs : List Attr} {k : Kind} {q : Place} (id : ℤ) (m : Meta Bytes) (b : Body Bytes) → opened e (name_of n) r.place ≡ O.Begins k q → Pushing r.place
      → id_field attrs ≡ got id → metadata_of attrs ≡ got m → body_for k attrs ≡ got b → act_in (turn_of (begins e q id m b) r) ≡ Some a → Made r (reads (starts e n attrs)) a
  unfolding turn_of
  begin_makes true id m b o h i j x e = let s : push id (first m b) ≡ a = cc in rw (← s) (at_empty o h i j x)
  begin_makes false id m b o h i j x e = no (cc)

  start_makes : (e : Bool) {n : Bytes} {attrs : List Attr} {d : Decision} (o : Opened) → opened e (name_of n) r.place ≡ o → Starts r.place e attrs o d
      → act_in (turn_of d r) ≡ Some a → Made r (reads (starts e n attrs)) a
  unfolding turn_of
  start_makes e o h (D.begin {id = id} {m = m} {b = b} p i j x) y = begin_makes e id m b h p i j x y
  start_makes e o h (D.delete {k = k} {id = id} {m = m} s i j) y = let z : delete k id (claim_of m) ≡ a = cc in rw (← z) (at_opening h s i j)
  start_makes e o h (D.refuse x) y = no (cc)
  start_makes e o h D.goes y = no (cc)
  start_makes e o h (D.tag p f) y = no (cc)
  start_makes e o h (D.ref p f) y = no (cc)
  start_makes e o h (D.member p f) y = no (cc)
  start_makes e o h (D.drop s c) y = no (cc)

  makes : {x : Reading} {d : Decision} → Decides r.place x d → act_in (turn_of d r) ≡ Some a → Made r x a
  unfolding turn_of
  makes D.bad_line y = no (cc)
  makes (D.start {e = e} {n = n} s) y = start_makes e (opened e (name_of n) r.place) refl s y
  makes (D.end l p) y = let z : push r.staged.id r.staged.held ≡ a = cc in rw (← z) (at_close l p)
  makes (D.close h) y = no (cc)
  makes D.other y = no (cc)

started : (p : Place) (e : Bool) (n : Bytes) (attrs : List Attr) {o : Opened} {d : Decision} → opened e (name_of n) p ≡ o → Starts p e attrs o d
    → decide_reading (reads (starts e n attrs)) p ≡ d
started p e n attrs h s = decides_so p (D.start {e = e} {n = n} {attrs = attrs} (rw h s))

made : (r : Reader) {x : Reading} {a : Act Bytes} → Made r x a → act_in (turn_of (decide_reading x r.place) r) ≡ Some a
unfolding turn_of
made r (at_close l p) = rw (decides_so r.place (D.end l p))
made r (at_empty {n = n} {attrs = attrs} o p i j x) = rw (started r.place true n attrs o (D.begin p i j x))
made r (at_opening {e = e} {n = n} {attrs = attrs} o s i j) = rw (started r.place e n attrs o (D.delete s i j))

-- an act is made exactly there
pub act_made : (line : Bytes) (r : Reader) (a : Act Bytes) → (act_in (turn line r) ≡ Some a) ↔ Made r (event_of line) a
unfolding turn decide
act_made line r a = (λ h. makes r (decided r.place (event_of line)) h, λ h. made r h)

-- ---- the reader

-- the element that a reader puts together is of the kind that stands open there
abbrev pub KindAgrees : Reader → Type 0
KindAgrees r = kind_of r.staged.held.body ≡ r.place.kind

no_body_kind : (k : Kind) → kind_of (no_body k) ≡ k
no_body_kind K.Node = refl
no_body_kind K.Way = refl
no_body_kind K.Relation = refl

ref_kind : (z : ℤ) (b : Body Bytes) → kind_of (body_with_ref z b) ≡ kind_of b
ref_kind z (place lat lon) = refl
ref_kind z (refs rs) = refl
ref_kind z (members ms) = refl

member_kind : (m : Member Bytes) (b : Body Bytes) → kind_of (body_with_member m b) ≡ kind_of b
member_kind m (place lat lon) = refl
member_kind m (refs rs) = refl
member_kind m (members ms) = refl

pub fresh_agrees : KindAgrees fresh
fresh_agrees = refl

agrees : (d : Decision) (r : Reader) → Lawful r.place d → KindAgrees r → OfTurn (λ t. KindAgrees t.reader) (turn_of d r)
unfolding turn_of
agrees (refuses x) r l h = tt
agrees (moves p) r l h = h ∙ sym l
agrees (begins true p id m b) r l h = no_body_kind p.kind
agrees (begins false p id m b) r l h = sym l.1.1
agrees (deletes k p id m) r l h = no_body_kind p.kind
agrees (tags p t) r l h = h ∙ sym l.0
agrees (refers p z) r l h = ref_kind z r.staged.held.body ∙ h ∙ sym l.0
agrees (joins p m) r l h = member_kind m r.staged.held.body ∙ h ∙ sym l.0
agrees (ends p) r l h = no_body_kind p.kind

-- every turn keeps that
pub turn_agrees : (line : Bytes) (r : Reader) {t : Turn} → KindAgrees r → turn line r ≡ got t → KindAgrees t.reader
unfolding turn
turn_agrees line r h e = of_turn (λ t. KindAgrees t.reader) (agrees (decide line r.place) r (decide_lawful line r.place) h) e

-- ---- texts

-- every value of a line passes a test
abbrev pub values_in : (Bytes → Bool) → Reading → Bool
values_in p (reads (starts e n attrs)) = all (λ a. p a.value) attrs
values_in p (reads closes) = true
values_in p (reads others) = true
values_in p (refused r) = true

-- the texts that an event takes in are values of its line, or empty: what holds of those holds of them
module _ (p : Bytes → Bool) (empty : p [] ≡ true) where
  abbrev Texts : Field Turn → Type 0
  Texts = OfTurn (λ t. all p t.texts ≡ true)

  one : {t : Bytes} → p t ≡ true → all p (t ∷ []) ≡ true
  one {t} h = all_cons p t [] h (all_nil p)

  user_all : (m : Meta Bytes) → p m.user ≡ true → all p (user_text m) ≡ true
  user_all m h = by_bool (flagged 4 m.flags) (λ t. rw t (one h)) (λ t. rw t (all_nil p))

  role_all : (attrs : List Attr) (o : Option Bytes) → all (λ a. p a.value) attrs ≡ true → value_of (ascii "role") attrs ≡ o → p (or_empty o) ≡ true
  role_all attrs None h e = empty
  role_all attrs (Some v) h e = value_all p (ascii "role") attrs h e

  module _ (r : Reader) where
    begun_texts : (e : Bool) (q : Place) (id : ℤ) (m : Meta Bytes) (b : Body Bytes) → all p (user_text m) ≡ true → Texts (turn_of (begins e q id m b) r)
    unfolding turn_of
    begun_texts true q id m b h = h
    begun_texts false q id m b h = h

    start_texts : (e : Bool) (attrs : List Attr) {d : Decision} {o : Opened} → all (λ a. p a.value) attrs ≡ true → Starts r.place e attrs o d → Texts (turn_of d r)
    unfolding turn_of
    start_texts e attrs h (D.refuse x) = tt
    start_texts e attrs h D.goes = all_nil p
    start_texts e attrs h (D.begin {q = q} {id = id} {m = m} {b = b} s i j x) = begun_texts e q id m b (user_all m (meta_user p attrs empty h j))
    start_texts e attrs h (D.delete {m = m} s i j) = user_all m (meta_user p attrs empty h j)
    start_texts e attrs h (D.tag {t = t} s f) = one (value_all p (ascii "k") attrs h ((tag_got attrs t).0 f).0)
    start_texts e attrs h (D.ref s f) = all_nil p
    start_texts e attrs h (D.member {m = m} s f) = one (rw ((member_got attrs m).0 f).1.1 (role_all attrs (value_of (ascii "role") attrs) h refl))
    start_texts e attrs h (D.drop s c) = all_nil p

    texts : {x : Reading} {d : Decision} → values_in p x ≡ true → Decides r.place x d → Texts (turn_of d r)
    unfolding turn_of
    texts h D.bad_line = tt
    texts h (D.start {e = e} {attrs = attrs} s) = start_texts e attrs h s
    texts h (D.end l s) = all_nil p
    texts h (D.close c) = all_nil p
    texts h D.other = all_nil p

  pub texts_all : (line : Bytes) (r : Reader) {t : Turn} → values_in p (event_of line) ≡ true → turn line r ≡ got t → all p t.texts ≡ true
  unfolding turn decide
  texts_all line r h e = of_turn (λ t. all p t.texts ≡ true) (texts r h (decided r.place (event_of line))) e
