-- Lists of calls: readers do not disturb each other, refused calls change nothing, texts only grow, and a longer list goes on where a shorter one ended.
use Rattle.std.specs.Prelude.{None, Option, Some}
use Prim.Native.Nat.{ℕ, ◌<◌}
use mathlib.Core.Path.{◌≡◌, refl, sym, ◌∙◌, ap}
use mathlib.Core.Bool.{Bool, true, false, cond}
use mathlib.Core.List.{List, [], ◌∷◌, ◌++◌}
use lib.Dec.{eqb}
use borrow.Author.Tests.{ne_eqb, eq-eqb, eqb-true}
use lib.ListN.{length}
use Rattle.base.specs.Bytes.{Bytes, both, all, same}
use Rattle.base.proofs.Split.{by_bool, no}
use Rattle.interner.specs.Texts.{handle_of, take_in, take_all_of, no_texts, text_of}
use Rattle.distinct.specs.Distinct.{distinct}
use Rattle.interner.specs.Sound.{first_empty}
use Rattle.interner.proofs.Held.{take_held, take_new, grown_all, text_stays_all, distinct_new, first_empty_more, empty_handle, handle_new, raised}
use Rattle.model.specs.Act.{Act}
use Rattle.event_fields.specs.Field.{Field, got, bad}
use Rattle.acts.specs.Turn.{Reader, fresh, Turn, turn}
use Rattle.acts.specs.Call.{Call, interns, pushes, deletes, reads, ends, allows, Answered, World, begin, turned, outcome, acts_before, world_after, acts_from, acts_of, line_read, lines_read}
use Rattle.acts.proofs.Turns.{act_in, KindAgrees, fresh_agrees, turn_agrees}

-- ---- refused calls

abbrev pub refused_call : Call → Answered
refused_call c = record { call = c; accepted = false }

abbrev pub taken_call : Call → Answered
taken_call c = record { call = c; accepted = true }

-- a refused call leaves what was there, and is no act
pub refused_leaves : (w : World) (c : Call) (cs : List Answered) → world_after w (refused_call c ∷ cs) ≡ world_after w cs
unfolding world_after
refused_leaves w c cs = refl

pub refused_skipped : (w : World) (c : Call) (cs : List Answered) → acts_from w (refused_call c ∷ cs) ≡ acts_from w cs
unfolding acts_from
refused_skipped w c cs = refl

-- an accepted one goes on from what it leaves, and counts
pub taken_leaves : (w : World) (c : Call) (cs : List Answered) → world_after w (taken_call c ∷ cs) ≡ world_after (outcome w c).world cs
unfolding world_after
taken_leaves w c cs = refl

pub taken_counts : (w : World) (c : Call) (cs : List Answered) → acts_from w (taken_call c ∷ cs) ≡ acts_before (outcome w c).act (acts_from (outcome w c).world cs)
unfolding acts_from
taken_counts w c cs = refl

-- an event's act is its turn's
pub event_act : (w : World) (n : ℕ) (s : Bytes) → (outcome w (reads n s)).act ≡ act_in (turn s (w.readers n))
unfolding outcome
event_act w n s = go (turn s (w.readers n))
  where
    go : (f : Field Turn) → (turned w n f).act ≡ act_in f
    go (got t) = refl
    go (bad x) = refl

-- so the acts are those of the accepted calls alone
unfoldable pub taken_only : List Answered → List Answered
taken_only [] = []
taken_only (c ∷ cs) = cond c.accepted (c ∷ taken_only cs) (taken_only cs)

pub taken_world : (w : World) (cs : List Answered) → world_after w (taken_only cs) ≡ world_after w cs
unfolding world_after taken_only
taken_world w [] = refl
taken_world w (c ∷ cs) = by_bool c.accepted (λ t. rw t (taken_world (outcome w c.call).world cs)) (λ t. rw t (taken_world w cs))

pub taken_acts : (w : World) (cs : List Answered) → acts_from w (taken_only cs) ≡ acts_from w cs
unfolding acts_from taken_only
taken_acts w [] = refl
taken_acts w (c ∷ cs) =
    by_bool c.accepted
    (λ t. rw t (ap (acts_before (outcome w c.call).act) (taken_acts (outcome w c.call).world cs)))
    (λ t. rw t (taken_acts w cs))

-- ---- two lists, one after the other

before_append : (o : Option (Act Bytes)) (xs ys : List (Act Bytes)) → acts_before o (xs ++ ys) ≡ acts_before o xs ++ ys
before_append None xs ys = refl
before_append (Some a) xs ys = refl

pub world_append : (w : World) (cs ds : List Answered) → world_after w (cs ++ ds) ≡ world_after (world_after w cs) ds
unfolding world_after
world_append w [] ds = refl
world_append w (c ∷ cs) ds = by_bool c.accepted (λ t. rw t (world_append (outcome w c.call).world cs ds)) (λ t. rw t (world_append w cs ds))

pub acts_append : (w : World) (cs ds : List Answered) → acts_from w (cs ++ ds) ≡ acts_from w cs ++ acts_from (world_after w cs) ds
unfolding acts_from world_after
acts_append w [] ds = refl
acts_append w (c ∷ cs) ds =
    by_bool c.accepted
    (λ t. rw t (ap (acts_before (outcome w c.call).act) (acts_append (outcome w c.call).world cs ds) ∙ before_append (outcome w c.call).act _ _))
    (λ t. rw t (acts_append w cs ds))

pub acts_of_append : (cs ds : List Answered) → acts_of (cs ++ ds) ≡ acts_of cs ++ acts_from (world_after begin cs) ds
unfolding acts_of
acts_of_append cs ds = acts_append begin cs ds

-- ---- readers

-- an event of a reader leaves every other as it was
pub other_reader : (w : World) (n m : ℕ) (s : Bytes) → (m ≡ n → ⊥) → (outcome w (reads n s)).world.readers m ≡ w.readers m
unfolding outcome
other_reader w n m s h = go (turn s (w.readers n))
  where
    go : (f : Field Turn) → (turned w n f).world.readers m ≡ w.readers m
    go (bad x) = refl
    go (got t) = ap (λ (b : Bool). cond b t.reader (w.readers m)) (ne_eqb m n h)

-- its own reader goes on as the event leaves it
pub own_reader : (w : World) (n : ℕ) (s : Bytes) (t : Turn) → turn s (w.readers n) ≡ got t → (outcome w (reads n s)).world.readers n ≡ t.reader
unfolding outcome
own_reader w n s t e = rw (e, eq-eqb n n refl)

-- a reader after such lines
abbrev pub reader_left : Reader → Field Turn → Reader
reader_left r (got t) = t.reader
reader_left r (bad x) = r

unfoldable pub reader_after : Reader → List Bytes → Reader
reader_after r [] = r
reader_after r (s ∷ ss) = reader_after (reader_left r (turn s r)) ss

turn_left : (w : World) (m n : ℕ) (f : Field Turn) → (turned w m f).world.readers n ≡ cond (eqb n m) (reader_left (w.readers m) f) (w.readers n)
turn_left w m n (got t) = refl
turn_left w m n (bad x) = by_bool (eqb n m) (λ q. rw q (ap w.readers (eqb-true n m q))) (λ q. rw q)

lines_left : (w : World) (n : ℕ) (c : Call) (ls : List Bytes) → reader_after ((outcome w c).world.readers n) ls ≡ reader_after (w.readers n) (line_read n c ls)
unfolding outcome reader_after
lines_left w n (interns t) ls = refl
lines_left w n (pushes id None) ls = refl
lines_left w n (pushes id (Some r)) ls = refl
lines_left w n (deletes k id m) ls = refl
lines_left w n (reads m s) ls =
    by_bool (eqb n m)
    (λ q. rw (turn_left w m n (turn s (w.readers m)), q) (ap (λ (k : ℕ). reader_after (reader_left (w.readers k) (turn s (w.readers k))) ls) (sym (eqb-true n m q))))
    (λ q. rw (turn_left w m n (turn s (w.readers m)), q))
lines_left w n (ends m) ls = refl
lines_left w n (allows setting) ls = refl

-- where a reader stands goes by its own accepted lines alone
pub reader_alone : (w : World) (cs : List Answered) (n : ℕ) → (world_after w cs).readers n ≡ reader_after (w.readers n) (lines_read n cs)
unfolding world_after reader_after lines_read
reader_alone w [] n = refl
reader_alone w (c ∷ cs) n =
    by_bool c.accepted
    (λ t. rw t (reader_alone (outcome w c.call).world cs n ∙ lines_left w n c.call (lines_read n cs)))
    (λ t. rw t (reader_alone w cs n))

-- in every reader the element is of the kind that stands open
lines_agree : (r : Reader) (lines : List Bytes) → KindAgrees r → KindAgrees (reader_after r lines)
unfolding reader_after
lines_agree r [] h = h
lines_agree r (line ∷ lines) h = lines_agree (reader_left r (turn line r)) lines (go (turn line r) refl)
  where
    go : (f : Field Turn) → turn line r ≡ f → KindAgrees (reader_left r f)
    go (got t) e = turn_agrees line r h e
    go (bad x) e = h

-- in every list, and at every place of it
pub reached_agrees : (cs : List Answered) (n : ℕ) → KindAgrees ((world_after begin cs).readers n)
reached_agrees cs n = rw (reader_alone begin cs n) (lines_agree fresh (lines_read n cs) fresh_agrees)

-- ---- texts

-- the texts that a call takes in, held already or not
abbrev pub turn_texts : Field Turn → List Bytes
turn_texts (got t) = t.texts
turn_texts (bad x) = []

abbrev pub texts_by : World → Call → List Bytes
texts_by w (interns t) = t ∷ []
texts_by w (pushes id r) = []
texts_by w (deletes k id m) = []
texts_by w (reads n s) = turn_texts (turn s (w.readers n))
texts_by w (ends n) = []
texts_by w (allows setting) = []

-- and those of a list of calls, in order
unfoldable pub texts_from : World → List Answered → List Bytes
texts_from w [] = []
texts_from w (c ∷ cs) = elim c.accepted [ true ↦ texts_by w c.call ++ texts_from (outcome w c.call).world cs | false ↦ texts_from w cs ]

call_texts : (w : World) (c : Call) → (outcome w c).world.texts ≡ take_all_of w.texts (texts_by w c)
unfolding outcome take_all_of
call_texts w (interns t) = refl
call_texts w (pushes id None) = refl
call_texts w (pushes id (Some r)) = refl
call_texts w (deletes k id m) = refl
call_texts w (reads n s) = go (turn s (w.readers n))
  where
    go : (f : Field Turn) → (turned w n f).world.texts ≡ take_all_of w.texts (turn_texts f)
    go (got t) = refl
    go (bad x) = refl
call_texts w (ends n) = refl
call_texts w (allows setting) = refl

take_append : (held xs ys : List Bytes) → take_all_of held (xs ++ ys) ≡ take_all_of (take_all_of held xs) ys
unfolding take_all_of
take_append held [] ys = refl
take_append held (x ∷ xs) ys = take_append (take_in held x) xs ys

-- what is held after a list of calls is what its texts, taken in one after the other, make of what was held
pub texts_after : (w : World) (cs : List Answered) → (world_after w cs).texts ≡ take_all_of w.texts (texts_from w cs)
unfolding world_after texts_from take_all_of
texts_after w [] = refl
texts_after w (c ∷ cs) =
    by_bool c.accepted
    (λ t. rw t (texts_after (outcome w c.call).world cs ∙ (ap (λ (x : List Bytes). take_all_of x (texts_from (outcome w c.call).world cs)) (call_texts w c.call) ∙ sym (take_append w.texts (texts_by w c.call) _))))
    (λ t. rw t (texts_after w cs))

-- texts only grow
pub texts_grow : (w : World) (cs : List Answered) → (more : List Bytes) × ((world_after w cs).texts ≡ w.texts ++ more)
texts_grow w cs = let g = grown_all w.texts (texts_from w cs) in (g.0, texts_after w cs ∙ g.1)

-- a held handle's text never changes
pub text_kept : (w : World) (cs : List Answered) (h : ℕ) → h < length w.texts → text_of (world_after w cs).texts h ≡ text_of w.texts h
text_kept w cs h l = rw (texts_after w cs) (text_stays_all w.texts (texts_from w cs) h l)

-- no text is held twice, and the empty text has handle 0
take_distinct : (held : List Bytes) (t : Bytes) → distinct held ≡ true → distinct (take_in held t) ≡ true
take_distinct held t d = go (handle_of t held) refl
  where
    go : (o : Option ℕ) → handle_of t held ≡ o → distinct (take_in held t) ≡ true
    go None e = rw (take_new held t e) (distinct_new held t d e)
    go (Some h) e = rw (take_held held t h e) d

pub all_distinct : (held ts : List Bytes) → distinct held ≡ true → distinct (take_all_of held ts) ≡ true
unfolding take_all_of
all_distinct held [] d = d
all_distinct held (t ∷ ts) d = all_distinct (take_in held t) ts (take_distinct held t d)

pub all_first_empty : (held ts : List Bytes) → first_empty held ≡ true → first_empty (take_all_of held ts) ≡ true
all_first_empty held ts e = let g = grown_all held ts in rw g.1 (first_empty_more held g.0 e)

pub reached_distinct : (cs : List Answered) → distinct (world_after begin cs).texts ≡ true
unfolding distinct all both
reached_distinct cs = rw (texts_after begin cs) (all_distinct no_texts (texts_from begin cs) refl)

pub reached_empty : (cs : List Answered) → handle_of [] (world_after begin cs).texts ≡ Some 0
unfolding first_empty same
reached_empty cs = rw (texts_after begin cs) (empty_handle (take_all_of no_texts (texts_from begin cs)) (all_first_empty no_texts (texts_from begin cs) refl))

-- a text keeps its handle
handle_more : (t : Bytes) (held x : List Bytes) (h : ℕ) → handle_of t held ≡ Some h → handle_of t (held ++ x) ≡ Some h
unfolding handle_of
handle_more t [] x h e = no (cc)
handle_more t (s ∷ ss) x h e =
    by_bool (same t s)
    (λ p. rw p (rw p at e))
    (λ p. let r = raised (handle_of t ss) h (rw p at e) in rw (p, handle_more t ss x r.0 r.1.0) (ap {B = Option ℕ} Some r.1.1))

pub handle_kept : (w : World) (cs : List Answered) (t : Bytes) (h : ℕ) → handle_of t w.texts ≡ Some h → handle_of t (world_after w cs).texts ≡ Some h
handle_kept w cs t h e = let g = texts_grow w cs in rw g.1 (handle_more t w.texts g.0 h e)

-- "n stands for the n-th new text taken in": a new text gets the number of those before it as its handle, for good
pub new_handle : (w : World) (cs : List Answered) (t : Bytes) → handle_of t w.texts ≡ None → handle_of t (world_after w (taken_call (interns t) ∷ cs)).texts ≡ Some (length w.texts)
unfolding world_after outcome
new_handle w cs t e = handle_kept (record { texts = take_in w.texts t; readers = w.readers }) cs t (length w.texts) (rw (take_new w.texts t e) (handle_new t w.texts e))
