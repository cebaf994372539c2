-- Reading and writing are inverse: a legal event is read back from its line, and a line that reads as an event is that event's line.
use Rattle.std.specs.Prelude.{None, Option, Some}
use Prim.Native.Nat.{◌<◌, ◌≤◌}
use mathlib.Core.Path.{◌≡◌, refl, sym, ◌∙◌, ap}
use mathlib.Core.Bool.{Bool, true, false, not, cond}
use mathlib.Core.List.{List, [], ◌∷◌, ◌++◌}
use mathlib.Core.Logic.{◌↔◌}
use lib.Dec.{eqb}
use lib.ListN.{length}
use borrow.Author.Tests.{lt-ltb, le-ltb, le-leb, leb-true, not-true}
use Rattle.base.specs.Ascii.{ascii}
use Rattle.base.specs.Bytes.{Bytes, all}
use Rattle.base.proofs.Split.{by_bool, by_lt, no, both_left, both_right, both_of}
use Rattle.refusal.specs.declared.Refusal.TheVariants.{LongLine, NotText, NotEventLine}
use Rattle.text.specs.Check.{is_text}
use Rattle.text.proofs.Texts.{all_imp}
use Rattle.line.specs.Line.{plain_field, fields, tabbed, line}
use Rattle.line.proofs.Lines.{fields_line, tabbed_fields}
use Rattle.event.specs.Event.{Attr, Event, starts, closes, others, Reading, reads, refused, unended, body, legal_line, is_empty, attr_fields, none_twice, event_in, event_of, start_word, event_fields, line_of}
use Rattle.event.specs.Legal.{legal_field, legal_name, legal_attr, legal_parts, legal_event}
use Rattle.event.proofs.Parts.{unended_line, unended_some, unbroken, fields_legal, tabbed_legal}
use Rattle.event.proofs.Fields.{event_legal, fields_read, fields_back}

-- ---- the order of the tests

chosen : (t : Bool) (a b : Reading) → t ≡ true → cond t a b ≡ a
chosen t a b h = rw h

pub judged_long : (s : Bytes) → 16384 < length (body s) → event_of s ≡ refused LongLine
unfolding event_of
judged_long s h = chosen _ _ _ (lt-ltb 16384 (length (body s)) h)

module _ (s : Bytes) (h : length (body s) ≤ 16384) where
  pub judged_illegal : legal_line (body s) ≡ false → event_of s ≡ refused NotText
  unfolding event_of
  judged_illegal k = rw (le-ltb 16384 (length (body s)) h, k)

  pub judged_legal : legal_line (body s) ≡ true → event_of s ≡ event_in (unended s)
  unfolding event_of
  judged_legal k = rw (le-ltb 16384 (length (body s)) h, k)

pub judge : {C : Type 0} (s : Bytes) → (16384 < length (body s) → event_of s ≡ refused LongLine → C)
    → (length (body s) ≤ 16384 → legal_line (body s) ≡ false → event_of s ≡ refused NotText → C)
    → (length (body s) ≤ 16384 → legal_line (body s) ≡ true → event_of s ≡ event_in (unended s) → C) → C
judge s f g k =
    by_lt 16384 (length (body s))
    (λ h. f h (judged_long s h))
    (λ h. by_bool (legal_line (body s)) (λ t. k h t (judged_legal s h t)) (λ t. g h t (judged_illegal s h t)))

-- ---- an event that is written

fields_event : (e : Event) → all plain_field (event_fields e) ≡ true → fields (tabbed (event_fields e)) ≡ event_fields e
fields_event (starts empty n attrs) h = fields_line (start_word empty) (n ∷ attr_fields attrs) h
fields_event closes h = fields_line (ascii "close") [] h
fields_event others h = fields_line (ascii "other") [] h

field_plain : (f : Bytes) → legal_field f ≡ true → plain_field f ≡ true
unfolding legal_field
field_plain f h = both_left _ _ h

unended_event : (e : Event) → unended (line_of e) ≡ Some (tabbed (event_fields e))
unfolding line_of line
unended_event e = unended_line (tabbed (event_fields e))

body_event : (e : Event) → body (line_of e) ≡ tabbed (event_fields e)
body_event e = rw (unended_event e)

-- what is written is read back
pub reads_back : (e : Event) → legal_event e ≡ true → event_of (line_of e) ≡ reads e
unfolding legal_event unbroken
reads_back e h =
    let p = both_left _ _ h in
    let l = event_legal e p in
    let b = tabbed_legal (event_fields e) l in
    judged_legal (line_of e) (rw (body_event e) (leb-true (length (tabbed (event_fields e))) 16384 (both_right _ _ h))) (rw (body_event e) (both_left _ _ b))
    ∙ rw (unended_event e, both_right (legal_line (tabbed (event_fields e))) _ b, fields_event e (all_imp legal_field plain_field field_plain (event_fields e) l))
    (fields_read e p)

-- ---- a line that is read

-- the line t without its line feed reads as an event
event_in_back : (t : Bytes) (e : Event) → length t ≤ 16384 → legal_line t ≡ true → event_in (Some t) ≡ reads e → (line_of e ≡ t ++ (10 ∷ [])) × (legal_event e ≡ true)
unfolding line_of line legal_event unbroken
event_in_back t e l k q =
    by_bool (all (λ b. not (eqb b 10)) t)
    (λ f. let w = fields_back (fields t) e (fields_legal t (both_of k f)) (rw f at q) in
    let d : tabbed (event_fields e) ≡ t = ap tabbed w.0 ∙ tabbed_fields t in
    (ap (◌++ (10 ∷ [])) d, both_of w.1 (rw d (le-leb (length t) 16384 l))))
    (λ f. let z : refused NotEventLine ≡ reads e = rw f at q in no (cc))

unended_back : (s : Bytes) (o : Option Bytes) (e : Event) → unended s ≡ o → length (body s) ≤ 16384 → legal_line (body s) ≡ true → event_in o ≡ reads e
    → (line_of e ≡ s) × (legal_event e ≡ true)
unended_back s None e p l k q = no (cc)
unended_back s (Some t) e p l k q =
    let w = event_in_back t e (rw p at l) (rw p at k) q in
    (w.0 ∙ sym (unended_some s t p), w.1)

-- what is read is what was written: reading loses nothing
pub writes_back : (s : Bytes) (e : Event) → event_of s ≡ reads e → (line_of e ≡ s) × (legal_event e ≡ true)
writes_back s e q =
    judge s
    (λ h x. let z : refused LongLine ≡ reads e = sym x ∙ q in no (cc))
    (λ h k x. let z : refused NotText ≡ reads e = sym x ∙ q in no (cc))
    (λ h k x. unended_back s (unended s) e refl h k (sym x ∙ q))

-- a line reads as an event exactly when the event is legal and the line is its line
pub reads_exactly : (s : Bytes) (e : Event) → (event_of s ≡ reads e) ↔ ((legal_event e ≡ true) × (line_of e ≡ s))
reads_exactly s e = ((λ q. let w = writes_back s e q in (w.1, w.0)), (λ h. sym (ap event_of h.1) ∙ reads_back e h.0))

-- two lines that read as the same event are the same line
pub same_line : (s t : Bytes) (e : Event) → event_of s ≡ reads e → event_of t ≡ reads e → s ≡ t
same_line s t e p q = sym (writes_back s e p).0 ∙ (writes_back t e q).0

-- two legal events with the same line are the same event
pub same_event : (d e : Event) → legal_event d ≡ true → legal_event e ≡ true → line_of d ≡ line_of e → d ≡ e
same_event d e h k q = let z : reads d ≡ reads e = sym (reads_back d h) ∙ ap event_of q ∙ reads_back e k in cc

-- ---- what an accepted event holds

module _ (s : Bytes) (empty : Bool) (n : Bytes) (attrs : List Attr) (q : event_of s ≡ reads (starts empty n attrs)) where
  parts_legal : legal_parts (starts empty n attrs) ≡ true
  unfolding legal_event
  parts_legal = both_left _ _ (writes_back s (starts empty n attrs) q).1

  name_legal : legal_name n ≡ true
  unfolding legal_parts
  name_legal = both_left _ _ parts_legal

  -- its name is not empty, text and plain
  pub name_some : is_empty n ≡ false
  unfolding legal_name
  name_some = not-true (is_empty n) (both_left _ _ name_legal)

  pub name_plain : plain_field n ≡ true
  unfolding legal_name legal_field
  name_plain = both_left _ _ (both_right _ _ name_legal)

  pub name_text : is_text n ≡ true
  unfolding legal_name legal_field
  name_text = both_right _ _ (both_right _ _ name_legal)

  -- its attributes are legal, and none is there twice
  pub attrs_legal : all legal_attr attrs ≡ true
  unfolding legal_parts
  attrs_legal = both_left _ _ (both_right _ _ parts_legal)

  pub attrs_once : none_twice attrs ≡ true
  unfolding legal_parts
  attrs_once = both_right _ _ (both_right _ _ parts_legal)

  -- each attribute's name is plain and text, and its value is text
  pub attr_names_plain : all (λ a. plain_field a.name) attrs ≡ true
  unfolding legal_attr legal_name legal_field
  attr_names_plain = all_imp legal_attr (λ a. plain_field a.name) (λ a h. both_left _ _ (both_right _ _ (both_left _ _ h))) attrs attrs_legal

  pub attr_names_text : all (λ a. is_text a.name) attrs ≡ true
  unfolding legal_attr legal_name legal_field
  attr_names_text = all_imp legal_attr (λ a. is_text a.name) (λ a h. both_right _ _ (both_right _ _ (both_left _ _ h))) attrs attrs_legal

  pub values_text : all (λ a. is_text a.value) attrs ≡ true
  unfolding legal_attr
  values_text = all_imp legal_attr (λ a. is_text a.value) (λ a h. both_right _ _ (both_right _ _ h)) attrs attrs_legal
