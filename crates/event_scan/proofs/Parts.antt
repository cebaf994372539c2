-- Laws of a text parted by the first of a byte: the first place of the byte, and the fields of a line and a field's name and value by it.
use Rattle.std.specs.Prelude.{None, Option, Some, option_map, is_some, IfSome}
use Rattle.std.specs.Borrow.{Bor}
use Prim.Native.Nat.{ℕ, zero, suc, ◌+◌, ◌<◌, ◌≤◌}
use mathlib.Core.Path.{◌≡◌, refl, sym, ◌∙◌, ap}
use mathlib.Core.Bool.{true, false, cond}
use mathlib.Core.List.{List, [], ◌∷◌, map, append-nil}
use mathlib.Core.Logic.{◌⊎◌, inl, inr}
use native.Mathlib.Omega.{arith}
use lib.Dec.{eqb}
use lib.ListN.{length, get_or, take, drop, length-drop}
use lib.Seq.{take-length, length-take-le, drop-length}
use borrow.Author.Tests.{eq-eqb, ne_eqb}
use Rattle.std.specs.List.{slice_range}
use Rattle.std.specs.Option.{MatchOption}
use Rattle.std.proofs.lemmas.List.{drop_all}
use Rattle.std.proofs.lemmas.List.Folds.{drop_split}
use Rattle.base.specs.Bytes.{Bytes, both, same}
use Rattle.base.proofs.Split.{by_bool, by_eq, by_le, no, clash}
use Rattle.line.specs.Line.{onto, fields}
use Rattle.text.specs.Escape.{unescape}
use Rattle.event.specs.Event.{Attr, Parted, onto_left, parted, is_empty, attr_with, attr_from, attr_of, or_empty, named, none_twice, value_of}
use Rattle.event_scan.specs.Piece.{there, value_text}
use Rattle.event_scan.specs.Parts.{parted_by, size_left, with_text, written_as, written_in, fields_size, written_size}
use Rattle.event_scan.specs.Scan.{UpTo, fields_at}
use Rattle.event_scan.specs.Fields.{fields_in}
use Rattle.event_scan.proofs.Places.{up_nil, up_cons_here, up_cons, up_within, fields_past, fields_within}

module _ (c : ℕ) where
  pub parted_here : (s : Bytes) (i : ℕ) → i < length s → get_or s i 0 ≡ c → ((k : ℕ) → k < i → get_or s k 0 ≡ c → ⊥)
      → parted_by c s ≡ Some (record { left = take i s; right = drop (suc i) s })
  unfolding parted_by
  parted_here [] i h e n = no (omega arith)
  parted_here (b ∷ s) zero h e n = rw (eq-eqb b c e)
  parted_here (b ∷ s) (suc i) h e n =
      rw (ne_eqb b c (n 0 (omega arith)), parted_here s i (omega arith) e (λ k l. n (suc k) (omega arith)))

  pub parted_nowhere : (s : Bytes) → ((k : ℕ) → k < length s → get_or s k 0 ≡ c → ⊥) → parted_by c s ≡ None
  unfolding parted_by
  parted_nowhere [] n = refl
  parted_nowhere (b ∷ s) n =
      rw (ne_eqb b c (n 0 (omega arith)), parted_nowhere s (λ k l. n (suc k) (omega arith)))

-- a field's name and value
pub parted_is : (f : Bytes) → parted_by 61 f ≡ parted f
unfolding parted_by parted
parted_is [] = refl
parted_is (b ∷ f) = rw (parted_is f)

-- the first field and those behind it
abbrev pub fields_by : Bytes → Option Parted → List Bytes
fields_by s None = s ∷ []
fields_by s (Some p) = p.left ∷ fields p.right

fields_onto : (b : ℕ) (s : Bytes) (o : Option Parted) → onto b (fields_by s o) ≡ fields_by (b ∷ s) (onto_left b o)
unfolding onto
fields_onto b s None = refl
fields_onto b s (Some p) = refl

pub fields_are : (s : Bytes) → fields s ≡ fields_by s (parted_by 9 s)
unfolding fields parted_by
fields_are [] = refl
fields_are (b ∷ s) =
    by_eq b 9
    (λ e. rw (eq-eqb b 9 e))
    (λ n. rw (ne_eqb b 9 n, fields_are s) (fields_onto b s (parted_by 9 s)))

-- ---- a field as an attribute

pub empty_is : (s : Bytes) → is_empty s ≡ eqb (length s) 0
empty_is [] = refl
empty_is (b ∷ s) = sym (ne_eqb (length (b ∷ s)) 0 (λ e. omega arith))

pub attr_nowhere : (f : Bytes) → None ≡ parted_by 61 f → attr_of f ≡ None
unfolding attr_of
attr_nowhere f e = ap attr_from (sym (parted_is f) ∙ sym e)

module _ (f : Bytes) {n v : Bytes} (e : Some (record { left = n; right = v }) ≡ parted_by 61 f) where
  attr_parted : attr_of f ≡ cond (is_empty n) None (attr_with n (unescape v))
  unfolding attr_of
  attr_parted = ap attr_from (sym (parted_is f) ∙ sym e)

  pub attr_nameless : eqb (length n) 0 ≡ true → attr_of f ≡ None
  attr_nameless h = attr_parted ∙ rw (empty_is n, h)

  pub attr_wrong : eqb (length n) 0 ≡ false → there (unescape v) ≡ false → attr_of f ≡ None
  unfolding there
  attr_wrong h w = attr_parted ∙ rw (empty_is n, h) (by_text (unescape v) w)
    where
      by_text : (o : Option Bytes) → there o ≡ false → attr_with n o ≡ None
      by_text None w = refl
      by_text (Some x) w = clash refl w

  pub attr_right : eqb (length n) 0 ≡ false → there (unescape v) ≡ true → attr_of f ≡ Some (record { name = n; value = value_text v })
  unfolding there value_text
  attr_right h w = attr_parted ∙ rw (empty_is n, h) (by_text (unescape v) w)
    where
      by_text : (o : Option Bytes) → there o ≡ true → attr_with n o ≡ Some (record { name = n; value = or_empty o })
      by_text None w = clash w refl
      by_text (Some x) w = refl

-- ---- fields as attributes

-- how far the byte is tells what stands before it and behind it
record Cut (c : ℕ) (s : Bytes) (p : Parted) : Type 0 where
  pub before : p.left ≡ take (UpTo c s) s
  pub behind : p.right ≡ drop (suc (UpTo c s)) s

cut_onto : (c b : ℕ) (s : Bytes) (o : Option Parted) (p : Parted) → (b ≡ c → ⊥) → ((q : Parted) → o ≡ Some q → Cut c s q) → onto_left b o ≡ Some p → Cut c (b ∷ s) p
cut_onto c b s None p n ih e = no (cc)
cut_onto c b s (Some q) p n ih e =
    let w = ih q refl in
    let l : p.left ≡ b ∷ q.left = cc in
    let r : p.right ≡ q.right = cc in
    record { before = rw (up_cons c b s n) (l ∙ ap (b ∷◌) w.before); behind = rw (up_cons c b s n) (r ∙ w.behind) }

cut : (c : ℕ) (s : Bytes) (p : Parted) → parted_by c s ≡ Some p → Cut c s p
unfolding parted_by
cut c [] p e = no (cc)
cut c (b ∷ s) p e =
    by_eq b c
    (λ q. let z : Some (record { left = []; right = s }) ≡ Some p = rw (eq-eqb b c q) at e in
    let l : p.left ≡ [] = cc in
    let r : p.right ≡ s = cc in
    record { before = rw (up_cons_here c b s q) l; behind = rw (up_cons_here c b s q) r })
    (λ n. cut_onto c b s (parted_by c s) p n (cut c s) (rw (ne_eqb b c n) at e))

onto_none : (b : ℕ) (o : Option Parted) → onto_left b o ≡ None → o ≡ None
onto_none b None e = refl
onto_none b (Some p) e = no (cc)

uncut : (c : ℕ) (s : Bytes) → parted_by c s ≡ None → UpTo c s ≡ length s
unfolding parted_by
uncut c [] e = up_nil c
uncut c (b ∷ s) e =
    by_eq b c
    (λ q. let z : Some (record { left = []; right = s }) ≡ None = rw (eq-eqb b c q) at e in no (cc))
    (λ n. rw (up_cons c b s n) (ap suc (uncut c s (onto_none b (parted_by c s) (rw (ne_eqb b c n) at e)))))

pub written_by : (f : Bytes) (p : Parted) → parted f ≡ Some p → written_as f ≡ record { name = p.left; value = p.right }
written_by f p e = let w = cut 61 f p (parted_is f ∙ e) in rw (← w.before, ← w.behind) refl

pub name_found : (f : Bytes) {n v : Bytes} → Some (record { left = n; right = v }) ≡ parted_by 61 f → length n ≡ UpTo 61 f
name_found f h = let w = cut 61 f _ (sym h) in ap length w.before ∙ length-take-le (UpTo 61 f) f (up_within 61 f)

pub name_whole : (f : Bytes) → None ≡ parted_by 61 f → length f ≡ UpTo 61 f
name_whole f h = sym (uncut 61 f (sym h))

module _ (fs : List Bytes) (f : Bytes) (gs : List Bytes) (e : fs ≡ f ∷ gs) where
  pub written_found : {n v : Bytes} → Some (record { left = n; right = v }) ≡ parted_by 61 f → written_in fs ≡ record { name = n; value = v } ∷ written_in gs
  written_found h = rw (e, written_by f _ (sym (parted_is f) ∙ sym h)) refl

  pub written_whole : (v : Bytes) → v ≡ [] → None ≡ parted_by 61 f → written_in fs ≡ record { name = f; value = v } ∷ written_in gs
  written_whole v q h =
      let u = uncut 61 f (sym h) in
      let d : drop (suc (length f)) f ≡ [] = drop_all (suc (length f)) f (omega arith) in
      rw (e, q, u, take-length f, d) refl

-- ---- how long the parts are

record Sizes (s : Bytes) (p : Parted) : Type 0 where
  pub whole : length s ≡ length p.left + (1 + length p.right)

sizes_onto : (b : ℕ) (s : Bytes) (o : Option Parted) (p : Parted) → ((q : Parted) → o ≡ Some q → Sizes s q) → onto_left b o ≡ Some p → Sizes (b ∷ s) p
sizes_onto b s None p ih e = no (cc)
sizes_onto b s (Some q) p ih e =
    let w = (ih q refl).whole in
    let l : p.left ≡ b ∷ q.left = cc in
    let r : p.right ≡ q.right = cc in
    rw (l, r) (record { whole = omega arith })

sizes : (c : ℕ) (s : Bytes) (p : Parted) → parted_by c s ≡ Some p → Sizes s p
unfolding parted_by
sizes c [] p e = no (cc)
sizes c (b ∷ s) p e =
    by_eq b c
    (λ q. let z : Some (record { left = []; right = s }) ≡ Some p = rw (eq-eqb b c q) at e in
    let l : p.left ≡ [] = cc in
    let r : p.right ≡ s = cc in
    rw (l, r) (record { whole = omega arith }))
    (λ n. sizes_onto b s (parted_by c s) p (sizes c s) (rw (ne_eqb b c n) at e))

pub behind_short : (c : ℕ) (s : Bytes) {n v : Bytes} → Some (record { left = n; right = v }) ≡ parted_by c s → length v ≤ length s
behind_short c s e = let w = (sizes c s _ (sym e)).whole in omega arith

field_in_text : (s f : Bytes) (fs : List Bytes) (o : Option Parted) → parted_by 9 s ≡ o → fields_by s o ≡ f ∷ fs → length f ≤ length s
field_in_text s f fs None q e = let z : s ≡ f = cc in rw z (omega arith)
field_in_text s f fs (Some p) q e = let z : p.left ≡ f = cc in let w = (sizes 9 s p q).whole in rw (← z) (omega arith)

pub field_short : (o : Option (Bor Bytes)) (f : Bytes) (fs : List Bytes) → fields_in o ≡ f ∷ fs → length f ≤ size_left o
field_short None f fs e = no (cc)
field_short (Some s) f fs e = field_in_text s.now f fs (parted_by 9 s.now) refl (sym (fields_are s.now) ∙ e)

-- the fields behind a place, if it lies in the text
pub left_behind : (t : Bytes) (at : ℕ) (o : Option (Bor Bytes))
    → MatchOption o ((length t < at) ⊎ (length t < length t)) (λ x. (at ≤ length t) × (length t ≤ length t) × (x.now ≡ slice_range t at (length t)) × (length x.now + at ≡ length t))
    → fields_in o ≡ fields_at t at
left_behind t at None (inl h) = sym (fields_past t at h)
left_behind t at None (inr h) = no (omega arith)
left_behind t at (Some x) (h, _, e, _) =
    let d : drop at t ≡ slice_range t at (length t) = drop_split t at (length t) h ∙ rw (drop-length t) (append-nil (slice_range t at (length t))) in
    ap fields (e ∙ sym d) ∙ sym (fields_within t at h)

-- ---- how long fields and attributes are

onto_size : (b : ℕ) (fs : List Bytes) → fields_size (onto b fs) ≡ 1 + fields_size fs
unfolding fields_size onto
onto_size b [] = omega arith
onto_size b (f ∷ fs) = omega arith

-- the fields of a text are no longer than it
pub fields_short : (s : Bytes) → fields_size (fields s) ≤ length s
unfolding fields_size fields
fields_short [] = omega arith
fields_short (b ∷ s) =
    by_eq b 9
    (λ e. rw (eq-eqb b 9 e) (omega (arith, fields_short s)))
    (λ n. rw (ne_eqb b 9 n, onto_size b (fields s)) (omega (arith, fields_short s)))

field_size : (f : Bytes) → length (take (UpTo 61 f) f) + length (drop (suc (UpTo 61 f)) f) ≤ length f
field_size f = omega (arith, up_within 61 f, length-take-le (UpTo 61 f) f (up_within 61 f), length-drop (suc (UpTo 61 f)) f)

written_short : (fs : List Bytes) → written_size (written_in fs) ≤ fields_size fs
unfolding written_size fields_size
written_short [] = omega arith
written_short (f ∷ fs) = omega (arith, field_size f, written_short fs)

-- the first field of a text and those behind it
pub parts_short : (s f : Bytes) (gs : List Bytes) → fields s ≡ f ∷ gs → (length f ≤ length s) × (fields_size gs ≤ length s)
unfolding fields_size
parts_short s f gs e = let w : length f + fields_size gs ≤ length s = rw e at (fields_short s) in (omega arith, omega arith)

-- the first field and the attributes behind it
pub first_short : (fs : List Bytes) (f : Bytes) (gs : List Bytes) → fs ≡ f ∷ gs → (length f ≤ fields_size fs) × (written_size (written_in gs) ≤ fields_size fs)
unfolding fields_size
first_short fs f gs e = rw e (omega arith, omega (arith, written_short gs))

-- the fields from a place on as attributes
pub written_at_short : (t : Bytes) (at : ℕ) → written_size (written_in (fields_at t at)) ≤ length t
unfolding written_size
written_at_short t at =
    by_le at (length t)
    (λ h. rw (fields_within t at h) (omega (arith, written_short (fields (drop at t)), fields_short (drop at t), length-drop at t)))
    (λ h. rw (fields_past t at h) (omega arith))

-- the first attribute and those behind it
pub first_written : (attrs : List Attr) (a : Attr) (bs : List Attr) → attrs ≡ a ∷ bs → (length a.value ≤ written_size attrs) × (written_size bs ≤ written_size attrs)
unfolding written_size
first_written attrs a bs e = rw e (omega arith, omega arith)

value_short : (n : Bytes) (attrs : List Attr) (v : Bytes) → value_of n attrs ≡ Some v → length v ≤ written_size attrs
unfolding value_of written_size
value_short n [] v e = let z : None ≡ Some v = e in no (cc)
value_short n (a ∷ attrs) v e =
    by_bool (same n a.name)
    (λ h. let z : Some a.value ≡ Some v = rw h at e in
    let q : a.value ≡ v = cc in
    rw (← q) (omega arith))
    (λ h. let z : value_of n attrs ≡ Some v = rw h at e in omega (arith, value_short n attrs v z))

-- a value that was found
pub found_short : {A : Type 0} (f : A → Bytes) (o : Option A) (n : Bytes) (attrs : List Attr) → option_map f o ≡ value_of n attrs → IfSome o (λ v. length (f v) ≤ written_size attrs)
found_short f None n attrs e = tt
found_short f (Some v) n attrs e = value_short n attrs (f v) (sym e)

-- ---- the value of a name, and no name twice

-- by the attributes as they are written
pub value_text_of : (n : Bytes) (attrs : List Attr) → value_of n (map with_text attrs) ≡ option_map value_text (value_of n attrs)
unfolding value_of
value_text_of n [] = refl
value_text_of n (a ∷ attrs) = by_bool (same n a.name) (λ e. rw e) (λ e. rw e (value_text_of n attrs))

pub value_nowhere : (n : Bytes) (attrs : List Attr) → attrs ≡ [] → value_of n attrs ≡ None
unfolding value_of
value_nowhere n attrs e = rw e

pub once_ends : (attrs : List Attr) → attrs ≡ [] → none_twice attrs ≡ true
unfolding none_twice
once_ends attrs e = rw e

module _ (attrs : List Attr) (a : Attr) (bs : List Attr) (e : attrs ≡ a ∷ bs) where
  pub value_here : (n : Bytes) → same n a.name ≡ true → Some a.value ≡ value_of n attrs
  unfolding value_of
  value_here n h = rw (e, h)

  pub value_behind : (n : Bytes) → same n a.name ≡ false → value_of n bs ≡ value_of n attrs
  unfolding value_of
  value_behind n h = rw (e, h)

  pub once_stops : named a.name bs ≡ true → false ≡ none_twice attrs
  unfolding none_twice both
  once_stops h = rw (e, h)

  pub once_on : named a.name bs ≡ false → none_twice bs ≡ none_twice attrs
  unfolding none_twice both
  once_on h = rw (e, h)

named_is : (n : Bytes) (attrs : List Attr) → is_some (value_of n attrs) ≡ named n attrs
unfolding value_of named
named_is n [] = refl
named_is n (a ∷ attrs) = by_bool (same n a.name) (λ e. rw e) (λ e. rw e (named_is n attrs))

is_some_map : {A B : Type 0} (f : A → B) (o : Option A) → is_some (option_map f o) ≡ is_some o
is_some_map f None = refl
is_some_map f (Some x) = refl

pub named_found : {A : Type 0} (f : A → Bytes) (o : Option A) (n : Bytes) (attrs : List Attr) → option_map f o ≡ value_of n attrs → is_some o ≡ named n attrs
named_found f o n attrs e = sym (is_some_map f o) ∙ ap is_some e ∙ named_is n attrs
