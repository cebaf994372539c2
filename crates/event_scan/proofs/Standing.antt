-- Whether fields stand as attributes: each is one, and no name is there twice, which is that each name is none of those before it.
use Rattle.std.specs.Prelude.{None, Option, Some, option_map, is_some, Result, IfOk}
use Rattle.std.proofs.lemmas.Result.{IfOk-weaker}
use Rattle.std.specs.Borrow.{Bor}
use Prim.Native.Nat.{ℕ, ◌+◌, ◌<◌, ◌≤◌}
use mathlib.Core.Path.{◌≡◌, refl, sym, ◌∙◌, ap}
use mathlib.Core.Bool.{Bool, true, false, not, cond}
use mathlib.Core.List.{List, [], ◌∷◌, ◌++◌}
use native.Mathlib.Numerals.{add-one}
use native.Mathlib.Omega.{arith}
use lib.Dec.{eqb}
use lib.ListN.{length, take, set}
use lib.Seq.{take-suc-set}
use Rattle.std.specs.List.{list_any}
use Rattle.base.specs.Bytes.{Bytes, both, either, same}
use Rattle.base.proofs.Split.{by_bool, clash, both_true, both_left, both_right, both_no_right}
use Rattle.refusal.specs.declared.Refusal.{Refusal}
use Rattle.refusal.specs.declared.Refusal.TheVariants.{NotEventLine}
use Rattle.text.specs.Escape.{unescape}
use Rattle.event.specs.Event.{Attr, Parted, parted, is_empty, or_empty, attr_with, attr_from, attr_of, beside, attrs_of, named, none_twice, value_of, reads, refused, starts, starts_with, starts_from}
use Rattle.event_scan.specs.Names.{among, new_name, texts_of}
use Rattle.event_scan.specs.Piece.{there, value_text}
use Rattle.event_scan.specs.Parts.{name_seen, written_as, written_in, with_text, text_in, attributes_in}
use Rattle.event_scan.specs.Scan.{stand}
use Rattle.event_scan.specs.declared.event_line.EventLine.{EventLine}
use Rattle.event_scan.specs.declared.event_line.EventLine.TheVariants as L
use Rattle.event_scan.specs.Line.{Good, InBounds, Spells}
use Rattle.event_scan.proofs.Parts.{empty_is, written_by}

-- ---- each field is an attribute

there_beside : (o : Option Attr) (x : Option (List Attr)) → there (beside o x) ≡ both (there o) (there x)
unfolding there both
there_beside None x = refl
there_beside (Some a) None = refl
there_beside (Some a) (Some attrs) = refl

pub right_ends : (fs : List Bytes) → fs ≡ [] → true ≡ there (attrs_of fs)
unfolding there attrs_of
right_ends fs e = rw e

module _ (fs : List Bytes) (f : Bytes) (gs : List Bytes) (e : fs ≡ f ∷ gs) where
  listed : attrs_of fs ≡ beside (attr_of f) (attrs_of gs)
  unfolding attrs_of
  listed = rw e

  pub right_on : there (attr_of f) ≡ true → there (attrs_of gs) ≡ there (attrs_of fs)
  unfolding both
  right_on h = sym (rw listed (there_beside (attr_of f) (attrs_of gs) ∙ rw h))

  pub right_stops : there (attr_of f) ≡ false → false ≡ there (attrs_of fs)
  unfolding both
  right_stops h = sym (rw listed (there_beside (attr_of f) (attrs_of gs) ∙ rw h))

-- a name that was found tells whether the field is an attribute
pub name_there : (r : Option (Bor Bytes)) (o : Option Attr) → name_seen r ≡ option_map (λ (a : Attr). a.name) o → is_some r ≡ there o
unfolding there
name_there None None e = refl
name_there None (Some a) e = let z : None ≡ Some a.name = e in absurd (cc)
name_there (Some n) None e = let z : Some n.now ≡ None = e in absurd (cc)
name_there (Some n) (Some a) e = refl

-- ---- one of some names

pub among_any : (n : Bytes) (ks : List (Bor Bytes)) → list_any (λ (k : Bor Bytes). same k.now n) ks ≡ among n (texts_of ks)
unfolding among either
among_any n [] = refl
among_any n (k ∷ ks) = by_bool (same k.now n) (λ e. rw e) (λ e. rw e (among_any n ks))

-- ---- none of them has a name that is kept

unfoldable pub none_named : List Bytes → List Attr → Bool
none_named [] attrs = true
none_named (k ∷ ks) attrs = both (not (named k attrs)) (none_named ks attrs)

-- they stand, and so they do behind the kept names
unfoldable pub stand_after : List Bytes → Option (List Attr) → Bool
stand_after ks None = false
stand_after ks (Some attrs) = both (none_twice attrs) (none_named ks attrs)

pub stand_first : (o : Option (List Attr)) → stand_after [] o ≡ stand o
unfolding stand_after stand none_named
stand_first None = refl
stand_first (Some attrs) = both_true (none_twice attrs)

none_named_lem : (ks : List Bytes) → none_named ks [] ≡ true
unfolding none_named named both
none_named_lem [] = refl
none_named_lem (k ∷ ks) = none_named_lem ks

pub stand_ends : (ks : List Bytes) (fs : List Bytes) → fs ≡ [] → stand_after ks (attrs_of fs) ≡ true
unfolding stand_after attrs_of none_twice both
stand_ends ks fs e = rw e (none_named_lem ks)

turned : (x y z : Bool) → both x (both y z) ≡ both (both y x) z
unfolding both
turned x true z = refl
turned true false z = refl
turned false false z = refl

swapped : (x y z : Bool) → both x (both y z) ≡ both y (both x z)
unfolding both
swapped true y z = refl
swapped false true z = refl
swapped false false z = refl

-- the last name may stand first
none_named_last : (ks : List Bytes) (k : Bytes) (attrs : List Attr) → none_named (ks ++ (k ∷ [])) attrs ≡ none_named (k ∷ ks) attrs
unfolding none_named
none_named_last [] k attrs = refl
none_named_last (j ∷ ks) k attrs = rw (none_named_last ks k attrs) (swapped (not (named j attrs)) (not (named k attrs)) (none_named ks attrs))

stand_last : (ks : List Bytes) (k : Bytes) (o : Option (List Attr)) → stand_after (ks ++ (k ∷ [])) o ≡ stand_after (k ∷ ks) o
unfolding stand_after
stand_last ks k None = refl
stand_last ks k (Some attrs) = ap (both (none_twice attrs)) (none_named_last ks k attrs)

module _ (a : Attr) where
  named_not : (ks : List Bytes) (attrs : List Attr) → among a.name ks ≡ false → none_named ks (a ∷ attrs) ≡ none_named ks attrs
  unfolding none_named named among either
  named_not [] attrs h = refl
  named_not (k ∷ ks) attrs h =
      by_bool (same k a.name)
      (λ e. clash (rw e) h)
      (λ e. let g : among a.name ks ≡ false = rw e at h in rw (e, named_not ks attrs g))

  named_one : (ks : List Bytes) (attrs : List Attr) → among a.name ks ≡ true → none_named ks (a ∷ attrs) ≡ false
  unfolding none_named named among either both
  named_one [] attrs h = clash h refl
  named_one (k ∷ ks) attrs h =
      by_bool (same k a.name)
      (λ e. rw e)
      (λ e. let g : among a.name ks ≡ true = rw e at h in both_no_right (not (named k (a ∷ attrs))) (named_one ks attrs g))

  stand_on : (ks : List Bytes) (o : Option (List Attr)) → among a.name ks ≡ false → stand_after (a.name ∷ ks) o ≡ stand_after ks (beside (Some a) o)
  unfolding stand_after none_twice none_named
  stand_on ks None h = refl
  stand_on ks (Some attrs) h = rw (named_not ks attrs h) (turned (none_twice attrs) (not (named a.name attrs)) (none_named ks attrs))

  stand_again : (ks : List Bytes) (o : Option (List Attr)) → among a.name ks ≡ true → stand_after ks (beside (Some a) o) ≡ false
  unfolding stand_after
  stand_again ks None h = refl
  stand_again ks (Some attrs) h = both_no_right _ (named_one ks attrs h)

-- ---- a field more

module _ (ks : List Bytes) where
  field_on : (o : Option Attr) (n : Bytes) (rest : Option (List Attr)) → Some n ≡ new_name o ks → stand_after (ks ++ (n ∷ [])) rest ≡ stand_after ks (beside o rest)
  field_on None n rest e = absurd (cc)
  field_on (Some a) n rest e =
      by_bool (among a.name ks)
      (λ h. let z : Some n ≡ None = rw h at e in absurd (cc))
      (λ h. let z : Some n ≡ Some a.name = rw h at e in
      let q : n ≡ a.name = cc in
      rw q (stand_last ks a.name rest ∙ stand_on a ks rest h))

  field_stops : (o : Option Attr) (rest : Option (List Attr)) → None ≡ new_name o ks → stand_after ks (beside o rest) ≡ false
  unfolding stand_after
  field_stops None rest e = refl
  field_stops (Some a) rest e =
      by_bool (among a.name ks)
      (λ h. stand_again a ks rest h)
      (λ h. let z : None ≡ Some a.name = rw h at e in absurd (cc))

  module _ (fs : List Bytes) (f : Bytes) (gs : List Bytes) (e : fs ≡ f ∷ gs) where
    pub few_on : (n : Bytes) → Some n ≡ new_name (attr_of f) ks → stand_after (ks ++ (n ∷ [])) (attrs_of gs) ≡ stand_after ks (attrs_of fs)
    few_on n h = field_on (attr_of f) n (attrs_of gs) h ∙ sym (ap (stand_after ks) (listed fs f gs e))

    pub few_stops : None ≡ new_name (attr_of f) ks → stand_after ks (attrs_of fs) ≡ false
    few_stops h = ap (stand_after ks) (listed fs f gs e) ∙ field_stops (attr_of f) (attrs_of gs) h

texts_last : (ks : List (Bor Bytes)) (k : Bor Bytes) → texts_of (ks ++ (k ∷ [])) ≡ texts_of ks ++ (k.now ∷ [])
texts_last [] k = refl
texts_last (j ∷ ks) k = ap (j.now ∷◌) (texts_last ks k)

pub names_more : (names : List (Bor Bytes)) (n : ℕ) (k : Bor Bytes) → n < length names → texts_of (take (n + 1) (set names n k)) ≡ texts_of (take n names) ++ (k.now ∷ [])
names_more names n k h = rw (add-one, take-suc-set names n k h) (texts_last (take n names) k)

-- ---- both tests

-- a field that is an attribute
right_field : (f : Bytes) (attrs : List Attr) → there (attr_of f) ≡ true → beside (attr_of f) (Some attrs) ≡ Some (with_text (written_as f) ∷ attrs)
unfolding attr_of there value_text
right_field f attrs h = by_parts (parted f) refl h
  where
    by_text : (n v : Bytes) (o : Option Bytes) → there (attr_with n o) ≡ true → beside (attr_with n o) (Some attrs) ≡ Some (record { name = n; value = or_empty o } ∷ attrs)
    by_text n v None h = clash h refl
    by_text n v (Some x) h = refl

    by_name : (n v : Bytes) (t : Bool) → there (cond t None (attr_with n (unescape v))) ≡ true → beside (cond t None (attr_with n (unescape v))) (Some attrs) ≡ Some (record { name = n; value = or_empty (unescape v) } ∷ attrs)
    by_name n v true h = clash h refl
    by_name n v false h = by_text n v (unescape v) h

    by_parts : (o : Option Parted) → parted f ≡ o → there (attr_from o) ≡ true → beside (attr_from o) (Some attrs) ≡ Some (with_text (written_as f) ∷ attrs)
    by_parts None q h = clash h refl
    by_parts (Some p) q h = by_name p.left p.right (is_empty p.left) h ∙ ap (λ a. Some (with_text a ∷ attrs)) (sym (written_by f p q))

-- fields that are attributes alone
pub attributes_right : (fs : List Bytes) → there (attrs_of fs) ≡ true → attrs_of fs ≡ Some (attributes_in fs)
unfolding attrs_of
attributes_right [] h = refl
attributes_right (f ∷ fs) h =
    let k : both (there (attr_of f)) (there (attrs_of fs)) ≡ true = sym (there_beside (attr_of f) (attrs_of fs)) ∙ h in
    rw (attributes_right fs (both_right _ _ k)) (right_field f (attributes_in fs) (both_left _ _ k))

pub stand_bad : (o : Option (List Attr)) → there o ≡ false → false ≡ stand o
unfolding there stand
stand_bad None h = refl
stand_bad (Some attrs) h = clash refl h

pub stand_good : (fs : List Bytes) → there (attrs_of fs) ≡ true → stand (attrs_of fs) ≡ none_twice (attributes_in fs)
unfolding stand
stand_good fs h = rw (attributes_right fs h)

pub stand_there : (o : Option (List Attr)) → stand o ≡ true → there o ≡ true
unfolding there stand
stand_there None h = clash h refl
stand_there (Some attrs) h = refl

-- fields that stand are attributes alone
pub stand_right : (fs : List Bytes) → stand (attrs_of fs) ≡ true → Good fs
stand_right fs h = attributes_right fs (stand_there (attrs_of fs) h)

-- ---- the value of a name

-- a field that is an attribute has a value whose escapes are right
text_there : (f : Bytes) → there (attr_of f) ≡ true → unescape (written_as f).value ≡ Some (value_text (written_as f).value)
unfolding attr_of there value_text
text_there f h = by_parts (parted f) refl h
  where
    by_text : (n : Bytes) (o : Option Bytes) → there (attr_with n o) ≡ true → o ≡ Some (or_empty o)
    by_text n None h = clash h refl
    by_text n (Some x) h = refl

    by_name : (n v : Bytes) (t : Bool) → there (cond t None (attr_with n (unescape v))) ≡ true → unescape v ≡ Some (or_empty (unescape v))
    by_name n v true h = clash h refl
    by_name n v false h = by_text n (unescape v) h

    by_parts : (o : Option Parted) → parted f ≡ o → there (attr_from o) ≡ true → unescape (written_as f).value ≡ Some (or_empty (unescape (written_as f).value))
    by_parts None q h = clash h refl
    by_parts (Some p) q h =
        let e : (written_as f).value ≡ p.right = ap (λ (a : Attr). a.value) (written_by f p q) in
        ap unescape e ∙ by_name p.left p.right (is_empty p.left) h ∙ sym (ap (λ v. Some (or_empty (unescape v))) e)

value_there : (n : Bytes) (fs : List Bytes) → there (attrs_of fs) ≡ true → text_in (value_of n (written_in fs)) ≡ value_of n (attributes_in fs)
unfolding attrs_of value_of
value_there n [] h = refl
value_there n (f ∷ fs) h =
    let k : both (there (attr_of f)) (there (attrs_of fs)) ≡ true = sym (there_beside (attr_of f) (attrs_of fs)) ∙ h in
    by_bool (same n (written_as f).name)
    (λ e. rw e (text_there f (both_left _ _ k)))
    (λ e. rw e (value_there n fs (both_right _ _ k)))

-- of attributes, the text of the value that is found is that of the name
pub value_is : (n : Bytes) (fs : List Bytes) → Good fs → text_in (value_of n (written_in fs)) ≡ value_of n (attributes_in fs)
unfolding there
value_is n fs g = value_there n fs (ap there g)

-- ---- an element

-- more bytes hold it too
wider : {m n : ℕ} → m ≤ n → (l : EventLine) → InBounds m l → InBounds n l
wider h (L.Starts empty name attributes) b = (omega (arith, h, b.0), omega (arith, h, b.1), b.2)
wider h L.Closes b = tt
wider h L.Others b = tt

pub lies_wider : (r : Result EventLine Refusal) {m n : ℕ} → m ≤ n → IfOk r (InBounds m) → IfOk r (InBounds n)
lies_wider r h b = IfOk-weaker r _ _ (wider h) b

-- equal fields spell it too
pub spells_equal : (r : Result EventLine Refusal) {fs gs : List Bytes} → fs ≡ gs → IfOk r (Spells fs) → IfOk r (Spells gs)
spells_equal r e b = rw e at b

starts_none : (empty : Bool) (n : Bytes) (o : Option (List Attr)) → stand o ≡ false → starts_with empty n o ≡ refused NotEventLine
unfolding stand
starts_none empty n None h = refl
starts_none empty n (Some attrs) h = rw h

module _ (empty : Bool) (fs : List Bytes) (n : Bytes) (gs : List Bytes) (e : fs ≡ n ∷ gs) where
  starts_first : starts_from empty fs ≡ cond (is_empty n) (refused NotEventLine) (starts_with empty n (attrs_of gs))
  starts_first = rw e

  pub starts_nameless : eqb (length n) 0 ≡ true → refused NotEventLine ≡ starts_from empty fs
  starts_nameless h = sym (starts_first ∙ rw (empty_is n, h))

  pub starts_wrong : eqb (length n) 0 ≡ false → stand (attrs_of gs) ≡ false → refused NotEventLine ≡ starts_from empty fs
  starts_wrong h k = sym (starts_first ∙ rw (empty_is n, h) (starts_none empty n (attrs_of gs) k))

  pub starts_right : eqb (length n) 0 ≡ false → stand (attrs_of gs) ≡ true → reads (starts empty n (attributes_in gs)) ≡ starts_from empty fs
  starts_right h k =
      let r = stand_there (attrs_of gs) k in
      let t : none_twice (attributes_in gs) ≡ true = sym (stand_good gs r) ∙ k in
      sym (starts_first ∙ rw (empty_is n, h, attributes_right gs r, t))
