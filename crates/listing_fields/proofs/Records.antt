-- Of a record that the readers find the fields are the page's: the fields of the record with its texts as texts. In sound strings a handle's text is the held one.
use Rattle.std.specs.Prelude.{Err, None, Ok, Option, Some, option_map}
use Prim.Native.Nat.{ℕ, zero, suc, ◌+◌, ◌<◌}
use mathlib.Core.Path.{◌≡◌, refl, sym, ◌∙◌, ap}
use mathlib.Core.List.{List, [], ◌∷◌, map}
use native.Mathlib.Omega.{arith}
use native.Mathlib.Nat.{zero-add}
use lib.IntN.{ℤ, pos}
use lib.ListN.{length, get_or, take, drop, length-map, get_or-eq_default}
use mir.Syntax.{w64}
use mir.Val.{to_z}
use borrow.Author.Tests.{le-ltb}
use Rattle.base.specs.Bytes.{Bytes}
use Rattle.base.proofs.Split.{by_lt, no}
use Rattle.kind.specs.Kind.{kind_number, of_number}
use Rattle.kind.specs.declared.Kind.{Kind}
use Rattle.kind.specs.declared.Kind.TheVariants.{Node, Way, Relation}
use Rattle.line.specs.Decimal.{number_text}
use Rattle.interner.specs.Texts.{text_of}
use Rattle.interner.specs.Strings.{Store, used_of, span_of}
use Rattle.interner.specs.Sound.{texts_of}
use Rattle.interner.proofs.Interns.{Sound, resolved, text_at, length_texts}
use Rattle.model.specs.Record.{Member, Tag, Body, place, refs, members, Record, kind_of}
use Rattle.model.specs.Swap.{swap_member, swap_tag, swap_body, swap_record}
use Rattle.compact.specs.Layout.{head_of}
use Rattle.compact.specs.Held.{member_named, member_held}
use Rattle.compact.specs.View.{TagStep, ref_at, member_at, step_by, tag_step, tag_given, steps_onward, steps_from, tags_from}
use Rattle.compact.specs.declared.CompactMember.{CompactMember}
use Rattle.compact.proofs.Back.{Found}
use Rattle.compact.proofs.Cuts.{head_tags}
use Rattle.listing_page.specs.Listing.{each, counted, ref_fields, member_fields, tag_fields, body_fields, record_fields}
use Rattle.listing_fields.specs.Fields.{held_text, each_from, ref_fields_at, held_member, step_fields, tag_fields_from, body_fields_at, tag_fields_at, record_fields_at}

-- ---- texts

pub held_text_lem : (s : Store) → Sound s → (h : ℕ) → held_text s.spans (used_of s) s.strings h ≡ text_of (texts_of s) h
unfolding held_text span_of
held_text_lem s w h =
    by_lt h s.strings
    (λ l. rw (resolved s w h l, text_at s h l))
    (λ l. rw (le-ltb h s.strings l, get_or-eq_default (texts_of s) [] {n = h} (rw (length_texts s) l)))

-- ---- elements

each_is : {A : Type 0} (g : ℕ → List Bytes) (f : A → List Bytes) (d : A) (xs : List A) (i : ℕ) → ((j : ℕ) → j < length xs → g (i + j) ≡ f (get_or xs j d)) → each_from g i (length xs) ≡ each f xs
unfolding each_from each
each_is g f d [] i e = refl
each_is g f d (x ∷ xs) i e =
    let z : i + 0 ≡ i = omega arith in
    let a : g i ≡ f x = rw z at (e 0 (omega arith)) in
    rw (a, each_is g f d xs (suc i) (λ j l. let n : suc i + j ≡ i + suc j = omega arith in rw n (e (suc j) (omega arith))))

each_map : {A B : Type 0} (f : B → List Bytes) (g : A → B) (xs : List A) → each f (map g xs) ≡ each (λ x. f (g x)) xs
unfolding each
each_map f g [] = refl
each_map f g (x ∷ xs) = rw (each_map f g xs)

counted_map : {A B : Type 0} (f : B → List Bytes) (g : A → B) (xs : List A) → counted f (map g xs) ≡ number_text (length xs) ∷ each (λ x. f (g x)) xs
unfolding counted
counted_map f g xs = rw (length-map xs g, each_map f g xs)

-- a number that names a kind is its number
number_is : (n : ℕ) (k : Kind) → of_number n ≡ Some k → n ≡ kind_number k
unfolding of_number
number_is zero k e = let q : Node ≡ k = cc in ap kind_number q
number_is (suc zero) k e = let q : Way ≡ k = cc in ap kind_number q
number_is (suc (suc zero)) k e = let q : Relation ≡ k = cc in ap kind_number q
number_is (suc (suc (suc n))) k e = no (cc)

member_is : (f : ℕ → Bytes) (x : CompactMember) (m : Member ℕ) → member_held x ≡ Some m → held_member f x ≡ member_fields (swap_member f m)
unfolding member_held
member_is f x m e = go (of_number x.kind) refl
  where
    go : (n : Option Kind) → of_number x.kind ≡ n → held_member f x ≡ member_fields (swap_member f m)
    go (Some k) q =
        let w : Some (record { ref = to_z w64 x.reference; type = k; role = x.role }) ≡ Some m = sym (ap (λ n. member_named (to_z w64 x.reference) n x.role) q) ∙ e in
        let v : record { ref = to_z w64 x.reference; type = k; role = x.role } ≡ m = cc in
        rw (← v, number_is x.kind k q)
    go None q = let w : None ≡ Some m = sym (ap (λ n. member_named (to_z w64 x.reference) n x.role) q) ∙ e in no (cc)

module _ (f : ℕ → Bytes) (s : Bytes) where
  -- ---- tags

  onward_is : (n : ℕ) (more : ℕ → Option (List (Tag ℕ))) (mine : ℕ → List Bytes) → ((at : ℕ) (ts : List (Tag ℕ)) → more at ≡ Some ts → mine at ≡ each (λ t. tag_fields (swap_tag f t)) ts)
      → (t : TagStep) (ts : List (Tag ℕ)) → steps_onward (tag_given s t) more ≡ Some ts → step_fields f s t mine ≡ each (λ t. tag_fields (swap_tag f t)) ts
  unfolding each
  onward_is n more mine h (Ok None) ts e = let q : [] ≡ ts = cc in rw (← q)
  onward_is n more mine h (Err r) ts e = no (cc)
  onward_is n more mine h (Ok (Some p)) ts e = go (more (p.start + p.len)) refl
    where
      go : (o : Option (List (Tag ℕ))) → more (p.start + p.len) ≡ o → step_fields f s (Ok (Some p)) mine ≡ each (λ t. tag_fields (swap_tag f t)) ts
      go None q = let w : None ≡ Some ts = sym (ap (λ (o : Option (List (Tag ℕ))). option_map (record { key = p.key; value = take p.len (drop p.start s) } ∷◌) o) q) ∙ e in no (cc)
      go (Some us) q =
          let w : Some (record { key = p.key; value = take p.len (drop p.start s) } ∷ us) ≡ Some ts = sym (ap (λ (o : Option (List (Tag ℕ))). option_map (record { key = p.key; value = take p.len (drop p.start s) } ∷◌) o) q) ∙ e in
          let v : record { key = p.key; value = take p.len (drop p.start s) } ∷ us ≡ ts = cc in
          rw (← v, h (p.start + p.len) us q)

  tags_are : (n at : ℕ) (ts : List (Tag ℕ)) → tags_from s at n ≡ Some ts → tag_fields_from f s at n ≡ each (λ t. tag_fields (swap_tag f t)) ts
  unfolding tags_from steps_from step_by tag_fields_from tag_step each
  tags_are zero at ts e = let q : [] ≡ ts = cc in rw (← q)
  tags_are (suc n) at ts e = onward_is n (λ next. tags_from s next n) (λ next. tag_fields_from f s next n) (tags_are n) (tag_step s at (suc n)) ts e

  -- ---- place, refs, members

  none_held : Member ℕ
  none_held = record { ref = pos 0; type = Node; role = 0 }

  body_is : (id : ℤ) (b : Body ℕ) (n : ℕ) → ((rs : List ℤ) (i : ℕ) → b ≡ refs rs → i < length rs → to_z w64 (ref_at s i) ≡ get_or rs i (pos 0))
      → ((ms : List (Member ℕ)) (i : ℕ) (d : Member ℕ) → b ≡ members ms → i < length ms → member_held (member_at s i) ≡ Some (get_or ms i d))
      → body_fields_at f (kind_of b) (head_of id b n) s ≡ body_fields (swap_body f b)
  unfolding body_fields_at body_fields head_of counted
  body_is id (place lat lon) n r m = refl
  body_is id (refs rs) n r m =
      ap (λ (l : List Bytes). number_text (length rs) ∷ l) (each_is (ref_fields_at s) ref_fields (pos 0) rs 0 (λ j l. rw (zero-add j) (ap ref_fields (r rs j refl l))))
  body_is id (members ms) n r m =
      rw (counted_map member_fields (swap_member f) ms)
      (ap (λ (l : List Bytes). number_text (length ms) ∷ l)
      (each_is (λ i. held_member f (member_at s i)) (λ x. member_fields (swap_member f x)) none_held ms 0 (λ j l. rw (zero-add j) (member_is f (member_at s j) (get_or ms j none_held) (m ms j none_held refl l)))))

-- a record is found at the front of some bytes: its fields there are the page's
pub fields_are : (f : ℕ → Bytes) (id : ℤ) (r : Record ℕ) (s : Bytes) → Found id r s → record_fields_at f (kind_of r.body) s ≡ record_fields (swap_record f r)
unfolding record_fields_at record_fields tag_fields_at
fields_are f id r s w =
    rw (w.head, w.meta, body_is f s id r.body (length r.tags) w.refs_at w.members_at, head_tags id r.body (length r.tags), tags_are f s (length r.tags) _ r.tags w.tags, counted_map tag_fields (swap_tag f) r.tags)
