-- What is read from a record is what was appended: head, metadata, each ref, each member and each tag, field by field and by a user's readers and steps.
use Rattle.std.specs.Prelude.{Option, Some}
use Rattle.base.specs.Options.{bind}
use Prim.Native.Nat.{ℕ, zero, suc, ◌+◌, ◌-◌, ◌*◌, ◌^◌, ◌<◌, ◌≤◌}
use mathlib.Core.Path.{◌≡◌, refl, ap}
use mathlib.Core.Bool.{Bool, true}
use mathlib.Core.List.{List, [], ◌∷◌, ◌++◌, append_assoc}
use native.Mathlib.Omega.{arith}
use native.Mathlib.Nat.{zero-add, add-zero, add-suc, suc-add}
use lib.IntN.{ℤ, pos}
use lib.ListN.{length, take, drop, get_or, length-append, length-drop}
use lib.Seq.{drop-drop, drop_at, take_at, take-append_seam}
use mir.Syntax.{w32, w64}
use mir.Val.{to_z, of_z}
use borrow.Author.Tests.{ltb-true}
use Rattle.base.specs.Bytes.{Bytes, both, all}
use Rattle.base.proofs.Split.{both_left, both_right, both_of, no}
use Rattle.base.proofs.Lists.{all_head, all_tail}
use Rattle.base.proofs.Tests.{all_both}
use Rattle.little.specs.Little.{le, value_at}
use Rattle.little.proofs.Littles.{length_le, value_back}
use Rattle.text.specs.Check.{is_text}
use Rattle.kind.specs.Kind.{kind_number}
use Rattle.kind.proofs.Numbers.{number_back}
use Rattle.model.specs.Record.{Meta, Member, Tag, Body, place, refs, members, Record, kind_of}
use Rattle.compact.specs.Layout.{u32, i32, i64, meta_bytes, member_bytes, tag_bytes, joined_bytes, Head, head_bytes, head_of, head_len, body_bytes, parts_bytes, record_bytes}
use Rattle.compact.specs.Cut.{then_cut, found, cut_i64, cut_member}
use Rattle.compact.specs.Fits.{fits_number, fits_signed, fits_meta, fits_member, fits_tag, fits_head, fits_body, fitting}
use Rattle.compact.specs.Legal.{legal_texts}
use Rattle.compact.specs.Held.{meta_of, meta_bits, node_head, counts_head, way_head, relation_head, node_bits, way_bits, relation_bits, member_held}
use Rattle.compact.specs.View.{node_at, way_at, relation_at, meta_at, ref_at, member_at, tags_at, head_at}
use Rattle.compact.specs.View.{node_read, way_read, relation_read, head_read, meta_given, meta_read, ReadStep, done, yields, ref_step, ref_given, member_step, member_given, cut_text, tag_step, tag_given, steps_from, refs_from, members_from, tags_from, body_read, read_record}
use Rattle.compact.proofs.Format.{signed_again, i64_format}
use Rattle.compact.proofs.Cuts.{type_fits, meta_format, member_format, tag_format, head_back as head_cut, head_id, head_tags}
use Rattle.compact.proofs.Steps.{step_done, step_some}
use Rattle.compact.proofs.Lengths.{length_i64, length_meta, length_member, length_tag, length_joined, length_head}

-- ---- fields one after another: at a place of s stand the fields xs, and then r

abbrev flat : List Bytes → Bytes → Bytes
flat [] r = r
flat (x ∷ xs) r = x ++ flat xs r

record Lie (s : Bytes) (at : ℕ) (xs : List Bytes) (r : Bytes) : Type 0 where
  pub is : drop at s ≡ flat xs r

module _ {s : Bytes} {at : ℕ} {xs : List Bytes} {r : Bytes} where
  later : {x : Bytes} (n a : ℕ) → length x ≡ n → a ≡ at + n → Lie s at (x ∷ xs) r → Lie s a xs r
  later {x} n a e f w = record { is = rw (f, ← drop-drop, w.is) (drop_at x (flat xs r) n e) }

  number_at : (n v : ℕ) → fits_number n v ≡ true → Lie s at (le n v ∷ xs) r → value_at n s at ≡ v
  unfolding value_at fits_number
  number_at n v h w = rw (w.is, take_at (le n v) (flat xs r) n (length_le n v)) (value_back n v (ltb-true v (256 ^ n) h))

  i32_at : (z : ℤ) → fits_signed w32 z ≡ true → Lie s at (i32 z ∷ xs) r → to_z w32 (value_at 4 s at) ≡ z
  i32_at z h w = let g = signed_again w32 4 refl z h in rw (number_at 4 (of_z w32 z) g.1 w) g.0

  i64_at : (z : ℤ) → fits_signed w64 z ≡ true → Lie s at (i64 z ∷ xs) r → to_z w64 (value_at 8 s at) ≡ z
  i64_at z h w = let g = signed_again w64 8 refl z h in rw (number_at 8 (of_z w64 z) g.1 w) g.0

-- ---- metadata

meta_back : (s : Bytes) (at : ℕ) (m : Meta ℕ) (r : Bytes) → fits_meta m ≡ true → drop at s ≡ meta_bytes m ++ r → meta_of (meta_at s at) ≡ m
unfolding meta_of meta_at meta_bytes fits_meta
meta_back s at m r h1 e =
    let h2 = both_right _ _ h1 in let h3 = both_right _ _ h2 in let h4 = both_right _ _ h3 in let h5 = both_right _ _ h4 in
    let w1 : Lie s at (le 1 m.flags ∷ i32 m.version ∷ i64 m.timestamp ∷ i64 m.changeset ∷ i32 m.uid ∷ u32 m.user ∷ []) r = record { is = simp append_assoc at e } in
    let w2 = later 1 (at + 1) (length_le 1 _) refl w1 in
    let w3 = later 4 (at + 5) (length_le 4 _) (omega arith) w2 in
    let w4 = later 8 (at + 13) (length_le 8 _) (omega arith) w3 in
    let w5 = later 8 (at + 21) (length_le 8 _) (omega arith) w4 in
    let w6 = later 4 (at + 25) (length_le 4 _) (omega arith) w5 in
    rw (
      number_at 1 m.flags (both_left _ _ h1) w1,
      i32_at m.version (both_left _ _ h2) w2,
      i64_at m.timestamp (both_left _ _ h3) w3,
      i64_at m.changeset (both_left _ _ h4) w4,
      i32_at m.uid (both_left _ _ h5) w5,
      number_at 4 m.user (both_right _ _ h5) w6,
    )

-- ---- heads

counts_back : (id : ℤ) (count tags : ℕ) (s r : Bytes) → both (fits_signed w64 id) (both (fits_number 4 count) (fits_number 4 tags)) ≡ true → s ≡ i64 id ++ u32 count ++ u32 tags ++ r
    → ◌≡◌ {A = Head} (counts_head (value_at 8 s 0) (value_at 4 s 8) (value_at 4 s 12)) (record { id = id; lat = pos 0; lon = pos 0; count = count; tags = tags })
unfolding counts_head
counts_back id count tags s r h1 e =
    let h2 = both_right _ _ h1 in
    let w1 : Lie s 0 (i64 id ∷ u32 count ∷ u32 tags ∷ []) r = record { is = simp append_assoc at e } in
    let w2 = later 8 8 (length_le 8 _) refl w1 in
    let w3 = later 4 12 (length_le 4 _) refl w2 in
    rw (i64_at id (both_left _ _ h1) w1, number_at 4 count (both_left _ _ h2) w2, number_at 4 tags (both_right _ _ h2) w3)

head_back : (id : ℤ) (b : Body ℕ) (n : ℕ) (s r : Bytes) → fits_head (kind_of b) (head_of id b n) ≡ true → s ≡ head_bytes (kind_of b) (head_of id b n) ++ r → head_at (kind_of b) s ≡ head_of id b n
unfolding head_at node_head node_at way_head way_at relation_head relation_at counts_head head_bytes head_of fits_head
head_back id (place lat lon) n s r h1 e =
    let h2 = both_right _ _ h1 in let h3 = both_right _ _ h2 in
    let w1 : Lie s 0 (i64 id ∷ i32 lat ∷ i32 lon ∷ u32 n ∷ []) r = record { is = simp append_assoc at e } in
    let w2 = later 8 8 (length_le 8 _) refl w1 in
    let w3 = later 4 12 (length_le 4 _) refl w2 in
    let w4 = later 4 16 (length_le 4 _) refl w3 in
    rw (i64_at id (both_left _ _ h1) w1, i32_at lat (both_left _ _ h2) w2, i32_at lon (both_left _ _ h3) w3, number_at 4 n (both_right _ _ h3) w4)
head_back id (refs rs) n s r h e = counts_back id (length rs) n s r h e
head_back id (members ms) n s r h e = counts_back id (length ms) n s r h e

-- ---- refs and members: elements of one length, from a place on

module _ {A : Type 0} (s : Bytes) (f : ℕ → Option A) (bytes : A → Bytes) (fits : A → Bool) (width base : ℕ)
    (long : (a : A) → length (bytes a) ≡ width)
    (here : (i : ℕ) (a : A) (r : Bytes) → fits a ≡ true → drop (base + width * i) s ≡ bytes a ++ r → f i ≡ Some a) where
  -- the j-th of those that begin with number i
  element : (xs : List A) (i j : ℕ) (d : A) (r : Bytes) → all fits xs ≡ true → drop (base + width * i) s ≡ joined_bytes bytes xs ++ r → j < length xs → f (i + j) ≡ Some (get_or xs j d)
  unfolding joined_bytes
  element [] i j d r h e l = absurd (omega arith)
  element (x ∷ xs) i zero d r h e l = rw add-zero (here i x _ (all_head fits x xs h) (rw append_assoc at e))
  element (x ∷ xs) i (suc j) d r h e l =
      let w : Lie s (base + width * i) (bytes x ∷ joined_bytes bytes xs ∷ []) r = record { is = rw append_assoc at e } in
      let n = later width (base + width * suc i) (long x) (omega arith) w in
      rw (add-suc, ← suc-add) (element xs (suc i) j d r (all_tail fits x xs h) n.is (omega arith))

ref_back : (s : Bytes) (i : ℕ) (z : ℤ) (r : Bytes) → fits_signed w64 z ≡ true → drop (45 + 8 * i) s ≡ i64 z ++ r → ◌≡◌ {A = Option ℤ} (Some (to_z w64 (ref_at s i))) (Some z)
unfolding ref_at
ref_back s i z r h e = let w : Lie s (45 + 8 * i) (i64 z ∷ []) r = record { is = e } in rw (i64_at z h w)

member_back : (s : Bytes) (i : ℕ) (m : Member ℕ) (r : Bytes) → fits_member m ≡ true → drop (45 + 13 * i) s ≡ member_bytes m ++ r → member_held (member_at s i) ≡ Some m
unfolding member_held member_at member_bytes fits_member
member_back s i m r h e =
    let w1 : Lie s (45 + 13 * i) (i64 m.ref ∷ le 1 (kind_number m.type) ∷ u32 m.role ∷ []) r = record { is = simp append_assoc at e } in
    let w2 = later 8 (45 + 13 * i + 8) (length_le 8 _) refl w1 in
    let w3 = later 1 (45 + 13 * i + 9) (length_le 1 _) (omega arith) w2 in
    rw (i64_at m.ref (both_left _ _ h) w1, number_at 1 (kind_number m.type) (type_fits m.type) w2, number_at 4 m.role (both_right _ _ h) w3, number_back m.type)

refs_back : (s : Bytes) (rs : List ℤ) (r : Bytes) → all (fits_signed w64) rs ≡ true → drop 45 s ≡ joined_bytes i64 rs ++ r → (i : ℕ) → i < length rs → Some (to_z w64 (ref_at s i)) ≡ Some (get_or rs i (pos 0))
refs_back s rs r h e i l = rw zero-add at (element s (λ i. Some (to_z w64 (ref_at s i))) i64 (fits_signed w64) 8 45 length_i64 (ref_back s) rs 0 i (pos 0) r h e l)

members_back : (s : Bytes) (ms : List (Member ℕ)) (r : Bytes) → all fits_member ms ≡ true → drop 45 s ≡ joined_bytes member_bytes ms ++ r → (i : ℕ) (d : Member ℕ) → i < length ms → member_held (member_at s i) ≡ Some (get_or ms i d)
members_back s ms r h e i d l = rw zero-add at (element s (λ i. member_held (member_at s i)) member_bytes fits_member 13 45 length_member (member_back s) ms 0 i d r h e l)

-- ---- heads and metadata, by a user's readers

head_read_lem : (id : ℤ) (b : Body ℕ) (n : ℕ) (s r : Bytes) → fits_head (kind_of b) (head_of id b n) ≡ true → s ≡ head_bytes (kind_of b) (head_of id b n) ++ r → head_read (kind_of b) s ≡ Some (head_of id b n)
unfolding head_read node_read way_read relation_read node_bits way_bits relation_bits node_head way_head relation_head counts_head fits_head head_of
head_read_lem id (place lat lon) n s r h e =
    let h2 = both_right _ _ h in let h3 = both_right _ _ h2 in
    rw (e, head_cut id n r (place lat lon) h, (signed_again w64 8 refl id (both_left _ _ h)).0, (signed_again w32 4 refl lat (both_left _ _ h2)).0, (signed_again w32 4 refl lon (both_left _ _ h3)).0)
head_read_lem id (refs rs) n s r h e = rw (e, head_cut id n r (refs rs) h, (signed_again w64 8 refl id (both_left _ _ h)).0)
head_read_lem id (members ms) n s r h e = rw (e, head_cut id n r (members ms) h, (signed_again w64 8 refl id (both_left _ _ h)).0)

meta_read_lem : (s : Bytes) (at : ℕ) (m : Meta ℕ) (r : Bytes) → fits_meta m ≡ true → drop at s ≡ meta_bytes m ++ r → meta_given (meta_read s at) ≡ Some m
unfolding meta_read meta_bits meta_of fits_meta
meta_read_lem s at m r h1 e =
    let h2 = both_right _ _ h1 in let h3 = both_right _ _ h2 in let h4 = both_right _ _ h3 in let h5 = both_right _ _ h4 in
    rw (
      e,
      meta_format.back m r h1,
      (signed_again w32 4 refl m.version (both_left _ _ h2)).0,
      (signed_again w64 8 refl m.timestamp (both_left _ _ h3)).0,
      (signed_again w64 8 refl m.changeset (both_left _ _ h4)).0,
      (signed_again w32 4 refl m.uid (both_left _ _ h5)).0,
    )

-- ---- refs, members and tags, step by step

-- the bytes that follow a part begin where it ends
rest_starts : (s : Bytes) (at : ℕ) (x q : Bytes) → at ≤ length s → drop at s ≡ x ++ q → (length s - length q ≡ at + length x) × (drop (at + length x) s ≡ q)
rest_starts s at x q l e =
    let n : length s - at ≡ length x + length q = rw (length-drop, length-append) at (ap length e) in
    (omega arith, rw (← drop-drop, e) (drop_at x q (length x) refl))

-- the value of a tag lies behind its key and its length
value_at_lem : (s : Bytes) (at : ℕ) (t : Tag ℕ) (r : Bytes) → drop at s ≡ tag_bytes t ++ r → take (length t.value) (drop (at + 8) s) ≡ t.value
unfolding tag_bytes
value_at_lem s at t r e =
    let w1 : Lie s at (u32 t.key ∷ u32 (length t.value) ∷ t.value ∷ []) r = record { is = simp append_assoc at e } in
    let w2 = later 4 (at + 4) (length_le 4 _) refl w1 in
    let w3 = later 4 (at + 8) (length_le 4 _) (omega arith) w2 in
    rw w3.is (take-append_seam t.value r)

-- steps that yield each element where its bytes stand
module _ {A : Type 0} (s : Bytes) (f : ℕ → ℕ → ReadStep A) (bytes : A → Bytes) (fits : A → Bool)
    (last : (at : ℕ) → f at 0 ≡ done)
    (here : (at n : ℕ) (a : A) (r : Bytes) → at ≤ length s → fits a ≡ true → drop at s ≡ bytes a ++ r → f at (suc n) ≡ yields a (length s - length r)) where
  steps_back : (xs : List A) (at : ℕ) (r : Bytes) → at ≤ length s → all fits xs ≡ true → drop at s ≡ joined_bytes bytes xs ++ r → steps_from f at (length xs) ≡ Some xs
  unfolding steps_from joined_bytes
  steps_back [] at r l h e = rw (last at)
  steps_back (x ∷ xs) at r l h e =
      let q = joined_bytes bytes xs ++ r in
      let w : drop at s ≡ bytes x ++ q = rw append_assoc at e in
      let g = rest_starts s at (bytes x) q l w in
      let m : length s - length q ≤ length s = omega arith in
      rw (here at (length xs) x q l (all_head fits x xs h) w, steps_back xs (length s - length q) r m (all_tail fits x xs h) (rw g.0 g.1))

more : (n : ℕ) → suc n ≡ 0 → ⊥
more n e = omega arith

module _ (s : Bytes) where
  ref_here : (at n : ℕ) (z : ℤ) (r : Bytes) → at ≤ length s → fits_signed w64 z ≡ true → drop at s ≡ i64 z ++ r → ref_given (ref_step s at (suc n)) ≡ yields z (length s - length r)
  unfolding ref_step
  ref_here at n z r l h e =
      let c : cut_i64 (drop at s) ≡ found z r = rw e (i64_format.back z r h) in
      rw (step_some _ _ _ _ s at (suc n) (more n) z r c, (signed_again w64 8 refl z h).0)

  member_here : (at n : ℕ) (m : Member ℕ) (r : Bytes) → at ≤ length s → fits_member m ≡ true → drop at s ≡ member_bytes m ++ r → member_given (member_step s at (suc n)) ≡ yields m (length s - length r)
  unfolding member_step fits_member
  member_here at n m r l h e =
      let c : cut_member (drop at s) ≡ found m r = rw e (member_format.back m r h) in
      rw (step_some _ _ _ _ s at (suc n) (more n) m r c, (signed_again w64 8 refl m.ref (both_left _ _ h)).0)

  tag_here : (at n : ℕ) (t : Tag ℕ) (r : Bytes) → at ≤ length s → both (fits_tag t) (is_text t.value) ≡ true → drop at s ≡ tag_bytes t ++ r → tag_given s (tag_step s at (suc n)) ≡ yields t (length s - length r)
  unfolding tag_step cut_text then_cut
  tag_here at n t r l h e =
      let c : cut_text (drop at s) ≡ found t r = rw (e, tag_format.back t r (both_left _ _ h), both_right (fits_tag t) _ h) in
      let g = rest_starts s at (tag_bytes t) r l e in
      let k = length_tag t in
      let p : length s - length r - length t.value ≡ at + 8 = omega arith in
      let q : at + 8 + length t.value ≡ length s - length r = omega arith in
      rw (step_some _ _ _ _ s at (suc n) (more n) t r c, p, q, value_at_lem s at t r e)

  refs_from_lem : (rs : List ℤ) (at : ℕ) (r : Bytes) → at ≤ length s → all (fits_signed w64) rs ≡ true → drop at s ≡ joined_bytes i64 rs ++ r → refs_from s at (length rs) ≡ Some rs
  unfolding refs_from ref_step
  refs_from_lem = steps_back s (λ o m. ref_given (ref_step s o m)) i64 (fits_signed w64) (λ at. rw (step_done _ _ _ _ s at 0 refl)) ref_here

  members_from_lem : (ms : List (Member ℕ)) (at : ℕ) (r : Bytes) → at ≤ length s → all fits_member ms ≡ true → drop at s ≡ joined_bytes member_bytes ms ++ r → members_from s at (length ms) ≡ Some ms
  unfolding members_from member_step
  members_from_lem = steps_back s (λ o m. member_given (member_step s o m)) member_bytes fits_member (λ at. rw (step_done _ _ _ _ s at 0 refl)) member_here

  tags_from_lem : (ts : List (Tag ℕ)) (at : ℕ) (r : Bytes) → at ≤ length s → all (λ t. both (fits_tag t) (is_text t.value)) ts ≡ true → drop at s ≡ joined_bytes tag_bytes ts ++ r → tags_from s at (length ts) ≡ Some ts
  unfolding tags_from tag_step
  tags_from_lem = steps_back s (λ o m. tag_given s (tag_step s o m)) tag_bytes (λ t. both (fits_tag t) (is_text t.value)) (λ at. rw (step_done _ _ _ _ s at 0 refl)) tag_here

body_read_lem : (id : ℤ) (b : Body ℕ) (n : ℕ) (s r : Bytes) → fits_body b ≡ true → head_len (kind_of b) + 29 ≤ length s → drop (head_len (kind_of b) + 29) s ≡ body_bytes b ++ r → body_read (kind_of b) (head_of id b n) s ≡ Some b
unfolding body_read tags_at head_of body_bytes fits_body
body_read_lem id (place lat lon) n s r h l e = refl
body_read_lem id (refs rs) n s r h l e = rw (refs_from_lem s rs 45 r l h e)
body_read_lem id (members ms) n s r h l e = rw (members_from_lem s ms 45 r l h e)

-- ---- the record

tags_place : (id : ℤ) (b : Body ℕ) (n : ℕ) → tags_at (kind_of b) (head_of id b n).count ≡ head_len (kind_of b) + 29 + length (body_bytes b)
unfolding tags_at head_of body_bytes
tags_place id (place lat lon) n = refl
tags_place id (refs rs) n = rw (length_joined i64 8 length_i64 rs)
tags_place id (members ms) n = rw (length_joined member_bytes 13 length_member ms)

refs_of : (b : Body ℕ) (s r : Bytes) → fits_body b ≡ true → drop (head_len (kind_of b) + 29) s ≡ body_bytes b ++ r
    → (rs : List ℤ) (i : ℕ) → b ≡ refs rs → i < length rs → to_z w64 (ref_at s i) ≡ get_or rs i (pos 0)
unfolding fits_body body_bytes
refs_of (place lat lon) s r h e rs i q l = no cc
refs_of (refs xs) s r h e rs i q l = let z : xs ≡ rs = cc in let x = refs_back s xs r h e i (rw z l) in rw (← z) cc
refs_of (members ms) s r h e rs i q l = no cc

members_of : (b : Body ℕ) (s r : Bytes) → fits_body b ≡ true → drop (head_len (kind_of b) + 29) s ≡ body_bytes b ++ r
    → (ms : List (Member ℕ)) (i : ℕ) (d : Member ℕ) → b ≡ members ms → i < length ms → member_held (member_at s i) ≡ Some (get_or ms i d)
unfolding fits_body body_bytes
members_of (place lat lon) s r h e ms i d q l = no cc
members_of (refs rs) s r h e ms i d q l = no cc
members_of (members xs) s r h e ms i d q l = let z : xs ≡ ms = cc in rw (← z) (members_back s xs r h e i d (rw z l))

-- T6: what is found in the bytes s is the record r under the id; `head` to `members_at` for the library's own fields, the rest by a user's readers and steps
pub record Found (id : ℤ) (r : Record ℕ) (s : Bytes) : Type 0 where
  pub head : head_at (kind_of r.body) s ≡ head_of id r.body (length r.tags)
  pub meta : meta_of (meta_at s (head_len (kind_of r.body))) ≡ r.meta
  pub refs_at : (rs : List ℤ) (i : ℕ) → r.body ≡ refs rs → i < length rs → to_z w64 (ref_at s i) ≡ get_or rs i (pos 0)
  pub members_at : (ms : List (Member ℕ)) (i : ℕ) (d : Member ℕ) → r.body ≡ members ms → i < length ms → member_held (member_at s i) ≡ Some (get_or ms i d)
  pub head_read_lem : head_read (kind_of r.body) s ≡ Some (head_of id r.body (length r.tags))
  pub meta_read_lem : meta_given (meta_read s (head_len (kind_of r.body))) ≡ Some r.meta
  pub body_read_lem : body_read (kind_of r.body) (head_of id r.body (length r.tags)) s ≡ Some r.body
  pub tags : tags_from s (tags_at (kind_of r.body) (head_of id r.body (length r.tags)).count) (length r.tags) ≡ Some r.tags
  pub whole : read_record (kind_of r.body) s ≡ Some (record { id = id; held = r })

all_of_it : (id : ℤ) (r : Record ℕ) (s : Bytes) → head_read (kind_of r.body) s ≡ Some (head_of id r.body (length r.tags)) → meta_given (meta_read s (head_len (kind_of r.body))) ≡ Some r.meta
    → body_read (kind_of r.body) (head_of id r.body (length r.tags)) s ≡ Some r.body
    → tags_from s (tags_at (kind_of r.body) (head_of id r.body (length r.tags)).count) (length r.tags) ≡ Some r.tags
    → read_record (kind_of r.body) s ≡ Some (record { id = id; held = r })
unfolding read_record bind
all_of_it id r s hd m b t = rw (hd, m, b, head_tags id r.body (length r.tags), t, head_id id r.body (length r.tags))

found_there : (id : ℤ) (r : Record ℕ) (s q : Bytes) → fitting id r ≡ true → legal_texts r ≡ true
    → Lie s 0 (head_bytes (kind_of r.body) (head_of id r.body (length r.tags)) ∷ meta_bytes r.meta ∷ body_bytes r.body ∷ joined_bytes tag_bytes r.tags ∷ []) q → Found id r s
unfolding fitting legal_texts
found_there id r s q h1 g w1 =
    let h2 = both_right _ _ h1 in let h3 = both_right _ _ h2 in
    let b = r.body in let k = kind_of b in let n = length r.tags in
    let w2 = later (head_len k) (head_len k) (length_head k _) (omega arith) w1 in
    let w3 = later 29 (head_len k + 29) (length_meta r.meta) refl w2 in
    let w4 = later (length (body_bytes b)) (tags_at k (head_of id b n).count) refl (tags_place id b n) w3 in
    let long = simp (length-append, length_head, length_meta) at (ap length w1.is) in
    let l3 : head_len k + 29 ≤ length s = omega arith in
    let l4 : tags_at k (head_of id b n).count ≤ length s = omega (arith, tags_place id b n) in
    let hd = head_read_lem id b n s _ (both_left _ _ h1) w1.is in
    let m = meta_read_lem s (head_len k) r.meta _ (both_left _ _ h2) w2.is in
    let bd = body_read_lem id b n s _ (both_left _ _ h3) l3 w3.is in
    let t = tags_from_lem s r.tags _ q l4 (all_both fits_tag (λ t. is_text t.value) r.tags (both_right _ _ h3) g) w4.is in
    record {
      head = head_back id b n s _ (both_left _ _ h1) w1.is;
      meta = meta_back s (head_len k) r.meta _ (both_left _ _ h2) w2.is;
      refs_at = refs_of b s _ (both_left _ _ h3) w3.is;
      members_at = members_of b s _ (both_left _ _ h3) w3.is;
      head_read_lem = hd;
      meta_read_lem = m;
      body_read_lem = bd;
      tags = t;
      whole = all_of_it id r s hd m bd t;
    }

-- whatever follows it, a record that fits its fields and whose values are text is read from its bytes as it was written
pub read_record_lem : (id : ℤ) (r : Record ℕ) (q : Bytes) → fitting id r ≡ true → legal_texts r ≡ true → Found id r (record_bytes id r ++ q)
unfolding record_bytes parts_bytes
read_record_lem id r q h g = found_there id r (record_bytes id r ++ q) q h g (record { is = simp append_assoc })
