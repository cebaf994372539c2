-- compact.rs: its accessors and iterators do not panic on the bytes of a legal record, whatever follows them, and read what was appended, texts resolved.
use Rattle.std.specs.Prelude.{None, Option, Some}
use Rattle.base.specs.Options.{bind}
use Rattle.std.proofs.Common.{◌≡◌, ℕ, zero, suc, ◌+◌, ◌-◌, ◌*◌, ◌^◌, ◌<◌, ◌≤◌, Bool, true, eqb, List, [], ◌∷◌, ◌++◌, map, length, drop, ℤ, refl, ap, ◌∙◌, append_assoc, mod-eq_of_lt, arith, length-append, length-drop, drop-drop, take_at, drop_at, w32, w64, of_z, ltb-true, eqb-true, le-leb}
use mathlib.Core.List.{map-map}
use lib.Dec.{eqb-suc-zero}
use Rattle.base.specs.Bytes.{Bytes, both, either, all}
use Rattle.base.proofs.Split.{by_bool, both_left, both_right, by_either, clash}
use Rattle.base.proofs.Lists.{all_head, all_tail}
use Rattle.base.proofs.Tests.{all_both}
use Rattle.little.specs.Little.{le}
use Rattle.little.proofs.Littles.{length_le, value_back}
use Rattle.text.specs.Check.{is_text}
use Rattle.kind.specs.Kind.{kind_number}
use Rattle.kind.specs.declared.Kind.{Kind}
use Rattle.kind.specs.declared.Kind.TheVariants.{Node, Way, Relation}
use Rattle.model.specs.Record.{Meta, Member, Tag, Body, place, refs, members, Record, kind_of, flagged}
use Rattle.model.specs.Swap.{swap_meta, swap_member, swap_tag, swap_record}
use Rattle.interner.specs.Texts.{text_of}
use Rattle.compact.specs.Layout.{u32, i32, i64, meta_bytes, member_bytes, tag_bytes, joined_bytes, head_bytes, head_of, body_bytes, parts_bytes, record_bytes}
use Rattle.compact.specs.Fits.{fits_number, fits_signed, fits_meta, fits_member, fits_tag, fits_head, fits_body, fitting}
use Rattle.compact.specs.Legal.{handle, legal_meta, body_handles, legal_handles, legal_texts, legal}
use Rattle.compact.proofs.Format.{signed_again}
use Rattle.compact.proofs.Cuts.{type_fits}
use Rattle.compact.proofs.Lengths.{length_i64, length_meta, length_member, length_tag, length_joined}
use Rattle.published.specs.Std.{from_le, index, slice}
use Rattle.published.specs.Interner.{StringTable, resolve}
use Rattle.published.specs.Compact.{Iter, Yielded, yielded, collect, collect_from}
use Rattle.published.specs.Compact as Rust
use Rattle.refines.specs.Overlays.{element_kind}
use Rattle.refines.specs.Records.{tag_text, member_item, metadata_read, RecordRead}
use Rattle.refines.proofs.Acts.{from_value, clear_flag}

-- ---- bytes and flags

from_le_lem : (n v : ℕ) → fits_number n v ≡ true → from_le (le n v) ≡ v
unfolding fits_number
from_le_lem n v h = rw from_value (value_back n v (ltb-true v (256 ^ n) h))

index_first : (s : Bytes) (i : ℕ) → index s i ≡ index (drop i s) 0
index_first [] zero = refl
index_first [] (suc i) = refl
index_first (b ∷ s) zero = refl
index_first (b ∷ s) (suc i) = index_first s i

type_back : (k : Kind) → Rust.byte_to_member_type (kind_number k) ≡ Some (element_kind k)
unfolding Rust.byte_to_member_type
type_back Node = refl
type_back Way = refl
type_back Relation = refl

-- ---- fields one after another: from a place of s on stand the fields xs, and then r

abbrev flat : List Bytes → Bytes → Bytes
flat [] r = r
flat (x ∷ xs) r = x ++ flat xs r

record Lie (s : Bytes) (at : ℕ) (xs : List Bytes) (r : Bytes) : Type 0 where
  pub is : drop at s ≡ flat xs r
  pub within : at ≤ length s

module _ {s : Bytes} {at : ℕ} {xs : List Bytes} {r : Bytes} where
  ends : {x : Bytes} (n : ℕ) → length x ≡ n → Lie s at (x ∷ xs) r → at + n ≤ length s
  ends {x} n e w =
      let l = w.within in
      let d : length s - at ≡ length x + length (flat xs r) = rw (length-drop, length-append) at (ap length w.is) in
      omega arith

  later : {x : Bytes} (n a : ℕ) → length x ≡ n → a ≡ at + n → Lie s at (x ∷ xs) r → Lie s a xs r
  later {x} n a e f w = record { is = rw (f, ← drop-drop, w.is) (drop_at x (flat xs r) n e); within = rw f (ends n e w) }

  slice_there : {x : Bytes} (n : ℕ) → length x ≡ n → Lie s at (x ∷ xs) r → slice s at n ≡ Some x
  unfolding slice
  slice_there {x} n e w = rw (le-leb (at + n) (length s) (ends n e w), w.is, take_at x (flat xs r) n e)

  read_u32 : (v : ℕ) → fits_number 4 v ≡ true → Lie s at (u32 v ∷ xs) r → Rust.read_u32_le s at ≡ Some v
  read_u32 v h w = rw (slice_there 4 (length_le 4 v) w, from_le_lem 4 v h)

  read_i32 : (z : ℤ) → fits_signed w32 z ≡ true → Lie s at (i32 z ∷ xs) r → Rust.read_i32_le s at ≡ Some z
  read_i32 z h w = let g = signed_again w32 4 refl z h in rw (slice_there 4 (length_le 4 (of_z w32 z)) w, from_le_lem 4 (of_z w32 z) g.1, g.0)

  read_i64 : (z : ℤ) → fits_signed w64 z ≡ true → Lie s at (i64 z ∷ xs) r → Rust.read_i64_le s at ≡ Some z
  read_i64 z h w = let g = signed_again w64 8 refl z h in rw (slice_there 8 (length_le 8 (of_z w64 z)) w, from_le_lem 8 (of_z w64 z) g.1, g.0)

  read_byte : (v : ℕ) → fits_number 1 v ≡ true → Lie s at (le 1 v ∷ xs) r → index s at ≡ Some v
  unfolding fits_number le
  read_byte v h w = rw (index_first s at, w.is) (ap Some (mod-eq_of_lt (ltb-true v 256 h)))

-- ---- an iterator that yields each element where its bytes stand

module _ {A B : Type 0} (s : Bytes) (next : Iter → Option (Option (Yielded B))) (bytes : A → Bytes) (item : A → B) (good : A → Bool)
    (last : (at : ℕ) → next (record { offset = at; remaining = 0 }) ≡ Some None)
    (here : (at n : ℕ) (a : A) (q : Bytes) → good a ≡ true → Lie s at (bytes a ∷ []) q
    → next (record { offset = at; remaining = suc n }) ≡ yielded (item a) (at + length (bytes a)) (suc n - 1)) where
  collected : (xs : List A) (at : ℕ) (q : Bytes) → all good xs ≡ true → Lie s at (joined_bytes bytes xs ∷ []) q
      → collect_from next (length xs) (record { offset = at; remaining = length xs }) ≡ Some (map item xs)
  unfolding collect_from joined_bytes
  collected [] at q h w = rw (last at)
  collected (x ∷ xs) at q h w =
      let w1 : Lie s at (bytes x ∷ joined_bytes bytes xs ∷ []) q = record { is = rw append_assoc at w.is; within = w.within } in
      let w0 : Lie s at (bytes x ∷ []) (joined_bytes bytes xs ++ q) = record { is = w1.is; within = w.within } in
      let n : suc (length xs) - 1 ≡ length xs = omega arith in
      rw (here at (length xs) x _ (all_head good x xs h) w0, n, collected xs (at + length (bytes x)) q (all_tail good x xs h) (later (length (bytes x)) (at + length (bytes x)) refl refl w1))

one_more : {B : Type 0} (at n : ℕ) (x : Option (Option (Yielded B))) → Rust.unless_done (record { offset = at; remaining = suc n }) x ≡ x
one_more at n x = rw eqb-suc-zero

-- ---- refs

module _ (s : Bytes) where
  ref_here : (at n : ℕ) (z : ℤ) (q : Bytes) → fits_signed w64 z ≡ true → Lie s at (i64 z ∷ []) q
      → Rust.ref_next s (record { offset = at; remaining = suc n }) ≡ yielded z (at + length (i64 z)) (suc n - 1)
  unfolding Rust.ref_next bind
  ref_here at n z q h w = rw (one_more, read_i64 z h w, length_i64 z)

  ref_last : (at : ℕ) → Rust.ref_next s (record { offset = at; remaining = 0 }) ≡ Some None
  unfolding Rust.ref_next
  ref_last at = refl

  refs_collected : (rs : List ℤ) (at : ℕ) (q : Bytes) → all (fits_signed w64) rs ≡ true → Lie s at (joined_bytes i64 rs ∷ []) q
      → collect (Rust.ref_next s) (record { offset = at; remaining = length rs }) ≡ Some rs
  unfolding collect
  refs_collected rs at q h w = collected s (Rust.ref_next s) i64 (λ z. z) (fits_signed w64) ref_last ref_here rs at q h w ∙ ap Some (map_same rs)
    where
      map_same : (xs : List ℤ) → map (λ z. z) xs ≡ xs
      map_same [] = refl
      map_same (x ∷ xs) = ap (x ∷◌) (map_same xs)

-- ---- texts by their handles, metadata, members, tags

module _ (from_utf8 : Bytes → Bool) (texts : (t : Bytes) → is_text t ≡ true → from_utf8 t ≡ true)
    (held : List Bytes) (strings : StringTable) (resolves : (n : ℕ) → n < length held → resolve strings n ≡ Some (text_of held n)) (empty : text_of held 0 ≡ []) where
  resolved : (n : ℕ) → handle (length held) n ≡ true → resolve strings n ≡ Some (text_of held n)
  resolved n h = resolves n (ltb-true n (length held) h)

  module _ (s : Bytes) where
    -- a user that is not flagged is the empty text, which handle 0 stands for
    user_read_lem : (at flags user : ℕ) (xs : List Bytes) (r : Bytes) → fits_number 4 user ≡ true → either (flagged 4 flags) (eqb user 0) ≡ true → handle (length held) user ≡ true
        → Lie s (at + 25) (u32 user ∷ xs) r → Rust.read_user strings s at flags ≡ Some (text_of held user)
    unfolding bind
    user_read_lem at flags user xs r h g k w =
        by_bool (flagged 4 flags)
        (λ t. rw (clear_flag, t, read_u32 user h w) (resolved user k))
        (λ t. by_either (flagged 4 flags) (eqb user 0) g (λ u. clash u t) (λ u. rw (clear_flag, t, eqb-true user 0 u, empty)))

    meta_read_lem : (at : ℕ) (m : Meta ℕ) (xs : List Bytes) (r : Bytes) → fits_meta m ≡ true → legal_meta (length held) m ≡ true → Lie s at (meta_bytes m ∷ xs) r
        → Rust.read_meta strings s at ≡ Some (metadata_read (swap_meta (text_of held) m))
    unfolding Rust.read_meta bind meta_bytes fits_meta legal_meta
    meta_read_lem at m xs r h1 g1 w =
        let h2 = both_right _ _ h1 in let h3 = both_right _ _ h2 in let h4 = both_right _ _ h3 in let h5 = both_right _ _ h4 in
        let g2 = both_right _ _ (both_right _ _ (both_right _ _ g1)) in
        let w1 : Lie s at (le 1 m.flags ∷ i32 m.version ∷ i64 m.timestamp ∷ i64 m.changeset ∷ i32 m.uid ∷ u32 m.user ∷ xs) r =
        record { is = simp append_assoc at w.is; within = w.within } in
        let w2 = later 1 (at + 1) (length_le 1 _) refl w1 in
        let w3 = later 4 (at + 5) (length_le 4 _) (omega arith) w2 in
        let w4 = later 8 (at + 13) (length_le 8 _) (omega arith) w3 in
        let w5 = later 8 (at + 21) (length_le 8 _) (omega arith) w4 in
        let w6 = later 4 (at + 25) (length_le 4 _) (omega arith) w5 in
        rw (
          read_byte m.flags (both_left _ _ h1) w1,
          clear_flag m.flags 1,
          read_i32 m.version (both_left _ _ h2) w2,
          read_i64 m.timestamp (both_left _ _ h3) w3,
          read_i64 m.changeset (both_left _ _ h4) w4,
          read_i32 m.uid (both_left _ _ h5) w5,
          user_read_lem at m.flags m.user xs r (both_right _ _ h5) (both_left _ _ g2) (both_right _ _ g2) w6,
          clear_flag m.flags 2,
        )
        (by_bool (flagged 1 m.flags) (λ t. rw t) (λ t. rw t))

    flags_read : (at : ℕ) (m : Meta ℕ) (xs : List Bytes) (r : Bytes) → fits_meta m ≡ true → Lie s at (meta_bytes m ∷ xs) r → index s at ≡ Some m.flags
    unfolding meta_bytes fits_meta
    flags_read at m xs r h w =
        let w1 : Lie s at (le 1 m.flags ∷ i32 m.version ∷ i64 m.timestamp ∷ i64 m.changeset ∷ i32 m.uid ∷ u32 m.user ∷ xs) r =
        record { is = simp append_assoc at w.is; within = w.within } in
        read_byte m.flags (both_left _ _ h) w1

    member_here : (at n : ℕ) (m : Member ℕ) (q : Bytes) → both (fits_member m) (handle (length held) m.role) ≡ true → Lie s at (member_bytes m ∷ []) q
        → Rust.member_next strings s (record { offset = at; remaining = suc n }) ≡ yielded (member_item (swap_member (text_of held) m)) (at + length (member_bytes m)) (suc n - 1)
    unfolding Rust.member_next bind member_bytes fits_member
    member_here at n m q h1 w =
        let h2 = both_left (both (fits_signed w64 m.ref) (fits_number 4 m.role)) _ h1 in
        let w1 : Lie s at (i64 m.ref ∷ le 1 (kind_number m.type) ∷ u32 m.role ∷ []) q = record { is = simp append_assoc at w.is; within = w.within } in
        let w2 = later 8 (at + 8) (length_le 8 _) refl w1 in
        let w3 = later 1 (at + 8 + 1) (length_le 1 _) refl w2 in
        let e : at + 8 + 1 + 4 ≡ at + length (member_bytes m) = omega (arith, length_member m) in
        rw (
          one_more,
          read_i64 m.ref (both_left _ _ h2) w1,
          read_byte (kind_number m.type) (type_fits m.type) w2,
          read_u32 m.role (both_right _ _ h2) w3,
          type_back m.type,
          resolved m.role (both_right _ _ h1),
          e,
        )

    tag_here : (at n : ℕ) (t : Tag ℕ) (q : Bytes) → both (fits_tag t) (both (is_text t.value) (handle (length held) t.key)) ≡ true → Lie s at (tag_bytes t ∷ []) q
        → Rust.tag_next from_utf8 strings s (record { offset = at; remaining = suc n }) ≡ yielded (tag_text (swap_tag (text_of held) t)) (at + length (tag_bytes t)) (suc n - 1)
    unfolding Rust.tag_next bind tag_bytes fits_tag
    tag_here at n t q h1 w =
        let h2 = both_left (both (fits_number 4 t.key) (fits_number 4 (length t.value))) _ h1 in
        let h3 = both_right _ _ h1 in
        let w1 : Lie s at (u32 t.key ∷ u32 (length t.value) ∷ t.value ∷ []) q = record { is = simp append_assoc at w.is; within = w.within } in
        let w2 = later 4 (at + 4) (length_le 4 _) refl w1 in
        let w3 = later 4 (at + 4 + 4) (length_le 4 _) refl w2 in
        let e : at + 4 + 4 + length t.value ≡ at + length (tag_bytes t) = omega (arith, length_tag t) in
        rw (
          one_more,
          read_u32 t.key (both_left _ _ h2) w1,
          read_u32 (length t.value) (both_right _ _ h2) w2,
          slice_there (length t.value) refl w3,
          resolved t.key (both_right _ _ h3),
          texts t.value (both_left _ _ h3),
          e,
        )

    member_last : (at : ℕ) → Rust.member_next strings s (record { offset = at; remaining = 0 }) ≡ Some None
    unfolding Rust.member_next
    member_last at = refl

    tag_last : (at : ℕ) → Rust.tag_next from_utf8 strings s (record { offset = at; remaining = 0 }) ≡ Some None
    unfolding Rust.tag_next
    tag_last at = refl

    members_collected : (ms : List (Member ℕ)) (at : ℕ) (q : Bytes) → all fits_member ms ≡ true → all (λ m. handle (length held) m.role) ms ≡ true → Lie s at (joined_bytes member_bytes ms ∷ []) q
        → collect (Rust.member_next strings s) (record { offset = at; remaining = length ms }) ≡ Some (map member_item (map (swap_member (text_of held)) ms))
    unfolding collect
    members_collected ms at q h g w =
        rw (map-map member_item (swap_member (text_of held)) ms)
        (collected s (Rust.member_next strings s) member_bytes (λ m. member_item (swap_member (text_of held) m)) _ member_last member_here ms at q
        (all_both fits_member (λ m. handle (length held) m.role) ms h g) w)

    tags_collected : (ts : List (Tag ℕ)) (at : ℕ) (q : Bytes) → all fits_tag ts ≡ true → all (λ t. is_text t.value) ts ≡ true → all (λ t. handle (length held) t.key) ts ≡ true
        → Lie s at (joined_bytes tag_bytes ts ∷ []) q
        → collect (Rust.tag_next from_utf8 strings s) (record { offset = at; remaining = length ts }) ≡ Some (map tag_text (map (swap_tag (text_of held)) ts))
    unfolding collect
    tags_collected ts at q h g k w =
        rw (map-map tag_text (swap_tag (text_of held)) ts)
        (collected s (Rust.tag_next from_utf8 strings s) tag_bytes (λ t. tag_text (swap_tag (text_of held) t)) _ tag_last tag_here ts at q
        (all_both fits_tag (λ t. both (is_text t.value) (handle (length held) t.key)) ts h (all_both (λ t. is_text t.value) (λ t. handle (length held) t.key) ts g k)) w)

    -- ---- the record

    body_read_lem : (id : ℤ) (m : Meta ℕ) (b : Body ℕ) (ts : List (Tag ℕ)) (q : Bytes) → fits_head (kind_of b) (head_of id b (length ts)) ≡ true → fits_meta m ≡ true → fits_body b ≡ true → all fits_tag ts ≡ true
        → legal_meta (length held) m ≡ true → body_handles (length held) b ≡ true → all (λ t. handle (length held) t.key) ts ≡ true → all (λ t. is_text t.value) ts ≡ true
        → Lie s 0 (head_bytes (kind_of b) (head_of id b (length ts)) ∷ meta_bytes m ∷ body_bytes b ∷ joined_bytes tag_bytes ts ∷ []) q
        → RecordRead from_utf8 strings s id (swap_record (text_of held) (record { meta = m; body = b; tags = ts }))
    unfolding fits_head head_of head_bytes fits_body body_handles body_bytes bind
    body_read_lem id m (place lat lon) ts q h1 fm fb ft lm lb lk lt w =
        let h2 = both_right _ _ h1 in let h3 = both_right _ _ h2 in
        let w1 : Lie s 0 (i64 id ∷ i32 lat ∷ i32 lon ∷ u32 (length ts) ∷ meta_bytes m ∷ joined_bytes tag_bytes ts ∷ []) q = record { is = simp append_assoc at w.is; within = w.within } in
        let w2 = later 8 8 (length_le 8 _) refl w1 in
        let w3 = later 4 12 (length_le 4 _) refl w2 in
        let w4 = later 4 16 (length_le 4 _) refl w3 in
        let w5 = later 4 20 (length_le 4 _) refl w4 in
        let w6 = later 29 49 (length_meta m) refl w5 in
        record {
          id = read_i64 id (both_left _ _ h1) w1;
          flags = flags_read 20 m _ q fm w5;
          metadata = meta_read_lem 20 m _ q fm lm w5;
          body = (read_i32 lat (both_left _ _ h2) w2, read_i32 lon (both_left _ _ h3) w3);
          tags = rw (read_u32 (length ts) (both_right _ _ h3) w4) (tags_collected ts 49 q ft lt lk w6);
        }
    body_read_lem id m (refs rs) ts q h1 fm fb ft lm lb lk lt w =
        let h2 = both_right _ _ h1 in
        let w1 : Lie s 0 (i64 id ∷ u32 (length rs) ∷ u32 (length ts) ∷ meta_bytes m ∷ joined_bytes i64 rs ∷ joined_bytes tag_bytes ts ∷ []) q = record { is = simp append_assoc at w.is; within = w.within } in
        let w2 = later 8 8 (length_le 8 _) refl w1 in
        let w3 = later 4 12 (length_le 4 _) refl w2 in
        let w4 = later 4 16 (length_le 4 _) refl w3 in
        let w5 = later 29 45 (length_meta m) refl w4 in
        let w6 = later (8 * length rs) (45 + length rs * 8) (length_joined i64 8 length_i64 rs) (omega arith) w5 in
        let n = read_u32 (length rs) (both_left _ _ h2) w2 in
        record {
          id = read_i64 id (both_left _ _ h1) w1;
          flags = flags_read 16 m _ q fm w4;
          metadata = meta_read_lem 16 m _ q fm lm w4;
          body = rw n (refs_collected s rs 45 _ fb (record { is = w5.is; within = w5.within }));
          tags = rw (n, read_u32 (length ts) (both_right _ _ h2) w3) (tags_collected ts (45 + length rs * 8) q ft lt lk w6);
        }
    body_read_lem id m (members ms) ts q h1 fm fb ft lm lb lk lt w =
        let h2 = both_right _ _ h1 in
        let w1 : Lie s 0 (i64 id ∷ u32 (length ms) ∷ u32 (length ts) ∷ meta_bytes m ∷ joined_bytes member_bytes ms ∷ joined_bytes tag_bytes ts ∷ []) q = record { is = simp append_assoc at w.is; within = w.within } in
        let w2 = later 8 8 (length_le 8 _) refl w1 in
        let w3 = later 4 12 (length_le 4 _) refl w2 in
        let w4 = later 4 16 (length_le 4 _) refl w3 in
        let w5 = later 29 45 (length_meta m) refl w4 in
        let w6 = later (13 * length ms) (45 + length ms * 13) (length_joined member_bytes 13 length_member ms) (omega arith) w5 in
        let n = read_u32 (length ms) (both_left _ _ h2) w2 in
        record {
          id = read_i64 id (both_left _ _ h1) w1;
          flags = flags_read 16 m _ q fm w4;
          metadata = meta_read_lem 16 m _ q fm lm w4;
          body = rw n (members_collected ms 45 _ fb lb (record { is = w5.is; within = w5.within }));
          tags = rw (n, read_u32 (length ts) (both_right _ _ h2) w3) (tags_collected ts (45 + length ms * 13) q ft lt lk w6);
        }

  -- it is enough that the handles are held and the values are text
  pub held_record_read : (id : ℤ) (r : Record ℕ) (q : Bytes) → fitting id r ≡ true → legal_handles (length held) r ≡ true → legal_texts r ≡ true
      → RecordRead from_utf8 strings (record_bytes id r ++ q) id (swap_record (text_of held) r)
  unfolding record_bytes parts_bytes fitting legal_handles legal_texts
  held_record_read id r q h g t =
      let h2 = both_right _ _ h in let h3 = both_right _ _ h2 in let g2 = both_right _ _ g in
      body_read_lem (record_bytes id r ++ q) id r.meta r.body r.tags q
      (both_left _ _ h) (both_left _ _ h2) (both_left _ _ h3) (both_right _ _ h3) (both_left _ _ g) (both_left _ _ g2) (both_right _ _ g2) t
      (record { is = simp append_assoc; within = omega arith })

  pub record_read : (id : ℤ) (r : Record ℕ) (q : Bytes) → fitting id r ≡ true → legal (length held) r ≡ true
      → RecordRead from_utf8 strings (record_bytes id r ++ q) id (swap_record (text_of held) r)
  unfolding legal
  record_read id r q h g = held_record_read id r q h (both_left _ _ g) (both_left _ _ (both_right (legal_handles (length held) r) _ g))
