-- What is cut off the bytes from a place on: how far it goes, and what stands there.
use Rattle.std.specs.Prelude.{None, Option, Some}
use Prim.Native.Nat.{ℕ, zero, suc, ◌+◌, ◌-◌, ◌<◌, ◌≤◌}
use mathlib.Core.Path.{◌≡◌, refl, sym, ◌∙◌, ap}
use mathlib.Core.List.{List, [], ◌∷◌}
use native.Mathlib.Omega.{arith}
use lib.IntN.{ℤ, pos}
use lib.ListN.{length, take, drop, length-drop, drop_of_length-le}
use lib.Seq.{drop-drop, length-take-le}
use mir.Syntax.{w32, w64}
use mir.Val.{to_z}
use Rattle.base.specs.Bytes.{Bytes}
use Rattle.base.proofs.Split.{by_le, no}
use Rattle.little.specs.Little.{value_at}
use Rattle.kind.specs.Kind.{of_number}
use Rattle.kind.specs.declared.Kind.{Kind}
use Rattle.kind.specs.declared.Kind.TheVariants.{Node, Way, Relation}
use Rattle.model.specs.Record.{Member, Tag}
use Rattle.compact.specs.Layout.{head_len}
use Rattle.compact.specs.Cut.{Cut, then_cut, found, cut_bytes, cut_number, cut_i32, cut_i64, times, cut_meta, member_as, cut_member, cut_tag, cut_counts, cut_head}
use Rattle.compact.specs.Held.{meta_of, node_head, counts_head, way_head, relation_head, member_named}
use Rattle.compact.specs.View.{node_at, way_at, relation_at, meta_at, head_at}
use Rattle.compact.proofs.Format.{first, of_cut, cut_short, cut_whole}

-- r is what is left of s after n bytes
pub record Off (s : Bytes) (n : ℕ) (r : Bytes) : Type 0 where
  pub fits : n ≤ length s
  pub is : r ≡ drop n s

pub off_none : (s : Bytes) → Off s 0 s
off_none s = record { fits = omega arith; is = refl }

pub off_then : {s r q : Bytes} {m n : ℕ} → Off s m r → Off r n q → Off s (m + n) q
off_then {s} {r} {q} {m} {n} a b =
    let l : length r ≡ length s - m = ap length a.is ∙ length-drop m s in
    let f = a.fits in
    let g = b.fits in
    record { fits = omega arith; is = b.is ∙ (ap (drop n) a.is ∙ drop-drop n m s) }

pub off_length : {s r : Bytes} {n : ℕ} → Off s n r → length r ≡ length s - n
off_length {s} {r} {n} a = ap length a.is ∙ length-drop n s

-- from a place on: the rest begins where the part ends
pub off_end : (s : Bytes) (at : ℕ) {r : Bytes} {n : ℕ} → at ≤ length s → Off (drop at s) n r → (r ≡ drop (at + n) s) × ((at + n ≤ length s) × (length s - length r ≡ at + n))
off_end s at {r} {n} h a =
    let l = off_length a in
    let d = length-drop at s in
    let f = a.fits in
    (a.is ∙ drop-drop n at s, (omega arith, omega arith))

-- ---- how far each cut goes

pub bytes_off : (n : ℕ) (s : Bytes) (c : Cut Bytes) → cut_bytes n s ≡ Some c → Off s n c.rest × (length c.item ≡ n)
bytes_off n s c h =
    by_le n (length s)
    (λ l. of_cut (λ t r. Off s n r × (length t ≡ n)) (sym (cut_whole n s l) ∙ h) (record { fits = l; is = refl }, length-take-le n s l))
    (λ l. let e : None ≡ Some c = sym (cut_short n s l) ∙ h in no cc)

pub number_off : (n : ℕ) (s : Bytes) (c : Cut ℕ) → cut_number n s ≡ Some c → Off s n c.rest
unfolding cut_number
number_off n s c h =
    first (λ t r. Off s n r × (length t ≡ n)) (bytes_off n s) h (λ t r o e. of_cut (λ v q. Off s n q) e o.0)

pub i64_off : (s : Bytes) (c : Cut ℤ) → cut_i64 s ≡ Some c → Off s 8 c.rest
unfolding cut_i64
i64_off s c h = first (λ v r. Off s 8 r) (number_off 8 s) h (λ v r o e. of_cut (λ z q. Off s 8 q) e o)

member_as_off : {s q : Bytes} {c : Cut (Member ℕ)} (ref : ℤ) (role : ℕ) (x : Option Kind) → member_as ref x role q ≡ Some c → Off s 13 q → Off s 13 c.rest
member_as_off {s} ref role (Some k) e o = of_cut (λ m q. Off s 13 q) e o
member_as_off ref role None e o = no cc

pub member_off : (s : Bytes) (c : Cut (Member ℕ)) → cut_member s ≡ Some c → Off s 13 c.rest
unfolding cut_member
member_off s c h =
    first (λ v r. Off s 8 r) (i64_off s) h (λ ref s1 o1 h1. first (λ v r. Off s1 1 r) (number_off 1 s1) h1 (λ type s2 o2 h2.
    first (λ v r. Off s2 4 r) (number_off 4 s2) h2 (λ role q o3 h3. member_as_off ref role (of_number type) h3 (off_then (off_then o1 o2) o3))))

pub tag_off : (s : Bytes) (c : Cut (Tag ℕ)) → cut_tag s ≡ Some c → Off s (8 + length c.item.value) c.rest
unfolding cut_tag
tag_off s c h =
    first (λ v r. Off s 4 r) (number_off 4 s) h (λ key s1 o1 h1. first (λ v r. Off s1 4 r) (number_off 4 s1) h1 (λ n s2 o2 h2.
    first (λ v r. Off s2 n r × (length v ≡ n)) (bytes_off n s2) h2 (λ v q o3 h3.
    of_cut (λ t q. Off s (8 + length t.value) q) h3 (rw o3.1 (off_then (off_then o1 o2) o3.0)))))

-- the lengths of elements, summed
abbrev pub total : {A : Type 0} → (A → ℕ) → List A → ℕ
total long [] = 0
total long (x ∷ xs) = long x + total long xs

module _ {A : Type 0} (cut : Bytes → Option (Cut A)) (long : A → ℕ) (off : (s : Bytes) (c : Cut A) → cut s ≡ Some c → Off s (long c.item) c.rest) where
  pub times_off : (n : ℕ) (s : Bytes) (c : Cut (List A)) → times cut n s ≡ Some c → Off s (total long c.item) c.rest × (length c.item ≡ n)
  unfolding times
  times_off zero s c h = of_cut (λ xs q. Off s (total long xs) q × (length xs ≡ 0)) h (off_none s, refl)
  times_off (suc n) s c h =
      first (λ a r. Off s (long a) r) (off s) h (λ a r o1 h1. first (λ xs q. Off r (total long xs) q × (length xs ≡ n)) (times_off n r) h1 (λ xs q o2 h2.
      of_cut (λ ys q. Off s (total long ys) q × (length ys ≡ suc n)) h2 (off_then o1 o2.0, ap suc o2.1)))

-- ---- parts of a fixed length, field by field

-- a part of n bytes, read from a place on; none where it is not what it should be
abbrev pub leaving : {A : Type 0} → Option A → Bytes → Option (Cut A)
leaving None r = None
leaving (Some a) r = found a r

pub record Sized {A : Type 0} (cut : Bytes → Option (Cut A)) (n : ℕ) (to : Bytes → ℕ → Option A) : Type 0 where
  pub whole : (s : Bytes) (at : ℕ) → at + n ≤ length s → cut (drop at s) ≡ leaving (to s at) (drop (at + n) s)
  pub short : (s : Bytes) (at : ℕ) → at ≤ length s → length s < at + n → cut (drop at s) ≡ None

-- there is none where it would run past the end, from whatever place on
pub sized_none : {A : Type 0} {cut : Bytes → Option (Cut A)} {n : ℕ} {to : Bytes → ℕ → Option A} → Sized cut n to → 0 < n
    → (s : Bytes) (at : ℕ) → length s < at + n → cut (drop at s) ≡ None
sized_none f z s at h =
    by_le at (length s)
    (λ l. f.short s at l h)
    (λ l. rw (drop_of_length-le s {i = at} (omega arith), ← drop_of_length-le s {i = length s} (omega arith)) (f.short s (length s) (omega arith) (omega arith)))

-- where the part from a place on ends
pub next_is : (s : Bytes) (e : ℕ) → e ≤ length s → length s - length (drop e s) ≡ e
next_is s e h = omega (arith, length-drop e s)

pub number_sized : (n : ℕ) → Sized (cut_number n) n (λ s at. Some (value_at n s at))
unfolding cut_number then_cut value_at
number_sized n =
    record {
      whole = λ s at h. rw (cut_whole n (drop at s) (omega (arith, length-drop at s)), drop-drop);
      short = λ s at g h. rw (cut_short n (drop at s) (omega (arith, length-drop at s)));
    }

-- the last step of a part
pub last_sized : {A : Type 0} (o : Option A) → Sized (λ r. leaving o r) 0 (λ s at. o)
last_sized o =
    record {
      whole = λ s at h. let e : at + 0 ≡ at = omega arith in rw e;
      short = λ s at g h. let n : ⊥ = omega arith in absurd n;
    }

-- one part after the other
module _ {A B : Type 0} {cut : Bytes → Option (Cut A)} {n m : ℕ} {to : Bytes → ℕ → A} {next : A → Bytes → Option (Cut B)} {on : A → Bytes → ℕ → Option B} where
  pub then_sized : Sized cut n (λ s at. Some (to s at)) → ((a : A) → Sized (next a) m (on a)) → Sized (λ s. then_cut (cut s) next) (n + m) (λ s at. on (to s at) s (at + n))
  unfolding then_cut
  then_sized f g =
      record {
        whole = λ s at h. let e : at + (n + m) ≡ at + n + m = omega arith in
            rw (f.whole s at (omega arith), e) ((g (to s at)).whole s (at + n) (omega arith));
        short = λ s at l h. by_le (at + n) (length s)
            (λ k. rw (f.whole s at k) ((g (to s at)).short s (at + n) k (omega arith)))
            (λ k. rw (f.short s at l k));
      }

pub i32_sized : Sized cut_i32 4 (λ s at. Some (to_z w32 (value_at 4 s at)))
unfolding cut_i32
i32_sized = then_sized (number_sized 4) (λ v. last_sized (Some (to_z w32 v)))

pub i64_sized : Sized cut_i64 8 (λ s at. Some (to_z w64 (value_at 8 s at)))
unfolding cut_i64
i64_sized = then_sized (number_sized 8) (λ v. last_sized (Some (to_z w64 v)))

member_as_lem : (ref : ℤ) (x : Option Kind) (role : ℕ) → Sized (member_as ref x role) 0 (λ s at. member_named ref x role)
member_as_lem ref (Some k) role = last_sized (Some (record { ref = ref; type = k; role = role }))
member_as_lem ref None role = last_sized None

pub member_sized : Sized cut_member 13 (λ s at. member_named (to_z w64 (value_at 8 s at)) (of_number (value_at 1 s (at + 8))) (value_at 4 s (at + 8 + 1)))
unfolding cut_member
member_sized = then_sized i64_sized (λ ref. then_sized (number_sized 1) (λ type. then_sized (number_sized 4) (λ role. member_as_lem ref (of_number type) role)))

pub meta_sized : Sized cut_meta 29 (λ s at. Some (record {
  flags = value_at 1 s at;
  version = to_z w32 (value_at 4 s (at + 1));
  timestamp = to_z w64 (value_at 8 s (at + 1 + 4));
  changeset = to_z w64 (value_at 8 s (at + 1 + 4 + 8));
  uid = to_z w32 (value_at 4 s (at + 1 + 4 + 8 + 8));
  user = value_at 4 s (at + 1 + 4 + 8 + 8 + 4);
}))
unfolding cut_meta
meta_sized =
    then_sized (number_sized 1) (λ flags. then_sized i32_sized (λ version. then_sized i64_sized (λ timestamp. then_sized i64_sized (λ changeset.
    then_sized i32_sized (λ uid. then_sized (number_sized 4) (λ user.
    last_sized (Some (record { flags = flags; version = version; timestamp = timestamp; changeset = changeset; uid = uid; user = user }))))))))

pub meta_there : (s : Bytes) (at : ℕ) → at + 29 ≤ length s → cut_meta (drop at s) ≡ found (meta_of (meta_at s at)) (drop (at + 29) s)
unfolding meta_of meta_at
meta_there s at h =
    let e1 : at + 1 + 4 ≡ at + 5 = omega arith in
    let e2 : at + 5 + 8 ≡ at + 13 = omega arith in
    let e3 : at + 13 + 8 ≡ at + 21 = omega arith in
    let e4 : at + 21 + 4 ≡ at + 25 = omega arith in
    rw (meta_sized.whole s at h, e1, e2, e3, e4)

-- ---- tags

module _ (s : Bytes) (at : ℕ) where
  -- fewer than 8 bytes hold no tag
  pub tag_short : length s < at + 8 → cut_tag (drop at s) ≡ None
  unfolding cut_tag then_cut
  tag_short h =
      by_le (at + 4) (length s)
      (λ k. rw ((number_sized 4).whole s at k, (number_sized 4).short s (at + 4) k (omega arith)))
      (λ k. rw (sized_none (number_sized 4) (omega arith) s at k))

  module _ (room : at + 8 ≤ length s) where
    tag_value : cut_tag (drop at s) ≡ then_cut (cut_bytes (value_at 4 s (at + 4)) (drop (at + 8) s)) (λ v r. found (record { key = value_at 4 s at; value = v }) r)
    unfolding cut_tag then_cut
    tag_value =
        let e : at + 4 + 4 ≡ at + 8 = omega arith in
        rw ((number_sized 4).whole s at (omega arith), (number_sized 4).whole s (at + 4) (omega arith), e)

    pub tag_long : (n : ℕ) → n ≡ value_at 4 s (at + 4) → length s < at + 8 + n → cut_tag (drop at s) ≡ None
    unfolding then_cut
    tag_long n e h = rw (tag_value, ← e, cut_short n (drop (at + 8) s) (omega (arith, length-drop (at + 8) s)))

    pub tag_whole : (n : ℕ) → n ≡ value_at 4 s (at + 4) → at + 8 + n ≤ length s
        → cut_tag (drop at s) ≡ found (record { key = value_at 4 s at; value = take n (drop (at + 8) s) }) (drop (at + 8 + n) s)
    unfolding then_cut
    tag_whole n e h = rw (tag_value, ← e, cut_whole n (drop (at + 8) s) (omega (arith, length-drop (at + 8) s)), drop-drop)

-- ---- heads

pub counts_sized : Sized cut_counts 16 (λ s at. Some (counts_head (value_at 8 s at) (value_at 4 s (at + 8)) (value_at 4 s (at + 8 + 4))))
unfolding cut_counts counts_head
counts_sized =
    then_sized i64_sized (λ id. then_sized (number_sized 4) (λ count. then_sized (number_sized 4) (λ tags.
    last_sized (Some (record { id = id; lat = pos 0; lon = pos 0; count = count; tags = tags })))))

pub place_sized : Sized (cut_head Node) 20 (λ s at. Some (record {
  id = to_z w64 (value_at 8 s at);
  lat = to_z w32 (value_at 4 s (at + 8));
  lon = to_z w32 (value_at 4 s (at + 8 + 4));
  count = 0;
  tags = value_at 4 s (at + 8 + 4 + 4);
}))
unfolding cut_head
place_sized =
    then_sized i64_sized (λ id. then_sized i32_sized (λ lat. then_sized i32_sized (λ lon. then_sized (number_sized 4) (λ tags.
    last_sized (Some (record { id = id; lat = lat; lon = lon; count = 0; tags = tags }))))))

pub head_whole : (k : Kind) (s : Bytes) → head_len k ≤ length s → cut_head k s ≡ found (head_at k s) (drop (head_len k) s)
unfolding cut_head head_at node_head node_at way_head way_at relation_head relation_at counts_head
head_whole Node s h = place_sized.whole s 0 h
head_whole Way s h = counts_sized.whole s 0 h
head_whole Relation s h = counts_sized.whole s 0 h

pub head_short : (k : Kind) (s : Bytes) → length s < head_len k → cut_head k s ≡ None
unfolding cut_head
head_short Node s h = place_sized.short s 0 (omega arith) h
head_short Way s h = counts_sized.short s 0 (omega arith) h
head_short Relation s h = counts_sized.short s 0 (omega arith) h
