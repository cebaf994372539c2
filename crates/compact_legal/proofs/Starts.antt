-- Records at their starts: an append leaves them where they are, and what is read at a start is its record.
use Rattle.std.specs.Prelude.{None, Option, Some}
use Prim.Native.Nat.{ℕ, ◌+◌, ◌-◌}
use mathlib.Core.Path.{◌≡◌, refl, sym, ◌∙◌, ap}
use mathlib.Core.Bool.{Bool, true}
use mathlib.Core.List.{List, [], ◌∷◌, ◌++◌}
use native.Mathlib.Omega.{arith}
use lib.Dec.{ltb, eqb}
use lib.IntN.{ℤ}
use lib.ListN.{length, drop, length-append, length-drop}
use lib.Seq.{drop-append-add}
use borrow.Author.Tests.{ltb-false, le-ltb, eqb-true, ne_eqb}
use Rattle.base.specs.Bytes.{Bytes, all}
use Rattle.base.proofs.Split.{by_bool, by_le, no}
use Rattle.base.proofs.Lists.{all_head, all_tail}
use Rattle.kind.specs.declared.Kind.{Kind}
use Rattle.osm_id.specs.Order.{same_id}
use Rattle.osm_id.proofs.Orders.{same_is}
use Rattle.model.specs.Record.{Meta, Record, claim_of}
use Rattle.compact.specs.Layout.{joined_bytes, Head, head_len}
use Rattle.compact.specs.Cut.{Cut, found, KeptRecord, cut_parts, cut_record}
use Rattle.compact.specs.Held.{meta_of}
use Rattle.compact.specs.View.{meta_at, head_at}
use Rattle.compact.specs.Fits.{fits_kept}
use Rattle.compact.proofs.Cuts.{record_format}
use Rattle.compact.proofs.Format.{first, of_cut}
use Rattle.compact.specs.Legal.{legal}
use Rattle.compact_legal.specs.Judge.{end_of, record_end}
use Rattle.compact_legal.specs.Whole.{kept_bytes, has_id, record_at, starts_at}
use Rattle.compact_legal.proofs.Fronts.{record_is, record_short}
use Rattle.compact_legal.proofs.Wholes.{kept_long}

-- an append leaves the records before it where they are
pub record_stays : (at : ℕ) (xs ys : List KeptRecord) (x : KeptRecord) → record_at at xs ≡ Some x → record_at at (xs ++ ys) ≡ Some x
unfolding record_at
record_stays at [] ys x h = no cc
record_stays at (y ∷ xs) ys x h =
    by_bool (eqb at 0)
    (λ t. let z : Some y ≡ Some x = rw t at h in rw t z)
    (λ t. by_bool (ltb at (length (kept_bytes y)))
    (λ u. let z : None ≡ Some x = rw (t, u) at h in no cc)
    (λ u. rw (t, u) (record_stays (at - length (kept_bytes y)) xs ys x (rw (t, u) at h))))

pub starts_stays : (id : ℤ) (at : ℕ) (xs ys : List KeptRecord) → starts_at id at xs ≡ true → starts_at id at (xs ++ ys) ≡ true
unfolding starts_at
starts_stays id at xs ys h = go (record_at at xs) refl h
  where
    go : (o : Option KeptRecord) → record_at at xs ≡ o → has_id id o ≡ true → has_id id (record_at at (xs ++ ys)) ≡ true
    go None e t = no cc
    go (Some x) e t = rw (record_stays at xs ys x e) t

-- a record of the id starts there
pub start_is : (id : ℤ) (at : ℕ) (xs : List KeptRecord) → starts_at id at xs ≡ true → (x : KeptRecord) × ((record_at at xs ≡ Some x) × (x.id ≡ id))
unfolding starts_at
start_is id at xs h = go (record_at at xs) refl h
  where
    go : (o : Option KeptRecord) → record_at at xs ≡ o → has_id id o ≡ true → (x : KeptRecord) × ((record_at at xs ≡ Some x) × (x.id ≡ id))
    go None e t = no cc
    go (Some x) e t = (x, (e, (same_is x.id id).0 t))

-- a record at a start passes what every record passes
pub record_passes : (p : KeptRecord → Bool) (at : ℕ) (xs : List KeptRecord) (x : KeptRecord) → all p xs ≡ true → record_at at xs ≡ Some x → p x ≡ true
unfolding record_at
record_passes p at [] x h e = no cc
record_passes p at (y ∷ xs) x h e =
    by_bool (eqb at 0)
    (λ t. let z : Some y ≡ Some x = rw t at e in let w : y ≡ x = cc in rw (← w) (all_head p y xs h))
    (λ t. by_bool (ltb at (length (kept_bytes y)))
    (λ u. let z : None ≡ Some x = rw (t, u) at e in no cc)
    (λ u. record_passes p (at - length (kept_bytes y)) xs x (all_tail p y xs h) (rw (t, u) at e)))

-- the record that is appended starts where the bytes ended
pub record_last : (xs : List KeptRecord) (x : KeptRecord) → record_at (length (joined_bytes kept_bytes xs)) (xs ++ x ∷ []) ≡ Some x
unfolding record_at joined_bytes
record_last [] x = refl
record_last (y ∷ xs) x =
    let n = kept_long y in
    let l = length-append (kept_bytes y) (joined_bytes kept_bytes xs) in
    let e : length (kept_bytes y ++ joined_bytes kept_bytes xs) - length (kept_bytes y) ≡ length (joined_bytes kept_bytes xs) = omega arith in
    rw (ne_eqb (length (kept_bytes y ++ joined_bytes kept_bytes xs)) 0 (λ z. omega arith), le-ltb (length (kept_bytes y ++ joined_bytes kept_bytes xs)) (length (kept_bytes y)) (omega arith), e) (record_last xs x)

pub starts_last : (id : ℤ) (xs : List KeptRecord) (x : KeptRecord) → same_id x.id id ≡ true → starts_at id (length (joined_bytes kept_bytes xs)) (xs ++ x ∷ []) ≡ true
unfolding starts_at
starts_last id xs x h = rw (record_last xs x) h

-- ---- what stands at a start

module _ (k : Kind) where
  -- the bytes from a start on begin with its record's
  pub bytes_there : (at : ℕ) (xs : List KeptRecord) (x : KeptRecord) → all (fits_kept k) xs ≡ true → record_at at xs ≡ Some x
      → (q : Bytes) × ((drop at (joined_bytes kept_bytes xs) ≡ kept_bytes x ++ q) × (fits_kept k x ≡ true))
  unfolding record_at joined_bytes
  bytes_there at [] x f h = no cc
  bytes_there at (y ∷ xs) x f h =
      by_bool (eqb at 0)
      (λ t. let z : Some y ≡ Some x = rw t at h in
      let w : y ≡ x = cc in
      let a : at ≡ 0 = eqb-true at 0 t in
      (joined_bytes kept_bytes xs, (rw (a, ← w), rw (← w) (all_head (fits_kept k) y xs f))))
      (λ t. by_bool (ltb at (length (kept_bytes y)))
      (λ u. let z : None ≡ Some x = rw (t, u) at h in no cc)
      (λ u. let g = ltb-false at (length (kept_bytes y)) u in
      let a : at ≡ length (kept_bytes y) + (at - length (kept_bytes y)) = omega arith in
      let d : drop at (kept_bytes y ++ joined_bytes kept_bytes xs) ≡ drop (at - length (kept_bytes y)) (joined_bytes kept_bytes xs) =
      ap (λ n. drop n (kept_bytes y ++ joined_bytes kept_bytes xs)) a ∙ drop-append-add (kept_bytes y) (joined_bytes kept_bytes xs) (at - length (kept_bytes y)) in
      rw d (bytes_there (at - length (kept_bytes y)) xs x (all_tail (fits_kept k) y xs f) (rw (t, u) at h))))

  pub record_there : (at : ℕ) (xs : List KeptRecord) (x : KeptRecord) → all (fits_kept k) xs ≡ true → record_at at xs ≡ Some x → (q : Bytes) × (cut_record k (drop at (joined_bytes kept_bytes xs)) ≡ found x q)
  record_there at xs x f h = let y = bytes_there at xs x f h in (y.0, rw y.1.0 ((record_format k).back x y.0 y.1.1))

  -- a legal record ends as many bytes past its start as it has
  pub start_ends : (strings at : ℕ) (xs : List KeptRecord) (x : KeptRecord) → all (fits_kept k) xs ≡ true → record_at at xs ≡ Some x → legal strings x.held ≡ true
      → record_end strings k (joined_bytes kept_bytes xs) at ≡ Some (at + length (kept_bytes x))
  unfolding record_end end_of
  start_ends strings at xs x f h l =
      let y = bytes_there at xs x f h in
      let c : cut_record k (drop at (joined_bytes kept_bytes xs)) ≡ found x y.0 = rw y.1.0 ((record_format k).back x y.0 y.1.1) in
      let n = kept_long x in
      let d : length (joined_bytes kept_bytes xs) - at ≡ length (kept_bytes x) + length y.0 = sym (length-drop at (joined_bytes kept_bytes xs)) ∙ (ap length y.1.0 ∙ length-append (kept_bytes x) y.0) in
      let e : length (joined_bytes kept_bytes xs) - length y.0 ≡ at + length (kept_bytes x) = omega arith in
      rw (c, l, e)

  parts_meta : (h : Head) (m : Meta ℕ) (s : Bytes) (c : Cut (Record ℕ)) → cut_parts k h m s ≡ Some c → c.item.meta ≡ m
  unfolding cut_parts
  parts_meta h m s c e =
      first (λ b r. Unit {0}) (λ x t. tt) e (λ b s1 u e1. first (λ ts r. Unit {0}) (λ x t. tt) e1 (λ ts q v e2. of_cut (λ (r : Record ℕ) q. r.meta ≡ m) e2 refl))

  -- the metadata that is read at the offset of a record is the record's
  pub meta_there : (s : Bytes) (c : Cut KeptRecord) → cut_record k s ≡ Some c → meta_of (meta_at s (head_len k)) ≡ c.item.held.meta
  meta_there s c e =
      by_le (head_len k + 29) (length s)
      (λ l. first (λ (r : Record ℕ) q. r.meta ≡ meta_of (meta_at s (head_len k))) (parts_meta (head_at k s) (meta_of (meta_at s (head_len k))) (drop (head_len k + 29) s)) (sym (record_is k s l) ∙ e)
      (λ r q m t. of_cut (λ (x : KeptRecord) q. meta_of (meta_at s (head_len k)) ≡ x.held.meta) t (sym m)))
      (λ l. let z : None ≡ Some c = sym (record_short k s l) ∙ e in no cc)

  -- the version claimed at a start is that of its record
  pub claim_there : (at : ℕ) (xs : List KeptRecord) (x : KeptRecord) → all (fits_kept k) xs ≡ true → record_at at xs ≡ Some x
      → claim_of (meta_of (meta_at (drop at (joined_bytes kept_bytes xs)) (head_len k))) ≡ claim_of x.held.meta
  claim_there at xs x f h = let y = record_there at xs x f h in ap claim_of (meta_there (drop at (joined_bytes kept_bytes xs)) _ y.1)
