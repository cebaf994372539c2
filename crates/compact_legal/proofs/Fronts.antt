-- A record at the front of bytes: its head and metadata field by field, its parts by the check, and where it ends.
use Rattle.refusal.specs.declared.Refusal.{Refusal}
use Rattle.std.specs.Prelude.{None, Option, Result, Some}
use Rattle.std.specs.Result.{result_ok}
use Prim.Native.Nat.{ℕ, ◌+◌, ◌-◌, ◌<◌, ◌≤◌}
use mathlib.Core.Path.{◌≡◌, refl, sym, ◌∙◌, ap}
use mathlib.Core.Bool.{Bool, true, false, cond}
use native.Mathlib.Omega.{arith}
use lib.IntN.{ℤ}
use lib.ListN.{length, take, drop, length-drop}
use lib.Seq.{take_all}
use Rattle.base.specs.Bytes.{Bytes, both, either}
use Rattle.base.proofs.Split.{by_bool, by_le, no}
use Rattle.kind.specs.declared.Kind.{Kind}
use Rattle.kind.specs.declared.Kind.TheVariants.{Node, Way, Relation}
use Rattle.refusal.specs.declared.Refusal.TheVariants.{NotText, CoordinateRange, TooManyParts, BadRecord}
use Rattle.model.specs.Record.{Meta, Tag, Record}
use Rattle.compact.specs.Layout.{Head, head_len}
use Rattle.compact.specs.Cut.{Cut, then_cut, found, cut_tag, cut_parts, KeptRecord, cut_record}
use Rattle.compact.specs.Held.{meta_of}
use Rattle.compact.specs.View.{meta_at, head_at}
use Rattle.compact.proofs.Format.{first, of_cut}
use Rattle.compact.specs.Legal.{legal_handles, legal_texts, in_range, within_limits, limits, fault_of, legal}
use Rattle.compact_legal.specs.Judge.{end_of, record_end, judged, verdict_of}
use Rattle.compact.proofs.Places.{Off, off_then, off_end, off_length, total, times_off, tag_off, meta_sized, meta_there, head_whole, head_short}
use Rattle.compact_legal.proofs.Ends.{end_none}
use Rattle.compact_legal.proofs.Bodies.{body_long, body_cut}

-- the part from an offset on, as the code lends it
pub rest_of : (s : Bytes) (at : ℕ) → take (length s - at) (drop at s) ≡ drop at s
rest_of s at = take_all (length s - at) (drop at s) (omega (arith, length-drop at s))

-- ---- head and metadata

module _ (k : Kind) (s : Bytes) where
  pub record_short : length s < head_len k + 29 → cut_record k s ≡ None
  unfolding cut_record then_cut
  record_short h =
      by_le (head_len k) (length s)
      (λ l. rw (head_whole k s l, meta_sized.short s (head_len k) l h))
      (λ l. rw (head_short k s l))

  pub record_is : head_len k + 29 ≤ length s
      → cut_record k s ≡ then_cut (cut_parts k (head_at k s) (meta_of (meta_at s (head_len k))) (drop (head_len k + 29) s)) (λ r q. found (record { id = (head_at k s).id; held = r }) q)
  unfolding cut_record then_cut
  record_is h = rw (head_whole k s (omega arith), meta_there s (head_len k) h)

-- ---- how far a record goes

parts_off : (k : Kind) (h : Head) (m : Meta ℕ) (s : Bytes) (c : Cut (Record ℕ)) → cut_parts k h m s ≡ Some c → (n : ℕ) × Off s n c.rest
unfolding cut_parts
parts_off k h m s c e =
    first (λ b r. Off s (body_long b) r) (λ x t. (body_cut k h s x t).off) e (λ b s1 o1 e1.
    first (λ ts q. Off s1 (total (λ (t : Tag ℕ). 8 + length t.value) ts) q × (length ts ≡ h.tags)) (times_off cut_tag (λ (t : Tag ℕ). 8 + length t.value) tag_off h.tags s1) e1 (λ ts q o2 e2.
    of_cut (λ r q. (n : ℕ) × Off s n q) e2 (_, off_then o1 o2.0)))

head_long : (k : Kind) → 16 ≤ head_len k
head_long Node = omega arith
head_long Way = omega arith
head_long Relation = omega arith

-- a record takes its head and its metadata at least
pub record_off : (k : Kind) (s : Bytes) (c : Cut KeptRecord) → cut_record k s ≡ Some c → (n : ℕ) × (Off s n c.rest × (45 ≤ n))
record_off k s c e =
    by_le (head_len k + 29) (length s)
    (λ l. first (λ r q. (n : ℕ) × Off (drop (head_len k + 29) s) n q) (λ x t. parts_off k (head_at k s) (meta_of (meta_at s (head_len k))) (drop (head_len k + 29) s) x t) (sym (record_is k s l) ∙ e) (λ r q o t.
    of_cut (λ x q. (n : ℕ) × (Off s n q × (45 ≤ n))) t (head_len k + 29 + o.0, (off_then (record { fits = l; is = refl }) o.1, omega (arith, head_long k)))))
    (λ l. let z : None ≡ Some c = sym (record_short k s l) ∙ e in no cc)

-- ---- the end of a record, by the check

judged_end : (handles texts range few : Bool) (e : ℕ)
    → cond (both handles (both texts (both range few))) (Some e) None
    ≡ result_ok (judged e (cond handles (cond texts (cond range (cond few None (Some TooManyParts)) (Some CoordinateRange)) (Some NotText)) (Some BadRecord)))
unfolding both
judged_end true true true true e = refl
judged_end true true true false e = refl
judged_end true true false few e = refl
judged_end true false range few e = refl
judged_end false texts range few e = refl

module _ (strings : ℕ) where
  none_end : (len : ℕ) (id : Record ℕ → KeptRecord) → end_of (λ (x : KeptRecord). legal strings x.held) len (then_cut None (λ r q. found (id r) q)) ≡ result_ok (verdict_of strings true len None)
  unfolding end_of then_cut verdict_of
  none_end len id = refl

  some_end : (len : ℕ) (id : ℤ) (c : Cut (Record ℕ))
      → end_of (λ (x : KeptRecord). legal strings x.held) len (then_cut (Some c) (λ r q. found (record { id = id; held = r }) q)) ≡ result_ok (verdict_of strings true len (Some c))
  unfolding end_of then_cut verdict_of either legal fault_of
  some_end len id c = judged_end (legal_handles strings c.item) (legal_texts c.item) (in_range c.item.body) (within_limits limits c.item) (len - length c.rest)

module _ (strings : ℕ) (k : Kind) where
  abbrev is_legal : KeptRecord → Bool
  is_legal x = legal strings x.held

  pub front_short : (s : Bytes) → length s < head_len k + 29 → None ≡ record_end strings k s 0
  unfolding record_end
  front_short s h = rw (record_short k s h) (sym (end_none is_legal (length s)))

  pub front_is : (s : Bytes) (v : Result ℕ Refusal) → head_len k + 29 ≤ length s
      → v ≡ verdict_of strings true (length s) (cut_parts k (head_at k s) (meta_of (meta_at s (head_len k))) (drop (head_len k + 29) s))
      → result_ok v ≡ record_end strings k s 0
  unfolding record_end
  front_is s v h e =
      rw (e, record_is k s h) (sym (go (cut_parts k (head_at k s) (meta_of (meta_at s (head_len k))) (drop (head_len k + 29) s))))
    where
      go : (o : Option (Cut (Record ℕ))) → end_of is_legal (length s) (then_cut o (λ r q. found (record { id = (head_at k s).id; held = r }) q)) ≡ result_ok (verdict_of strings true (length s) o)
      go None = none_end strings (length s) (λ r. record { id = (head_at k s).id; held = r })
      go (Some c) = some_end strings (length s) (head_at k s).id c

  -- ---- from an offset on

  module _ (s : Bytes) (at : ℕ) where
    -- what an end tells
    pub end_tells : at ≤ length s → (e : ℕ) → record_end strings k s at ≡ Some e
        → (c : Cut KeptRecord) × ((cut_record k (drop at s) ≡ Some c) × ((legal strings c.item.held ≡ true) × ((c.rest ≡ drop e s) × ((at < e) × (e ≤ length s)))))
    unfolding record_end end_of
    end_tells h e t = go (cut_record k (drop at s)) refl t
      where
        go : (o : Option (Cut KeptRecord)) → cut_record k (drop at s) ≡ o → end_of is_legal (length s) o ≡ Some e
            → (c : Cut KeptRecord) × ((cut_record k (drop at s) ≡ Some c) × ((legal strings c.item.held ≡ true) × ((c.rest ≡ drop e s) × ((at < e) × (e ≤ length s)))))
        go None q t = no cc
        go (Some c) q t =
            by_bool (legal strings c.item.held)
            (λ y. let z : Some (length s - length c.rest) ≡ Some e = rw y at t in
            let w : length s - length c.rest ≡ e = cc in
            let o = record_off k (drop at s) c q in
            let x = off_end s at h o.1.0 in
            let p : at + o.0 ≡ e = omega (arith, x.1.1) in
            (c, (q, (y, (x.0 ∙ ap (λ n. drop n s) p, (omega (arith, o.1.1), omega (arith, x.1.0)))))))
            (λ y. let z : None ≡ Some e = rw y at t in no cc)

    pub end_at : at ≤ length s → (n : ℕ) → Some n ≡ record_end strings k (drop at s) 0 → (Some (at + n) ≡ record_end strings k s at) × (at + n ≤ length s)
    unfolding record_end end_of
    end_at h n t = go (cut_record k (drop at s)) refl t
      where
        go : (o : Option (Cut KeptRecord)) → cut_record k (drop at s) ≡ o → Some n ≡ end_of is_legal (length (drop at s)) o → (Some (at + n) ≡ end_of is_legal (length s) o) × (at + n ≤ length s)
        go None q t = no cc
        go (Some c) q t =
            by_bool (legal strings c.item.held)
            (λ y. let z : Some n ≡ Some (length (drop at s) - length c.rest) = rw y at t in
            let w : n ≡ length (drop at s) - length c.rest = cc in
            let o = record_off k (drop at s) c q in
            let x = off_end s at h o.1.0 in
            let l = length-drop at s in
            let r = off_length o.1.0 in
            let p : length s - length c.rest ≡ at + n = omega (arith, x.1.0) in
            (rw (y, p), omega (arith, x.1.0)))
            (λ y. let z : Some n ≡ None = rw y at t in no cc)

    pub end_bad : None ≡ record_end strings k (drop at s) 0 → None ≡ record_end strings k s at
    unfolding record_end end_of
    end_bad t = go (cut_record k (drop at s)) t
      where
        go : (o : Option (Cut KeptRecord)) → None ≡ end_of is_legal (length (drop at s)) o → None ≡ end_of is_legal (length s) o
        go None t = refl
        go (Some c) t =
            by_bool (legal strings c.item.held)
            (λ y. let z : None ≡ Some (length (drop at s) - length c.rest) = rw y at t in no cc)
            (λ y. rw y)

    pub end_past : length s ≤ at → None ≡ record_end strings k s at
    end_past h = end_bad (front_short (drop at s) (omega (arith, length-drop at s)))
