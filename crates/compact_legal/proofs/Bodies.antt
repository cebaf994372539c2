-- Refs, members or a place: where they end, and what a head tells of them.
use Rattle.std.specs.Prelude.{None, Option, Some}
use Prim.Native.Nat.{ℕ, zero, suc, ◌+◌, ◌*◌, ◌<◌, ◌≤◌}
use mathlib.Core.Path.{◌≡◌, refl, sym, ap}
use mathlib.Core.List.{List, [], ◌∷◌}
use native.Mathlib.Omega.{arith}
use lib.Dec.{leb}
use lib.IntN.{ℤ}
use lib.ListN.{length, drop}
use mir.Syntax.{w64}
use mir.Val.{to_z}
use Rattle.base.specs.Bytes.{Bytes, all}
use Rattle.base.proofs.Split.{by_le}
use Rattle.little.specs.Little.{value_at}
use Rattle.kind.specs.declared.Kind.{Kind}
use Rattle.kind.specs.declared.Kind.TheVariants.{Node, Way, Relation}
use Rattle.model.specs.Record.{Member, Body, place, refs, members}
use Rattle.compact.specs.Layout.{Head}
use Rattle.compact.specs.Cut.{Cut, then_cut, found, cut_i64, times, cut_member, cut_body}
use Rattle.compact.proofs.Format.{first, of_cut}
use Rattle.compact.specs.Legal.{limits, handle, body_handles, in_range, body_within}
use Rattle.compact_legal.specs.Judge.{end_of, members_end, body_end, place_in_range, count_within}
use Rattle.compact.proofs.Places.{Off, off_none, total, times_off, i64_off, member_off, i64_sized}
use Rattle.compact_legal.proofs.Ends.{end_none, end_found}

-- ---- refs: 8 bytes each

refs_short : (n : ℕ) (s : Bytes) (at : ℕ) → at ≤ length s → length s < at + 8 * n → times cut_i64 n (drop at s) ≡ None
unfolding times then_cut
refs_short zero s at h l = absurd (omega arith)
refs_short (suc n) s at h l =
    by_le (at + 8) (length s)
    (λ k. rw (i64_sized.whole s at k, refs_short n s (at + 8) k (omega arith)))
    (λ k. rw (i64_sized.short s at h k))

refs_whole : (n : ℕ) (s : Bytes) (at : ℕ) → at + 8 * n ≤ length s → (rs : List ℤ) × (times cut_i64 n (drop at s) ≡ found rs (drop (at + 8 * n) s))
unfolding times then_cut
refs_whole zero s at l = let e : at + 0 ≡ at = omega arith in ([], rw e)
refs_whole (suc n) s at l =
    let x = refs_whole n s (at + 8) (omega arith) in
    let e : at + 8 + 8 * n ≡ at + 8 * suc n = omega arith in
    (to_z w64 (value_at 8 s at) ∷ x.0, rw (i64_sized.whole s at (omega arith), x.1, e))

module _ (strings : ℕ) (h : Head) (s : Bytes) (at : ℕ) where
  pub body_node : at ≤ length s → Some at ≡ body_end strings Node h s at
  unfolding body_end cut_body body_handles
  body_node l = sym (end_found (body_handles strings) s (place h.lat h.lon) at l)

  pub body_short : at ≤ length s → length s < at + 8 * h.count → None ≡ body_end strings Way h s at
  unfolding body_end cut_body then_cut
  body_short l k = rw (refs_short h.count s at l k) (sym (end_none (body_handles strings) (length s)))

  pub body_refs : at + 8 * h.count ≤ length s → Some (at + 8 * h.count) ≡ body_end strings Way h s at
  unfolding body_end cut_body then_cut body_handles
  body_refs l = let x = refs_whole h.count s at l in rw x.1 (sym (end_found (body_handles strings) s (refs x.0) (at + 8 * h.count) l))

  pub body_members : members_end strings h.count s at ≡ body_end strings Relation h s at
  unfolding body_end members_end cut_body then_cut body_handles end_of
  body_members = go (times cut_member h.count (drop at s))
    where
      go : (o : Option (Cut (List (Member ℕ)))) → end_of (all (λ (m : Member ℕ). handle strings m.role)) (length s) o ≡ end_of (body_handles strings) (length s) (then_cut o (λ ms r. found (members ms) r))
      go None = refl
      go (Some c) = refl

-- ---- what is known of a body that was cut off

abbrev pub body_long : Body ℕ → ℕ
body_long (place lat lon) = 0
body_long (refs rs) = total (λ r. 8) rs
body_long (members ms) = total (λ m. 13) ms

pub record BodyCut (k : Kind) (h : Head) (s : Bytes) (b : Body ℕ) (r : Bytes) : Type 0 where
  pub off : Off s (body_long b) r
  pub range : in_range b ≡ place_in_range k h.lat h.lon
  pub count : body_within limits b ≡ count_within limits k h.count

pub body_cut : (k : Kind) (h : Head) (s : Bytes) (c : Cut (Body ℕ)) → cut_body k h s ≡ Some c → BodyCut k h s c.item c.rest
unfolding cut_body place_in_range in_range
body_cut Node h s c e = of_cut (BodyCut Node h s) e (record { off = off_none s; range = refl; count = refl })
body_cut Way h s c e =
    first (λ rs r. Off s (total (λ r. 8) rs) r × (length rs ≡ h.count)) (times_off cut_i64 (λ r. 8) i64_off h.count s) e (λ rs r o t.
    of_cut (BodyCut Way h s) t (record { off = o.0; range = refl; count = ap (λ n. leb n 2000) o.1 }))
body_cut Relation h s c e =
    first (λ ms r. Off s (total (λ m. 13) ms) r × (length ms ≡ h.count)) (times_off cut_member (λ m. 13) member_off h.count s) e (λ ms r o t.
    of_cut (BodyCut Relation h s) t (record { off = o.0; range = refl; count = ap (λ n. leb n 2000) o.1 }))
