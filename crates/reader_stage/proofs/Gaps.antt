-- Bytes moved up in one block, and a part written where they stood.
use Prim.Native.Nat.{ℕ, ◌+◌, ◌-◌, ◌≤◌, ◌<◌}
use mathlib.Core.Path.{◌≡◌, sym, ◌∙◌}
use mathlib.Core.Bool.{cond}
use Rattle.std.specs.Prelude.{Option, Some, None}
use mathlib.Core.List.{[], ◌++◌, append-nil, append_assoc}
use native.Mathlib.Nat.{zero-add}
use native.Mathlib.Omega.{arith}
use lib.Dec.{leb}
use lib.ListN.{length, take, drop, length-append, length-drop}
use lib.Seq.{take-take, drop-length, drop-drop, drop_at, length-take-le}
use Rattle.std.specs.List.{copy_within}
use Rattle.std.proofs.lemmas.List.{drop-take}
use borrow.Author.Tests.{le-leb, lt-leb}
use Rattle.base.specs.Bytes.{Bytes}
use Rattle.base.proofs.Split.{by_le, no, both_of, both_no_left, both_no_right}
use Rattle.little.specs.Little.{over}
use Rattle.little.proofs.Overs.{over_over, over_start, over_whole, over_fits}
use borrow.Rule.Slice.PartMut.{mid_of, put_mid}
use Rattle.little.proofs.Littles.{length_le}
use Rattle.compact.specs.declared.CompactMember.{CompactMember}
use Rattle.reader_stage.specs.Stage.{staged, member_part}

-- ---- a part before the bytes of a room, which were moved up to its end

pub put_before_lem : (room moved x : Bytes) (n : ℕ) → length x ≡ n → n ≤ length room → moved ≡ copy_within room 0 (length room - n) n
    → over moved 0 x ≡ x ++ take (length room - n) room
put_before_lem room moved x n l h e =
    let kept = length room - n in
    let z : kept - 0 ≡ kept = omega arith in
    let k : n + kept ≡ length room = omega arith in
    let a : drop (length room) room ≡ [] = drop-length room in
    let m : moved ≡ take n room ++ take kept room = e ∙ rw (z, k, a, append-nil) in
    let f : length (take n room) ≡ n = length-take-le n room h in
    let g : length moved ≡ length room = rw (m, length-append, f, length-take-le kept room (omega arith)) (omega arith) in
    let rest : drop n moved ≡ take kept room = rw m (drop_at (take n room) (take kept room) n f) in
    rw (← rest, ← l) (over_start moved x (omega arith))

-- ---- a part of n bytes among the used bytes of s

module _ (s : Bytes) (used at n : ℕ) (x : Bytes) (l : length x ≡ n) where
  -- it is put before the bytes from its place on
  pub put_in : {last : Bytes} → at ≤ used → used + n ≤ length s → last ≡ x ++ take (length (mid_of at (used + n - at) s) - n) (mid_of at (used + n - at) s)
      → put_mid at (used + n - at) s last ≡ staged s used at x
  unfolding staged
  put_in {last} h fits e =
      let k = used + n - at in
      let kept = used - at in
      let d = drop at (take used s) in
      let long : length (mid_of at k s) ≡ k = length-take-le k (drop at s) (omega (arith, length-drop at s)) in
      let up : at + kept ≡ used = omega arith in
      let m : k - n ≡ kept = omega arith in
      let cut : d ≡ take kept (drop at s) = rw up at (drop-take at kept s) in
      let rest : take (length (mid_of at k s) - n) (mid_of at k s) ≡ d = rw (long, m, cut) (take-take kept k (drop at s) (omega arith)) in
      let few : length d ≡ kept = rw cut (length-take-le kept (drop at s) (omega (arith, length-drop at s))) in
      let all : length (x ++ d) ≡ k = length-append x d ∙ omega (arith, few) in
      let whole : put_mid at k s (x ++ d) ≡ over s at (x ++ d) = sym (rw (all, ← drop-drop k at s) at (over_fits s at (x ++ d) (omega (arith, all)))) in
      rw (l, both_of (le-leb at used h) (le-leb (used + n) (length s) fits), take-take at used s h, e, rest) (whole ∙ over_whole s at (x ++ d) (omega arith))

  -- there is no such place, or no room
  pub no_place : used < at → s ≡ staged s used at x
  unfolding staged
  no_place h = rw (l, both_no_left _ _ (lt-leb at used h))

  pub no_room : length s < used + n → s ≡ staged s used at x
  unfolding staged
  no_room h = rw (l, both_no_right (leb at used) (lt-leb (used + n) (length s) h))

-- ---- where n more from a place on end

module _ (end len : ℕ) (result : Option ℕ) (told : result ≡ cond (leb end len) (Some end) None) where
  pub end_told : {e : ℕ} → result ≡ Some e → (e ≡ end) × (end ≤ len)
  end_told {e} is =
      by_le end len
      (λ h. let q : Some e ≡ Some end = sym is ∙ told ∙ rw (le-leb end len h) in (cc, h))
      (λ h. let q : Some e ≡ None = sym is ∙ told ∙ rw (lt-leb end len h) in no (cc))

  pub none_told : result ≡ None → len < end
  none_told is =
      by_le end len
      (λ h. let q : None ≡ Some end = sym is ∙ told ∙ rw (le-leb end len h) in no (cc))
      (λ h. h)

-- ---- three fields, one after another

pub three : (s a b c : Bytes) → over (over (over s 0 a) (length a) b) (length a + length b) c ≡ over s 0 (a ++ (b ++ c))
three s a b c =
    let x : over (over s 0 a) (length a) b ≡ over s 0 (a ++ b) = rw zero-add at (over_over s 0 a b) in
    let y : over (over s 0 (a ++ b)) (length a + length b) c ≡ over s 0 (a ++ b ++ c) = rw (zero-add, length-append) at (over_over s 0 (a ++ b) c) in
    rw (x, y, append_assoc)

-- bytes over an array of their length
pub over_all : (s t : Bytes) → length t ≡ length s → over s 0 t ≡ t
over_all s t e = rw (over_start s t (omega (arith, e)), e, drop-length, append-nil)

pub length_member_part : (m : CompactMember) → length (member_part m) ≡ 13
length_member_part m = simp (length-append, length_le)
