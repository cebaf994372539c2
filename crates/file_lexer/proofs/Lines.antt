-- How the line of an event grows: byte by byte, and one writer after another.
use Prim.Native.Nat.{ℕ, ◌+◌, ◌-◌, ◌<◌, ◌≤◌, min}
use mathlib.Core.Path.{◌≡◌, sym, ◌∙◌, ap}
use mathlib.Core.List.{[], ◌∷◌, ◌++◌}
use native.Mathlib.Omega.{arith}
use lib.ListN.{length, take, set, length-append}
use lib.Seq.{take_all, take-nil, take-append-le}
use Rattle.std.proofs.Math.Seq.{take-append-add}
use Rattle.base.specs.Bytes.{Bytes}
use Rattle.base.proofs.Split.{by_le}
use Rattle.little.specs.Little.{over}
use Rattle.little.proofs.Overs.{over_nothing, over_past, over_over, over_step}
use Rattle.file_lexer.specs.Line.{Line, line_grown}

module _ (b : Bytes) (u : ℕ) where
  -- nothing more
  pub grown_nothing : ◌≡◌ {A = Line} (record { bytes = b; used = min 16380 u }) (line_grown b u [])
  unfolding line_grown
  grown_nothing = rw (take-nil, over_nothing) (let e : min 16380 (u + 0) ≡ min 16380 u = omega arith in rw e)

  -- no room is left
  pub grown_full : (x : Bytes) → 16380 ≤ u → ◌≡◌ {A = Line} (record { bytes = b; used = 16380 }) (line_grown b u x)
  unfolding line_grown
  grown_full x h =
      let e : 16380 - u ≡ 0 = omega arith in
      let n : min 16380 (u + length x) ≡ 16380 = omega arith in
      rw (e, n, over_nothing)

  -- all of it is kept
  pub grown_kept : (x : Bytes) → u + length x ≤ 16380 → ◌≡◌ {A = Line} (record { bytes = over b (6 + u) x; used = u + length x }) (line_grown b u x)
  unfolding line_grown
  grown_kept x h =
      let n : min 16380 (u + length x) ≡ u + length x = omega arith in
      let t : take (16380 - u) x ≡ x = take_all (16380 - u) x (omega arith) in
      rw (n, t)

  -- no more than there is room for
  pub grown_past : (x : Bytes) → 16380 < u + length x → ◌≡◌ {A = Line} (record { bytes = over b (6 + u) (take (16380 - u) x); used = 16380 }) (line_grown b u x)
  unfolding line_grown
  grown_past x h = let n : min 16380 (u + length x) ≡ 16380 = omega arith in rw n

  -- a byte
  pub byte_stored : (x : ℕ) → u < 16380 → 6 + u < length b → ◌≡◌ {A = Line} (record { bytes = set b (6 + u) x; used = u + 1 }) (line_grown b u (x ∷ []))
  byte_stored x h k =
      let e : over b (6 + u) (x ∷ []) ≡ set b (6 + u) x = over_step b (6 + u) x [] k ∙ over_nothing (set b (6 + u) x) (6 + u + 1) in
      rw (← e) (grown_kept (x ∷ []) (omega arith))

  pub byte_outside : (x : ℕ) → u < 16380 → length b ≤ 6 + u → ◌≡◌ {A = Line} (record { bytes = b; used = u + 1 }) (line_grown b u (x ∷ []))
  byte_outside x h k =
      let e : b ≡ over b (6 + u) (x ∷ []) = sym (over_past b (6 + u) (x ∷ []) k) in
      let f : Bytes → Line = λ s. record { bytes = s; used = u + 1 } in
      ap f e ∙ grown_kept (x ∷ []) (omega arith)

  -- one writer after another
  grown_on : (x y : Bytes) → u + length x ≤ 16380 → line_grown (over b (6 + u) x) (u + length x) y ≡ line_grown b u (x ++ y)
  unfolding line_grown
  grown_on x y h =
      let r : 16380 - u ≡ length x + (16380 - (u + length x)) = omega arith in
      let t : take (length x + (16380 - (u + length x))) (x ++ y) ≡ x ++ take (16380 - (u + length x)) y = take-append-add x y (16380 - (u + length x)) in
      let n : u + length (x ++ y) ≡ u + length x + length y = rw length-append (omega arith) in
      let a : 6 + (u + length x) ≡ 6 + u + length x = omega arith in
      rw (r, t, n, a, over_over b (6 + u) x (take (16380 - (u + length x)) y))

  grown_cut : (x y : Bytes) → 16380 < u + length x → line_grown b u x ≡ line_grown b u (x ++ y)
  unfolding line_grown
  grown_cut x y h =
      let n : min 16380 (u + length x) ≡ min 16380 (u + length (x ++ y)) = rw length-append (omega arith) in
      let t : take (16380 - u) (x ++ y) ≡ take (16380 - u) x = take-append-le (16380 - u) x y (omega arith) in
      rw (t, n)

pub grown_again : (b : Bytes) (u : ℕ) (x y : Bytes) (l : Line) → l ≡ line_grown b u x → line_grown l.bytes l.used y ≡ line_grown b u (x ++ y)
grown_again b u x y l e =
    by_le (u + length x) 16380
    (λ h. rw (e, ← grown_kept b u x h) (grown_on b u x y h))
    (λ h. rw (e, ← grown_past b u x h) (sym (grown_full _ 16380 y (omega arith)) ∙ (grown_past b u x h ∙ grown_cut b u x y h)))
