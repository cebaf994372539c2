-- A row stored over its words in a part that is lent, and in the gap of three words that a block move leaves.
use Prim.Native.Nat.{ℕ, ◌+◌, ◌*◌, ◌-◌, ◌≤◌}
use mathlib.Core.Path.{◌≡◌, ◌∙◌, ap}
use mathlib.Core.List.{List, [], ◌++◌, append-nil, append_assoc}
use native.Mathlib.Omega.{arith}
use lib.ListN.{length, take, drop, length-drop, drop_of_length-le}
use borrow.Rule.Slice.PartMut.{mid_of, post_of, put_mid}
use lib.Seq.{take_all, take-append-le, take-take, take-add, drop-drop, drop_at, slice, length-take-le}
use Rattle.std.specs.List.{copy_within}
use Rattle.kind_table.specs.declared.Row.{Row}
use Rattle.kind_table.specs.Words.{words_in, words_of, row_over, inserted}

-- a row stored over its three words, as the borrow checker says it: `last` is what is left of the part
pub row_lent : (ws last : List ℕ) (i k : ℕ) (row : Row) → k ≡ 3 → last ≡ words_in row → put_mid (3 * i) k ws last ≡ row_over ws i row
unfolding row_over words_of
row_lent ws last i k row e f = rw (e, f) (ap (λ t. take (3 * i) ws ++ (words_in row ++ t)) (drop-drop 3 (3 * i) ws))

-- the words of a block, cut out of those before its end
block : (ws : List ℕ) (at used : ℕ) → at ≤ used → used ≤ length ws → slice at used ws ≡ take (used - at) (drop at ws)
block ws at used h fits =
    let x : at + (used - at) ≡ used = omega arith in
    rw (rw x at (take-add at (used - at) ws)) (drop_at (take at ws) (take (used - at) (drop at ws)) at (length-take-le at ws (omega arith)))

-- a block of the rest moved by three words, as the borrow checker says it: `last` is what is left of the rest
pub block_lent : (ws last : List ℕ) (at used : ℕ) → at ≤ used → used + 3 ≤ length ws → last ≡ copy_within (mid_of at (length ws - at) ws) 0 (used - at) 3
    → put_mid at (length ws - at) ws last ≡ copy_within ws at used (at + 3)
block_lent ws last at used h fits e =
    let part = drop at ws in
    let n : length part ≤ length ws - at = simp length-drop (omega arith) in
    let m : mid_of at (length ws - at) ws ≡ part = take_all (length ws - at) part n in
    let q : post_of at (length ws - at) ws ≡ [] = drop_of_length-le part n in
    let z : used - at - 0 ≡ used - at = omega arith in
    let i : at + (3 + (used - at)) ≡ at + 3 + (used - at) = omega arith in
    let y : drop (3 + (used - at)) part ≡ drop (at + 3 + (used - at)) ws = rw i at (drop-drop (3 + (used - at)) at ws) in
    let rest = drop (at + 3 + (used - at)) ws in
    let moved = take (used - at) part in
    rw (
      q,
      e,
      m,
      append-nil,
      z,
      y,
      take-add at 3 ws,
      append_assoc (take 3 part) moved rest,
      append_assoc (take at ws ++ take 3 part) moved rest,
      append_assoc (take at ws) (take 3 part) (moved ++ rest),
    )

-- a row stored in the gap that the block move leaves
pub gap_filled : (ws : List ℕ) (p n : ℕ) (row : Row) → p ≤ n → 3 * n + 3 ≤ length ws → row_over (copy_within ws (3 * p) (3 * n) (3 * p + 3)) p row ≡ inserted ws p n row
unfolding row_over inserted
gap_filled ws p n row h fits =
    let moved = take (3 * n - 3 * p) (drop (3 * p) ws) ++ drop (3 * n + 3) ws in
    let behind : 3 * p + 3 + (3 * n - 3 * p) ≡ 3 * n + 3 = omega arith in
    let long = length-take-le (3 * p + 3) ws (omega arith) in
    rw (
      behind,
      append_assoc (take (3 * p + 3) ws) (take (3 * n - 3 * p) (drop (3 * p) ws)) (drop (3 * n + 3) ws),
      take-append-le (3 * p) (take (3 * p + 3) ws) moved (omega arith) ∙ take-take (3 * p) (3 * p + 3) ws (omega arith),
      drop_at (take (3 * p + 3) ws) moved (3 * p + 3) long,
      block ws (3 * p) (3 * n) (omega arith) (omega arith),
    )
