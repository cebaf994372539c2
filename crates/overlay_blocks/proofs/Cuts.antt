-- A part of a block that is lent and comes back: the part is what came back, and every other part is as it was.
use Prim.Native.Nat.{ℕ, ◌+◌, ◌-◌, ◌≤◌}
use mathlib.Core.Path.{◌≡◌, sym, ◌∙◌, ap}
use mathlib.Core.List.{List, ◌++◌}
use native.Mathlib.Omega.{arith}
use lib.ListN.{length, take, drop, take-append-drop, length-drop}
use lib.Seq.{take-append-le, drop-append-le, drop-drop, take_at, drop_at, take_all, length-take-le}
use borrow.Rule.Slice.PartMut.{put_mid, drop_put, mid_len, same_len_mid}
use Rattle.overlay_blocks.specs.Blocks.{cut}

-- a part of the front of a list
front : (b f a : ℕ) (t x : List ℕ) → length t ≡ a → b ≤ f → f ≤ a → cut b f (t ++ x) ≡ cut b f t
front b f a t x n h g =
    rw (drop-append-le b t x (omega arith))
    (take-append-le (f - b) (drop b t) x (omega (arith, length-drop b t)))

module _ (a e : ℕ) (l p : List ℕ) (h : a ≤ e) (g : e ≤ length l) (n : length p ≡ e - a) where
  pub cut_same : cut a e (put_mid a (e - a) l p) ≡ p
  cut_same = rw (drop_at (take a l) _ a (length-take-le a l (omega arith))) (take_at p _ (e - a) n)

  pub cut_before : (b f : ℕ) → b ≤ f → f ≤ a → cut b f (put_mid a (e - a) l p) ≡ cut b f l
  cut_before b f i j =
      let m : length (take a l) ≡ a = length-take-le a l (omega arith) in
      front b f a (take a l) _ m i j ∙ sym (front b f a (take a l) (drop a l) m i j) ∙ ap (cut b f) (take-append-drop a l)

  pub drop_after : (b : ℕ) → e ≤ b → drop b (put_mid a (e - a) l p) ≡ drop b l
  drop_after b i =
      let z : e + (b - e) ≡ b = omega arith in
      let w = drop-drop (b - e) e (put_mid a (e - a) l p) in
      let v = drop-drop (b - e) e l in
      rw z at (sym w ∙ ap (drop (b - e)) (drop_put a e l p h g n) ∙ v)

  pub cut_after : (b f : ℕ) → e ≤ b → cut b f (put_mid a (e - a) l p) ≡ cut b f l
  cut_after b f i = ap (take (f - b)) (drop_after b i)

-- the part up to the end
pub cut_all : (a : ℕ) (l : List ℕ) → cut a (length l) l ≡ drop a l
cut_all a l = take_all (length l - a) (drop a l) (omega (arith, length-drop a l))

pub drop_same : (a : ℕ) (l p : List ℕ) → a ≤ length l → length p ≡ length l - a → drop a (put_mid a (length l - a) l p) ≡ p
drop_same a l p h n =
    let m = put_mid a (length l - a) l p in
    let same_length : length m ≡ length l = same_len_mid a (length l - a) l p (n ∙ sym (mid_len a (length l) l (omega arith))) in
    sym (cut_all a m) ∙ rw same_length (cut_same a (length l) l p h (omega arith) n)
