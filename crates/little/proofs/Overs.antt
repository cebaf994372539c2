-- Laws of bytes over others: what `over` changes, what it leaves, and how writers go on one after another.
use Prim.Native.Nat.{ℕ, zero, suc, ◌+◌, ◌-◌, ◌≤◌, ◌<◌, min}
use mathlib.Core.Path.{◌≡◌, refl, sym, ◌∙◌, ap}
use mathlib.Core.List.{[], ◌∷◌, ◌++◌, append-nil, append_assoc}
use native.Mathlib.Nat.{suc-add, zero-add, add-zero}
use native.Mathlib.Omega.{arith}
use mathlib.Core.Logic.{◌⊎◌, ⊎_elim}
use lib.ListN.{length, get_or, take, drop, set, length-append, length-drop, length-set, drop_of_length-le}
use lib.Seq.{take_all, take_at, take-length, drop-drop, take-append-le, drop-append-le, take-append_seam, length-take-le}
use borrow.Rule.Slice.PartMut.{mid_of, post_of, put_mid}
use Rattle.base.specs.Bytes.{Bytes}
use Rattle.little.specs.Little.{over}

-- ---- the cases

pub over_none : (at : ℕ) (t : Bytes) → over [] at t ≡ []
unfolding over
over_none at t = refl

pub over_nothing : (s : Bytes) (at : ℕ) → over s at [] ≡ s
unfolding over
over_nothing [] at = refl
over_nothing (x ∷ s) zero = take-length (x ∷ s)
over_nothing (x ∷ s) (suc at) = rw suc-add (ap (x ∷◌) (over_nothing s at))

pub over_here : (x b : ℕ) (s t : Bytes) → over (x ∷ s) 0 (b ∷ t) ≡ b ∷ over s 0 t
unfolding over
over_here x b s t = simp zero-add

pub over_later : (x : ℕ) (s : Bytes) (at : ℕ) (t : Bytes) → over (x ∷ s) (suc at) t ≡ x ∷ over s at t
unfolding over
over_later x s at t = rw suc-add

-- ---- what it leaves

pub length_over : (s : Bytes) (at : ℕ) (t : Bytes) → length (over s at t) ≡ length s
length_over [] at t = rw over_none
length_over (x ∷ s) zero [] = rw over_nothing
length_over (x ∷ s) zero (b ∷ t) = rw over_here (ap suc (length_over s 0 t))
length_over (x ∷ s) (suc at) t = rw over_later (ap suc (length_over s at t))

-- from the end on there is nothing to change
pub over_past : (s : Bytes) (at : ℕ) (t : Bytes) → length s ≤ at → over s at t ≡ s
over_past [] at t h = over_none at t
over_past (x ∷ s) zero t h = absurd (omega arith)
over_past (x ∷ s) (suc at) t h = rw over_later (ap (x ∷◌) (over_past s at t (omega arith)))

pub take_over : (n : ℕ) (s : Bytes) (at : ℕ) (t : Bytes) → n ≤ at → take n (over s at t) ≡ take n s
take_over zero s at t h = refl
take_over (suc n) [] at t h = rw over_none
take_over (suc n) (x ∷ s) zero t h = absurd (omega arith)
take_over (suc n) (x ∷ s) (suc at) t h = rw over_later (ap (x ∷◌) (take_over n s at t (omega arith)))

pub drop_over : (n : ℕ) (s : Bytes) (at : ℕ) (t : Bytes) → at + length t ≤ n → drop n (over s at t) ≡ drop n s
drop_over n [] at t h = rw over_none
drop_over n (x ∷ s) zero [] h = rw over_nothing
drop_over zero (x ∷ s) zero (b ∷ t) h = absurd (omega arith)
drop_over (suc n) (x ∷ s) zero (b ∷ t) h = rw over_here (drop_over n s 0 t (omega arith))
drop_over zero (x ∷ s) (suc at) t h = absurd (omega arith)
drop_over (suc n) (x ∷ s) (suc at) t h = rw over_later (drop_over n s at t (omega arith))

pub get_d_before : (s : Bytes) (at : ℕ) (t : Bytes) (i d : ℕ) → i < at → get_or (over s at t) i d ≡ get_or s i d
get_d_before [] at t i d h = rw over_none
get_d_before (x ∷ s) zero t i d h = absurd (omega arith)
get_d_before (x ∷ s) (suc at) t zero d h = rw over_later
get_d_before (x ∷ s) (suc at) t (suc i) d h = rw over_later (get_d_before s at t i d (omega arith))

-- ---- what it changes

-- from a place on, it is the same over what stands there
pub rest_over : (s : Bytes) (at k : ℕ) (t : Bytes) → drop at (over s (at + k) t) ≡ over (drop at s) k t
rest_over s zero k t = rw zero-add
rest_over [] (suc at) k t = simp over_none
rest_over (x ∷ s) (suc at) k t = rw (suc-add, over_later) (rest_over s at k t)

-- all of it is there where it fits
pub over_start : (s t : Bytes) → length t ≤ length s → over s 0 t ≡ t ++ drop (length t) s
over_start s [] h = over_nothing s 0
over_start [] (b ∷ t) h = absurd (omega arith)
over_start (x ∷ s) (b ∷ t) h = rw over_here (ap (b ∷◌) (over_start s t (omega arith)))

pub over_fits : (s : Bytes) (at : ℕ) (t : Bytes) → at + length t ≤ length s → over s at t ≡ take at s ++ (t ++ drop (at + length t) s)
over_fits s zero t h = rw zero-add (over_start s t (omega arith))
over_fits [] (suc at) t h = absurd (omega arith)
over_fits (x ∷ s) (suc at) t h = rw (over_later, suc-add) (ap (x ∷◌) (over_fits s at t (omega arith)))

pub read_back : (s : Bytes) (at : ℕ) (t : Bytes) → at + length t ≤ length s → take (length t) (drop at (over s at t)) ≡ t
read_back s at t h =
    let p : drop at (over s at t) ≡ over (drop at s) 0 t = rw add-zero at (rest_over s at 0 t) in
    rw (p, over_start (drop at s) t (omega (arith, length-drop at s))) (take-append_seam t (drop (length t) (drop at s)))

-- a part of it
pub read_part : (s : Bytes) (at : ℕ) (t : Bytes) (k n : ℕ) → at + length t ≤ length s → k + n ≤ length t → take n (drop (at + k) (over s at t)) ≡ take n (drop k t)
read_part s at t k n h g =
    let p : drop at (over s at t) ≡ over (drop at s) 0 t = rw add-zero at (rest_over s at 0 t) in
    rw (← drop-drop k at (over s at t), p, over_start (drop at s) t (omega (arith, length-drop at s)), drop-append-le k t (drop (length t) (drop at s)) (omega arith))
    (take-append-le n (drop k t) _ (omega (arith, length-drop k t)))

pub get_d_over : (s : Bytes) (at : ℕ) (t : Bytes) (i d : ℕ) → at + i < length s → i < length t → get_or (over s at t) (at + i) d ≡ get_or t i d
get_d_over [] at t i d h g = absurd (omega arith)
get_d_over (x ∷ s) at [] i d h g = absurd (omega arith)
get_d_over (x ∷ s) zero (b ∷ t) zero d h g = rw over_here
get_d_over (x ∷ s) zero (b ∷ t) (suc i) d h g = rw (over_here, zero-add) (rw zero-add at (get_d_over s 0 t i d (omega arith) (omega arith)))
get_d_over (x ∷ s) (suc at) (b ∷ t) i d h g = rw (over_later, suc-add) (get_d_over s at (b ∷ t) i d (omega arith) (omega arith))

-- what was used before, and then what was written
pub used_over : (s : Bytes) (at : ℕ) (t : Bytes) → at + length t ≤ length s → take (at + length t) (over s at t) ≡ take at s ++ t
used_over s at t h =
    let p : length (take at s ++ t) ≡ at + length t = simp (length-append, length-take-le at s (omega arith)) in
    rw (over_fits s at t h, ← append_assoc) (take_at (take at s ++ t) (drop (at + length t) s) (at + length t) p)

-- ---- one after the other

-- one byte stored, and then the rest
pub over_step : (s : Bytes) (i b : ℕ) (t : Bytes) → i < length s → over s i (b ∷ t) ≡ over (set s i b) (i + 1) t
over_step [] i b t h = absurd (omega arith)
over_step (x ∷ s) zero b t h = rw (over_here, over_later)
over_step (x ∷ s) (suc i) b t h = rw (over_later, suc-add, over_later) (ap (x ∷◌) (over_step s i b t (omega arith)))

-- what of it there is room for
pub over_cut : (s t : Bytes) (n : ℕ) → n ≡ min (length t) (length s) → over s 0 t ≡ take n t ++ drop n s
over_cut [] t zero h = over_none 0 t
over_cut [] t (suc n) h = absurd (omega arith)
over_cut (x ∷ s) [] zero h = over_nothing (x ∷ s) 0
over_cut (x ∷ s) [] (suc n) h = absurd (omega arith)
over_cut (x ∷ s) (b ∷ t) zero h = absurd (omega arith)
over_cut (x ∷ s) (b ∷ t) (suc n) h = rw over_here (ap (b ∷◌) (over_cut s t n (omega arith)))

-- a writer that is lent what there is room for
pub over_front : (s t : Bytes) (n : ℕ) → n ≡ min (length t) (length s) → over (take n s) 0 t ++ drop n s ≡ over s 0 t
over_front [] t zero h = simp over_none
over_front [] t (suc n) h = absurd (omega arith)
over_front (x ∷ s) [] zero h = simp over_nothing
over_front (x ∷ s) [] (suc n) h = absurd (omega arith)
over_front (x ∷ s) (b ∷ t) zero h = absurd (omega arith)
over_front (x ∷ s) (b ∷ t) (suc n) h = simp over_here (ap (b ∷◌) (over_front s t n (omega arith)))

-- a second writer goes on where the first ended
pub over_over : (s : Bytes) (at : ℕ) (t u : Bytes) → over (over s at t) (at + length t) u ≡ over s at (t ++ u)
over_over [] at t u = simp over_none
over_over (x ∷ s) zero [] u = rw over_nothing
over_over (x ∷ s) zero (b ∷ t) u = simp (over_here, zero-add, over_later) (ap (b ∷◌) (rw zero-add at (over_over s 0 t u)))
over_over (x ∷ s) (suc at) t u = simp (suc-add, over_later) (ap (x ∷◌) (over_over s at t u))

-- a second writer stands before the first
pub over_before : (s : Bytes) (at : ℕ) (t u : Bytes) → over (over s (at + length t) u) at t ≡ over s at (t ++ u)
over_before [] at t u = simp over_none
over_before (x ∷ s) zero [] u = rw over_nothing
over_before (x ∷ s) zero (b ∷ t) u = simp (zero-add, over_later, over_here) (ap (b ∷◌) (rw zero-add at (over_before s 0 t u)))
over_before (x ∷ s) (suc at) t u = simp (suc-add, over_later) (ap (x ∷◌) (over_before s at t u))

-- a byte stored before a writer
pub set_over : (s : Bytes) (i b at : ℕ) (t : Bytes) → i < at → set (over s at t) i b ≡ over (set s i b) at t
set_over [] i b at t h = simp over_none
set_over (x ∷ s) i b zero t h = absurd (omega arith)
set_over (x ∷ s) zero b (suc at) t h = simp over_later
set_over (x ∷ s) (suc i) b (suc at) t h = simp over_later (ap (x ∷◌) (set_over s i b at t (omega arith)))

-- from the start on, with what stands before
pub over_whole : (s : Bytes) (at : ℕ) (t : Bytes) → at ≤ length s → over s at t ≡ over s 0 (take at s ++ t)
over_whole s zero t h = refl
over_whole [] (suc at) t h = absurd (omega arith)
over_whole (x ∷ s) (suc at) t h = rw (over_later, over_here) (ap (x ∷◌) (over_whole s at t (omega arith)))

-- a writer that is lent the rest from a place on writes over the whole
pub over_rest : (s : Bytes) (at k : ℕ) (t : Bytes) → at ≤ length s → take at s ++ over (drop at s) k t ≡ over s (at + k) t
over_rest s zero k t h = rw zero-add
over_rest [] (suc at) k t h = absurd (omega arith)
over_rest (x ∷ s) (suc at) k t h = rw (suc-add, over_later) (ap (x ∷◌) (over_rest s at k t (omega arith)))

-- the same of `&mut s[at..]`, as the borrow checker says it: `last` is what the writer left of the part
pub over_lent : (s last : Bytes) (at k : ℕ) (t : Bytes) → at ≤ length s → last ≡ over (mid_of at (length s - at) s) k t → put_mid at (length s - at) s last ≡ over s (at + k) t
over_lent s last at k t h e =
    let n : length (drop at s) ≤ length s - at = simp length-drop (omega arith) in
    let m : mid_of at (length s - at) s ≡ drop at s = take_all (length s - at) (drop at s) n in
    let q : post_of at (length s - at) s ≡ [] = drop_of_length-le (drop at s) n in
    rw (q, e, m, append-nil) (over_rest s at k t h)

pub over_lent_start : (s last : Bytes) (at : ℕ) (t : Bytes) → at ≤ length s → last ≡ over (mid_of at (length s - at) s) 0 t → put_mid at (length s - at) s last ≡ over s at t
over_lent_start s last at t h e = rw add-zero at (over_lent s last at 0 t h e)

-- ---- a writer on its way through s₀ with the bytes t: it stands at i, and `rest` is still to be written

pub record Writing (s₀ t s : Bytes) (i : ℕ) (rest : Bytes) : Type 0 where
  pub kept : length s ≡ length s₀
  pub left : over s i rest ≡ over s₀ 0 t

module _ {s₀ t : Bytes} where
  pub begun : Writing s₀ t s₀ 0 t
  begun = record { kept = refl; left = refl }

  -- the next byte is stored
  pub stored : (s : Bytes) (i b : ℕ) {rest more : Bytes} → i < length s → rest ≡ b ∷ more → Writing s₀ t s i rest → Writing s₀ t (set s i b) (i + 1) more
  stored s i b {rest} {more} h e w =
      record { kept = rw length-set w.kept; left = sym (over_step s i b more h) ∙ (ap (over s i) (sym e) ∙ w.left) }

  -- nothing is left, or there is no room for it
  pub written : (s : Bytes) (i : ℕ) (rest : Bytes) → Writing s₀ t s i rest → (rest ≡ []) ⊎ (length s ≤ i) → s ≡ over s₀ 0 t
  written s i rest w e =
      ⊎_elim (λ p. sym (over_nothing s i) ∙ (ap (over s i) (sym p) ∙ w.left)) (λ p. sym (over_past s i rest p) ∙ w.left) e
