-- Writers that go on one after another, and what an append leaves.
use Rattle.std.specs.Prelude.{None, Some}
use Prim.Native.Nat.{ℕ, ◌+◌, ◌-◌, ◌<◌, ◌≤◌}
use mathlib.Core.Path.{◌≡◌, refl, sym, ◌∙◌, ap}
use mathlib.Core.List.{[], ◌++◌}
use native.Mathlib.Nat.{zero-add}
use native.Mathlib.Omega.{arith}
use lib.ListN.{length, length-append}
use borrow.Author.Tests.{le-leb, lt-leb}
use borrow.Rule.Slice.PartMut.{mid_of, put_mid}
use Rattle.base.specs.Bytes.{Bytes}
use Rattle.little.specs.Little.{le, over}
use Rattle.little.proofs.Littles.{length_le}
use Rattle.little.proofs.Overs.{length_over, over_nothing, over_over, over_lent_start}
use Rattle.compact_append.specs.Append.{ArenaAfter, append}

-- ---- one after another: n bytes t are written over the start of s₀

pub record Wrote (s₀ s t : Bytes) (n : ℕ) : Type 0 where
  pub is : s ≡ over s₀ 0 t
  pub long : length t ≡ n

pub start : (s : Bytes) → Wrote s s [] 0
start s = record { is = sym (over_nothing s 0); long = refl }

pub next : {s₀ s s₂ t : Bytes} {n : ℕ} (u : Bytes) (k : ℕ) → length u ≡ k → Wrote s₀ s t n → s₂ ≡ over s n u → Wrote s₀ s₂ (t ++ u) (n + k)
next {s₀} {s} {s₂} {t} {n} u k e w q =
    let o : over (over s₀ 0 t) n u ≡ over s₀ 0 (t ++ u) = rw (zero-add, w.long) at (over_over s₀ 0 t u) in
    record { is = q ∙ (ap (λ (x : Bytes). over x n u) w.is ∙ o); long = length-append t u ∙ rw (w.long, e) }

pub field : {s₀ s s₂ t : Bytes} {n : ℕ} (k v : ℕ) → Wrote s₀ s t n → s₂ ≡ over s n (le k v) → Wrote s₀ s₂ (t ++ le k v) (n + k)
field k v w q = next (le k v) k (length_le k v) w q

pub wrote_length : {s₀ s t : Bytes} {n : ℕ} → Wrote s₀ s t n → length s ≡ length s₀
wrote_length {s₀} {s} {t} w = ap length w.is ∙ length_over s₀ 0 t

-- the next writer is lent the rest from where the last one stopped, and `last` is what it left there
pub lent : {s₀ s t : Bytes} {n : ℕ} (last u : Bytes) (k m : ℕ) → m ≡ n → length u ≡ k → m ≤ length s → Wrote s₀ s t n → last ≡ over (mid_of m (length s - m) s) 0 u
    → Wrote s₀ (put_mid m (length s - m) s last) (t ++ u) (n + k)
lent {s₀} {s} {t} {n} last u k m e l f w q = next u k l w (over_lent_start s last m u f q ∙ ap (λ i. over s i u) e)

-- ---- an append

module _ (s : Bytes) (used : ℕ) (t : Bytes) where
  pub fits_is : used + length t ≤ length s → append s used t ≡ record { arena = over s used t; answer = Some (used + length t) }
  unfolding append
  fits_is h = rw (le-leb (used + length t) (length s) h)

  pub full_is : length s < used + length t → append s used t ≡ record { arena = s; answer = None }
  unfolding append
  full_is h = rw (lt-leb (used + length t) (length s) h)

  -- the arena was lent from its used bytes on, and `last` is what the writer left there
  pub append_end : (last : Bytes) (end : ℕ) → used + length t ≤ length s → end ≡ used + length t → last ≡ over (mid_of used (length s - used) s) 0 t
      → ◌≡◌ {A = ArenaAfter} (record { arena = put_mid used (length s - used) s last; answer = Some end }) (append s used t)
  append_end last end h e w = rw (fits_is h, e, over_lent_start s last used t (omega arith) w)
