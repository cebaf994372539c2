-- Chains with one handle more.
use Prim.Native.Nat.{ℕ, ◌+◌, ◌-◌, ◌≤◌, ◌<◌}
use mathlib.Core.Path.{◌≡◌, sym, ◌∙◌, ap}
use mathlib.Core.Bool.{true}
use Rattle.std.specs.Prelude.{Some}
use native.Mathlib.Omega.{arith}
use mathlib.Core.List.{List}
use lib.ListN.{length, get_or, set}
use lib.Seq.{get_or-set_same, get_or-set_other}
use Rattle.base.specs.Bytes.{Bytes}
use Rattle.base.proofs.Split.{by_eq, both_left, both_right}
use Rattle.interner.specs.Strings.{spanned, bytes_at, Store, used_of}
use Rattle.interner.specs.Sound.{texts_of, sound_strings}
use Rattle.interner.proofs.Checks.{upto_parts}
use Rattle.text_index.proofs.Chaining.{length_in, text_in}
use Rattle.text_index.specs.Index.{bucket_of, bucket_at, LastBelow}
use Rattle.text_index.specs.Chained.{HandleChains, chain_linked, Chained}

-- one handle more, in another bucket or in this one
last_other : (f : ℕ → ℕ) (b m c : ℕ) → (f m ≡ b → ⊥) → LastBelow f b m c → LastBelow f b (m + 1) c
last_other f b m c n l =
    record {
      within = omega (arith, l.within);
      last = l.last;
      none = λ h p q. by_eq h m (λ e. rw e n) (λ e. l.none h p (omega arith));
    }

last_this : (f : ℕ → ℕ) (b m : ℕ) → f m ≡ b → LastBelow f b (m + 1) (m + 1)
last_this f b m e =
    let i : m + 1 - 1 ≡ m = omega arith in
    record { within = omega arith; last = λ p. rw i e; none = λ h p q r. omega arith }

module _ (c : HandleChains) (b h : ℕ) (bb : b < length c.lasts) (hh : h < length c.befores) where
  module _ (texts : List Bytes) (i : Chained c texts) (n : c.handles ≡ h) (few : h < length texts) (b_few : b < 4096) (k : b ≡ bucket_at texts h) where
    heads_linked : (a : ℕ) → a < 4096 → LastBelow (bucket_at texts) a (h + 1) (get_or (set c.lasts b (h + 1)) a 0)
    heads_linked a p =
        by_eq a b
        (λ e. rw (e, get_or-set_same c.lasts b (h + 1) 0 bb) (last_this (bucket_at texts) b h (sym k)))
        (λ e.
        rw (get_or-set_other c.lasts b a (h + 1) 0 e)
        (last_other (bucket_at texts) a h (get_or c.lasts a 0) (λ z. e (sym z ∙ sym k)) (rw n at (i.heads a p))))

    befores_linked : (j : ℕ) → j < h + 1 → LastBelow (bucket_at texts) (bucket_at texts j) j (get_or (set c.befores h (get_or c.lasts b 0)) j 0)
    befores_linked j p =
        by_eq j h
        (λ e. rw (e, get_or-set_same c.befores h (get_or c.lasts b 0) 0 hh, ← k) (rw n at (i.heads b b_few)))
        (λ e. rw (get_or-set_other c.befores h j (get_or c.lasts b 0) 0 e) (i.befores j (omega (arith, n))))

    pub chained_linked : Chained (chain_linked c b h) texts
    chained_linked = record { few = omega arith; heads = heads_linked; befores = befores_linked }

-- the same in a store
pub linked_store : (c : HandleChains) (s : Store) (b h : ℕ) → 4096 ≤ length c.lasts → 4096 ≤ length c.befores → b < 4096 → h < 4096 → h < s.strings → sound_strings s ≡ true
    → (spanned s.spans (used_of s) h ≡ true → Some b ≡ Some (bucket_of (bytes_at s.spans (used_of s) h)))
    → Chained c (texts_of s) × (c.handles ≡ h) → Chained (chain_linked c b h) (texts_of s)
unfolding sound_strings
linked_store c s b h ll lb bb hh few g k i =
    let u = upto_parts s.spans (used_of s) s.strings (both_left _ _ (both_right _ _ g)) in
    let q : b ≡ bucket_of (bytes_at s.spans (used_of s) h) = cc (k (u.lies h few)) in
    let e : b ≡ bucket_at (texts_of s) h = q ∙ ap bucket_of (sym (text_in s.spans (used_of s) s.strings h few)) in
    chained_linked c b h (omega arith) (omega arith) (texts_of s) i.0 i.1 (omega (arith, length_in s.spans (used_of s) s.strings)) bb e
