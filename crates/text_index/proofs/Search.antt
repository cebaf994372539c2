-- A search by chains: the handles that it has passed do not have the text.
use Prim.Native.Nat.{ℕ, zero, suc, ◌+◌, ◌-◌, ◌≤◌, ◌<◌}
use mathlib.Core.Path.{◌≡◌, refl, sym, ◌∙◌, ap}
use mathlib.Core.Bool.{false}
use mathlib.Core.List.{List}
use native.Mathlib.Numerals.{add-one}
use native.Mathlib.Omega.{arith}
use lib.ListN.{get_or}
use Rattle.std.specs.Prelude.{Option, Some, None, IfSome}
use Rattle.base.specs.Bytes.{Bytes}
use Rattle.base.proofs.Split.{by_lt, by_eq, both_left, both_right}
use Rattle.interner.specs.Strings.{bytes_at, is_at, Store, used_of}
use Rattle.interner.specs.Sound.{texts_in, counts_within, sound_up_to, sound_strings}
use Rattle.text_index.specs.Index.{bucket_of, bucket_at, LastBelow}
use Rattle.text_index.specs.Chained.{HandleChains, handle_coded, TextsChained, StoreChained}
use Rattle.text_index.proofs.Chaining.{length_in, text_in, at_not, ChainLeft}

-- the entry of a handle
abbrev pub coded : Option ℕ → ℕ
coded None = 0
coded (Some h) = h + 1

pub coded_back : (e : ℕ) → coded (handle_coded e) ≡ e
coded_back zero = refl
coded_back (suc h) = add-one h

pub below_less : (o : Option ℕ) (h n : ℕ) → h < n → IfSome o (λ k. k < h) → IfSome o (λ k. k < n)
below_less None h n g i = i
below_less (Some k) h n g i = omega arith

module _ (c : HandleChains) (spans : List ℕ) (bytes t : Bytes) (count : ℕ) (g : TextsChained c spans bytes count) where
  pub held_few : c.handles ≤ count
  held_few = omega (arith, g.chains.few, length_in spans bytes count)

  bucket_in : (h : ℕ) → h < c.handles → bucket_at (texts_in spans bytes count) h ≡ bucket_of (bytes_at spans bytes h)
  bucket_in h p = rw (text_in spans bytes count h (omega (arith, held_few)))

  -- no handle of a part of the chain that is passed has the text
  not_in : (b m e : ℕ) → m ≤ c.handles → b ≡ bucket_of t → LastBelow (bucket_at (texts_in spans bytes count)) b m e → (h : ℕ) → e ≤ h → h < m → is_at spans bytes t h ≡ false
  not_in b m e p q l h r s =
      at_not spans bytes t h (λ z. l.none h r s (bucket_in h (omega arith) ∙ (ap bucket_of (sym z) ∙ sym q)))

  pub chain_start : (b : ℕ) (o : Option ℕ) → b ≡ bucket_of t → b < 4096 → (get_or c.lasts b 0 ≤ c.handles → o ≡ handle_coded (get_or c.lasts b 0)) → ChainLeft spans bytes t c.handles (coded o)
  chain_start b o q p f =
      let l = g.chains.heads b p in
      let s : coded o ≡ get_or c.lasts b 0 = ap coded (f l.within) ∙ coded_back (get_or c.lasts b 0) in
      rw s
      (record {
        passed = not_in b c.handles (get_or c.lasts b 0) (omega arith) q l;
        bucket = λ z. sym (bucket_in (get_or c.lasts b 0 - 1) (omega (arith, l.within))) ∙ (l.last z ∙ q);
      })

  pub chain_next : (h : ℕ) (o : Option ℕ) → h < c.handles → ChainLeft spans bytes t c.handles (h + 1) → is_at spans bytes t h ≡ false
      → (get_or c.befores h 0 ≤ h → o ≡ handle_coded (get_or c.befores h 0)) → ChainLeft spans bytes t c.handles (coded o)
  chain_next h o p w a f =
      let l = g.chains.befores h p in
      let s : coded o ≡ get_or c.befores h 0 = ap coded (f l.within) ∙ coded_back (get_or c.befores h 0) in
      let i : h + 1 - 1 ≡ h = omega arith in
      let k : bucket_at (texts_in spans bytes count) h ≡ bucket_of t = bucket_in h p ∙ rw i at (w.bucket (omega arith)) in
      rw s
      (record {
        passed = λ j x y.
            by_lt j h
            (not_in (bucket_at (texts_in spans bytes count) h) h (get_or c.befores h 0) (omega arith) k l j x)
            (λ z. by_eq j h (λ v. rw v a) (λ v. w.passed j (omega arith) y));
        bucket = λ z. sym (bucket_in (get_or c.befores h 0 - 1) (omega (arith, l.within))) ∙ (l.last z ∙ k);
      })

-- ---- the strings in use

pub texts_given : (c : HandleChains) (s : Store) → StoreChained c s → TextsChained c s.spans (used_of s) s.strings
unfolding sound_strings
texts_given c s g = record { sound = both_left (sound_up_to s.spans (used_of s) s.strings) _ (both_right (counts_within s) _ g.sound); chains = g.chains }
