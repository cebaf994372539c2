-- Laws of chains that their users need.
use Prim.Native.Nat.{ℕ, ◌-◌, ◌<◌}
use mathlib.Core.Path.{◌≡◌, refl, sym, ◌∙◌, ap}
use mathlib.Core.List.{List, [], ◌++◌}
use native.Mathlib.Omega.{arith}
use lib.ListN.{length-append, get_or, replicate, get_or-replicate, length-replicate, get_or-append, get_or-eq_default}
use Rattle.base.specs.Bytes.{Bytes}
use Rattle.base.proofs.Split.{by_lt}
use Rattle.interner.specs.Strings.{Store}
use Rattle.text_index.specs.Index.{bucket_at, LastBelow}
use Rattle.text_index.specs.Chained.{HandleChains, none_chained, Chained, ChainsServe}

-- the same buckets below m
pub last_same : (f g : ℕ → ℕ) (b m c : ℕ) → ((h : ℕ) → h < m → g h ≡ f h) → LastBelow f b m c → LastBelow g b m c
last_same f g b m c e l =
    record {
      within = l.within;
      last = λ p. e (c - 1) (omega (arith, l.within)) ∙ l.last p;
      none = λ h p q r. l.none h p q (sym (e h q) ∙ r);
    }

zeros_read : (n i : ℕ) → ◌≡◌ {A = ℕ} (get_or (replicate n 0) i 0) 0
zeros_read n i =
    by_lt i n (get_or-replicate n i 0 0) (λ h. get_or-eq_default (replicate n 0) 0 (omega (arith, length-replicate {A = ℕ} n 0)))

-- chains whose buckets are empty
chained_empty : (c : HandleChains) (texts : List Bytes) → c.handles ≡ 0 → ((b : ℕ) → get_or c.lasts b 0 ≡ 0) → Chained c texts
chained_empty c texts e z =
    record {
      few = omega (arith, e);
      heads = λ b p.
          record {
            within = omega (arith, e, z b);
            last = λ q. absurd (omega (arith, z b));
            none = λ h q r s. omega (arith, e);
          };
      befores = λ h p. absurd (omega (arith, e));
    }

-- the chains that are made of `[0u16; BUCKETS]`
pub chained_fresh : (befores : List ℕ) (texts : List Bytes) → Chained (record { lasts = replicate 4096 0; befores = befores; handles = 0 }) texts
chained_fresh befores texts = chained_empty (record { lasts = replicate 4096 0; befores = befores; handles = 0 }) texts refl (zeros_read 4096)

-- no chains at all
pub chained_none : (texts : List Bytes) → Chained none_chained texts
chained_none texts = chained_empty none_chained texts refl (λ b. refl)

-- they serve any strings
pub none_serve : (c : HandleChains) → c ≡ none_chained → (s : Store) → ChainsServe c s
none_serve c e s h = absurd (omega (arith, ap (λ (k : HandleChains). k.handles) e))

-- more texts
pub chained_more : (c : HandleChains) (texts more : List Bytes) → Chained c texts → Chained c (texts ++ more)
chained_more c texts more i =
    let s : (h : ℕ) → h < c.handles → bucket_at (texts ++ more) h ≡ bucket_at texts h =
    λ h p. rw (get_or-append texts more [] h (omega (arith, i.few))) in
    record {
      few = omega (arith, length-append texts more, i.few);
      heads = λ b p. last_same (bucket_at texts) (bucket_at (texts ++ more)) b _ _ s (i.heads b p);
      befores = λ h p. rw (s h p) (last_same (bucket_at texts) (bucket_at (texts ++ more)) (bucket_at texts h) h _ (λ k q. s k (omega arith)) (i.befores h p));
    }
