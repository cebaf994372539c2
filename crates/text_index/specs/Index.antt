-- The buckets of texts, and what an entry of a chain says: a handle and one, 0 for none.
use Rattle.std.specs.Prelude.{ℕ, ◌+◌, ◌-◌, ◌*◌, ◌/◌, ◌%◌, ◌≤◌, ◌<◌, ◌≡◌, List, [], ◌∷◌}
use Rattle.base.specs.Bytes.{Bytes}
use Rattle.interner.specs.Texts.{text_of}

-- the hash of bytes behind others whose hash is k, in 32 bits
unfoldable pub hash_on : ℕ → Bytes → ℕ
hash_on k [] = k
hash_on k (b ∷ bs) = hash_on ((k * 16777619 + b) % 4294967296) bs

-- the bucket of a text, below 4096
unfoldable pub bucket_of : Bytes → ℕ
bucket_of t = hash_on 0 t * 2654435761 % 4294967296 / 1048576

-- the bucket of a handle's text
abbrev pub bucket_at : List Bytes → ℕ → ℕ
bucket_at texts h = bucket_of (text_of texts h)

-- c is one more than the last handle below m whose bucket is b, or 0 where there is none
pub record LastBelow (buckets : ℕ → ℕ) (b m c : ℕ) : Type 0 where
  pub within : c ≤ m
  pub last : 0 < c → buckets (c - 1) ≡ b
  pub none : (h : ℕ) → c ≤ h → h < m → buckets h ≡ b → ⊥
