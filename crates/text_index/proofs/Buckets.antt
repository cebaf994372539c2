-- The bucket of a text, byte by byte.
use Prim.Native.Nat.{ℕ, ◌+◌, ◌*◌, ◌/◌, ◌%◌}
use mathlib.Core.Path.{◌≡◌, refl}
use mathlib.Core.List.{[], ◌∷◌}
use native.Mathlib.Omega.{arith}
use Rattle.std.specs.List.{fold}
use Rattle.base.specs.Bytes.{Bytes}
use Rattle.text_index.specs.Index.{hash_on, bucket_of}

-- one byte more, in 32 bits
abbrev pub hash_step : ℕ → ℕ → ℕ
hash_step k b = (k * 16777619 % 4294967296 + b) % 4294967296

step_once : (k b : ℕ) → hash_step k b ≡ (k * 16777619 + b) % 4294967296
step_once k b = omega arith

hash_fold : (k : ℕ) (t : Bytes) → fold hash_step k t ≡ hash_on k t
unfolding hash_on
hash_fold k [] = refl
hash_fold k (b ∷ bs) = rw step_once (hash_fold ((k * 16777619 + b) % 4294967296) bs)

pub bucket_hash : (t : Bytes) (k : ℕ) → k ≡ fold hash_step 0 t → k * 2654435761 % 4294967296 / 1048576 ≡ bucket_of t
unfolding bucket_of
bucket_hash t k e = rw (e, hash_fold 0 t)
