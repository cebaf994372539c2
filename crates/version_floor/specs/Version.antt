-- Document 01, version_floor.rs: "`admit` refuses only a claim strictly below the floor and returns that floor."
use Rattle.std.specs.Prelude.{ℕ, ◌^◌, cond, ltb, Err, None, Ok, Option, Result, Some, ℤ}
use Rattle.std.specs.Int.Signed.{lt_z}
use Rattle.std.specs.Int.{w32}
use Rattle.std.proofs.Common.{of_z, to_z}

-- "the larger of the known version and its own, or the one that exists"
unfoldable pub higher : Option ℤ → Option ℤ → Option ℤ
higher None b = b
higher (Some x) None = Some x
higher (Some x) (Some y) = cond (lt_z x y) (Some y) (Some x)

-- what the rule says of a claim, given the floor: a claim without a version is no claim, and an equal one is admitted
unfoldable pub admit_of : Option ℤ → Option ℤ → Result Unit ℤ
admit_of None claim = Ok tt
admit_of (Some floor) None = Ok tt
admit_of (Some floor) (Some claim) = cond (lt_z claim floor) (Err floor) (Ok tt)

-- a version as a word: the bits of its number, and 2^32 or more for none
unfoldable pub word_of : Option ℤ → ℕ
word_of None = 2 ^ 32
word_of (Some v) = of_z w32 v

unfoldable pub of_word : ℕ → Option ℤ
of_word n = cond (ltb n (2 ^ 32)) (Some (to_z w32 n)) None
