-- Document 01, osm_id.rs: "Order: 0, then negatives by growing magnitude, then positives."
use Rattle.std.specs.Prelude.{ℕ, zero, suc, ◌+◌, ◌-◌, ◌^◌, ◌≡◌, Bool, true, false, cond, ltb, eqb, ℤ, pos, negsuc}
use Rattle.std.specs.Int.Signed.{le_z}
use Rattle.osm_id.specs.declared.OsmIdKey.{OsmIdKey}
use Rattle.std.specs.declared.cmp.Ordering.{Ordering}
use Rattle.std.specs.declared.cmp.Ordering.TheVariants.{Less, Equal, Greater}

-- the id a comes before the id b: 0 first, then the negatives by growing magnitude, then the positives
unfoldable pub before : ℤ → ℤ → Bool
before (pos zero) (pos zero) = false
before (pos zero) (negsuc n) = true
before (pos zero) (pos (suc n)) = true
before (negsuc m) (pos zero) = false
before (negsuc m) (negsuc n) = ltb m n
before (negsuc m) (pos (suc n)) = true
before (pos (suc m)) (pos zero) = false
before (pos (suc m)) (negsuc n) = false
before (pos (suc m)) (pos (suc n)) = ltb m n

unfoldable pub same_id : ℤ → ℤ → Bool
same_id (pos m) (pos n) = eqb m n
same_id (pos m) (negsuc n) = false
same_id (negsuc m) (pos n) = false
same_id (negsuc m) (negsuc n) = eqb m n

-- the trial rows: "key of 0 is (0, 0), of -1 (1, 1), of 1 (2, 1)"
unfoldable pub osm_key_of : ℤ → OsmIdKey
osm_key_of (pos zero) = record { class = 0; magnitude = 0 }
osm_key_of (negsuc n) = record { class = 1; magnitude = suc n }
osm_key_of (pos (suc n)) = record { class = 2; magnitude = suc n }

unfoldable pub cmp_of : ℤ → ℤ → Ordering
cmp_of a b = cond (before a b) Less (cond (same_id a b) Equal Greater)

-- keys compare as pairs do: by class, then by magnitude
unfoldable pub id_key_before : OsmIdKey → OsmIdKey → Bool
id_key_before x y = cond (ltb x.class y.class) true (cond (eqb x.class y.class) (ltb x.magnitude y.magnitude) false)

-- an id's place among all ids of 64 bits, in that order
unfoldable pub rank : ℤ → ℕ
rank (pos zero) = 0
rank (negsuc n) = suc n
rank (pos (suc n)) = 2 ^ 63 + suc n

-- the id of a rank
unfoldable pub id_of : ℕ → ℤ
id_of zero = pos zero
id_of (suc n) = cond (ltb n (2 ^ 63)) (negsuc n) (pos (suc n - 2 ^ 63))

-- the key of the first and of the last id from lo to hi, where lo is at most hi
unfoldable pub first_key : ℤ → ℤ → OsmIdKey
first_key lo hi = cond (le_z (pos 0) lo) (osm_key_of lo) (cond (le_z hi (pos 0)) (osm_key_of hi) (osm_key_of (pos 0)))

unfoldable pub last_key : ℤ → ℤ → OsmIdKey
last_key lo hi = cond (le_z (pos 0) lo) (osm_key_of hi) (cond (le_z hi (pos 0)) (osm_key_of lo) (osm_key_of hi))

-- k is the key of an id from lo to hi that no id from lo to hi precedes, in the order that is given: `before` for the first, its converse for the last
pub record EndKey (precedes : ℤ → ℤ → Bool) (lo hi : ℤ) (k : OsmIdKey) : Type 0 where
  pub id : ℤ
  pub key : osm_key_of id ≡ k
  pub from : le_z lo id ≡ true
  pub to : le_z id hi ≡ true
  pub none : (j : ℤ) → le_z lo j ≡ true → le_z j hi ≡ true → precedes j id ≡ false
