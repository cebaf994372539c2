-- What the published files use of Rust itself: what is done with a Result, orderings, hash maps and hash sets, integers compared, read from text and as little-endian bytes, slices; and of the crate's
-- other files ElementKind.
use Rattle.std.specs.Prelude.{ℕ, zero, suc, ◌+◌, ◌-◌, ◌*◌, ◌/◌, ◌%◌, ◌^◌, Bool, true, false, cond, List, [], ◌∷◌, length, take, drop, ℤ, pos, negsuc, ◌==◌, int_lt, nat_le, nat_lt, None, Option, Some, slice_get, Result, Ok, Err}
use Rattle.base.specs.Ascii.{ascii}
use Rattle.base.specs.Bytes.{Bytes, same, is_digit}

-- result.map(f)
abbrev pub map_ok : {A B E : Type 0} → (A → B) → Result A E → Result B E
map_ok f (Ok a) = Ok (f a)
map_ok f (Err e) = Err e

-- std::cmp::Ordering
pub data Ordering : Type 0 where
  Less : Ordering
  Equal : Ordering
  Greater : Ordering

abbrev pub is_lt : Ordering → Bool
is_lt Less = true
is_lt Equal = false
is_lt Greater = false

abbrev pub is_le : Ordering → Bool
is_le Less = true
is_le Equal = true
is_le Greater = false

-- crate::ElementKind
pub data ElementKind : Type 0 where
  Node : ElementKind
  Way : ElementKind
  Relation : ElementKind

-- ElementKind::from_name; like `Metadata` it is not in the published files, and stands in the judge as a stand-in
unfoldable pub from_name : Bytes → Option ElementKind
from_name n = cond (same n (ascii "node")) (Some Node) (cond (same n (ascii "way")) (Some Way) (cond (same n (ascii "relation")) (Some Relation) None))

-- ---- integers

-- `a == b` on i64
unfoldable pub eq_z : ℤ → ℤ → Bool
eq_z (pos m) (pos n) = m == n
eq_z (pos m) (negsuc n) = false
eq_z (negsuc m) (pos n) = false
eq_z (negsuc m) (negsuc n) = m == n

-- i32::max: "Returns the second argument if the comparison determines them to be equal."
unfoldable pub max_z : ℤ → ℤ → ℤ
max_z a b = cond (int_lt b a) a b

-- str::parse::<i64>() with 63 and str::parse::<i32>() with 31: an optional sign, one digit or more, no overflow
unfoldable pub digits : ℕ → Bytes → Option ℕ
digits acc [] = Some acc
digits acc (b ∷ bs) = cond (is_digit b) (digits (acc * 10 + (b - 48)) bs) None

abbrev pub within : ℕ → Bool → Option ℕ → Option ℤ
within bits negative None = None
within bits true (Some zero) = Some (pos 0)
within bits true (Some (suc n)) = cond (nat_lt n (2 ^ bits)) (Some (negsuc n)) None
within bits false (Some n) = cond (nat_lt n (2 ^ bits)) (Some (pos n)) None

abbrev pub unsigned : ℕ → Bool → Bytes → Option ℤ
unsigned bits negative [] = None
unsigned bits negative (b ∷ bs) = within bits negative (digits 0 (b ∷ bs))

unfoldable pub parse_int : ℕ → Bytes → Option ℤ
parse_int bits [] = None
parse_int bits (b ∷ bs) = cond (b == 45) (unsigned bits true bs) (cond (b == 43) (unsigned bits false bs) (unsigned bits false (b ∷ bs)))

-- n.to_le_bytes() of an unsigned number of so many bytes; from_le_bytes
unfoldable pub to_le : ℕ → ℕ → Bytes
to_le zero v = []
to_le (suc n) v = (v % 256) ∷ to_le n (v / 256)

unfoldable pub from_le : Bytes → ℕ
from_le [] = 0
from_le (b ∷ bs) = b + 256 * from_le bs

-- ---- slices

-- data[i]; none where it panics
abbrev pub index : Bytes → ℕ → Option ℕ
index s i = slice_get s i

-- &data[i..i + n]; none where it panics
unfoldable pub slice : Bytes → ℕ → ℕ → Option Bytes
slice s i n = cond (nat_le (i + n) (length s)) (Some (take n (drop i s))) None

-- &data[i..]; none where it panics
abbrev pub slice_from : Bytes → ℕ → Option Bytes
slice_from s i = cond (nat_le i (length s)) (Some (drop i s)) None

-- ---- FxHashMap<i64, T>, as its entries in no order that is ever looked at; a key stands in it once

pub record Entry (T : Type 0) : Type 0 where
  pub key : ℤ
  pub value : T

abbrev pub HashMap : Type 0 → Type 0
HashMap T = List (Entry T)

module _ {T : Type 0} where
  -- map.get(&key)
  unfoldable pub get : HashMap T → ℤ → Option T
  get [] k = None
  get (e ∷ m) k = cond (eq_z e.key k) (Some e.value) (get m k)

  -- map.remove(&key)
  unfoldable pub remove : HashMap T → ℤ → HashMap T
  remove [] k = []
  remove (e ∷ m) k = cond (eq_z e.key k) (remove m k) (e ∷ remove m k)

  -- map.insert(key, value)
  unfoldable pub insert : HashMap T → ℤ → T → HashMap T
  insert m k v = record { key = k; value = v } ∷ remove m k

-- ---- HashSet<i64>

abbrev pub HashSet : Type 0
HashSet = List ℤ

unfoldable pub contains : HashSet → ℤ → Bool
contains [] k = false
contains (x ∷ s) k = cond (eq_z x k) true (contains s k)

unfoldable pub remove_from : HashSet → ℤ → HashSet
remove_from [] k = []
remove_from (x ∷ s) k = cond (eq_z x k) (remove_from s k) (x ∷ remove_from s k)

unfoldable pub insert_into : HashSet → ℤ → HashSet
insert_into s k = k ∷ remove_from s k
