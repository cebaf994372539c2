-- Condition 3: "the accepted acts named the same ids and left each with the same last act .. and the same highest version claimed, or none".
use Rattle.std.specs.Prelude.{cond, List, [], ◌∷◌, None, Option, Some, ℤ}
use Rattle.base.specs.Bytes.{Bytes}
use Rattle.version_floor.specs.Version.{higher}
use Rattle.model.specs.Act.{Act, Key, Left, key_of, claimed_by, left_by, same_key, key_before}

-- what is known of a key: what the last act on it left, if any act named it, and the highest version claimed for it
pub record Known : Type 0 where
  pub last : Option (Left Bytes)
  pub high : Option ℤ

abbrev pub nothing : Known
nothing = record { last = None; high = None }

-- what is known after one act more
abbrev pub learn : Act Bytes → Known → Known
learn a k = record { last = Some (left_by a); high = higher k.high (claimed_by a) }

unfoldable pub known_from : Known → List (Act Bytes) → Key → Known
known_from k [] key = k
known_from k (a ∷ acts) key = known_from (cond (same_key key (key_of a)) (learn a k) k) acts key

-- what a list of acts comes to for a key
unfoldable pub known : List (Act Bytes) → Key → Known
known acts key = known_from nothing acts key

-- the same as a table: a row for each key that was named, kinds in order and ids in OSM order
pub record PageRow : Type 0 where
  pub key : Key
  pub high : Option ℤ
  pub last : Left Bytes

abbrev pub Table : Type 0
Table = List PageRow

unfoldable pub find_key : Key → Table → Option PageRow
find_key k [] = None
find_key k (r ∷ rs) = cond (same_key k r.key) (Some r) (find_key k rs)

unfoldable pub put_row : PageRow → Table → Table
put_row n [] = n ∷ []
put_row n (r ∷ rs) = cond (key_before n.key r.key) (n ∷ r ∷ rs) (cond (same_key n.key r.key) (n ∷ rs) (r ∷ put_row n rs))

abbrev pub high_in : Option PageRow → Option ℤ
high_in None = None
high_in (Some r) = r.high

-- the row that an act leaves
abbrev pub row_after : Act Bytes → Option PageRow → PageRow
row_after a r = record { key = key_of a; high = higher (high_in r) (claimed_by a); last = left_by a }

unfoldable pub summary_from : Table → List (Act Bytes) → Table
summary_from t [] = t
summary_from t (a ∷ acts) = summary_from (put_row (row_after a (find_key (key_of a) t)) t) acts

unfoldable pub summary : List (Act Bytes) → Table
summary acts = summary_from [] acts
