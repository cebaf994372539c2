-- osm_id.rs
use Rattle.std.specs.Prelude.{ℕ, cond, ℤ, pos, ◌==◌, int_le, int_lt, nat_lt, unsigned_abs}
use Rattle.published.specs.Std.{eq_z, Ordering, Less, Equal, Greater}

-- pub(crate) type OsmIdKey = (u8, u64);
pub record OsmIdKey : Type 0 where
  pub class : ℕ
  pub magnitude : ℕ

abbrev pub key : ℕ → ℕ → OsmIdKey
key c m = record { class = c; magnitude = m }

-- `cmp` of two such pairs
unfoldable pub cmp : OsmIdKey → OsmIdKey → Ordering
cmp a b =
    cond (nat_lt a.class b.class) Less
    (cond (a.class == b.class)
    (cond (nat_lt a.magnitude b.magnitude) Less (cond (a.magnitude == b.magnitude) Equal Greater))
    Greater)

-- fn osm_id_key(id: i64) -> OsmIdKey
unfoldable pub osm_id_key : ℤ → OsmIdKey
osm_id_key id =
    cond (int_lt (pos 0) id) (key 2 (unsigned_abs id))
    (cond (eq_z id (pos 0)) (key 0 0)
    (key 1 (unsigned_abs id)))

-- fn osm_id_cmp(a: i64, b: i64) -> std::cmp::Ordering
unfoldable pub osm_id_cmp : ℤ → ℤ → Ordering
osm_id_cmp a b = cmp (osm_id_key a) (osm_id_key b)

-- fn blob_osm_first_key(min_id: i64, max_id: i64) -> OsmIdKey
unfoldable pub blob_osm_first_key : ℤ → ℤ → OsmIdKey
blob_osm_first_key min_id max_id =
    cond (int_le (pos 0) min_id) (osm_id_key min_id)
    (cond (int_le max_id (pos 0)) (osm_id_key max_id)
    (osm_id_key (pos 0)))

-- fn blob_osm_last_key(min_id: i64, max_id: i64) -> OsmIdKey
unfoldable pub blob_osm_last_key : ℤ → ℤ → OsmIdKey
blob_osm_last_key min_id max_id =
    cond (int_le (pos 0) min_id) (osm_id_key max_id)
    (cond (int_le max_id (pos 0)) (osm_id_key min_id)
    (osm_id_key max_id))
