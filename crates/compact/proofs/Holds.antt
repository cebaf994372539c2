-- Numbers that are held as bits: they fit their fields, and the bytes of their fields are theirs.
use Prim.Native.Nat.{ℕ, ◌^◌, ◌<◌}
use mathlib.Core.Path.{◌≡◌, refl}
use mathlib.Core.Bool.{true}
use mathlib.Core.List.{◌++◌}
use mir.Syntax.{w32, w64}
use mir.Val.{to_z}
use mir.Facts.{of_z-to_z, Fits-of_lt}
use borrow.Author.Tests.{lt-ltb}
use Rattle.base.proofs.Split.{both_of}
use Rattle.little.specs.Little.{le}
use Rattle.kind.specs.declared.Kind.TheVariants.{Node, Way, Relation}
use Rattle.compact.specs.declared.ArenaMeta.{ArenaMeta}
use Rattle.compact.specs.declared.CompactNode.{CompactNode}
use Rattle.compact.specs.declared.CompactWay.{CompactWay}
use Rattle.compact.specs.declared.CompactRelation.{CompactRelation}
use Rattle.compact.specs.Layout.{Head, meta_bytes, head_bytes}
use Rattle.compact.specs.Fits.{fits_number, fits_signed, fits_meta, fits_head}
use Rattle.compact.specs.Held.{meta_of, meta_bits, node_head, counts_head, way_head, relation_head, node_bits, way_bits, relation_bits}
use Rattle.compact.proofs.Format.{signed_there}

number_fits : (n : ℕ) {v : ℕ} → v < 256 ^ n → fits_number n v ≡ true
unfolding fits_number
number_fits n {v} h = lt-ltb v (256 ^ n) h

i32_fits : {v : ℕ} → v < 2 ^ 32 → fits_signed w32 (to_z w32 v) ≡ true
i32_fits {v} h = (signed_there w32 4 refl v (number_fits 4 h)).1

i64_fits : {v : ℕ} → v < 2 ^ 64 → fits_signed w64 (to_z w64 v) ≡ true
i64_fits {v} h = (signed_there w64 8 refl v (number_fits 8 h)).1

-- ---- metadata

-- metadata whose numbers fit, as those of every ArenaMeta do
pub record MetaHeld (m : ArenaMeta) : Type 0 where
  pub flags : m.flags < 2 ^ 8
  pub version : m.version < 2 ^ 32
  pub timestamp : m.timestamp < 2 ^ 64
  pub changeset : m.changeset < 2 ^ 64
  pub uid : m.uid < 2 ^ 32
  pub user : m.user < 2 ^ 32

pub meta_bits_lem : (m : ArenaMeta) → MetaHeld m
    → meta_bytes (meta_of m) ≡ le 1 m.flags ++ le 4 m.version ++ le 8 m.timestamp ++ le 8 m.changeset ++ le 4 m.uid ++ le 4 m.user
unfolding meta_bytes meta_of
meta_bits_lem m h =
    rw (of_z-to_z {w = w32} (Fits-of_lt h.version), of_z-to_z {w = w64} (Fits-of_lt h.timestamp), of_z-to_z {w = w64} (Fits-of_lt h.changeset), of_z-to_z {w = w32} (Fits-of_lt h.uid))

pub meta_fits_lem : (m : ArenaMeta) → MetaHeld m → fits_meta (meta_of m) ≡ true
unfolding fits_meta meta_of
meta_fits_lem m h =
    both_of (number_fits 1 h.flags) (both_of (i32_fits h.version) (both_of (i64_fits h.timestamp) (both_of (i64_fits h.changeset) (both_of (i32_fits h.uid) (number_fits 4 h.user)))))

-- the bits again
pub meta_again : (m : ArenaMeta) → MetaHeld m → meta_bits (meta_of m) ≡ m
unfolding meta_bits meta_of
meta_again m h =
    rw (of_z-to_z {w = w32} (Fits-of_lt h.version), of_z-to_z {w = w64} (Fits-of_lt h.timestamp), of_z-to_z {w = w64} (Fits-of_lt h.changeset), of_z-to_z {w = w32} (Fits-of_lt h.uid))

-- ---- heads

pub record NodeHeld (h : CompactNode) : Type 0 where
  pub id : h.id < 2 ^ 64
  pub lat : h.lat < 2 ^ 32
  pub lon : h.lon < 2 ^ 32
  pub tags : h.tag_count < 2 ^ 32

pub node_bits_lem : (h : CompactNode) → NodeHeld h → head_bytes Node (node_head h) ≡ le 8 h.id ++ le 4 h.lat ++ le 4 h.lon ++ le 4 h.tag_count
unfolding head_bytes node_head
node_bits_lem h f = rw (of_z-to_z {w = w64} (Fits-of_lt f.id), of_z-to_z {w = w32} (Fits-of_lt f.lat), of_z-to_z {w = w32} (Fits-of_lt f.lon))

pub node_fits : (h : CompactNode) → NodeHeld h → fits_head Node (node_head h) ≡ true
unfolding fits_head node_head
node_fits h f = both_of (i64_fits f.id) (both_of (i32_fits f.lat) (both_of (i32_fits f.lon) (number_fits 4 f.tags)))

-- a way's head; a relation's has the same bytes
pub counts_bits : (id count tags : ℕ) → id < 2 ^ 64 → head_bytes Way (counts_head id count tags) ≡ le 8 id ++ le 4 count ++ le 4 tags
unfolding head_bytes counts_head
counts_bits id count tags f = rw (of_z-to_z {w = w64} (Fits-of_lt f))

pub counts_fits : (id count tags : ℕ) → id < 2 ^ 64 → count < 2 ^ 32 → tags < 2 ^ 32 → fits_head Way (counts_head id count tags) ≡ true
unfolding fits_head counts_head
counts_fits id count tags f g h = both_of (i64_fits f) (both_of (number_fits 4 g) (number_fits 4 h))

pub relation_fits : (h : Head) → fits_head Relation h ≡ fits_head Way h
unfolding fits_head
relation_fits h = refl

-- the bits again

pub node_again : (h : CompactNode) → NodeHeld h → node_bits (node_head h) ≡ h
unfolding node_bits node_head
node_again h f = rw (of_z-to_z {w = w64} (Fits-of_lt f.id), of_z-to_z {w = w32} (Fits-of_lt f.lat), of_z-to_z {w = w32} (Fits-of_lt f.lon))

pub way_again : (h : CompactWay) → h.id < 2 ^ 64 → way_bits (way_head h) ≡ h
unfolding way_bits way_head counts_head
way_again h f = rw (of_z-to_z {w = w64} (Fits-of_lt f))

pub relation_again : (h : CompactRelation) → h.id < 2 ^ 64 → relation_bits (relation_head h) ≡ h
unfolding relation_bits relation_head counts_head
relation_again h f = rw (of_z-to_z {w = w64} (Fits-of_lt f))
