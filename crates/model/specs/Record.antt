-- Document 01, compact.rs: what a record holds. S is the type of its texts: bytes in an act, handles in storage.
use Rattle.std.specs.Prelude.{ℕ, ◌/◌, ◌%◌, Bool, cond, List, eqb, ℤ, None, Option, Some}
use Rattle.base.specs.Bytes.{Bytes}
use Rattle.kind.specs.declared.Kind.{Kind}
use Rattle.kind.specs.declared.Kind.TheVariants.{Node, Way, Relation}

-- "flags u8, version i32, timestamp i64, changeset i64, uid i32, user handle u32"
pub record Meta (S : Type 0) : Type 0 where
  pub flags : ℕ
  pub version : ℤ
  pub timestamp : ℤ
  pub changeset : ℤ
  pub uid : ℤ
  pub user : S

-- "Flags: 1 present, 2 hidden, 4 has user, 8 has version"
unfoldable pub flagged : ℕ → ℕ → Bool
flagged bit flags = eqb (flags / bit % 2) 1

-- the version that metadata claims, or none: a missing version is no version, and not version 0
unfoldable pub claim_of : {S : Type 0} → Meta S → Option ℤ
claim_of m = cond (flagged 8 m.flags) (Some m.version) None

-- "members of 13 bytes (ref i64, type u8 with 0 node, 1 way, 2 relation, role handle u32)"
pub record Member (S : Type 0) : Type 0 where
  pub ref : ℤ
  pub type : Kind
  pub role : S

-- "tags (key handle u32, length u32, bytes)": a key is a text of its own, a value is held in the record
pub record Tag (S : Type 0) : Type 0 where
  pub key : S
  pub value : Bytes

-- what a node, a way and a relation hold each: a place, refs, members
pub data Body (S : Type 0) : Type 0 where
  place : ℤ → ℤ → Body S
  refs : List ℤ → Body S
  members : List (Member S) → Body S

pub record Record (S : Type 0) : Type 0 where
  pub meta : Meta S
  pub body : Body S
  pub tags : List (Tag S)

abbrev pub kind_of : {S : Type 0} → Body S → Kind
kind_of (place lat lon) = Node
kind_of (refs rs) = Way
kind_of (members ms) = Relation
