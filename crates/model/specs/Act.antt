-- Document 01: "An act is a direct push or delete, or the event at which the nesting rules make one. .. It claims the version it gives".
use Rattle.std.specs.Prelude.{Bool, true, cond, ltb, ℤ, Option}
use Rattle.base.specs.Bytes.{both}
use Rattle.kind.specs.Kind.{kind_number, same_kind}
use Rattle.kind.specs.declared.Kind.{Kind}
use Rattle.osm_id.specs.Order.{before, same_id}
use Rattle.model.specs.Record.{Record, claim_of, kind_of}

-- a kind and an id
pub record Key : Type 0 where
  pub kind : Kind
  pub id : ℤ

unfoldable pub same_key : Key → Key → Bool
same_key a b = both (same_kind a.kind b.kind) (same_id a.id b.id)

-- "Kinds n, w, r in that order, ids in OSM order"
unfoldable pub key_before : Key → Key → Bool
key_before a b = cond (ltb (kind_number a.kind) (kind_number b.kind)) true (both (same_kind a.kind b.kind) (before a.id b.id))

pub data Act (S : Type 0) : Type 0 where
  push : ℤ → Record S → Act S
  delete : Kind → ℤ → Option ℤ → Act S

abbrev pub key_of : {S : Type 0} → Act S → Key
key_of (push id r) = record { kind = kind_of r.body; id = id }
key_of (delete k id claim) = record { kind = k; id = id }

-- the version that an act claims, or none
abbrev pub claimed_by : {S : Type 0} → Act S → Option ℤ
claimed_by (push id r) = claim_of r.meta
claimed_by (delete k id claim) = claim

-- what an act leaves: "a deletion, or a record"
pub data Left (S : Type 0) : Type 0 where
  gone : Left S
  live : Record S → Left S

abbrev pub left_by : {S : Type 0} → Act S → Left S
left_by (push id r) = live r
left_by (delete k id claim) = gone
