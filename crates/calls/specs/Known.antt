-- Of the accepted acts: when a version is below the highest claimed, and the bytes that pushes took.
use Rattle.std.specs.Prelude.{ℕ, ◌+◌, ◌*◌, ◌≡◌, true, cond, List, [], ◌∷◌, ℤ, length, Option, Some}
use Rattle.std.specs.Int.Signed.{lt_z}
use Rattle.base.specs.Bytes.{Bytes}
use Rattle.kind.specs.Kind.{same_kind}
use Rattle.kind.specs.declared.Kind.{Kind}
use Rattle.model.specs.Record.{Record, Body, place, refs, members, Tag, kind_of}
use Rattle.model.specs.Act.{Act, Key, push, delete}
use Rattle.compact.specs.Layout.{head_len}
use Rattle.listing_page.specs.Summary.{Known}
use Rattle.listing_page.specs.Summary as Summary

-- "its version is below the highest that accepted acts claimed for its kind and id": a claim, and the highest
pub record Regresses (acts : List (Act Bytes)) (key : Key) (claim : Option ℤ) (highest : ℤ) : Type 0 where
  pub version : ℤ
  pub claims : claim ≡ Some version
  pub known : (Summary.known acts key).high ≡ Some highest
  pub below : lt_z version highest ≡ true

-- ---- "Used arena bytes are the lengths of all accepted pushes."

unfoldable pub tags_length : {S : Type 0} → List (Tag S) → ℕ
tags_length [] = 0
tags_length (t ∷ ts) = 8 + length t.value + tags_length ts

abbrev pub body_length : {S : Type 0} → Body S → ℕ
body_length (place lat lon) = 0
body_length (refs rs) = 8 * length rs
body_length (members ms) = 13 * length ms

-- head, metadata, refs or members, tags
unfoldable pub record_length : {S : Type 0} → Record S → ℕ
record_length r = head_len (kind_of r.body) + 29 + body_length r.body + tags_length r.tags

abbrev pub pushed_by : Kind → Act Bytes → ℕ
pushed_by k (push id r) = cond (same_kind k (kind_of r.body)) (record_length r) 0
pushed_by k (delete j id claim) = 0

unfoldable pub pushed_bytes : Kind → List (Act Bytes) → ℕ
pushed_bytes k [] = 0
pushed_bytes k (a ∷ acts) = pushed_by k a + pushed_bytes k acts
