-- The length of a record as an act tells it is that of the bytes that are appended, and the bytes of one act more are added.
use Prim.Native.Nat.{ℕ, ◌+◌}
use mathlib.Core.Path.{◌≡◌, refl, sym}
use mathlib.Core.List.{List, [], ◌∷◌, ◌++◌, map}
use native.Mathlib.Omega.{arith}
use lib.IntN.{ℤ}
use lib.ListN.{length, length-append, length-map}
use Rattle.base.specs.Bytes.{Bytes}
use Rattle.kind.specs.declared.Kind.{Kind}
use Rattle.model.specs.Record.{Tag, Body, place, refs, members, Record}
use Rattle.model.specs.Act.{Act}
use Rattle.model.specs.Swap.{swap_member, swap_tag, swap_body, swap_record}
use Rattle.model.proofs.Swaps.{body_kind}
use Rattle.compact.specs.Layout.{i64, member_bytes, tag_bytes, joined_bytes, body_bytes, parts_bytes, record_bytes}
use Rattle.compact.proofs.Lengths.{length_i64, length_member, length_tag, length_joined, length_record}
use Rattle.calls.specs.Known.{tags_length, body_length, record_length, pushed_by, pushed_bytes}

module _ {S : Type 0} (f : ℕ → S) where
  tags_length_lem : (ts : List (Tag ℕ)) → tags_length (map (swap_tag f) ts) ≡ length (joined_bytes tag_bytes ts)
  unfolding tags_length joined_bytes
  tags_length_lem [] = refl
  tags_length_lem (t ∷ ts) = rw (tags_length_lem ts, length-append, length_tag t)

  body_length_lem : (b : Body ℕ) → body_length (swap_body f b) ≡ length (body_bytes b)
  unfolding body_bytes
  body_length_lem (place lat lon) = refl
  body_length_lem (refs rs) = sym (length_joined i64 8 length_i64 rs)
  body_length_lem (members ms) = rw (length-map ms (swap_member f), length_joined member_bytes 13 length_member ms)

  -- whatever stands for its texts
  pub record_length_lem : (id : ℤ) (r : Record ℕ) → record_length (swap_record f r) ≡ length (record_bytes id r)
  unfolding record_length parts_bytes
  record_length_lem id r =
      rw (length_record id r, body_kind f r.body, body_length_lem r.body, tags_length_lem r.tags, length-append) (omega arith)

pub pushed_more : (k : Kind) (acts : List (Act Bytes)) (a : Act Bytes) → pushed_bytes k (acts ++ (a ∷ [])) ≡ pushed_bytes k acts + pushed_by k a
unfolding pushed_bytes
pushed_more k [] a = omega arith
pushed_more k (b ∷ acts) a = let e = pushed_more k acts a in omega arith
