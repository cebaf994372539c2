-- How long each part of a record is, and the record.
use Prim.Native.Nat.{ℕ, ◌+◌, ◌*◌, ◌≤◌}
use mathlib.Core.Path.{◌≡◌, refl}
use mathlib.Core.List.{List, [], ◌∷◌, ◌++◌}
use native.Mathlib.Omega.{arith}
use lib.IntN.{ℤ}
use lib.ListN.{length, length-append}
use mir.Syntax.{w64}
use mir.Val.{of_z}
use Rattle.base.specs.Bytes.{Bytes}
use Rattle.little.proofs.Littles.{length_le}
use Rattle.kind.specs.declared.Kind.{Kind}
use Rattle.kind.specs.declared.Kind.TheVariants.{Node, Way, Relation}
use Rattle.model.specs.Record.{Meta, Member, Tag, Record, kind_of}
use Rattle.compact.specs.Legal.{value_bytes}
use Rattle.compact.specs.Layout.{i64, meta_bytes, member_bytes, tag_bytes, joined_bytes, Head, head_bytes, parts_bytes, record_bytes, head_len}

pub length_i64 : (z : ℤ) → length (i64 z) ≡ 8
length_i64 z = length_le 8 (of_z w64 z)

pub length_meta : (m : Meta ℕ) → length (meta_bytes m) ≡ 29
unfolding meta_bytes
length_meta m = simp (length-append, length_le)

pub length_member : (m : Member ℕ) → length (member_bytes m) ≡ 13
unfolding member_bytes
length_member m = simp (length-append, length_le)

pub length_tag : (t : Tag ℕ) → length (tag_bytes t) ≡ 8 + length t.value
unfolding tag_bytes
length_tag t = simp (length-append, length_le)

-- elements of one length
pub length_joined : {A : Type 0} (bytes : A → Bytes) (n : ℕ) → ((a : A) → length (bytes a) ≡ n) → (xs : List A) → length (joined_bytes bytes xs) ≡ n * length xs
unfolding joined_bytes
length_joined bytes n f [] = omega arith
length_joined bytes n f (x ∷ xs) = rw (length-append, f x, length_joined bytes n f xs) (omega arith)

-- 8 bytes and a value each
pub length_tags : (ts : List (Tag ℕ)) → length (joined_bytes tag_bytes ts) ≡ 8 * length ts + value_bytes ts
unfolding joined_bytes value_bytes
length_tags [] = refl
length_tags (t ∷ ts) = rw (length-append, length_tag t, length_tags ts) (omega arith)

pub length_head : (k : Kind) (h : Head) → length (head_bytes k h) ≡ head_len k
unfolding head_bytes
length_head Node h = simp (length-append, length_le)
length_head Way h = simp (length-append, length_le)
length_head Relation h = simp (length-append, length_le)

pub head_len_small : (k : Kind) → head_len k ≤ 20
head_len_small Node = omega arith
head_len_small Way = omega arith
head_len_small Relation = omega arith

pub length_record : (id : ℤ) (r : Record ℕ) → length (record_bytes id r) ≡ head_len (kind_of r.body) + 29 + length (parts_bytes r)
unfolding record_bytes
length_record id r = simp (length-append, length_head, length_meta)

-- what an append writes
pub length_written : (k : Kind) (h : Head) (m : Meta ℕ) (parts : Bytes) → length (head_bytes k h ++ meta_bytes m ++ parts) ≡ head_len k + 29 + length parts
length_written k h m parts = simp (length-append, length_head, length_meta)
