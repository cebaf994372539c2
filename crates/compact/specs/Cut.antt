-- The same layout read: what is cut off the front of bytes, and what is left; none where the bytes are cut short or a type byte is above 2.
use Rattle.std.specs.Prelude.{ℕ, zero, suc, cond, List, [], ◌∷◌, leb, ℤ, pos, length, take, drop, None, Option, Some}
use Rattle.std.specs.Int.{w32, w64}
use Rattle.std.proofs.Common.{to_z}
use Rattle.base.specs.Bytes.{Bytes}
use Rattle.little.specs.Little.{value}
use Rattle.kind.specs.Kind.{of_number}
use Rattle.kind.specs.declared.Kind.{Kind}
use Rattle.kind.specs.declared.Kind.TheVariants.{Node, Way, Relation}
use Rattle.model.specs.Record.{Meta, Member, Tag, Body, place, refs, members, Record}
use Rattle.compact.specs.Layout.{Head}

-- what was cut off, and the rest
pub record Cut (A : Type 0) : Type 0 where
  pub item : A
  pub rest : Bytes

unfoldable pub then_cut : {A B : Type 0} → Option (Cut A) → (A → Bytes → Option (Cut B)) → Option (Cut B)
then_cut None f = None
then_cut (Some c) f = f c.item c.rest

abbrev pub found : {A : Type 0} → A → Bytes → Option (Cut A)
found a r = Some (record { item = a; rest = r })

-- n bytes
unfoldable pub cut_bytes : ℕ → Bytes → Option (Cut Bytes)
cut_bytes n s = cond (leb n (length s)) (found (take n s) (drop n s)) None

-- a number of n bytes
unfoldable pub cut_number : ℕ → Bytes → Option (Cut ℕ)
cut_number n s = then_cut (cut_bytes n s) (λ bs r. found (value bs) r)

unfoldable pub cut_i32 : Bytes → Option (Cut ℤ)
cut_i32 s = then_cut (cut_number 4 s) (λ n r. found (to_z w32 n) r)

unfoldable pub cut_i64 : Bytes → Option (Cut ℤ)
cut_i64 s = then_cut (cut_number 8 s) (λ n r. found (to_z w64 n) r)

-- n of a sort, one after the other
unfoldable pub times : {A : Type 0} → (Bytes → Option (Cut A)) → ℕ → Bytes → Option (Cut (List A))
times f zero s = found [] s
times f (suc n) s = then_cut (f s) (λ a r. then_cut (times f n r) (λ xs q. found (a ∷ xs) q))

unfoldable pub cut_meta : Bytes → Option (Cut (Meta ℕ))
cut_meta s =
    then_cut (cut_number 1 s) (λ flags s1. then_cut (cut_i32 s1) (λ version s2. then_cut (cut_i64 s2) (λ timestamp s3.
    then_cut (cut_i64 s3) (λ changeset s4. then_cut (cut_i32 s4) (λ uid s5. then_cut (cut_number 4 s5) (λ user r.
    found (record { flags = flags; version = version; timestamp = timestamp; changeset = changeset; uid = uid; user = user }) r))))))

abbrev pub member_as : ℤ → Option Kind → ℕ → Bytes → Option (Cut (Member ℕ))
member_as ref (Some k) role r = found (record { ref = ref; type = k; role = role }) r
member_as ref None role r = None

unfoldable pub cut_member : Bytes → Option (Cut (Member ℕ))
cut_member s = then_cut (cut_i64 s) (λ ref s1. then_cut (cut_number 1 s1) (λ type s2. then_cut (cut_number 4 s2) (λ role r. member_as ref (of_number type) role r)))

unfoldable pub cut_tag : Bytes → Option (Cut (Tag ℕ))
cut_tag s = then_cut (cut_number 4 s) (λ key s1. then_cut (cut_number 4 s1) (λ n s2. then_cut (cut_bytes n s2) (λ value r. found (record { key = key; value = value }) r)))

-- ---- the parts of a record: refs or members, then tags, of the counts that its head gives

unfoldable pub cut_body : Kind → Head → Bytes → Option (Cut (Body ℕ))
cut_body Node h s = found (place h.lat h.lon) s
cut_body Way h s = then_cut (times cut_i64 h.count s) (λ rs r. found (refs rs) r)
cut_body Relation h s = then_cut (times cut_member h.count s) (λ ms r. found (members ms) r)

unfoldable pub cut_parts : Kind → Head → Meta ℕ → Bytes → Option (Cut (Record ℕ))
cut_parts k h m s = then_cut (cut_body k h s) (λ b s1. then_cut (times cut_tag h.tags s1) (λ ts r. found (record { meta = m; body = b; tags = ts }) r))

-- "A direct push whose parts are cut short, or not as many as it counts, is refused 17 too.": the parts are used up to the last byte
abbrev pub used_up : {A : Type 0} → A → Bytes → Option A
used_up a [] = Some a
used_up a (b ∷ bs) = None

abbrev pub whole : {A : Type 0} → Option (Cut A) → Option A
whole None = None
whole (Some c) = used_up c.item c.rest

unfoldable pub pushed_record : Kind → Head → Meta ℕ → Bytes → Option (Record ℕ)
pushed_record k h m parts = whole (cut_parts k h m parts)

-- ---- a record in an arena

unfoldable pub cut_counts : Bytes → Option (Cut Head)
cut_counts s =
    then_cut (cut_i64 s) (λ id s1. then_cut (cut_number 4 s1) (λ count s2. then_cut (cut_number 4 s2) (λ tags r.
    found (record { id = id; lat = pos 0; lon = pos 0; count = count; tags = tags }) r)))

unfoldable pub cut_head : Kind → Bytes → Option (Cut Head)
cut_head Node s =
    then_cut (cut_i64 s) (λ id s1. then_cut (cut_i32 s1) (λ lat s2. then_cut (cut_i32 s2) (λ lon s3. then_cut (cut_number 4 s3) (λ tags r.
    found (record { id = id; lat = lat; lon = lon; count = 0; tags = tags }) r))))
cut_head Way s = cut_counts s
cut_head Relation s = cut_counts s

-- a record with its id
pub record KeptRecord : Type 0 where
  pub id : ℤ
  pub held : Record ℕ

unfoldable pub cut_record : Kind → Bytes → Option (Cut KeptRecord)
cut_record k s =
    then_cut (cut_head k s) (λ h s1. then_cut (cut_meta s1) (λ m s2. then_cut (cut_parts k h m s2) (λ r q.
    found (record { id = h.id; held = r }) q)))
