-- The parts of a record as they are staged: one part more, where it stands, and that there is room for the parts of every record within the limits.
use Prim.Native.Nat.{ℕ, ◌+◌, ◌*◌, ◌≤◌}
use mathlib.Core.Path.{◌≡◌, refl, sym, ◌∙◌, ap}
use mathlib.Core.Bool.{true}
use mathlib.Core.List.{List, [], ◌∷◌, ◌++◌, append-nil, append_assoc}
use native.Mathlib.Omega.{arith}
use native.Mathlib.Nat.{zero-add}
use lib.Dec.{leb}
use lib.IntN.{ℤ}
use lib.ListN.{length, take, drop, length-append, take-append-drop}
use lib.Seq.{take_at, drop_at, take-length, drop-length, length-take-le}
use mir.Syntax.{w64}
use mir.Val.{of_z}
use borrow.Author.Tests.{leb-true, le-leb}
use Rattle.base.specs.Bytes.{Bytes, both}
use Rattle.base.proofs.Split.{by_bool, both_left, both_right, both_of}
use Rattle.little.specs.Little.{over}
use Rattle.little.proofs.Overs.{length_over, used_over}
use Rattle.kind.specs.Kind.{kind_number}
use Rattle.model.specs.Record.{Member, Tag, Body, place, refs, members, Record}
use Rattle.compact.specs.declared.CompactMember.{CompactMember}
use Rattle.compact.specs.Layout.{i64, member_bytes, tag_bytes, joined_bytes, body_bytes, parts_bytes}
use Rattle.compact.specs.Legal.{value_bytes, limits, body_within, within_limits}
use Rattle.compact.proofs.Format.{joined_last}
use Rattle.compact.proofs.Lengths.{length_i64, length_member, length_tag, length_joined, length_tags}
use Rattle.reader_stage.specs.Stage.{inserted_at, staged, ref_part, member_part, tag_part}

-- ---- the bytes of a part are those of its record

-- a member in bits
abbrev pub in_bits : Member ℕ → CompactMember
in_bits m = record { reference = of_z w64 m.ref; kind = kind_number m.type; role = m.role }

pub member_part_lem : (m : Member ℕ) → member_part (in_bits m) ≡ member_bytes m
unfolding member_bytes
member_part_lem m = rw append_assoc

pub tag_part_lem : (t : Tag ℕ) → tag_part t.key t.value ≡ tag_bytes t
unfolding tag_bytes
tag_part_lem t = rw append_assoc

-- ---- a record with one part more

abbrev pub with_ref : Record ℕ → List ℤ → ℤ → Record ℕ
with_ref r rs z = record { meta = r.meta; body = refs (rs ++ (z ∷ [])); tags = r.tags }

abbrev pub with_member : Record ℕ → List (Member ℕ) → Member ℕ → Record ℕ
with_member r ms m = record { meta = r.meta; body = members (ms ++ (m ∷ [])); tags = r.tags }

abbrev pub with_tag : Record ℕ → Tag ℕ → Record ℕ
with_tag r t = record { meta = r.meta; body = r.body; tags = r.tags ++ (t ∷ []) }

-- what is put in between two runs
between : (n : ℕ) (a x b : Bytes) → length a ≡ n → a ++ x ++ b ≡ inserted_at n x (a ++ b)
between n a x b e = rw (take_at a b n e, drop_at a b n e, append_assoc)

pub ref_parts : (r : Record ℕ) (rs : List ℤ) (z : ℤ) → r.body ≡ refs rs → parts_bytes (with_ref r rs z) ≡ inserted_at (8 * length rs) (i64 z) (parts_bytes r)
unfolding parts_bytes body_bytes
ref_parts r rs z e = rw (e, joined_last i64 rs z) (between (8 * length rs) (joined_bytes i64 rs) (i64 z) (joined_bytes tag_bytes r.tags) (length_joined i64 8 length_i64 rs))

pub member_parts : (r : Record ℕ) (ms : List (Member ℕ)) (m : Member ℕ) → r.body ≡ members ms
    → parts_bytes (with_member r ms m) ≡ inserted_at (13 * length ms) (member_bytes m) (parts_bytes r)
unfolding parts_bytes body_bytes
member_parts r ms m e =
    rw (e, joined_last member_bytes ms m) (between (13 * length ms) (joined_bytes member_bytes ms) (member_bytes m) (joined_bytes tag_bytes r.tags) (length_joined member_bytes 13 length_member ms))

pub tag_parts : (r : Record ℕ) (t : Tag ℕ) → parts_bytes (with_tag r t) ≡ parts_bytes r ++ tag_bytes t
unfolding parts_bytes
tag_parts r t = rw (joined_last tag_bytes r.tags t) (sym (append_assoc (body_bytes r.body) (joined_bytes tag_bytes r.tags) (tag_bytes t)))

-- at the end
pub inserted_last : (s x : Bytes) → inserted_at (length s) x s ≡ s ++ x
inserted_last s x = rw (take-length, drop-length, append-nil)

pub length_inserted : (at : ℕ) (x s : Bytes) → length (inserted_at at x s) ≡ length s + length x
length_inserted at x s =
    let e = ap length (take-append-drop at s) in
    simp length-append (omega (arith, length-append (take at s) (drop at s)))

-- ---- a part staged among the used bytes

pub length_staged : (parts : Bytes) (used at : ℕ) (x : Bytes) → length (staged parts used at x) ≡ length parts
unfolding staged
length_staged parts used at x =
    by_bool (both (leb at used) (leb (used + length x) (length parts)))
    (λ t. rw t (length_over parts 0 (inserted_at at x (take used parts))))
    (λ t. rw t)

pub staged_used : (parts : Bytes) (used at : ℕ) (x : Bytes) → at ≤ used → used + length x ≤ length parts
    → take (used + length x) (staged parts used at x) ≡ inserted_at at x (take used parts)
unfolding staged
staged_used parts used at x h g =
    let y = inserted_at at x (take used parts) in
    let n : length y ≡ used + length x = length_inserted at x (take used parts) ∙ rw (length-take-le used parts (omega arith)) in
    let u : take (length y) (over parts 0 y) ≡ y = rw zero-add at (used_over parts 0 y (omega arith)) in
    rw (both_of (le-leb at used h) (le-leb (used + length x) (length parts) g), ← n) u

-- ---- how long the parts are

pub length_parts : (r : Record ℕ) → length (parts_bytes r) ≡ length (body_bytes r.body) + (8 * length r.tags + value_bytes r.tags)
unfolding parts_bytes
length_parts r = rw (length-append, length_tags)

length_refs : (b : Body ℕ) (rs : List ℤ) → b ≡ refs rs → length (body_bytes b) ≡ 8 * length rs
unfolding body_bytes
length_refs b rs e = rw e (length_joined i64 8 length_i64 rs)

length_members : (b : Body ℕ) (ms : List (Member ℕ)) → b ≡ members ms → length (body_bytes b) ≡ 13 * length ms
unfolding body_bytes
length_members b ms e = rw e (length_joined member_bytes 13 length_member ms)

body_fits : (b : Body ℕ) → body_within limits b ≡ true → length (body_bytes b) ≤ 26000
unfolding body_bytes
body_fits (place lat lon) h = omega arith
body_fits (refs rs) h = omega (arith, length_refs (refs rs) rs refl, leb-true (length rs) 2000 h)
body_fits (members ms) h = omega (arith, length_members (members ms) ms refl, leb-true (length ms) 2000 h)

-- 2,000 members of 13 bytes, 256 tags of 8 and 16,384 value bytes
pub parts_fit : (r : Record ℕ) → within_limits limits r ≡ true → length (parts_bytes r) ≤ 44432
unfolding within_limits
parts_fit r h =
    let t = leb-true (length r.tags) 256 (both_left _ _ h) in
    let b = body_fits r.body (both_left _ _ (both_right _ _ h)) in
    let v = leb-true (value_bytes r.tags) 16384 (both_right _ _ (both_right _ _ h)) in
    omega (arith, length_parts r)

-- ---- the used bytes are the parts of a record r, and the next record has one part more

module _ (parts : Bytes) (used : ℕ) (r : Record ℕ) (e : take used parts ≡ parts_bytes r) where
  pub used_length : used ≤ length parts → length (parts_bytes r) ≡ used
  used_length h = rw (← e) (length-take-le used parts h)

  -- a part x of n bytes, put in at a place
  module _ (at n : ℕ) (x : Bytes) (next : Record ℕ) (l : length x ≡ n) (p : parts_bytes next ≡ inserted_at at x (parts_bytes r)) where
    next_staged : at ≤ length (parts_bytes r) → used + n ≤ length parts → take (used + n) (staged parts used at x) ≡ parts_bytes next
    next_staged h g =
        let k = used_length (omega arith) in
        rw (p, ← e, ← l) (staged_used parts used at x (omega arith) (omega arith))

    -- where the next record is within the limits, 44,432 bytes have room for it
    next_fits : used ≤ length parts → within_limits limits next ≡ true → used + n ≤ 44432
    next_fits h f =
        let k = used_length h in
        let m = ap length p ∙ length_inserted at x (parts_bytes r) in
        omega (arith, parts_fit next f)

  module _ (rs : List ℤ) (z : ℤ) (b : r.body ≡ refs rs) where
    pub staged_ref : used + 8 ≤ length parts → take (used + 8) (staged parts used (8 * length rs) (ref_part (of_z w64 z))) ≡ parts_bytes (with_ref r rs z)
    staged_ref g =
        next_staged (8 * length rs) 8 (i64 z) (with_ref r rs z) (length_i64 z) (ref_parts r rs z b)
        (omega (arith, length_parts r, length_refs r.body rs b)) g

    pub ref_fits : used ≤ length parts → within_limits limits (with_ref r rs z) ≡ true → used + 8 ≤ 44432
    ref_fits = next_fits (8 * length rs) 8 (i64 z) (with_ref r rs z) (length_i64 z) (ref_parts r rs z b)

  module _ (ms : List (Member ℕ)) (m : Member ℕ) (b : r.body ≡ members ms) where
    pub staged_member : used + 13 ≤ length parts → take (used + 13) (staged parts used (13 * length ms) (member_part (in_bits m))) ≡ parts_bytes (with_member r ms m)
    staged_member g =
        rw (member_part_lem m)
        (next_staged (13 * length ms) 13 (member_bytes m) (with_member r ms m) (length_member m) (member_parts r ms m b)
        (omega (arith, length_parts r, length_members r.body ms b)) g)

    pub member_fits : used ≤ length parts → within_limits limits (with_member r ms m) ≡ true → used + 13 ≤ 44432
    member_fits = next_fits (13 * length ms) 13 (member_bytes m) (with_member r ms m) (length_member m) (member_parts r ms m b)

  module _ (t : Tag ℕ) where
    pub staged_tag : used + (8 + length t.value) ≤ length parts
        → take (used + (8 + length t.value)) (staged parts used used (tag_part t.key t.value)) ≡ parts_bytes (with_tag r t)
    staged_tag g =
        let k = used_length (omega arith) in
        rw (tag_part_lem t)
        (next_staged used (8 + length t.value) (tag_bytes t) (with_tag r t) (length_tag t)
        (rw (← k) (tag_parts r t ∙ sym (inserted_last (parts_bytes r) (tag_bytes t)))) (omega arith) g)

    pub tag_fits : used ≤ length parts → within_limits limits (with_tag r t) ≡ true → used + (8 + length t.value) ≤ 44432
    tag_fits =
        next_fits (length (parts_bytes r)) (8 + length t.value) (tag_bytes t) (with_tag r t) (length_tag t)
        (tag_parts r t ∙ sym (inserted_last (parts_bytes r) (tag_bytes t)))
