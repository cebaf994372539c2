-- An element that a reader is putting together ("A push happens when its element ends"): its refs or members and its tags in lent bytes, as they will lie in its record.
use Rattle.std.specs.Prelude.{ℕ, ◌+◌, cond, ◌++◌, leb, length, take, drop}
use Rattle.base.specs.Bytes.{Bytes, both}
use Rattle.little.specs.Little.{le, over}
use Rattle.compact.specs.declared.CompactMember.{CompactMember}

-- bytes put in at a place, those behind it moved up
abbrev pub inserted_at : ℕ → Bytes → Bytes → Bytes
inserted_at at x s = take at s ++ (x ++ drop at s)

-- the same among the first `used` bytes of what is lent; where there is no such place or no room, nothing changes
unfoldable pub staged : Bytes → ℕ → ℕ → Bytes → Bytes
staged parts used at x = cond (both (leb at used) (leb (used + length x) (length parts))) (over parts 0 (inserted_at at x (take used parts))) parts

-- the bytes of a ref, a member and a tag, in bits and handles
abbrev pub ref_part : ℕ → Bytes
ref_part bits = le 8 bits

abbrev pub member_part : CompactMember → Bytes
member_part m = le 8 m.reference ++ (le 1 m.kind ++ le 4 m.role)

abbrev pub tag_part : ℕ → Bytes → Bytes
tag_part key value = le 4 key ++ (le 4 (length value) ++ value)

-- the bytes of a tag before its value
abbrev pub tag_numbers : ℕ → ℕ → Bytes
tag_numbers key n = le 4 key ++ le 4 n
