-- Document 01: which metadata and which records are legal; "17 flags, handle or type byte not as above, or an unflagged field not 0; then 3, 10, 16".
use Rattle.std.specs.Prelude.{ℕ, ◌+◌, Bool, true, cond, List, [], ◌∷◌, ltb, leb, eqb, pos, nat_abs, length, None, Option, Some}
use Rattle.base.specs.Bytes.{both, either, all}
use Rattle.osm_id.specs.Order.{same_id}
use Rattle.text.specs.Check.{is_text}
use Rattle.refusal.specs.declared.Refusal.{Refusal}
use Rattle.refusal.specs.declared.Refusal.TheVariants.{NotText, CoordinateRange, TooManyParts, BadRecord}
use Rattle.model.specs.Record.{Meta, Tag, Body, place, refs, members, Record, flagged}

-- "16 an element over 256 tags, 2,000 refs, 2,000 members or 16,384 tag value bytes"
pub record Limits : Type 0 where
  pub tags : ℕ
  pub refs : ℕ
  pub members : ℕ
  pub value_bytes : ℕ

abbrev pub limits : Limits
limits = record { tags = 256; refs = 2000; members = 2000; value_bytes = 16384 }

-- ---- 17

-- "every handle held": a handle below the number of held strings
abbrev pub handle : ℕ → ℕ → Bool
handle strings h = ltb h strings

-- "Flags: 1 present, 2 hidden, 4 has user, 8 has version; the last three need 1. A field not given is 0."
unfoldable pub legal_meta : ℕ → Meta ℕ → Bool
legal_meta strings m =
    both (both (leb m.flags 15) (either (flagged 1 m.flags) (eqb m.flags 0)))
    (both (either (flagged 8 m.flags) (same_id m.version (pos 0)))
    (both (either (flagged 1 m.flags) (both (same_id m.timestamp (pos 0)) (both (same_id m.changeset (pos 0)) (same_id m.uid (pos 0)))))
    (both (either (flagged 4 m.flags) (eqb m.user 0)) (handle strings m.user))))

unfoldable pub body_handles : ℕ → Body ℕ → Bool
body_handles strings (place lat lon) = true
body_handles strings (refs rs) = true
body_handles strings (members ms) = all (λ m. handle strings m.role) ms

unfoldable pub legal_handles : ℕ → Record ℕ → Bool
legal_handles strings r = both (legal_meta strings r.meta) (both (body_handles strings r.body) (all (λ t. handle strings t.key) r.tags))

-- ---- 3

unfoldable pub legal_texts : Record ℕ → Bool
legal_texts r = all (λ t. is_text t.value) r.tags

-- ---- 10

unfoldable pub in_range : Body ℕ → Bool
in_range (place lat lon) = both (leb (nat_abs lat) 900000000) (leb (nat_abs lon) 1800000000)
in_range (refs rs) = true
in_range (members ms) = true

-- ---- 16

unfoldable pub value_bytes : List (Tag ℕ) → ℕ
value_bytes [] = 0
value_bytes (t ∷ ts) = length t.value + value_bytes ts

abbrev pub body_within : Limits → Body ℕ → Bool
body_within l (place lat lon) = true
body_within l (refs rs) = leb (length rs) l.refs
body_within l (members ms) = leb (length ms) l.members

unfoldable pub within_limits : Limits → Record ℕ → Bool
within_limits l r = both (leb (length r.tags) l.tags) (both (body_within l r.body) (leb (value_bytes r.tags) l.value_bytes))

-- the first of 17, 3, 10 and 16 that holds of a record
unfoldable pub fault_of : ℕ → Record ℕ → Option Refusal
fault_of strings r =
    cond (legal_handles strings r)
    (cond (legal_texts r)
    (cond (in_range r.body)
    (cond (within_limits limits r) None (Some TooManyParts))
    (Some CoordinateRange))
    (Some NotText))
    (Some BadRecord)

unfoldable pub legal : ℕ → Record ℕ → Bool
legal strings r = both (legal_handles strings r) (both (legal_texts r) (both (in_range r.body) (within_limits limits r)))
