-- The check of a record, as an answer: document 01, "17 flags, handle or type byte not as above, or an unflagged field not 0; then 3, 10, 16";
-- "A direct push whose parts are cut short, or not as many as it counts, is refused 17 too."
use Rattle.std.specs.Prelude.{ℕ, ◌-◌, ◌*◌, Bool, true, cond, List, leb, eqb, ℤ, length, drop, Err, None, Ok, Option, Result, Some}
use Rattle.base.specs.Bytes.{Bytes, both, either, all}
use Rattle.text.specs.Check.{is_text}
use Rattle.kind.specs.declared.Kind.{Kind}
use Rattle.kind.specs.declared.Kind.TheVariants.{Node, Way, Relation}
use Rattle.refusal.specs.declared.Refusal.{Refusal}
use Rattle.refusal.specs.declared.Refusal.TheVariants.{NotText, CoordinateRange, TooManyParts, BadRecord}
use Rattle.model.specs.Record.{Tag, place, Record}
use Rattle.compact.specs.Layout.{Head}
use Rattle.compact.specs.Cut.{Cut, times, cut_member, cut_tag, cut_body, cut_record}
use Rattle.compact.specs.Legal.{Limits, limits, handle, body_handles, in_range, fault_of, legal}
use Rattle.compact_legal.specs.declared.TagRun.{TagRun}
use Rattle.compact_legal.specs.declared.Walk.{Walk}

abbrev pub fault_answer : Option Refusal → Result Unit Refusal
fault_answer None = Ok tt
fault_answer (Some x) = Err x

-- the answer to a direct push: 17 where its parts are not exactly as it counts, else the first fault of its record
unfoldable pub fault_for : ℕ → Option (Record ℕ) → Result Unit Refusal
fault_for strings None = Err BadRecord
fault_for strings (Some r) = fault_answer (fault_of strings r)

-- where something ends that was cut off bytes of a length and passes a test
unfoldable pub end_of : {A : Type 0} → (A → Bool) → ℕ → Option (Cut A) → Option ℕ
end_of p len None = None
end_of p len (Some c) = cond (p c.item) (Some (len - length c.rest)) None

-- where the legal record ends that starts at an offset
unfoldable pub record_end : ℕ → Kind → Bytes → ℕ → Option ℕ
record_end strings k s at = end_of (λ x. legal strings x.held) (length s) (cut_record k (drop at s))

-- What the contracts of the private functions cite.

-- the check of parts that were cut off bytes of a length; where no more may follow, bytes left over are refused
abbrev pub judged : ℕ → Option Refusal → Result ℕ Refusal
judged e None = Ok e
judged e (Some x) = Err x

unfoldable pub verdict_of : ℕ → Bool → ℕ → Option (Cut (Record ℕ)) → Result ℕ Refusal
verdict_of strings more len None = Err BadRecord
verdict_of strings more len (Some c) =
    cond (either more (eqb (length c.rest) 0)) (judged (len - length c.rest) (fault_of strings c.item)) (Err BadRecord)

-- a member at an offset whose role is held, and so many of them
unfoldable pub member_end : ℕ → Bytes → ℕ → Option ℕ
member_end strings s at = end_of (λ m. handle strings m.role) (length s) (cut_member (drop at s))

unfoldable pub members_end : ℕ → ℕ → Bytes → ℕ → Option ℕ
members_end strings n s at = end_of (all (λ m. handle strings m.role)) (length s) (times cut_member n (drop at s))

-- a tag at an offset, whatever its key and value
unfoldable pub tag_end : Bytes → ℕ → Option ℕ
tag_end s at = end_of (λ t. true) (length s) (cut_tag (drop at s))

-- tags that were cut off bytes of a length: whose keys are held, and whether their values are text
unfoldable pub tag_run_of : ℕ → ℕ → Option (Cut (List (Tag ℕ))) → Option TagRun
tag_run_of strings len None = None
tag_run_of strings len (Some c) =
    cond (all (λ t. handle strings t.key) c.item) (Some (record { end = len - length c.rest; text = all (λ t. is_text t.value) c.item })) None

-- so many tags at an offset
unfoldable pub tags_end : ℕ → ℕ → Bytes → ℕ → Option TagRun
tags_end strings n s at = tag_run_of strings (length s) (times cut_tag n (drop at s))

-- a body at an offset whose handles are held
unfoldable pub body_end : ℕ → Kind → Head → Bytes → ℕ → Option ℕ
body_end strings k h s at = end_of (body_handles strings) (length s) (cut_body k h (drop at s))

-- a walk over a body and its tags
abbrev pub walk_from : ℕ → ℕ → Option TagRun → Option Walk
walk_from tags t None = None
walk_from tags t (Some r) = Some (record { end = r.end; values = r.end - t - 8 * tags; text = r.text })

abbrev pub walk_on : (ℕ → Option Walk) → Option ℕ → Option Walk
walk_on f None = None
walk_on f (Some t) = f t

unfoldable pub walk_of : ℕ → Kind → Head → Bytes → ℕ → Option Walk
walk_of strings k h s at = walk_on (λ t. walk_from h.tags t (tags_end strings h.tags s t)) (body_end strings k h s at)

-- a place in range; only a node has one
unfoldable pub place_in_range : Kind → ℤ → ℤ → Bool
place_in_range Node lat lon = in_range (place lat lon)
place_in_range Way lat lon = true
place_in_range Relation lat lon = true

-- so many refs or members, tags and bytes of tag values
abbrev pub count_within : Limits → Kind → ℕ → Bool
count_within l Node n = true
count_within l Way n = leb n l.refs
count_within l Relation n = leb n l.members

unfoldable pub few : Kind → ℕ → ℕ → ℕ → Bool
few k count tags bytes = both (leb tags limits.tags) (both (count_within limits k count) (leb bytes limits.value_bytes))

-- the first of the four tests that fails, in document 01's order
unfoldable pub chosen : Bool → Bool → Bool → Bool → ℕ → Result ℕ Refusal
chosen held text inside few e =
    cond held (cond text (cond inside (cond few (Ok e) (Err TooManyParts)) (Err CoordinateRange)) (Err NotText)) (Err BadRecord)
