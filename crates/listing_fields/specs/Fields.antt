-- Document 01, "The listing", of a live line: "flags, version, timestamp, changeset, uid, user; node: lat7, lon7; way: ref count, refs; relation: member count, then
-- type (0 to 2), ref, role each; last the tag count and each key and value." The fields are read at the places that the layout gives them, in any bytes: bytes that
-- are missing read as 0, a handle that is not held has the empty text, and the tags end where no tag stands. Of a legal record they are the page's (proofs/Records).
use Rattle.std.specs.Prelude.{ℕ, zero, suc, ◌+◌, List, [], ◌∷◌, ◌++◌, take, drop, Err, None, Ok, Option, Some}
use Rattle.std.specs.Int.{w64}
use Rattle.std.proofs.Common.{to_z}
use Rattle.base.specs.Bytes.{Bytes}
use Rattle.text.specs.Escape.{escape}
use Rattle.line.specs.Decimal.{number_text, integer_text}
use Rattle.kind.specs.declared.Kind.{Kind}
use Rattle.kind.specs.declared.Kind.TheVariants.{Node, Way, Relation}
use Rattle.interner.specs.Strings.{Store, used_of, span_of}
use Rattle.little.specs.declared.Span.{Span}
use Rattle.model.specs.Swap.{swap_meta}
use Rattle.compact.specs.Layout.{Head, head_len}
use Rattle.compact.specs.Held.{meta_of}
use Rattle.compact.specs.View.{TagStep, meta_at, ref_at, member_at, tags_at, tag_step, head_at}
use Rattle.compact.specs.declared.CompactMember.{CompactMember}
use Rattle.listing_page.specs.Listing.{meta_fields, ref_fields}

-- ---- texts

abbrev pub span_text : Bytes → Option Span → Bytes
span_text bytes (Some p) = take p.len (drop p.start bytes)
span_text bytes None = []

-- the text of a handle, by the spans and the used bytes of so many strings
unfoldable pub held_text : List ℕ → Bytes → ℕ → ℕ → Bytes
held_text spans bytes strings h = span_text bytes (span_of spans bytes strings h)

-- the text of a handle, in a store
abbrev pub text_held : Store → ℕ → Bytes
text_held t = held_text t.spans (used_of t) t.strings

-- ---- elements by number

-- the fields of n elements, from number i on
unfoldable pub each_from : (ℕ → List Bytes) → ℕ → ℕ → List Bytes
each_from f i zero = []
each_from f i (suc n) = f i ++ each_from f (suc i) n

abbrev pub ref_fields_at : Bytes → ℕ → List Bytes
ref_fields_at s i = ref_fields (to_z w64 (ref_at s i))

-- "type (0 to 2), ref, role each"
abbrev pub held_member : (ℕ → Bytes) → CompactMember → List Bytes
held_member f m = number_text m.kind ∷ integer_text (to_z w64 m.reference) ∷ escape (f m.role) ∷ []

-- ---- tags

-- a step's tag, and those from the next offset on
abbrev pub step_fields : (ℕ → Bytes) → Bytes → TagStep → (ℕ → List Bytes) → List Bytes
step_fields f s (Ok None) more = []
step_fields f s (Err r) more = []
step_fields f s (Ok (Some t)) more = escape (f t.key) ∷ escape (take t.len (drop t.start s)) ∷ more (t.start + t.len)

-- "each key and value", of n tags from an offset on
unfoldable pub tag_fields_from : (ℕ → Bytes) → Bytes → ℕ → ℕ → List Bytes
tag_fields_from f s at zero = []
tag_fields_from f s at (suc n) = step_fields f s (tag_step s at (suc n)) (λ next. tag_fields_from f s next n)

-- ---- a record

unfoldable pub body_fields_at : (ℕ → Bytes) → Kind → Head → Bytes → List Bytes
body_fields_at f Node h s = integer_text h.lat ∷ integer_text h.lon ∷ []
body_fields_at f Way h s = number_text h.count ∷ each_from (ref_fields_at s) 0 h.count
body_fields_at f Relation h s = number_text h.count ∷ each_from (λ i. held_member f (member_at s i)) 0 h.count

unfoldable pub tag_fields_at : (ℕ → Bytes) → Kind → Head → Bytes → List Bytes
tag_fields_at f k h s = number_text h.tags ∷ tag_fields_from f s (tags_at k h.count) h.tags

unfoldable pub record_fields_at : (ℕ → Bytes) → Kind → Bytes → List Bytes
record_fields_at f k s = meta_fields (swap_meta f (meta_of (meta_at s (head_len k)))) ++ body_fields_at f k (head_at k s) s ++ tag_fields_at f k (head_at k s) s
