-- A walk over a record's tags: where it begins, and where a step leaves it. For callers that hold the place themselves, and for the iterator that holds the record's bytes with it.
use Rattle.std.specs.Prelude.{ℕ, zero, suc, ◌+◌, ◌-◌, List, length, Err, None, Ok, Option, Some}
use Rattle.std.specs.Borrow.{Bor}
use Rattle.base.specs.Bytes.{Bytes}
use Rattle.kind.specs.declared.Kind.{Kind}
use Rattle.compact.specs.declared.TagPlace.{TagPlace}
use Rattle.compact.specs.declared.CompactTagIter.{CompactTagIter}
use Rattle.model.specs.Record as model
use Rattle.compact.specs.Cut.{cut_head}
use Rattle.compact.specs.View.{TagStep, answer_cut, tags_at, tag_step, tag_given, steps_onward}

-- behind the head, the metadata and the refs or members, with the head's count of tags remaining. Of a head that is cut short: at the bytes' end with a tag remaining, so that the first step answers 22
unfoldable pub tag_place : Kind → Bytes → TagPlace
tag_place k s = answer_cut (record { offset = length s; remaining = 1 }) (λ h r. record { offset = tags_at k h.count; remaining = h.tags }) (cut_head k s)

-- what a step answers, and the place that it leaves
pub record TagTurn : Type 0 where
  pub step : TagStep
  pub place : TagPlace

-- past the tag that a step yields, with one tag less remaining; where it yields none the walk stays where it was
unfoldable pub turn_by : TagStep → TagPlace → TagTurn
turn_by (Ok None) p = record { step = Ok None; place = p }
turn_by (Err r) p = record { step = Err r; place = p }
turn_by (Ok (Some t)) p = record { step = Ok (Some t); place = record { offset = t.start + t.len; remaining = p.remaining - 1 } }

unfoldable pub tag_turn : Bytes → TagPlace → TagTurn
tag_turn s p = turn_by (tag_step s p.offset p.remaining) p

-- ---- "`CompactTagIter` carries the record's bytes with the offset and the tags remaining; the port keeps that struct, over one thin step"

abbrev pub iter_at : Bor (List ℕ) → TagPlace → CompactTagIter
iter_at bytes p = record { bytes = bytes; offset = p.offset; remaining = p.remaining }

-- an iterator over the tags of a record of a kind
unfoldable pub tags_of : Kind → Bor (List ℕ) → CompactTagIter
tags_of k bytes = iter_at bytes (tag_place k bytes.now)

-- what `next` answers, and the iterator that it leaves: it holds the same bytes
pub record TagNext : Type 0 where
  pub step : TagStep
  pub iter : CompactTagIter

abbrev pub next_by : Bor (List ℕ) → TagTurn → TagNext
next_by bytes t = record { step = t.step; iter = iter_at bytes t.place }

unfoldable pub tag_next : CompactTagIter → TagNext
tag_next it = next_by it.bytes (tag_turn it.bytes.now (record { offset = it.offset; remaining = it.remaining }))

-- what `next` yields, call after call, until none remain
unfoldable pub yielded : ℕ → CompactTagIter → Option (List (model.Tag ℕ))
yielded zero it = steps_onward (tag_given it.bytes.now (tag_next it).step) (λ at. None)
yielded (suc n) it = steps_onward (tag_given it.bytes.now (tag_next it).step) (λ at. yielded n (tag_next it).iter)

abbrev pub all_tags : CompactTagIter → Option (List (model.Tag ℕ))
all_tags it = yielded it.remaining it
