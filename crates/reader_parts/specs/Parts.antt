-- Document 01: a child of the element that a reader is putting together, one tag, ref or member more: 13 of its text, then "A reader gives 16 at the child that passes the
-- limit". A refused child changes nothing.
use Rattle.std.specs.Prelude.{ℕ, ◌+◌, ◌≤◌, ◌<◌, Bool, cond, leb, ℤ, length, Err, Ok, Result}
use Rattle.std.specs.Int.{w64}
use Rattle.std.proofs.Common.{of_z}
use Rattle.base.specs.Bytes.{Bytes, both}
use Rattle.refusal.specs.declared.Refusal.{Refusal}
use Rattle.refusal.specs.declared.Refusal.TheVariants as R
use Rattle.kind.specs.declared.Kind.{Kind}
use Rattle.model.specs.Record.{Member, Tag}
use Rattle.compact.specs.Legal.{limits}
use Rattle.compact.specs.declared.PushHead.{PushHead}
use Rattle.reader_stage.specs.Stage.{staged, ref_part, member_part, tag_part}
use Rattle.overlay.specs.Overlay.{Overlay}
use Rattle.text_index.specs.Chained.{HandleChains, ChainsServe}
use Rattle.overlay_store.specs.Calls.{store_text}
use Rattle.reader.specs.declared.Pending.{Pending}
use Rattle.reader.specs.State.{State, middle, values_in, more_tags, more_parts}
use Rattle.reader.specs.Step.{member_bits}
use Rattle.reader.specs.Done.{StepResult, worked}

-- what a sound state gives: a handle fits 32 bits, what is staged lies within the lent bytes, and the chains serve the overlay's texts. It is a premise in the clauses:
-- as a ghost field of the state it would be asked for whatever a `StorageMut` of the state's references leaves, which was tried with a struct of the same shape
pub record StepGiven (chains : HandleChains) (s : State) : Type 0 where
  pub strings : s.overlay.texts.strings < 4294967296
  pub used : s.reader.pending.used ≤ length s.parts
  pub serve : ChainsServe chains s.overlay.texts

-- ---- the limits

-- one tag more, with so many value bytes, is within them
abbrev pub tag_fits : Kind → Pending → ℕ → Bool
tag_fits k x n = both (leb (x.head.tags + 1) limits.tags) (leb (values_in k x.head x.used + n) limits.value_bytes)

-- and so is one ref or member more
abbrev pub part_fits : Pending → ℕ → Bool
part_fits x limit = leb (x.head.count + 1) limit

-- the refusal of a child with a text that is not within them: 13 where the text would be refused, else 16
abbrev pub refusal_over : Result ℕ Refusal → Refusal
refusal_over (Ok h) = R.TooManyParts
refusal_over (Err r) = r

-- ---- a child

-- what is left of overlay and lent bytes, and the element with the child or its refusal
pub record Adding : Type 0 where
  pub overlay : Overlay
  pub parts : Bytes
  pub answer : Result Pending Refusal

abbrev pub not_added : Refusal → Bytes → Overlay → Adding
not_added r parts o = record { overlay = o; parts = parts; answer = Err r }

-- the element with a part more
abbrev pub pending_with : PushHead → Bytes → Pending → Pending
pending_with h part x = record { head = h; meta = x.meta; used = x.used + length part }

-- the part staged at its place
abbrev pub part_added : PushHead → ℕ → Bytes → Pending → Bytes → Overlay → Adding
part_added h at part x parts o = record { overlay = o; parts = staged parts x.used at part; answer = Ok (pending_with h part x) }

-- 16, else the part staged; the overlay before its text was taken in, and after
abbrev pub add_part : Bool → PushHead → ℕ → Bytes → Pending → Bytes → Overlay → Overlay → Adding
add_part within h at part x parts o q = cond within (part_added h at part x parts q) (not_added R.TooManyParts parts o)

-- 13 first
abbrev pub on_text : Result ℕ Refusal → Bytes → Overlay → (ℕ → Adding) → Adding
on_text (Ok h) parts o f = f h
on_text (Err r) parts o f = not_added r parts o

unfoldable pub add_with : Bool → Bytes → PushHead → ℕ → (ℕ → Bytes) → Pending → Bytes → Overlay → Adding
add_with within text h at part x parts o =
    on_text (store_text text o).answer parts o (λ n. add_part within h at (part n) x parts o (store_text text o).overlay)

-- ---- a tag, a ref, a member

abbrev pub add_tag : Kind → Pending → Tag Bytes → Bytes → Overlay → Adding
add_tag k x t parts o = add_with (tag_fits k x (length t.value)) t.key (more_tags x.head) x.used (λ key. tag_part key t.value) x parts o

abbrev pub add_ref : Kind → Pending → ℤ → Bytes → Overlay → Adding
add_ref k x z parts o = add_part (part_fits x limits.refs) (more_parts x.head) (middle k x.head.count) (ref_part (of_z w64 z)) x parts o o

abbrev pub add_member : Kind → Pending → Member Bytes → Bytes → Overlay → Adding
add_member k x m parts o =
    add_with (part_fits x limits.members) m.role (more_parts x.head) (middle k x.head.count) (λ role. member_part (member_bits m role)) x parts o

-- ---- the state that a child leaves

-- another overlay, all else as it was
abbrev pub with_overlay : Overlay → State → State
with_overlay o s = record { overlay = o; reader = s.reader; parts = s.parts }

-- the work that a child is (proofs/Steps)
abbrev pub child_worked : State → Adding → StepResult
child_worked s a = worked s a.overlay a.parts a.answer
