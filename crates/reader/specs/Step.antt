-- Document 01: what is decided of an event, done in storage: one clause a decision. The store's row: "12 .. 13 .. 14 .. 15 .. 16".
use Rattle.std.specs.Prelude.{ℕ, ◌+◌, Bool, true, false, cond, [], leb, ℤ, length, take, Err, Ok, Option, Result}
use Rattle.std.specs.Int.{w32, w64}
use Rattle.std.proofs.Common.{of_z}
use Rattle.base.specs.Bytes.{Bytes, both}
use Rattle.refusal.specs.declared.Refusal.{Refusal}
use Rattle.refusal.specs.declared.Refusal.TheVariants as R
use Rattle.kind.specs.Kind.{kind_number}
use Rattle.kind.specs.declared.Kind.{Kind}
use Rattle.nesting.specs.declared.Place.{Place}
use Rattle.model.specs.Record.{Meta, Member, Tag, Body, place, refs, members, kind_of, flagged, claim_of}
use Rattle.compact.specs.Legal.{limits}
use Rattle.compact.specs.declared.ArenaMeta.{ArenaMeta}
use Rattle.compact.specs.declared.PushHead.{PushHead}
use Rattle.compact.specs.declared.CompactMember.{CompactMember}
use Rattle.reader_stage.specs.Stage.{staged, ref_part, member_part, tag_part}
use Rattle.interner.specs.Strings as Strings
use Rattle.interner.specs.Interned.{Interned}
use Rattle.interner.specs.Interned as I
use Rattle.kind_store.specs.KindStore.{known_version, checked}
use Rattle.overlay.specs.Overlay.{Overlay, kind_store_of, with_texts}
use Rattle.overlay.specs.Calls.{OverlayAfter}
use Rattle.overlay_store.specs.Calls.{store_push, store_delete}
use Rattle.event_decision.specs.Decision.{Decision, refuses, moves, begins, deletes, tags, refers, joins, ends}
use Rattle.reader.specs.declared.Pending.{Pending}
use Rattle.reader.specs.State.{State, no_pending, middle, values_in, more_tags, more_parts}

-- what an accepted event leaves of overlay, place, element and parts
pub record Advanced : Type 0 where
  pub overlay : Overlay
  pub place : Place
  pub pending : Pending
  pub parts : Bytes

-- that, or its refusal
pub data Step : Type 0 where
  goes : Advanced → Step
  stops : Refusal → Step

-- the element stays as it is
abbrev pub goes_to : State → Place → Overlay → Step
goes_to s p o = goes (record { overlay = o; place = p; pending = s.reader.pending; parts = s.parts })

-- nothing is staged any more
abbrev pub clears_to : State → Place → Overlay → Step
clears_to s p o = goes (record { overlay = o; place = p; pending = no_pending; parts = s.parts })

-- ---- the store's row

-- 12, of an act that claims a version
abbrev pub unless_below : Result Unit ℤ → Step → Step
unless_below (Ok tt) f = f
unless_below (Err v) f = stops (R.Regression v)

abbrev pub unless_regression : Overlay → Kind → ℤ → Option ℤ → Step → Step
unless_regression o k id claim f = unless_below (checked o.setting (known_version k (kind_store_of k o) id) claim) f

-- 13, of a text: it is taken in, and its handle goes on
abbrev pub on_handle : Interned → (ℕ → Step) → Step
on_handle (I.Held h) f = f h
on_handle (I.New h) f = f h
on_handle I.Full f = stops R.StringsFull

abbrev pub with_text : Bytes → Overlay → (ℕ → Overlay → Step) → Step
with_text t o f = on_handle (Strings.intern o.texts t).answer (λ h. f h (with_texts (Strings.intern o.texts t).store o))

-- metadata in bits, with its user's handle
abbrev pub bits_with_user : Meta Bytes → ℕ → ArenaMeta
bits_with_user m user =
    record {
      flags = m.flags;
      version = of_z w32 m.version;
      timestamp = of_z w64 m.timestamp;
      changeset = of_z w64 m.changeset;
      uid = of_z w32 m.uid;
      user = user;
    }

-- the user that metadata names is taken in; where it names none the handle is 0
unfoldable pub taking_user : Meta Bytes → Overlay → (ArenaMeta → Overlay → Step) → Step
taking_user m o f = cond (flagged 4 m.flags) (with_text m.user o (λ h q. f (bits_with_user m h) q)) (f (bits_with_user m 0) o)

-- 14 and 15, of an act
abbrev pub on_kept : Result Unit Refusal → Step → Step
on_kept (Ok tt) f = f
on_kept (Err r) f = stops r

abbrev pub on_after : OverlayAfter → (Overlay → Step) → Step
on_after a f = on_kept a.answer (f a.overlay)

-- 16: "A reader gives 16 at the child that passes the limit"; one part more, where the limits allow it
abbrev pub stages : Bool → State → Overlay → Place → PushHead → ℕ → Bytes → Step
stages within s o p h at x =
    cond within
    (goes (record {
      overlay = o;
      place = p;
      pending = record { head = h; meta = s.reader.pending.meta; used = s.reader.pending.used + length x };
      parts = staged s.parts s.reader.pending.used at x;
    }))
    (stops R.TooManyParts)

-- ---- what an element begins with, and its parts, in bits

abbrev pub head_for : ℤ → Body Bytes → PushHead
head_for id (place lat lon) = record { id = of_z w64 id; lat = of_z w32 lat; lon = of_z w32 lon; count = 0; tags = 0 }
head_for id (refs rs) = record { id = of_z w64 id; lat = 0; lon = 0; count = 0; tags = 0 }
head_for id (members ms) = record { id = of_z w64 id; lat = 0; lon = 0; count = 0; tags = 0 }

abbrev pub member_bits : Member Bytes → ℕ → CompactMember
member_bits x role = record { reference = of_z w64 x.ref; kind = kind_number x.type; role = role }

-- one tag more, and its value, are within the limits
abbrev pub tag_within : State → Tag Bytes → Bool
tag_within s t =
    both (leb (s.reader.pending.head.tags + 1) limits.tags)
    (leb (values_in s.reader.place.kind s.reader.pending.head s.reader.pending.used + length t.value) limits.value_bytes)

-- and so is one ref or member more
abbrev pub part_within : State → ℕ → Bool
part_within s limit = leb (s.reader.pending.head.count + 1) limit

-- the refs or members end there
abbrev pub part_place : State → ℕ
part_place s = middle s.reader.place.kind s.reader.pending.head.count

-- ---- what is decided, done

unfoldable pub step_of : Decision → State → Step
step_of (refuses r) s = stops r
step_of (moves p) s = goes_to s p s.overlay
step_of (begins true p id m b) s =
    unless_regression s.overlay (kind_of b) id (claim_of m)
    (taking_user m s.overlay (λ a o. on_after (store_push (kind_of b) (head_for id b) a [] o) (clears_to s p)))
step_of (begins false p id m b) s =
    taking_user m s.overlay (λ a o. goes (record { overlay = o; place = p; pending = record { head = head_for id b; meta = a; used = 0 }; parts = s.parts }))
step_of (deletes k p id m) s =
    unless_regression s.overlay k id (claim_of m)
    (taking_user m s.overlay (λ a o. on_after (store_delete k id (claim_of m) o) (clears_to s p)))
step_of (tags p t) s =
    with_text t.key s.overlay (λ key o.
    stages (tag_within s t) s o p (more_tags s.reader.pending.head) s.reader.pending.used (tag_part key t.value))
step_of (refers p z) s =
    stages (part_within s limits.refs) s s.overlay p (more_parts s.reader.pending.head) (part_place s) (ref_part (of_z w64 z))
step_of (joins p x) s =
    with_text x.role s.overlay (λ role o.
    stages (part_within s limits.members) s o p (more_parts s.reader.pending.head) (part_place s) (member_part (member_bits x role)))
step_of (ends p) s =
    on_after (store_push s.reader.place.kind s.reader.pending.head s.reader.pending.meta (take s.reader.pending.used s.parts) s.overlay)
    (clears_to s p)
