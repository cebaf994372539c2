-- Document 01, "What is returned, by place of the check", for an event and for an end: one ordered list of conditions each. 22; the stop mark; then, at the event's line,
-- the rows of line, nesting and fields, and the store's row of what is decided. "12, 14 and 15 at the push or delete"; "13 at the event with the text".
use Rattle.reader.specs.declared.RefusedAt.{RefusedAt}
use Rattle.std.specs.Prelude.{ℕ, ◌+◌, Bool, true, false, not, List, [], ◌∷◌, ◌++◌, map, ltb, ℤ, length, None, Option, Some, Ok, Err, Result}
use Rattle.std.specs.Int.{w64}
use Rattle.std.proofs.Common.{to_z}
use Rattle.base.specs.Bytes.{Bytes, both}
use Rattle.refusal.specs.First.{ConditionRow, row}
use Rattle.refusal.specs.declared.Refusal.{Refusal}
use Rattle.refusal.specs.declared.Refusal.TheVariants as R
use Rattle.kind.specs.declared.Kind.{Kind}
use Rattle.nesting.specs.declared.Level.{Level}
use Rattle.nesting.specs.declared.Level.TheVariants as L
use Rattle.model.specs.Record.{Meta, kind_of, flagged, claim_of}
use Rattle.compact.specs.Held.{meta_of}
use Rattle.compact.specs.Layout.{head_len}
use Rattle.compact.specs.Legal.{limits}
use Rattle.kind_store.specs.KindStore.{known_version, checked, id_room}
use Rattle.overlay.specs.Overlay.{Overlay, kind_store_of}
use Rattle.overlay_store.specs.First.{is_below, held_by, full_for}
use Rattle.event_decision.specs.Decision.{Decision, refuses, moves, begins, deletes, tags, refers, joins, ends, decide}
use Rattle.event_decision.specs.Table.{decide_table}
use Rattle.reader.specs.State.{State, next_line, stops_by, state_sound, refusal_at}
use Rattle.reader.specs.Step.{tag_within, part_within}

abbrev pub answer_by : Option RefusedAt → Result Unit RefusedAt
answer_by None = Ok tt
answer_by (Some a) = Err a

-- rows that are given at a line
abbrev pub at_line : ℕ → List (ConditionRow Refusal) → List (ConditionRow RefusedAt)
at_line n rows = map (λ (r : ConditionRow Refusal). row (refusal_at r.gives n) r.holds) rows

-- ---- the store: "12 regression; 13 strings or string bytes full; 14 new id, ids full; 15 record longer than the arena's unused bytes; 16 .."

module _ (o : Overlay) where
  -- 12 of an act on an id of a kind, with the known version
  abbrev pub regression_row : Kind → ℤ → Option ℤ → ConditionRow Refusal
  regression_row k id claim =
      row (R.Regression (held_by (checked o.setting (known_version k (kind_store_of k o) id) claim)))
      (is_below (checked o.setting (known_version k (kind_store_of k o) id) claim))

  -- 13 of a text
  abbrev pub text_row : Bytes → ConditionRow Refusal
  text_row t = row R.StringsFull (full_for o.texts t)

  -- 13 of the user that metadata names
  abbrev pub user_row : Meta Bytes → ConditionRow Refusal
  user_row m = row R.StringsFull (both (flagged 4 m.flags) (full_for o.texts m.user))

  -- 14 of an id of a kind
  abbrev pub ids_row : Kind → ℤ → ConditionRow Refusal
  ids_row k id = row R.IdsFull (not (id_room (kind_store_of k o) id))

  -- 15 of a record of a kind: its head, its metadata, and so many bytes of parts
  abbrev pub arena_row : Kind → ℕ → ConditionRow Refusal
  arena_row k parts = row R.ArenaFull (ltb (length (kind_store_of k o).arena) ((kind_store_of k o).used + (head_len k + 29 + parts)))

-- 16: "A reader gives 16 at the child that passes the limit"
abbrev pub limit_row : Bool → ConditionRow Refusal
limit_row within = row R.TooManyParts (not within)

-- the store's row of what is decided
unfoldable pub store_rows_of : Decision → State → List (ConditionRow Refusal)
store_rows_of (refuses r) s = []
store_rows_of (moves p) s = []
store_rows_of (begins true p id m b) s =
    regression_row s.overlay (kind_of b) id (claim_of m) ∷ user_row s.overlay m ∷ ids_row s.overlay (kind_of b) id ∷ arena_row s.overlay (kind_of b) 0 ∷ []
store_rows_of (begins false p id m b) s = user_row s.overlay m ∷ []
store_rows_of (deletes k p id m) s = regression_row s.overlay k id (claim_of m) ∷ user_row s.overlay m ∷ ids_row s.overlay k id ∷ []
store_rows_of (tags p t) s = text_row s.overlay t.key ∷ limit_row (tag_within s t) ∷ []
store_rows_of (refers p z) s = limit_row (part_within s limits.refs) ∷ []
store_rows_of (joins p m) s = text_row s.overlay m.role ∷ limit_row (part_within s limits.members) ∷ []
store_rows_of (ends p) s =
    regression_row s.overlay s.reader.place.kind (to_z w64 s.reader.pending.head.id) (claim_of (meta_of s.reader.pending.meta))
    ∷ ids_row s.overlay s.reader.place.kind (to_z w64 s.reader.pending.head.id) ∷ arena_row s.overlay s.reader.place.kind s.reader.pending.used ∷ []

-- ---- an event and an end

-- "each call but lookups in lists, first": it names no line
abbrev pub unsound_state_row : State → ConditionRow RefusedAt
unsound_state_row s = row (refusal_at R.Unsound 0) (not (state_sound s))

-- "later events and the end repeat that number, line and HELD"
abbrev pub stop_rows : Option RefusedAt → List (ConditionRow RefusedAt)
stop_rows None = []
stop_rows (Some a) = row a (stops_by a.refusal) ∷ []

unfoldable pub event_table : Bytes → State → List (ConditionRow RefusedAt)
event_table line s =
    unsound_state_row s ∷ (stop_rows s.reader.stop
    ++ at_line (next_line s) (decide_table line s.reader.place ++ store_rows_of (decide line s.reader.place) s))

abbrev pub is_done : Level → Bool
is_done L.Done = true
is_done L.Doc = false
is_done L.Root = false
is_done L.Section = false
is_done L.Element = false
is_done L.Leaf = false
is_done L.Other = false

-- "18 level is not Done"
unfoldable pub end_table : State → List (ConditionRow RefusedAt)
end_table s = unsound_state_row s ∷ (stop_rows s.reader.stop ++ (row (refusal_at R.Unfinished (next_line s)) (not (is_done s.reader.place.level)) ∷ []))
