-- Condition 3: "Each gets its own list of these calls, refused ones included: intern, direct push, direct delete, a reader's event, a reader's end". And the regression setting.
-- The calls as they are made: "Each call gets the overlay, and each event or end its reader, as last left; readers begin fresh, anywhere in a list."
use Rattle.reader.specs.declared.RefusedAt.{RefusedAt}
use Rattle.refusal.specs.declared.Refusal.{Refusal}
use Rattle.std.specs.Prelude.{ℕ, ◌≡◌, Bool, true, false, not, cond, List, [], ◌∷◌, eqb, ltb, length, Err, Ok, Result}
use Rattle.std.specs.Int.{w64}
use Rattle.std.proofs.Common.{to_z}
use Rattle.base.specs.Bytes.{Bytes, both, either, all}
use Rattle.little.specs.Little.{is_byte}
use Rattle.kind.specs.declared.Kind.{Kind}
use Rattle.compact.specs.Cut.{pushed_record}
use Rattle.compact.specs.Held.{meta_of, head_in}
use Rattle.compact.specs.declared.ArenaMeta.{ArenaMeta}
use Rattle.compact.specs.declared.PushHead.{PushHead}
use Rattle.kind_store.specs.KindStore.{taken_in}
use Rattle.overlay.specs.Overlay.{Overlay, empty}
use Rattle.overlay.specs.Given.{head_fits, meta_fits}
use Rattle.overlay.specs.Calls.{allow_on}
use Rattle.overlay_direct.specs.Calls.{push_on, delete_on, intern_on}
use Rattle.reader.specs.declared.EventReader.{EventReader}
use Rattle.reader.specs.State.{State, fresh_reader}
use Rattle.reader.specs.Event.{event_on, end_on}
use Rattle.acts.specs.Call.{Call, Answered}

-- a call with what its caller gives; a reader goes by its name, a number
pub data Ask : Type 0 where
  interns : Bytes → Ask
  pushes : Kind → PushHead → ArenaMeta → Bytes → Ask
  deletes : Kind → ℕ → ArenaMeta → Ask
  reads : ℕ → Bytes → Ask
  ends : ℕ → Ask
  -- the regression setting, at any moment
  allows : ℕ → Ask

-- the call that the acts are defined from
abbrev pub call_of : Ask → Call
call_of (interns t) = Call.interns t
call_of (pushes k h m parts) = Call.pushes (to_z w64 h.id) (pushed_record k (head_in k h) (meta_of m) parts)
call_of (deletes k id m) = Call.deletes k (to_z w64 id) (meta_of m)
call_of (reads n line) = Call.reads n line
call_of (ends n) = Call.ends n
call_of (allows setting) = Call.allows setting

-- ---- what is lent: the overlay, and to each reader its own storage

pub record Storage : Type 0 where
  pub overlay : Overlay
  pub readers : ℕ → EventReader
  pub parts : ℕ → Bytes

-- "start empty", set up with the overlay's sizes (proofs/Theorems: set_up_starts); "readers begin fresh", whatever bytes are lent to them
abbrev pub started : ℕ → Overlay → (ℕ → Bytes) → Storage
started setting o parts = record { overlay = empty setting o; readers = λ n. fresh_reader; parts = parts }

-- what an event or an end of a reader gets, and what it leaves
abbrev pub state_of : ℕ → Storage → State
state_of n l = record { overlay = l.overlay; reader = l.readers n; parts = l.parts n }

abbrev pub put_at : {A : Type 0} → ℕ → A → (ℕ → A) → ℕ → A
put_at n a f m = cond (eqb m n) a (f m)

abbrev pub with_state : ℕ → State → Storage → Storage
with_state n s l = record { overlay = s.overlay; readers = put_at n s.reader l.readers; parts = put_at n s.parts l.parts }

abbrev pub with_overlay : Overlay → Storage → Storage
with_overlay o l = record { overlay = o; readers = l.readers; parts = l.parts }

-- ---- one call: what it leaves, and whether its reply accepted it

-- "accepted unless refused": of a push, a delete or the setting by `taken_in`
abbrev pub handled : Result ℕ Refusal → Bool
handled (Ok h) = true
handled (Err r) = false

abbrev pub event_taken : Result Unit RefusedAt → Bool
event_taken (Ok tt) = true
event_taken (Err a) = false

abbrev pub leaves : Ask → Storage → Storage
leaves (interns t) l = with_overlay (intern_on t l.overlay).overlay l
leaves (pushes k h m parts) l = with_overlay (push_on k h m parts l.overlay).overlay l
leaves (deletes k id m) l = with_overlay (delete_on k (to_z w64 id) (meta_of m) l.overlay).overlay l
leaves (reads n line) l = with_state n (event_on line (state_of n l)).state l
leaves (ends n) l = with_state n (end_on (state_of n l)).state l
leaves (allows setting) l = with_overlay (allow_on setting l.overlay).overlay l

abbrev pub accepts : Ask → Storage → Bool
accepts (interns t) l = handled (intern_on t l.overlay).answer
accepts (pushes k h m parts) l = taken_in (push_on k h m parts l.overlay).answer
accepts (deletes k id m) l = taken_in (delete_on k (to_z w64 id) (meta_of m) l.overlay).answer
accepts (reads n line) l = event_taken (event_on line (state_of n l)).answer
accepts (ends n) l = event_taken (end_on (state_of n l)).answer
accepts (allows setting) l = taken_in (allow_on setting l.overlay).answer

-- ---- a list of calls

unfoldable pub after : Storage → List Ask → Storage
after l [] = l
after l (c ∷ cs) = after (leaves c l) cs

unfoldable pub answered : Storage → List Ask → List Answered
answered l [] = []
answered l (c ∷ cs) = record { call = call_of c; accepted = accepts c l } ∷ answered (leaves c l) cs

-- what a caller gives is within the bounds of its types
unfoldable pub ask_fits : Ask → Bool
ask_fits (interns t) = all is_byte t
ask_fits (pushes k h m parts) = both (head_fits h) (both (meta_fits m) (all is_byte parts))
ask_fits (deletes k id m) = both (ltb id 18446744073709551616) (meta_fits m)
ask_fits (reads n line) = all is_byte line
ask_fits (ends n) = true
ask_fits (allows setting) = true

pub record PartsGiven (parts : ℕ → Bytes) : Type 0 where
  pub bytes : (n : ℕ) → all is_byte (parts n) ≡ true
  pub room : (n : ℕ) → length (parts n) ≡ 44432

-- ---- "refuse regression throughout"

-- a call that does not allow regression: any but a setting other than 0
abbrev pub refusing : Ask → Bool
refusing (interns t) = true
refusing (pushes k h m parts) = true
refusing (deletes k id m) = true
refusing (reads n line) = true
refusing (ends n) = true
refusing (allows setting) = eqb setting 0

-- set up with regression refused, and no call of the list allows it
abbrev pub refused_throughout : ℕ → List Ask → Bool
refused_throughout setting cs = both (eqb setting 0) (all refusing cs)

-- ---- from set-up on

-- a list on an overlay that starts empty: what it leaves, and the calls with their replies
abbrev pub storage_after : ℕ → Overlay → (ℕ → Bytes) → List Ask → Storage
storage_after setting o parts cs = after (started setting o parts) cs

abbrev pub replies : ℕ → Overlay → (ℕ → Bytes) → List Ask → List Answered
replies setting o parts cs = answered (started setting o parts) cs

-- "a refused event, except for 22, stops its reader": one of a reader's events was refused
abbrev pub is_event_of : ℕ → Call → Bool
is_event_of n (Call.interns t) = false
is_event_of n (Call.pushes id r) = false
is_event_of n (Call.deletes k id m) = false
is_event_of n (Call.reads m line) = eqb n m
is_event_of n (Call.ends m) = false
is_event_of n (Call.allows setting) = false

unfoldable pub stopped_in : ℕ → List Answered → Bool
stopped_in n [] = false
stopped_in n (c ∷ cs) = either (both (is_event_of n c.call) (not c.accepted)) (stopped_in n cs)
