-- T4: an event and an end are refused by the first condition of their table that holds, with its line and its HELD, and accepted where none holds.
use Rattle.reader.specs.declared.RefusedAt.{RefusedAt}
use Rattle.std.specs.Prelude.{Err, None, Ok, Option, Result, Some}
use Prim.Native.Nat.{ℕ}
use mathlib.Core.Path.{◌≡◌, refl, sym, ◌∙◌, ap}
use mathlib.Core.Bool.{Bool, true, false, not}
use mathlib.Core.List.{List, [], ◌∷◌, ◌++◌}
use lib.IntN.{ℤ}
use lib.ListN.{length, take}
use lib.Seq.{length-take-le}
use mir.Syntax.{w64}
use mir.Val.{to_z, of_z}
use borrow.Author.Tests.{leb-true, lt-ltb, le-ltb}
use Rattle.base.specs.Bytes.{Bytes, both}
use Rattle.base.proofs.Split.{by_bool, both_left, both_right}
use Rattle.refusal.specs.First.{ConditionRow, row, first_of}
use Rattle.refusal.proofs.First.{before, first_more}
use Rattle.refusal.specs.declared.Refusal.{Refusal}
use Rattle.refusal.specs.declared.Refusal.TheVariants as R
use Rattle.kind.specs.declared.Kind.{Kind}
use Rattle.nesting.specs.declared.Place.{Place}
use Rattle.nesting.specs.declared.Level.{Level}
use Rattle.nesting.specs.declared.Level.TheVariants as L
use Rattle.model.specs.Record.{Meta, kind_of, flagged, claim_of}
use Rattle.compact.specs.Held.{meta_of, head_in}
use Rattle.compact.specs.Legal.{limits}
use Rattle.compact.specs.declared.ArenaMeta.{ArenaMeta}
use Rattle.compact.specs.declared.PushHead.{PushHead}
use Rattle.compact.proofs.Lengths.{length_written}
use Rattle.interner.specs.Strings as Strings
use Rattle.interner.specs.Texts.{handle_of, answer_as}
use Rattle.interner.specs.Sound.{texts_of}
use Rattle.interner.proofs.Interns as Interns
use Rattle.kind_store.specs.KindStore.{known_version, checked}
use Rattle.kind_store.proofs.Answers as KindStores
use Rattle.overlay.specs.Overlay.{Overlay, kind_store_of, with_texts}
use Rattle.overlay.specs.Sound.{is_sound}
use Rattle.overlay_store.specs.First.{not_held, is_below, held_by}
use Rattle.overlay_store.specs.Calls.{bytes_of, store_push, store_delete}
use Rattle.overlay.proofs.Answers.{strings_sound}
use Rattle.overlay.proofs.KindStores.{texts_kind_store}
use Rattle.event_decision.specs.Decision.{Decision, refuses, moves, begins, deletes, tags, refers, joins, ends, decide}
use Rattle.event_decision.proofs.Lawful.{Lawful, decide_lawful}
use Rattle.event_decision.specs.Table.{refusal_in, decide_table}
use Rattle.event_decision.proofs.Table.{decide_first}
use Rattle.reader_stage.specs.Stage.{ref_part, member_part, tag_part}
use Rattle.reader.specs.State.{State, refusal_at, next_line, stops_by, is_stopped, pending_sound, reader_sound, state_sound, more_tags, more_parts}
use Rattle.reader.specs.Step.{Advanced, Step, goes, stops, unless_below, on_handle, with_text, bits_with_user, taking_user, on_after, clears_to, stages, head_for, member_bits, tag_within, part_within, part_place, step_of}
use Rattle.reader.specs.Event.{EventResult, stepped, event_on, end_at, end_on}
use Rattle.reader.specs.Table.{answer_by, at_line, regression_row, text_row, user_row, ids_row, arena_row, limit_row, store_rows_of, unsound_state_row, stop_rows, event_table, is_done, end_table}
use Rattle.reader.proofs.Answers.{by_event, by_end}
use Rattle.reader.proofs.Legals.{claim_same, bits_id}

-- the refusal of a step, if there is one
abbrev pub refusal_by : Step → Option Refusal
refusal_by (goes l) = None
refusal_by (stops r) = Some r

-- a step is refused by the first of these rows
pub record By (rows : List (ConditionRow Refusal)) (x : Step) : Type 0 where
  pub first : refusal_by x ≡ first_of rows

-- ---- row by row

goes_first : (l : Advanced) → By [] (goes l)
unfolding first_of
goes_first l = record { first = refl }

-- by what the decision refuses, else by the first of the store's rows
pub record Behind (x : Option Refusal) (rows : List (ConditionRow Refusal)) (y : Step) : Type 0 where
  pub first : refusal_by y ≡ before x (first_of rows)

behind : {rows : List (ConditionRow Refusal)} {y : Step} → By rows y → Behind None rows y
behind h = record { first = h.first }

-- 12
by_admit : (a : Result Unit ℤ) (rows : List (ConditionRow Refusal)) (x : Step) → (a ≡ (Ok tt) → By rows x) → By (row (R.Regression (held_by a)) (is_below a) ∷ rows) (unless_below a x)
unfolding first_of
by_admit (Ok tt) rows x h = record { first = (h refl).first }
by_admit (Err v) rows x h = record { first = refl }

-- an overlay that differs in its texts alone
record Beside (o q : Overlay) : Type 0 where
  kind_store : (k : Kind) → kind_store_of k q ≡ kind_store_of k o
  setting : q.setting ≡ o.setting

beside : (o : Overlay) (x : Strings.Store) → Beside o (with_texts x o)
beside o x = record { kind_store = λ k. texts_kind_store k x o; setting = refl }

-- 13
module _ (o : Overlay) (e : is_sound o ≡ true) (rows : List (ConditionRow Refusal)) where
  by_text : (t : Bytes) (f : ℕ → Overlay → Step) → ((h : ℕ) (q : Overlay) → Beside o q → By rows (f h q)) → By (text_row o t ∷ rows) (with_text t o f)
  unfolding first_of answer_as both
  by_text t f h = rw (Interns.answers o.texts t (strings_sound o e)) (go (handle_of t (texts_of o.texts)) (Strings.text_room o.texts t))
    where
      go : (x : Option ℕ) (r : Bool) → By (row R.StringsFull (both (not_held x) (not r)) ∷ rows) (on_handle (answer_as r (texts_of o.texts) x) (λ n. f n (with_texts (Strings.intern o.texts t).store o)))
      go (Some n) r = record { first = (h n _ (beside o _)).first }
      go None true = record { first = (h (length (texts_of o.texts)) _ (beside o _)).first }
      go None false = record { first = refl }

  by_user : (m : Meta Bytes) (f : ArenaMeta → Overlay → Step) → ((h : ℕ) (q : Overlay) → Beside o q → By rows (f (bits_with_user m h) q)) → By (user_row o m ∷ rows) (taking_user m o f)
  unfolding first_of taking_user both
  by_user m f h =
      by_bool (flagged 4 m.flags)
      (λ t. rw t (by_text m.user (λ n q. f (bits_with_user m n) q) (λ n q w. h n q w)))
      (λ t. record { first = rw t (h 0 o (beside o o.texts)).first })

-- 16
by_limit : (b : Bool) (s : State) (o : Overlay) (p : Place) (h : PushHead) (at : ℕ) (x : Bytes) → By (limit_row b ∷ []) (stages b s o p h at x)
unfolding first_of
by_limit true s o p h at x = record { first = refl }
by_limit false s o p h at x = record { first = refl }

-- 12, 14, 15 of a push; 12, 14 of a delete: a text that is taken in before changes neither
module _ (s : State) (p : Place) (k : Kind) (o q : Overlay) (w : Beside o q) where
  by_push : (h : PushHead) (m : ArenaMeta) (parts : Bytes) (id : ℤ) (claim : Option ℤ) → to_z w64 h.id ≡ id → claim_of (meta_of m) ≡ claim
      → By (regression_row o k id claim ∷ ids_row o k id ∷ arena_row o k (length parts) ∷ []) (on_after (store_push k h m parts q) (clears_to s p))
  unfolding first_of
  by_push h m parts id claim i j =
      let n = length_written k (head_in k h) (meta_of m) parts in
      let y = w.kind_store k in
      let z = w.setting in
      KindStores.by_push k q.setting (kind_store_of k q) (to_z w64 h.id) (claim_of (meta_of m)) (bytes_of k h m parts)
      (λ v c x. record { first = rw (← i, ← j, ← y, ← z, x, c) }) (λ c r x. record { first = rw (← i, ← j, ← y, ← z, x, c, r) })
      (λ c r l x. record { first = rw (← i, ← j, ← y, ← z, x, c, r, ← n, lt-ltb _ _ l) })
      (λ c r l x. record { first = rw (← i, ← j, ← y, ← z, x, c, r, ← n, le-ltb _ _ l) })

  by_delete : (id : ℤ) (claim : Option ℤ) → By (regression_row o k id claim ∷ ids_row o k id ∷ []) (on_after (store_delete k id claim q) (clears_to s p))
  unfolding first_of
  by_delete id claim =
      let y = w.kind_store k in
      let z = w.setting in
      KindStores.by_delete k q.setting (kind_store_of k q) id claim
      (λ v c x. record { first = rw (← y, ← z, x, c) }) (λ c r x. record { first = rw (← y, ← z, x, c, r) }) (λ c r x. record { first = rw (← y, ← z, x, c, r) })

-- where 12 was passed
passed : (a : Result Unit ℤ) (rows : List (ConditionRow Refusal)) (x : Step) → a ≡ (Ok tt) → By (row (R.Regression (held_by a)) (is_below a) ∷ rows) x → By rows x
unfolding first_of
passed a rows x c h = record { first = rw c at h.first }

-- ---- whatever is decided

module _ (s : State) (e : state_sound s ≡ true) where
  overlay_sound : is_sound s.overlay ≡ true
  unfolding state_sound
  overlay_sound = both_left _ _ e

  used_fits : length (take s.reader.pending.used s.parts) ≡ s.reader.pending.used
  unfolding state_sound reader_sound pending_sound
  used_fits = length-take-le _ _ (leb-true _ _ (both_left _ _ (both_left _ _ (both_right _ _ e))))

  abbrev admit : Kind → ℤ → Meta Bytes → Result Unit ℤ
  admit k id m = checked s.overlay.setting (known_version k (kind_store_of k s.overlay) id) (claim_of m)

  pub step_first : (d : Decision) → Lawful s.reader.place d → Behind (refusal_in d) (store_rows_of d s) (step_of d s)
  unfolding step_of store_rows_of
  step_first (refuses r) w = record { first = refl }
  step_first (moves p) w = behind (goes_first _)
  step_first (begins true p id m b) w =
      behind (by_admit (admit (kind_of b) id m) _ _ (λ c.
      by_user s.overlay overlay_sound _ m _ (λ h q y.
      passed (admit (kind_of b) id m) _ _ c
      (by_push s p (kind_of b) s.overlay q y (head_for id b) (bits_with_user m h) [] id (claim_of m) (bits_id id b w.0.fits) (claim_same m w.0.legal h)))))
  step_first (begins false p id m b) w = behind (by_user s.overlay overlay_sound [] m _ (λ h q y. goes_first _))
  step_first (deletes k p id m) w =
      behind (by_admit (admit k id m) _ _ (λ c.
      by_user s.overlay overlay_sound _ m _ (λ h q y. passed (admit k id m) _ _ c (by_delete s p k s.overlay q y id (claim_of m)))))
  step_first (tags p t) w = behind (by_text s.overlay overlay_sound _ t.key _ (λ h q y. by_limit (tag_within s t) s q p (more_tags s.reader.pending.head) s.reader.pending.used (tag_part h t.value)))
  step_first (refers p z) w = behind (by_limit (part_within s limits.refs) s s.overlay p (more_parts s.reader.pending.head) (part_place s) (ref_part (of_z w64 z)))
  step_first (joins p m) w = behind (by_text s.overlay overlay_sound _ m.role _ (λ h q y. by_limit (part_within s limits.members) s q p (more_parts s.reader.pending.head) (part_place s) (member_part (member_bits m h))))
  step_first (ends p) w =
      let x = s.reader.pending in
      let y = by_push s p s.reader.place.kind s.overlay s.overlay (beside s.overlay s.overlay.texts) x.head x.meta (take x.used s.parts) _ _ refl refl in
      record { first = rw used_fits at y.first }

-- ---- an event and an end

-- a refusal at a line
abbrev refusal_at_line : ℕ → Option Refusal → Option RefusedAt
refusal_at_line n None = None
refusal_at_line n (Some r) = Some (refusal_at r n)

first_at : (n : ℕ) (rows : List (ConditionRow Refusal)) → first_of (at_line n rows) ≡ refusal_at_line n (first_of rows)
unfolding first_of
first_at n [] = refl
first_at n (x ∷ rows) = by_bool x.holds (λ t. rw t) (λ t. rw t (first_at n rows))

-- 22, then the stop mark
module _ (s : State) (rows : List (ConditionRow RefusedAt)) where
  abbrev table : List (ConditionRow RefusedAt)
  table = unsound_state_row s ∷ (stop_rows s.reader.stop ++ rows)

  table_22 : state_sound s ≡ false → first_of table ≡ Some (refusal_at R.Unsound 0)
  unfolding first_of
  table_22 e = rw e

  stop_first : (m : Option RefusedAt) → is_stopped m ≡ false → first_of (stop_rows m ++ rows) ≡ first_of rows
  unfolding first_of
  stop_first None e = refl
  stop_first (Some a) e = rw e

  table_going : state_sound s ≡ true → is_stopped s.reader.stop ≡ false → first_of table ≡ first_of rows
  unfolding first_of
  table_going e g = rw e (stop_first s.reader.stop g)

  table_stopped : (r : Refusal) (n : ℕ) → state_sound s ≡ true → s.reader.stop ≡ Some (refusal_at r n) → stops_by r ≡ true → first_of table ≡ Some (refusal_at r n)
  unfolding first_of
  table_stopped r n e g t = rw (e, g, t)

stepped_answer : (s : State) (x : Step) → (stepped s x).answer ≡ answer_by (refusal_at_line (next_line s) (refusal_by x))
stepped_answer s (goes l) = refl
stepped_answer s (stops r) = refl

pub event_first : (line : Bytes) (s : State) → (event_on line s).answer ≡ answer_by (first_of (event_table line s))
unfolding event_table
event_first line s =
    let d = decide line s.reader.place in
    let rows = decide_table line s.reader.place ++ store_rows_of d s in
    let z = at_line (next_line s) rows in
    let going : (x : Step) → state_sound s ≡ true → is_stopped s.reader.stop ≡ false → step_of d s ≡ x → (stepped s x).answer ≡ answer_by (first_of (table s z)) =
    λ x e g f. let y : refusal_by x ≡ first_of rows =
    ap refusal_by (sym f) ∙ ((step_first s e d (decide_lawful line s.reader.place)).first
    ∙ (ap (λ (o : Option Refusal). before o (first_of (store_rows_of d s))) (decide_first line s.reader.place) ∙ sym (first_more (decide_table line s.reader.place) (store_rows_of d s)))) in
    stepped_answer s x ∙ ap answer_by (ap (refusal_at_line (next_line s)) y ∙ (sym (first_at (next_line s) rows) ∙ sym (table_going s z e g))) in
    by_event line s
    (λ e w. ap (λ (a : EventResult). a.answer) w ∙ ap answer_by (sym (table_22 s z e)))
    (λ r n e g t w. ap (λ (a : EventResult). a.answer) w ∙ ap answer_by (sym (table_stopped s z r n e g t)))
    (λ r e g f w. ap (λ (a : EventResult). a.answer) w ∙ going (stops r) e g f)
    (λ l e g f w. ap (λ (a : EventResult). a.answer) w ∙ going (goes l) e g f)

done_first : (s : State) (l : Level) → (end_at l s).answer ≡ answer_by (first_of (row (refusal_at R.Unfinished (next_line s)) (not (is_done l)) ∷ []))
unfolding first_of
done_first s L.Done = refl
done_first s L.Doc = refl
done_first s L.Root = refl
done_first s L.Section = refl
done_first s L.Element = refl
done_first s L.Leaf = refl
done_first s L.Other = refl

pub end_first : (s : State) → (end_on s).answer ≡ answer_by (first_of (end_table s))
unfolding end_table
end_first s =
    let z = row (refusal_at R.Unfinished (next_line s)) (not (is_done s.reader.place.level)) ∷ [] in
    by_end s
    (λ e w. ap (λ (a : EventResult). a.answer) w ∙ ap answer_by (sym (table_22 s z e)))
    (λ r n e g t w. ap (λ (a : EventResult). a.answer) w ∙ ap answer_by (sym (table_stopped s z r n e g t)))
    (λ e g w. ap (λ (a : EventResult). a.answer) w ∙ (done_first s s.reader.place.level ∙ ap answer_by (sym (table_going s z e g))))
