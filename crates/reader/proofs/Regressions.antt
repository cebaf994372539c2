-- 12 of an event: where its turn makes an act, the first of the store's rows is that act's, so it is refused 12 exactly where the act's version is below the known one,
-- and the refusal names that one.
use Rattle.std.specs.Prelude.{Err, None, Ok, Result, Some}
use mathlib.Core.Path.{◌≡◌, refl, sym, ◌∙◌, ap}
use mathlib.Core.Bool.{true, false}
use mathlib.Core.Logic.{◌↔◌}
use mathlib.Core.List.{List, [], ◌∷◌}
use native.Mathlib.Omega.{arith}
use lib.IntN.{ℤ}
use mir.Syntax.{w64}
use mir.Val.{SFits, to_z}
use Rattle.base.specs.Bytes.{Bytes}
use Rattle.base.proofs.Split.{no}
use Rattle.refusal.specs.First.{ConditionRow, row, first_of}
use Rattle.refusal.specs.declared.Refusal.{Refusal}
use Rattle.refusal.specs.declared.Refusal.TheVariants as R
use Rattle.model.specs.Record.{claim_of}
use Rattle.model.specs.Act.{Act, push, delete, key_of, claimed_by}
use Rattle.model.proofs.Swaps.{body_kind}
use Rattle.compact.specs.Held.{meta_of}
use Rattle.interner.specs.Texts.{text_of}
use Rattle.interner.specs.Sound.{texts_of}
use Rattle.kind_store.specs.KindStore.{known_version, checked}
use Rattle.overlay.specs.Overlay.{Overlay, kind_store_of}
use Rattle.overlay_store.specs.First.{is_below, held_by}
use Rattle.overlay.proofs.Bounds.{id_given}
use Rattle.event_fields.specs.Field.{Field, got}
use Rattle.event_decision.specs.Decision.{Decision, refuses, moves, begins, deletes, tags, refers, joins, ends, decide}
use Rattle.event_decision.specs.Table.{refusal_in}
use Rattle.event_decision.proofs.Lawful.{Lawful, decide_lawful}
use Rattle.acts.specs.Turn.{Staged, Turn, first, turn_of, turn}
use Rattle.reader.specs.State.{State, next_line, is_stopped, state_sound, refusal_at}
use Rattle.reader.specs.Given.{StateGiven}
use Rattle.reader.specs.Step.{Step, goes, stops, step_of}
use Rattle.reader.specs.Event.{EventResult, stepped, event_on}
use Rattle.reader.specs.Means.{reader_of}
use Rattle.reader.specs.Table.{regression_row, ids_row, arena_row, store_rows_of}
use Rattle.reader.proofs.Answers.{event_going}
use Rattle.reader.proofs.Held.{held_means}
use Rattle.reader.proofs.Advances.{state_held}
use Rattle.reader.proofs.Tables.{refusal_by, step_first}
use Rattle.reader.proofs.Events.{Among, first_among, event_stops}

-- the version check of an act
abbrev pub admit_as : Overlay → Act Bytes → Result Unit ℤ
admit_as o a = checked o.setting (known_version (key_of a).kind (kind_store_of (key_of a).kind o) (key_of a).id) (claimed_by a)

abbrev row_of : Overlay → Act Bytes → ConditionRow Refusal
row_of o a = regression_row o (key_of a).kind (key_of a).id (claimed_by a)

-- the rows of a decision that makes an act
record Makes (d : Decision) (s : State) (a : Act Bytes) : Type 0 where
  rest : List (ConditionRow Refusal)
  rows : store_rows_of d s ≡ row_of s.overlay a ∷ rest
  decided : refusal_in d ≡ None
  others : Among 13 16 rest
  fits : SFits w64 (key_of a).id

got_act : {t x : Turn} {a : Act Bytes} → ◌≡◌ {A = Field Turn} (got x) (got t) → t.act ≡ Some a → x.act ≡ Some a
got_act {t} {x} e h = let q : x ≡ t = cc in ap (λ (z : Turn). z.act) q ∙ h

module _ (s : State) (g : StateGiven s) (e : state_sound s ≡ true) where
  -- the element that ends, as a row names it
  ended : row_of s.overlay (push (reader_of s).staged.id (reader_of s).staged.held)
      ≡ regression_row s.overlay s.reader.place.kind (to_z w64 s.reader.pending.head.id) (claim_of (meta_of s.reader.pending.meta))
  unfolding reader_of claim_of
  ended =
      let x = s.reader.pending in
      let k = s.reader.place.kind in
      let texts = texts_of s.overlay.texts in
      let v = state_held s g e in
      ap (λ (y : Staged). row_of s.overlay (push y.id y.held)) (held_means s.overlay.texts.strings k s.parts x v texts)
      ∙ rw (body_kind (text_of texts) v.held.body, v.stages.kind, v.stages.meta)

  ended_fits : SFits w64 (reader_of s).staged.id
  unfolding reader_of
  ended_fits =
      let m = held_means s.overlay.texts.strings s.reader.place.kind s.parts s.reader.pending (state_held s g e) (texts_of s.overlay.texts) in
      rw m (id_given s.reader.pending.head g.reader.head)

  makes : (d : Decision) → Lawful s.reader.place d → (t : Turn) (a : Act Bytes) → turn_of d (reader_of s) ≡ got t → t.act ≡ Some a → Makes d s a
  unfolding turn_of store_rows_of
  makes (refuses r) w t a h k = no (cc)
  makes (moves p) w t a h k = let z = got_act h k in no (cc)
  makes (begins true p id m b) w t a h k =
      let z : push id (first m b) ≡ a = cc (got_act h k) in
      rw (← z) (record { rest = _; rows = refl; decided = refl; others = ((omega arith, omega arith), ((omega arith, omega arith), ((omega arith, omega arith), tt))); fits = w.0.fits })
  makes (begins false p id m b) w t a h k = let z = got_act h k in no (cc)
  makes (deletes j p id m) w t a h k =
      let z : delete j id (claim_of m) ≡ a = cc (got_act h k) in
      rw (← z) (record { rest = _; rows = refl; decided = refl; others = ((omega arith, omega arith), ((omega arith, omega arith), tt)); fits = w.fits })
  makes (tags p y) w t a h k = let z = got_act h k in no (cc)
  makes (refers p y) w t a h k = let z = got_act h k in no (cc)
  makes (joins p y) w t a h k = let z = got_act h k in no (cc)
  makes (ends p) w t a h k =
      let z : push (reader_of s).staged.id (reader_of s).staged.held ≡ a = cc (got_act h k) in
      let x = s.reader.pending in
      let j = s.reader.place.kind in
      let r : List (ConditionRow Refusal) = ids_row s.overlay j (to_z w64 x.head.id) ∷ arena_row s.overlay j x.used ∷ [] in
      rw (← z) (record { rest = r; rows = ap (λ (y : ConditionRow Refusal). y ∷ r) (sym ended); decided = refl; others = ((omega arith, omega arith), ((omega arith, omega arith), tt)); fits = ended_fits })

-- ---- the first row

by_first : (c : Result Unit ℤ) (rest : List (ConditionRow Refusal)) (v : ℤ) → Among 13 16 rest → (first_of (row (R.Regression (held_by c)) (is_below c) ∷ rest) ≡ Some (R.Regression v)) ↔ (c ≡ Err v)
unfolding first_of
by_first (Ok tt) rest v w = (λ e. let n : ⊥ = omega (arith, (first_among 13 16 rest (R.Regression v) w e).0) in absurd n, λ e. no (cc))
by_first (Err x) rest v w = (λ e. cc, λ e. cc)

stops_of : (x : Step) (r : Refusal) → refusal_by x ≡ Some r → x ≡ stops r
stops_of (goes l) r e = no (cc)
stops_of (stops y) r e = cc

module _ (line : Bytes) (s : State) (g : StateGiven s) (e : state_sound s ≡ true) (going : is_stopped s.reader.stop ≡ false) where
  pub event_regression : (t : Turn) (a : Act Bytes) → turn line (reader_of s) ≡ got t → t.act ≡ Some a → (v : ℤ)
      → ((event_on line s).answer ≡ Err (refusal_at (R.Regression v) (next_line s))) ↔ (admit_as s.overlay a ≡ Err v)
  unfolding turn reader_of
  event_regression t a h k v =
      let d = decide line s.reader.place in
      let m = makes s g e d (decide_lawful line s.reader.place) t a h k in
      let f : refusal_by (step_of d s) ≡ first_of (row_of s.overlay a ∷ m.rest) =
      (step_first s e d (decide_lawful line s.reader.place)).first ∙ rw (m.decided, m.rows) in
      let b = by_first (admit_as s.overlay a) m.rest v m.others in (
        λ x. b.0 (sym f ∙ ap refusal_by (event_stops line s e going (R.Regression v) (next_line s) x).0),
        λ c. ap (λ (z : EventResult). z.answer) (event_going line s e going ∙ ap (stepped s) (stops_of (step_of d s) (R.Regression v) (f ∙ b.1 c))),
      )

  -- the id that the act names is one of 64 bits
  pub act_fits : (t : Turn) (a : Act Bytes) → turn line (reader_of s) ≡ got t → t.act ≡ Some a → SFits w64 (key_of a).id
  unfolding turn reader_of
  act_fits t a h k = (makes s g e (decide line s.reader.place) (decide_lawful line s.reader.place) t a h k).fits
