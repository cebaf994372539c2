-- Where a line is refused, by place of the check: line, nesting, fields; 5 and 6 exactly where the nesting says so.
use Rattle.std.specs.Prelude.{Some}
use Prim.Native.Nat.{ℕ, ◌≤◌}
use mathlib.Core.Path.{◌≡◌, refl, sym, ◌∙◌, ap}
use mathlib.Core.Bool.{Bool, true}
use mathlib.Core.List.{List, [], ◌∷◌, ◌++◌}
use native.Mathlib.Omega.{arith}
use mathlib.Core.Logic.{◌↔◌, ⊎_elim}
use lib.Dec.{leb, eqb}
use borrow.Author.Tests.{leb-true, le-leb}
use Rattle.base.specs.Bytes.{Bytes, both, either, all}
use Rattle.base.proofs.Split.{by_bool, no, clash, both_of, both_left, both_right, by_either, either_left, either_right}
use Rattle.base.proofs.Lists.{all_head, all_tail}
use Rattle.refusal.specs.First.{ConditionRow, first_of}
use Rattle.refusal.specs.Refusal.{number_of}
use Rattle.refusal.specs.declared.Refusal.{Refusal}
use Rattle.refusal.specs.declared.Refusal.TheVariants as R
use Rattle.kind.specs.declared.Kind.{Kind}
use Rattle.kind.specs.declared.Kind.TheVariants as K
use Rattle.nesting.specs.Name.{name_of}
use Rattle.nesting.specs.Nesting.{opened}
use Rattle.nesting.specs.declared.Action.{Action}
use Rattle.nesting.specs.declared.Action.TheVariants as A
use Rattle.nesting.specs.declared.Place.{Place}
use Rattle.nesting.specs.declared.Child.TheVariants as C
use Rattle.nesting.specs.Opened.{Opened}
use Rattle.nesting.specs.Opened as O
use Rattle.event.specs.Event.{Attr, starts, closes, others, Reading, reads, refused, event_of}
use Rattle.event.proofs.Refusals.{no_other}
use Rattle.event_decision.specs.Decision.{refuses, decide_event, decide_reading, decide}
use Rattle.event_decision.specs.Table.{refusal_in, meta_rows, place_rows, if_pushed, field_rows, start_rows}
use Rattle.event_decision.proofs.Decided.{decided}
use Rattle.event_decision.proofs.Table.{start_first, close_taken}

-- what each row of a table gives, the first gives
first_gives : {A : Type 0} (P : A → Bool) (rows : List (ConditionRow A)) {a : A} → all (λ r. P r.gives) rows ≡ true → first_of rows ≡ Some a → P a ≡ true
unfolding first_of
first_gives P [] h e = no (cc)
first_gives P (r ∷ rows) {a} h e =
    by_bool r.holds
    (λ t. let k : Some r.gives ≡ Some a = rw t at e in let q : r.gives ≡ a = cc in rw (← q) (all_head _ r rows h))
    (λ t. first_gives P rows (all_tail _ r rows h) (rw t at e))

-- 7 to 11, 23, 24
abbrev pub field_number : ℕ → Bool
field_number n = either (both (leb 7 n) (leb n 11)) (either (eqb n 23) (eqb n 24))

abbrev is_field : Refusal → Bool
is_field r = field_number (number_of r)

abbrev fields_give : List (ConditionRow Refusal) → Bool
fields_give rows = all (λ r. is_field r.gives) rows

meta_give : (attrs : List Attr) (rows : List (ConditionRow Refusal)) → fields_give rows ≡ true → fields_give (meta_rows attrs ++ rows) ≡ true
unfolding meta_rows all both either
meta_give [] rows h = h
meta_give (a ∷ attrs) rows h = meta_give attrs rows h

place_give : (a : Action) (k : Kind) (attrs : List Attr) → fields_give (if_pushed a (place_rows k attrs)) ≡ true
unfolding all both either
place_give A.Create K.Node attrs = refl
place_give A.Modify K.Node attrs = refl
place_give A.Delete k attrs = refl
place_give A.Create K.Way attrs = refl
place_give A.Modify K.Way attrs = refl
place_give A.Create K.Relation attrs = refl
place_give A.Modify K.Relation attrs = refl

fields_give_lem : (o : Opened) (a : Action) (attrs : List Attr) → fields_give (field_rows o a attrs) ≡ true
unfolding all both either
fields_give_lem O.Misplaced a attrs = refl
fields_give_lem O.OutsideSection a attrs = refl
fields_give_lem (O.Goes p) a attrs = refl
fields_give_lem (O.Begins k p) a attrs = meta_give attrs (if_pushed a (place_rows k attrs)) (place_give a k attrs)
fields_give_lem (O.Holds C.Tag p) a attrs = refl
fields_give_lem (O.Holds C.Nd p) a attrs = refl
fields_give_lem (O.Holds C.Member p) a attrs = refl

-- what is refused before the store: 2 to 11, 23, 24
abbrev pub decision_number : ℕ → Bool
decision_number n = either (both (leb 2 n) (leb n 11)) (either (eqb n 23) (eqb n 24))

-- a line is an open or an empty element, which leads somewhere
pub record Opens (line : Bytes) (p : Place) (o : Opened) : Type 0 where
  pub empty : Bool
  pub name : Bytes
  pub attrs : List Attr
  pub reading : event_of line ≡ reads (starts empty name attrs)
  pub leads_to : opened empty (name_of name) p ≡ o

-- where a refusal is given: line, nesting or fields
pub data RefusedAt (line : Bytes) (p : Place) : Refusal → Type 0 where
  at_line : {r : Refusal} → event_of line ≡ refused r → 2 ≤ number_of r → number_of r ≤ 4 → RefusedAt line p r
  misplaced : Opens line p O.Misplaced → RefusedAt line p R.Misplaced
  outside : Opens line p O.OutsideSection → RefusedAt line p R.OutsideSection
  at_field : {r : Refusal} → field_number (number_of r) ≡ true → RefusedAt line p r

module _ (line : Bytes) (p : Place) where
  line_refused : {r : Refusal} → event_of line ≡ refused r → RefusedAt line p r
  line_refused {r} e = ⊎_elim (λ q. by (rw q (omega arith))) (λ s. ⊎_elim (λ q. by (rw q (omega arith))) (λ q. by (rw q (omega arith))) s) (no_other line r e)
    where
      by : (2 ≤ number_of r) × (number_of r ≤ 4) → RefusedAt line p r
      by h = at_line e h.0 h.1

  field_refused : (rows : List (ConditionRow Refusal)) {r : Refusal} → fields_give rows ≡ true → first_of rows ≡ Some r → RefusedAt line p r
  field_refused rows {r} h e =
      at_field (first_gives is_field rows h e)

  start_refused : (e : Bool) (n : Bytes) (attrs : List Attr) {r : Refusal} → event_of line ≡ reads (starts e n attrs) → (o : Opened) → opened e (name_of n) p ≡ o
      → first_of (start_rows o p.section attrs) ≡ Some r → RefusedAt line p r
  unfolding first_of
  start_refused e n attrs {r} q O.Misplaced l h =
      let k : R.Misplaced ≡ r = cc in rw (← k) (misplaced (record { empty = e; name = n; attrs = attrs; reading = q; leads_to = l }))
  start_refused e n attrs {r} q O.OutsideSection l h =
      let k : R.OutsideSection ≡ r = cc in rw (← k) (outside (record { empty = e; name = n; attrs = attrs; reading = q; leads_to = l }))
  start_refused e n attrs q (O.Goes s) l h = no (cc)
  start_refused e n attrs q (O.Begins k s) l h = field_refused _ (fields_give_lem (O.Begins k s) p.section attrs) h
  start_refused e n attrs q (O.Holds c s) l h = field_refused _ (fields_give_lem (O.Holds c s) p.section attrs) h

  -- every refusal has its place and its numbers
  pub refused_at : (r : Refusal) → decide line p ≡ refuses r → RefusedAt line p r
  unfolding decide decide_event
  refused_at r h = go (event_of line) refl (ap refusal_in h)
    where
      go : (x : Reading) → event_of line ≡ x → refusal_in (decide_reading x p) ≡ Some r → RefusedAt line p r
      go (reads (starts e n attrs)) q k = start_refused e n attrs q (opened e (name_of n) p) refl (sym (start_first attrs (opened e (name_of n) p) e p.section) ∙ k)
      go (reads closes) q k = no (cc (close_taken p (decided p (reads closes))))
      go (reads others) q k = no (cc)
      go (refused y) q k = let z : y ≡ r = cc in line_refused (q ∙ ap refused z)

  decided_number : {r : Refusal} → RefusedAt line p r → decision_number (number_of r) ≡ true
  unfolding both either
  decided_number {r} (at_line e a b) = either_left _ _ (both_of (le-leb 2 (number_of r) a) (le-leb (number_of r) 11 (omega arith)))
  decided_number (misplaced o) = refl
  decided_number (outside o) = refl
  decided_number {r} (at_field f) =
      by_either _ _ f
      (λ t. let k = leb-true 7 (number_of r) (both_left _ _ t) in either_left _ _ (both_of (le-leb 2 (number_of r) (omega arith)) (both_right _ _ t)))
      (λ t. either_right (both (leb 2 (number_of r)) (leb (number_of r) 11)) t)

  -- a refusal before the store is one of 2 to 11, 23, 24
  pub decide_within : (r : Refusal) → decide line p ≡ refuses r → decision_number (number_of r) ≡ true
  decide_within r h = decided_number (refused_at r h)

  fifth : {r : Refusal} → RefusedAt line p r → number_of r ≡ 5 → Opens line p O.Misplaced
  unfolding both either
  fifth (at_line e a b) q = absurd (omega arith)
  fifth (misplaced o) q = o
  fifth (outside o) q = absurd (omega arith)
  fifth (at_field f) q = clash (rw q at f) refl

  sixth : {r : Refusal} → RefusedAt line p r → number_of r ≡ 6 → Opens line p O.OutsideSection
  unfolding both either
  sixth (at_line e a b) q = absurd (omega arith)
  sixth (misplaced o) q = absurd (omega arith)
  sixth (outside o) q = o
  sixth (at_field f) q = clash (rw q at f) refl

  -- 5 and 6 exactly where the nesting says so
  pub misplaced_exactly : (decide line p ≡ refuses R.Misplaced) ↔ Opens line p O.Misplaced
  unfolding decide decide_event
  misplaced_exactly = (λ h. fifth (refused_at R.Misplaced h) refl, λ o. rw (o.reading, o.leads_to))

  pub outside_exactly : (decide line p ≡ refuses R.OutsideSection) ↔ Opens line p O.OutsideSection
  unfolding decide decide_event
  outside_exactly = (λ h. sixth (refused_at R.OutsideSection h) refl, λ o. rw (o.reading, o.leads_to))
