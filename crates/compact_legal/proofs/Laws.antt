-- Laws of legal records: a legal record has no fault, more strings held keep it legal, and what a direct push appends is one.
use Rattle.std.specs.Prelude.{None, Ok, Option, Some}
use Prim.Native.Nat.{ℕ, ◌≤◌}
use mathlib.Core.Path.{◌≡◌, refl}
use mathlib.Core.Bool.{Bool, true, false, cond}
use mathlib.Core.List.{List, [], ◌∷◌, ◌++◌}
use mathlib.Core.Logic.{◌↔◌}
use native.Mathlib.Omega.{arith}
use borrow.Author.Tests.{ltb-true, lt-ltb}
use Rattle.base.specs.Bytes.{Bytes, both, all}
use Rattle.base.proofs.Split.{no, both_left, both_right, both_of}
use Rattle.little.specs.Little.{is_byte}
use Rattle.kind.specs.declared.Kind.{Kind}
use Rattle.kind.proofs.Numbers.{same_refl}
use Rattle.refusal.specs.declared.Refusal.{Refusal}
use Rattle.refusal.specs.declared.Refusal.TheVariants.{NotText, CoordinateRange, TooManyParts, BadRecord}
use Rattle.model.specs.Record.{Meta, Member, Tag, Body, place, refs, members, Record, kind_of}
use Rattle.compact.specs.Layout.{Head, head_bytes, meta_bytes}
use Rattle.compact.specs.Cut.{KeptRecord, pushed_record}
use Rattle.compact.specs.Fits.{fits_head, fits_meta, fits_kept}
use Rattle.compact.proofs.Cuts.{pushed, pushed_bytes}
use Rattle.compact.specs.Legal.{handle, legal_meta, body_handles, legal_handles, legal_texts, in_range, within_limits, limits, fault_of, legal}
use Rattle.compact_legal.specs.Judge.{fault_answer, fault_for}
use Rattle.compact_legal.specs.Whole.{Whole}
use Rattle.compact_legal.proofs.Wholes.{append_whole}

-- ---- a record is legal exactly when it has no fault

no_fault : (handles texts range few : Bool) → both handles (both texts (both range few)) ≡ true
    → cond handles (cond texts (cond range (cond few None (Some TooManyParts)) (Some CoordinateRange)) (Some NotText)) (Some BadRecord) ≡ None
no_fault handles texts range few h =
    let h2 = both_right _ _ h in
    let h3 = both_right _ _ h2 in
    rw (both_left _ _ h, both_left _ _ h2, both_left _ _ h3, both_right _ _ h3)

faultless : (handles texts range few : Bool)
    → cond handles (cond texts (cond range (cond few None (Some TooManyParts)) (Some CoordinateRange)) (Some NotText)) (Some BadRecord) ≡ None → both handles (both texts (both range few)) ≡ true
unfolding both
faultless true true true true h = refl
faultless true true true false h = no cc
faultless true true false few h = no cc
faultless true false range few h = no cc
faultless false texts range few h = no cc

pub legal_is : (strings : ℕ) (r : Record ℕ) → (legal strings r ≡ true) ↔ (fault_of strings r ≡ None)
unfolding legal fault_of
legal_is strings r =
    let t = legal_texts r in
    let i = in_range r.body in
    let w = within_limits limits r in
    (no_fault (legal_handles strings r) t i w, faultless (legal_handles strings r) t i w)

-- ---- more strings held keep a record legal

module _ (n m : ℕ) (more : n ≤ m) where
  handle_more : (h : ℕ) → handle n h ≡ true → handle m h ≡ true
  handle_more h t = lt-ltb h m (omega (arith, ltb-true h n t))

  all_more : {A : Type 0} (p q : A → Bool) → ((a : A) → p a ≡ true → q a ≡ true) → (xs : List A) → all p xs ≡ true → all q xs ≡ true
  unfolding all
  all_more p q f [] h = refl
  all_more p q f (x ∷ xs) h = both_of (f x (both_left _ _ h)) (all_more p q f xs (both_right _ _ h))

  pub meta_more : (x : Meta ℕ) → legal_meta n x ≡ true → legal_meta m x ≡ true
  unfolding legal_meta
  meta_more x h =
      let h2 = both_right _ _ h in
      let h3 = both_right _ _ h2 in
      let h4 = both_right _ _ h3 in
      both_of (both_left _ _ h) (both_of (both_left _ _ h2) (both_of (both_left _ _ h3) (both_of (both_left _ _ h4) (handle_more x.user (both_right _ _ h4)))))

  body_more : (b : Body ℕ) → body_handles n b ≡ true → body_handles m b ≡ true
  unfolding body_handles
  body_more (place lat lon) h = refl
  body_more (refs rs) h = refl
  body_more (members ms) h = all_more (λ (x : Member ℕ). handle n x.role) (λ (x : Member ℕ). handle m x.role) (λ x. handle_more x.role) ms h

  pub legal_more : (r : Record ℕ) → legal n r ≡ true → legal m r ≡ true
  unfolding legal legal_handles
  legal_more r h =
      let g = both_left _ _ h in
      let g2 = both_right _ _ g in
      both_of (both_of (meta_more r.meta (both_left _ _ g)) (both_of (body_more r.body (both_left _ _ g2))
      (all_more (λ (x : Tag ℕ). handle n x.key) (λ (x : Tag ℕ). handle m x.key) (λ x. handle_more x.key) r.tags (both_right _ _ g2)))) (both_right _ _ h)

  pub whole_more : (k : Kind) (s : Bytes) → Whole n k s → Whole m k s
  whole_more k s w =
      record { kept = w.kept; fits = w.fits; legals = all_more (λ (x : KeptRecord). legal n x.held) (λ (x : KeptRecord). legal m x.held) (λ x. legal_more x.held) w.kept w.legals; same = w.same }

-- ---- what a direct push appends

answered_legal : (f : Option Refusal) → fault_answer f ≡ (Ok tt) → f ≡ None
answered_legal None h = refl
answered_legal (Some x) h = no cc

-- a push that is not refused gives a legal record
pub push_legal : (strings : ℕ) (o : Option (Record ℕ)) → fault_for strings o ≡ (Ok tt) → (r : Record ℕ) × ((o ≡ Some r) × (legal strings r ≡ true))
unfolding fault_for
push_legal strings None h = no cc
push_legal strings (Some r) h = (r, (refl, (legal_is strings r).1 (answered_legal (fault_of strings r) h)))

-- an arena of whole records stays one
pub push_whole : (strings : ℕ) (k : Kind) (h : Head) (m : Meta ℕ) (parts s : Bytes) → all is_byte parts ≡ true → fits_head k h ≡ true → fits_meta m ≡ true
    → fault_for strings (pushed_record k h m parts) ≡ (Ok tt) → Whole strings k s → Whole strings k (s ++ (head_bytes k h ++ meta_bytes m ++ parts))
unfolding fits_kept
push_whole strings k h m parts s b f g e w =
    let x = push_legal strings (pushed_record k h m parts) e in
    let y = pushed_bytes k h m parts x.0 b f g x.1.0 in
    let q : kind_of x.0.body ≡ k = (pushed k h m parts x.0 b x.1.0).kind in
    rw y.0 (append_whole strings k s (record { id = h.id; held = x.0 }) (both_of (rw q (same_refl k)) y.1) x.1.1 w)
