-- T4: each reading is refused by the first condition of its table that holds, and answered where none holds.
use Rattle.std.specs.Prelude.{Err, None, Ok, Result}
use Prim.Native.Nat.{ℕ}
use mathlib.Core.Path.{◌≡◌, refl, ◌∙◌, ap}
use mathlib.Core.Bool.{Bool, true, false}
use lib.IntN.{ℤ}
use lib.ListN.{length}
use mir.Syntax.{w64}
use mir.Val.{SFits}
use borrow.Author.Tests.{lt-ltb, le-ltb}
use Rattle.base.proofs.Split.{by_bool, by_lt}
use Rattle.kind.specs.declared.Kind.{Kind}
use Rattle.refusal.specs.First.{first_of}
use Rattle.refusal.specs.declared.Refusal.{Refusal}
use Rattle.interner.proofs.Interns.{resolved, unheld}
use Rattle.kind_reading.specs.declared.Side.{Side}
use Rattle.kind_reading.specs.declared.Side.TheVariants.{Live}
use Rattle.kind_reading.specs.Listed.{View, rows_read, rows_on}
use Rattle.kind_reading.proofs.Lists.{nth_at, missing_is}
use Rattle.overlay.specs.Overlay.{Overlay, kind_store_of}
use Rattle.overlay.specs.Given.{InBytes}
use Rattle.overlay.specs.Sound.{is_sound}
use Rattle.overlay.proofs.Answers.{strings_sound}
use Rattle.overlay.proofs.Decides.{decides}
use Rattle.overlay_reading.specs.Reading.{checked_read, no_ids, is_live_now, is_deleted_now, standing_in, yes, count_in, count_on, is_empty_on, id_on, record_on, get_on, has_on, is_deleted_on, known_on, text_on}
use Rattle.overlay_reading.specs.First.{read_refusal, view_refusal, read_table, number_table}
use Rattle.overlay_reading.proofs.Records.{get_given}
use Rattle.overlay_reading.proofs.Numbers.{record_row, record_missing, counted}

-- ---- 22 alone

yes_given : (b : Bool) → read_refusal (yes b) ≡ None
yes_given true = refl
yes_given false = refl

module _ (o : Overlay) where
  -- what is read after the test is no refusal
  pub read_first : (x : Result ℕ Refusal) → read_refusal x ≡ None → read_refusal (checked_read o x) ≡ first_of (read_table o)
  unfolding first_of
  read_first x e = by_bool (is_sound o) (λ s. rw s e) (λ s. rw s)

  pub count_first : (k : Kind) (side : Side) → read_refusal (count_on k side o) ≡ first_of (read_table o)
  unfolding count_on
  count_first k side = read_first (Ok (count_in side (kind_store_of k o))) refl

  pub empty_first : read_refusal (is_empty_on o) ≡ first_of (read_table o)
  unfolding is_empty_on
  empty_first = read_first (yes (no_ids o)) (yes_given (no_ids o))

  pub has_first : (k : Kind) (id : ℤ) → read_refusal (has_on k id o) ≡ first_of (read_table o)
  unfolding has_on
  has_first k id = let b = is_live_now (standing_in (kind_store_of k o) id) in read_first (yes b) (yes_given b)

  pub is_deleted_first : (k : Kind) (id : ℤ) → read_refusal (is_deleted_on k id o) ≡ first_of (read_table o)
  unfolding is_deleted_on
  is_deleted_first k id = let b = is_deleted_now (standing_in (kind_store_of k o) id) in read_first (yes b) (yes_given b)

  pub known_first : (k : Kind) (id : ℤ) → read_refusal (known_on k id o) ≡ first_of (read_table o)
  unfolding known_on
  known_first k id = read_first (Ok _) refl

-- a view that is no refusal
view_given : (v : View) → ((r : Refusal) → v ≡ Err r → ⊥) → view_refusal v ≡ None
view_given (Ok o) h = refl
view_given (Err r) h = absurd (h r refl)

module _ (o : Overlay) (b : InBytes o) (k : Kind) where
  pub get_first : (id : ℤ) → SFits w64 id → view_refusal (get_on k id o) ≡ first_of (read_table o)
  unfolding first_of get_on
  get_first id f =
      by_bool (is_sound o) (λ s. view_given (get_on k id o) (get_given o b ((decides o b).0 s) k id f) ∙ rw s) (λ s. rw s)

-- ---- 22, then 21

module _ (o : Overlay) where
  pub id_first : (k : Kind) (side : Side) (n : ℕ) → read_refusal (id_on k side n o) ≡ first_of (number_table n (count_in side (kind_store_of k o)) o)
  unfolding first_of id_on
  id_first k side n =
      let list = rows_on side (rows_read (kind_store_of k o).table (kind_store_of k o).ids) in
      by_bool (is_sound o)
      (λ s. by_lt n (length list)
      (λ l. rw (s, nth_at list n (record { rank = 0; offset = 0; floor = 0 }) l, lt-ltb n (length list) l))
      (λ l. rw (s, (missing_is list n).1 l, le-ltb n (length list) l)))
      (λ s. rw s)

  pub text_first : (h : ℕ) → view_refusal (text_on h o) ≡ first_of (number_table h o.texts.strings o)
  unfolding first_of text_on
  text_first h =
      by_bool (is_sound o)
      (λ s. by_lt h o.texts.strings
      (λ l. rw (s, resolved o.texts (strings_sound o s) h l, lt-ltb h o.texts.strings l))
      (λ l. rw (s, unheld o.texts h l, le-ltb h o.texts.strings l)))
      (λ s. rw s)

module _ (o : Overlay) (b : InBytes o) (k : Kind) (n : ℕ) where
  abbrev live : ℕ
  live = count_in Live (kind_store_of k o)

  live_is : is_sound o ≡ true → count_on k Live o ≡ Ok live
  unfolding count_on
  live_is s = rw s

  record_unsound : is_sound o ≡ false → view_refusal (record_on k n o) ≡ first_of (number_table n live o)
  unfolding record_on first_of
  record_unsound s = rw s

  pub record_first : view_refusal (record_on k n o) ≡ first_of (number_table n live o)
  unfolding first_of
  record_first =
      by_bool (is_sound o)
      (λ s. let w = (decides o b).0 s in
      by_lt n live
      (λ l. let x = record_row o b w k n (record { rank = 0; offset = 0; floor = 0 }) (rw (counted o b w k Live live (live_is s)) l) in
      ap view_refusal x.is ∙ rw (s, lt-ltb n live l))
      (λ l. ap view_refusal ((record_missing o b w k live n (live_is s)).1 l) ∙ rw (s, le-ltb n live l)))
      record_unsound
