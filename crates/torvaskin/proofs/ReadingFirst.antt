-- T4 at the C boundary: the number of each reply is that of the first condition that holds: 22; 17 for a number that means no kind; then those of the reading.
-- It is 0 where none holds.
use Rattle.std.specs.Prelude.{Err, None, Ok, Option, Result, Some}
use Prim.Native.Nat.{ℕ}
use mathlib.Core.Path.{◌≡◌, refl, sym, ◌∙◌, ap}
use mathlib.Core.Bool.{true}
use mathlib.Core.List.{List, [], ◌∷◌}
use lib.IntN.{ℤ}
use mir.Syntax.{w64}
use mir.Val.{SFits}
use Rattle.base.proofs.Split.{by_bool}
use Rattle.kind.specs.Kind.{of_number}
use Rattle.kind.specs.declared.Kind.{Kind}
use Rattle.refusal.specs.First.{ConditionRow, row, first_of}
use Rattle.refusal.specs.declared.Refusal.{Refusal}
use Rattle.refusal.specs.declared.Refusal.TheVariants as R
use Rattle.kind_reading.specs.declared.Side.{Side}
use Rattle.kind_reading.specs.declared.Side.TheVariants.{Live}
use Rattle.kind_reading.specs.Listed.{View}
use Rattle.overlay.specs.Overlay.{Overlay, kind_store_of}
use Rattle.overlay.specs.Given.{InBytes}
use Rattle.overlay.specs.Sound.{is_sound}
use Rattle.overlay.specs.First.{unsound_row, kind_rows, kind_call_table, number_by}
use Rattle.overlay_reading.specs.Reading.{count_in, count_on, is_empty_on, id_on, record_on, get_on, has_on, is_deleted_on, known_on, text_on}
use Rattle.overlay_reading.specs.First.{read_refusal, view_refusal, number_rows, read_table, number_table}
use Rattle.overlay_reading.proofs.First.{count_first, empty_first, has_first, is_deleted_first, known_first, get_first, id_first, text_first, record_first}
use Rattle.c_replies.specs.Readings.{read_number, view_part, unknown_kind}
use Rattle.overlay_ids.specs.Bulk.{all_ids_on}
use Rattle.overlay_ids.specs.First.{short_rows}
use Rattle.overlay_ids.proofs.First.{all_ids_first}
use Rattle.torvaskin.specs.Readings.{ids_for, ids_reply, number_for, part_for, count_number, id_number, record_part, get_part, has_number, is_deleted_number, known_number}

read_number_lem : (x : Result ℕ Refusal) → (read_number x).number ≡ number_by (read_refusal x)
read_number_lem (Ok n) = refl
read_number_lem (Err r) = refl

view_number : (v : View) → (view_part v).number ≡ number_by (view_refusal v)
view_number (Ok (Some p)) = refl
view_number (Ok None) = refl
view_number (Err r) = refl

-- ---- a kind by its number

module _ (o : Overlay) where
  unknown_first : first_of (unsound_row o ∷ row R.BadRecord true ∷ []) ≡ Some (unknown_kind (is_sound o))
  unfolding first_of
  unknown_first = by_bool (is_sound o) (λ s. rw s) (λ s. rw s)

  module _ (rows : Kind → List (ConditionRow Refusal)) where
    named_number : (f : Kind → Result ℕ Refusal) → ((k : Kind) → read_refusal (f k) ≡ first_of (unsound_row o ∷ rows k))
        → (n : Option Kind) → (number_for n f o).number ≡ number_by (first_of (unsound_row o ∷ kind_rows n rows))
    named_number f h (Some k) = read_number_lem (f k) ∙ ap number_by (h k)
    named_number f h None = sym (ap number_by unknown_first)

    named_part : (f : Kind → View) → ((k : Kind) → view_refusal (f k) ≡ first_of (unsound_row o ∷ rows k))
        → (n : Option Kind) → (part_for n f o).number ≡ number_by (first_of (unsound_row o ∷ kind_rows n rows))
    named_part f h (Some k) = view_number (f k) ∙ ap number_by (h k)
    named_part f h None = sym (ap number_by unknown_first)

  -- ---- 22, 17

  pub count_number_first : (kind : ℕ) (side : Side) → (count_number kind side o).number ≡ number_by (first_of (kind_call_table kind (λ k. []) o))
  unfolding count_number
  count_number_first kind side = named_number (λ k. []) (λ k. count_on k side o) (λ k. count_first o k side) (of_number kind)

  pub has_number_first : (kind : ℕ) (id : ℤ) → (has_number kind id o).number ≡ number_by (first_of (kind_call_table kind (λ k. []) o))
  unfolding has_number
  has_number_first kind id = named_number (λ k. []) (λ k. has_on k id o) (λ k. has_first o k id) (of_number kind)

  pub is_deleted_number_first : (kind : ℕ) (id : ℤ) → (is_deleted_number kind id o).number ≡ number_by (first_of (kind_call_table kind (λ k. []) o))
  unfolding is_deleted_number
  is_deleted_number_first kind id = named_number (λ k. []) (λ k. is_deleted_on k id o) (λ k. is_deleted_first o k id) (of_number kind)

  pub known_number_first : (kind : ℕ) (id : ℤ) → (known_number kind id o).number ≡ number_by (first_of (kind_call_table kind (λ k. []) o))
  unfolding known_number
  known_number_first kind id = named_number (λ k. []) (λ k. known_on k id o) (λ k. known_first o k id) (of_number kind)

  pub get_part_first : InBytes o → (kind : ℕ) (id : ℤ) → SFits w64 id → (get_part kind id o).number ≡ number_by (first_of (kind_call_table kind (λ k. []) o))
  unfolding get_part
  get_part_first b kind id f = named_part (λ k. []) (λ k. get_on k id o) (λ k. get_first o b k id f) (of_number kind)

  -- ---- 22, 17, 21

  pub id_number_first : (kind : ℕ) (side : Side) (n : ℕ) → (id_number kind side n o).number ≡ number_by (first_of (kind_call_table kind (λ k. number_rows n (count_in side (kind_store_of k o))) o))
  unfolding id_number
  id_number_first kind side n =
      named_number (λ k. number_rows n (count_in side (kind_store_of k o))) (λ k. id_on k side n o) (λ k. id_first o k side n) (of_number kind)

  pub record_part_first : InBytes o → (kind n : ℕ) → (record_part kind n o).number ≡ number_by (first_of (kind_call_table kind (λ k. number_rows n (count_in Live (kind_store_of k o))) o))
  unfolding record_part
  record_part_first b kind n =
      named_part (λ k. number_rows n (count_in Live (kind_store_of k o))) (λ k. record_on k n o) (λ k. record_first o b k n) (of_number kind)

  -- ---- 22, 17, 19

  ids_number : (side : Side) (ids versions : List ℕ) (n : Option Kind) → (ids_for n side ids versions o).reply.number ≡ (number_for n (λ k. (all_ids_on k side ids versions o).answer) o).number
  ids_number side ids versions (Some k) = refl
  ids_number side ids versions None = refl

  pub ids_number_first : (kind : ℕ) (side : Side) (ids versions : List ℕ)
      → (ids_reply kind side ids versions o).reply.number ≡ number_by (first_of (kind_call_table kind (λ k. short_rows k side ids versions o) o))
  unfolding ids_reply
  ids_number_first kind side ids versions =
      ids_number side ids versions (of_number kind)
      ∙ named_number (λ k. short_rows k side ids versions o) (λ k. (all_ids_on k side ids versions o).answer) (λ k. all_ids_first k side ids versions o) (of_number kind)

  -- ---- where no kind is given: 22; 22, 21

  pub empty_number_first : (read_number (is_empty_on o)).number ≡ number_by (first_of (read_table o))
  empty_number_first = read_number_lem (is_empty_on o) ∙ ap number_by (empty_first o)

  pub text_part_first : (h : ℕ) → (view_part (text_on h o)).number ≡ number_by (first_of (number_table h o.texts.strings o))
  text_part_first h = view_number (text_on h o) ∙ ap number_by (text_first o h)
