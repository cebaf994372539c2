-- The C boundary of the readings: what each entry leaves and replies; a kind goes by its number, and one above 2 is refused 17 where 22 is not.
use Rattle.refusal.specs.declared.Refusal.{Refusal}
use Rattle.std.specs.Prelude.{ℕ, List, ℤ, Err, None, Option, Result, Some}
use Rattle.kind.specs.Kind.{of_number}
use Rattle.kind.specs.declared.Kind.{Kind}
use Rattle.overlay.specs.Overlay.{Overlay}
use Rattle.overlay.specs.Sound.{is_sound}
use Rattle.kind_reading.specs.declared.Side.{Side}
use Rattle.kind_reading.specs.Listed.{View}
use Rattle.overlay_reading.specs.Reading.{count_on, id_on, record_on, get_on, has_on, is_deleted_on, known_on}
use Rattle.overlay_ids.specs.Bulk.{AllIds, all_ids_on}
use Rattle.c_replies.specs.Readings.{read_number, view_part, unknown_kind}
use Rattle.c_replies.specs.declared.Number.{Number}
use Rattle.c_replies.specs.declared.Part.{Part}

-- what a reading answers of the kind, or the refusal where no kind is meant
abbrev pub reading_for : {A : Type 0} → Option Kind → (Kind → Result A Refusal) → Overlay → Result A Refusal
reading_for (Some k) f o = f k
reading_for None f o = Err (unknown_kind (is_sound o))

abbrev pub number_for : Option Kind → (Kind → Result ℕ Refusal) → Overlay → Number
number_for n f o = read_number (reading_for n f o)

abbrev pub part_for : Option Kind → (Kind → View) → Overlay → Part
part_for n f o = view_part (reading_for n f o)

unfoldable pub count_number : ℕ → Side → Overlay → Number
count_number kind side o = number_for (of_number kind) (λ k. count_on k side o) o

unfoldable pub id_number : ℕ → Side → ℕ → Overlay → Number
id_number kind side n o = number_for (of_number kind) (λ k. id_on k side n o) o

unfoldable pub record_part : ℕ → ℕ → Overlay → Part
record_part kind n o = part_for (of_number kind) (λ k. record_on k n o) o

unfoldable pub get_part : ℕ → ℤ → Overlay → Part
get_part kind id o = part_for (of_number kind) (λ k. get_on k id o) o

unfoldable pub has_number : ℕ → ℤ → Overlay → Number
has_number kind id o = number_for (of_number kind) (λ k. has_on k id o) o

unfoldable pub is_deleted_number : ℕ → ℤ → Overlay → Number
is_deleted_number kind id o = number_for (of_number kind) (λ k. is_deleted_on k id o) o

unfoldable pub known_number : ℕ → ℤ → Overlay → Number
known_number kind id o = number_for (of_number kind) (λ k. known_on k id o) o

-- ---- all ids of a kind

-- the two lists, and the reply
pub record IdsReply : Type 0 where
  pub ids : List ℕ
  pub versions : List ℕ
  pub reply : Number

abbrev pub all_ids_reply : AllIds → IdsReply
all_ids_reply a = record { ids = a.ids; versions = a.versions; reply = read_number a.answer }

abbrev pub ids_for : Option Kind → Side → List ℕ → List ℕ → Overlay → IdsReply
ids_for (Some k) side ids versions o = all_ids_reply (all_ids_on k side ids versions o)
ids_for None side ids versions o = record { ids = ids; versions = versions; reply = read_number (Err (unknown_kind (is_sound o))) }

unfoldable pub ids_reply : ℕ → Side → List ℕ → List ℕ → Overlay → IdsReply
ids_reply kind side ids versions o = ids_for (of_number kind) side ids versions o
