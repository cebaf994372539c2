-- The conditions of the table's row "store", in their order (proofs/First).
use Rattle.std.specs.Prelude.{ℕ, ◌+◌, Bool, true, false, not, List, [], ◌∷◌, ◌++◌, ltb, ℤ, pos, length, Err, None, Ok, Option, Result, Some}
use Rattle.base.specs.Bytes.{Bytes, both}
use Rattle.kind.specs.declared.Kind.{Kind}
use Rattle.refusal.specs.First.{ConditionRow, row}
use Rattle.refusal.specs.declared.Refusal.{Refusal}
use Rattle.refusal.specs.declared.Refusal.TheVariants as R
use Rattle.interner.specs.Strings.{Store, text_room}
use Rattle.interner.specs.Texts.{handle_of}
use Rattle.interner.specs.Sound.{texts_of}
use Rattle.kind_store.specs.KindStore.{KindStore, known_version, checked}
use Rattle.kind_store.specs.KindStore as KindStore

-- ---- a text: 13

-- "13 strings or string bytes full", for a text that is not held
abbrev pub not_held : Option ℕ → Bool
not_held None = true
not_held (Some h) = false

abbrev pub full_for : Store → Bytes → Bool
full_for s t = both (not_held (handle_of t (texts_of s))) (not (text_room s t))

abbrev pub text_rows : Store → Bytes → List (ConditionRow Refusal)
text_rows s t = row R.StringsFull (full_for s t) ∷ []

abbrev pub handle_refusal : Result ℕ Refusal → Option Refusal
handle_refusal (Ok n) = None
handle_refusal (Err r) = Some r

-- ---- a delete: 12, 14; a push: 12, 14, 15

abbrev pub is_below : Result Unit ℤ → Bool
is_below (Ok tt) = false
is_below (Err v) = true

-- the known version that a regression names
abbrev pub held_by : Result Unit ℤ → ℤ
held_by (Ok tt) = pos 0
held_by (Err v) = v

abbrev pub delete_rows : Kind → ℕ → KindStore → ℤ → Option ℤ → List (ConditionRow Refusal)
delete_rows k setting s id claim =
    row (R.Regression (held_by (checked setting (known_version k s id) claim))) (is_below (checked setting (known_version k s id) claim)) ∷ row R.IdsFull (not (KindStore.id_room s id)) ∷ []

abbrev pub push_rows : Kind → ℕ → KindStore → ℤ → Option ℤ → Bytes → List (ConditionRow Refusal)
push_rows k setting s id claim bytes =
    delete_rows k setting s id claim ++ (row R.ArenaFull (ltb (length s.arena) (s.used + length bytes)) ∷ [])
