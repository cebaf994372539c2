-- One kind's table, arena and counters, as a function is lent them and as it leaves them. The kind's counters stand at a place and three behind it.
use Rattle.std.specs.Prelude.{ℕ, ◌+◌, ◌≡◌, List, get_or}
use Rattle.kind_store.specs.KindStore.{KindStore, kind_store_with}
use Rattle.interner.specs.Strings.{Store, store_with}
use Rattle.base.specs.Bytes.{Bytes}

-- the kind store in a table, an arena and the counters
abbrev pub kind_store_at : ℕ → List ℕ → Bytes → List ℕ → KindStore
kind_store_at at table arena used = kind_store_with table (get_or used at 0) arena (get_or used (at + 3) 0)

abbrev pub kind_store_lent : ℕ → List ℕ → Bytes → List ℕ → KindStore
kind_store_lent = kind_store_at

abbrev pub kind_store_left : ℕ → List ℕ → Bytes → List ℕ → KindStore
kind_store_left = kind_store_at

-- the regression setting
abbrev pub setting_in : List ℕ → ℕ
setting_in used = get_or used 8 0

-- the strings in their spans, their bytes and the counters
abbrev pub strings_at : List ℕ → Bytes → List ℕ → Store
strings_at spans bytes used = store_with spans bytes (get_or used 6 0) (get_or used 7 0)

-- every counter but two is as it was, at the exit as at the entry
abbrev pub OthersKept : ℕ → ℕ → List ℕ → List ℕ → Type 0
OthersKept a b before after = (i : ℕ) → (i ≡ a → ⊥) → (i ≡ b → ⊥) → get_or after i 0 ≡ get_or before i 0
