-- What is lent for one kind, as a kind store.
use Rattle.std.specs.Prelude.{◌≡◌}
use Rattle.kind_store.specs.KindStore.{KindStore, kind_store_with}
use Rattle.kind_store.specs.declared.KindStorage.{KindStorage}
use Rattle.kind_store.specs.declared.KindStorageMut.{KindStorageMut}
use Rattle.kind_store.specs.declared.KindStorageTable.{KindStorageTable}

-- lent to be read
abbrev pub kind_seen : KindStorage → KindStore
kind_seen s = kind_store_with s.table.now s.ids s.arena.now s.used

-- lent to be changed
abbrev pub kind_held : KindStorageMut → KindStore
kind_held s = kind_store_with s.table.now s.ids s.arena.now s.used

-- lent with the table alone to be changed
abbrev pub kind_rows_held : KindStorageTable → KindStore
kind_rows_held s = kind_store_with s.table.now s.ids s.arena.now s.used

-- the same kind, table and arena, whatever they hold
pub record IsSameKindStorage (a b : KindStorageMut) : Type 0 where
  pub kind : a.kind ≡ b.kind
  pub table : a.table.ghost_name ≡ b.table.ghost_name
  pub arena : a.arena.ghost_name ≡ b.arena.ghost_name

-- the same kind and table, and the arena with what it holds
pub record IsSameKindStorageTable (a b : KindStorageTable) : Type 0 where
  pub kind : a.kind ≡ b.kind
  pub table : a.table.ghost_name ≡ b.table.ghost_name
  pub arena : a.arena ≡ b.arena
