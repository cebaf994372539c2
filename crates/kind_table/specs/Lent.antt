-- An id table as it is lent.
use Rattle.std.specs.Prelude.{◌≡◌}
use Rattle.kind_table.specs.declared.TableMut.{TableMut}

-- the same words, whatever they hold
pub record IsSameTable (a b : TableMut) : Type 0 where
  pub words : a.words.ghost_name ≡ b.words.ghost_name
