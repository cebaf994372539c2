-- Chains that are lent, read as chains of handles.
use Rattle.std.specs.Prelude.{◌≡◌}
use Rattle.text_index.specs.Chained.{HandleChains}
use Rattle.text_index.specs.declared.Chains.{Chains}
use Rattle.text_index.specs.declared.ChainsMut.{ChainsMut}

abbrev pub chains_seen : Chains → HandleChains
chains_seen c = record { lasts = c.lasts.now; befores = c.befores.now; handles = c.handles }

abbrev pub chains_held : ChainsMut → HandleChains
chains_held c = record { lasts = c.lasts.now; befores = c.befores.now; handles = c.handles }

-- the same lent parts, whatever is written into them
pub record IsSameChains (a b : ChainsMut) : Type 0 where
  pub lasts : a.lasts.ghost_name ≡ b.lasts.ghost_name
  pub befores : a.befores.ghost_name ≡ b.befores.ghost_name
