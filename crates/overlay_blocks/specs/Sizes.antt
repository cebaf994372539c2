-- The sizes as set-up and soundness test them: "1 lent size outside: ids 1 to 4,096 a kind, arena 0 to 1,048,576 bytes a kind, strings 1 to 4,096, string bytes 0 to 65,536".
use Rattle.std.specs.Prelude.{ℕ, ◌+◌, ◌*◌, ◌≤◌, Bool, leb, eqb}
use Rattle.base.specs.Bytes.{both}
use Rattle.overlay_blocks.specs.declared.KindSize.{KindSize}
use Rattle.overlay_blocks.specs.declared.Sizes.{Sizes}

pub record Limits : Type 0 where
  pub ids : ℕ
  pub arena : ℕ
  pub strings : ℕ
  pub bytes : ℕ

abbrev pub largest : Limits
largest = record { ids = 4096; arena = 1048576; strings = 4096; bytes = 65536 }

unfoldable pub kind_fits : Limits → KindSize → Bool
kind_fits l z = both (leb 1 z.ids) (both (leb z.ids l.ids) (leb z.bytes l.arena))

unfoldable pub strings_fit : Limits → ℕ → ℕ → Bool
strings_fit l strings bytes = both (leb 1 strings) (both (leb strings l.strings) (leb bytes l.bytes))

unfoldable pub sizes_in_range : Limits → Sizes → Bool
sizes_in_range l z =
    both (kind_fits l z.nodes) (both (kind_fits l z.ways) (both (kind_fits l z.relations) (strings_fit l z.strings z.string_bytes)))

-- the parts are all of the blocks: three words an id, two a string
unfoldable pub filled : Sizes → ℕ → ℕ → Bool
filled z words bytes =
    both (eqb (3 * (z.nodes.ids + z.ways.ids + z.relations.ids) + 2 * z.strings) words)
    (eqb (z.nodes.bytes + z.ways.bytes + z.relations.bytes + z.string_bytes) bytes)

unfoldable pub fitted : Limits → Sizes → ℕ → ℕ → Bool
fitted l z words bytes = both (sizes_in_range l z) (filled z words bytes)

-- what the range gives for a sum
pub record SmallKind (z : KindSize) : Type 0 where
  pub ids : z.ids ≤ 4096
  pub bytes : z.bytes ≤ 1048576

pub record Small (z : Sizes) : Type 0 where
  pub nodes : SmallKind z.nodes
  pub ways : SmallKind z.ways
  pub relations : SmallKind z.relations
  pub strings : z.strings ≤ 4096
  pub string_bytes : z.string_bytes ≤ 65536
