-- What condition 3 asks of its storage is met: an overlay of room for one id a kind, one record of 128 bytes a kind and one text, and any reader's bytes.
use Prim.Native.Nat.{ℕ}
use mathlib.Core.Path.{◌≡◌, refl}
use mathlib.Core.Bool.{true}
use lib.ListN.{replicate}
use Rattle.base.specs.Bytes.{Bytes, both, all}
use Rattle.kind.specs.declared.Kind.TheVariants.{Node, Way, Relation}
use Rattle.little.specs.Little.{is_byte}
use Rattle.overlay_blocks.specs.declared.KindSize.{KindSize}
use Rattle.overlay_blocks.specs.declared.Sizes.{Sizes}
use Rattle.overlay_blocks.specs.Blocks.{ends_of}
use Rattle.overlay_blocks.specs.Sizes.{kind_fits, strings_fit, sizes_in_range}
use Rattle.overlay.specs.Overlay.{Overlay, kind_store_of, with_sizes, kind_tiled, texts_tiled, tiled, sizes_fit}
use Rattle.overlay.specs.Lent.{overlay_for}
use Rattle.condition.specs.Condition3.{Start}

zeros : ℕ → Bytes
zeros n = replicate n 0

one_record : KindSize
one_record = record { ids = 1; bytes = 128 }

one_size : Sizes
one_size = record { nodes = one_record; ways = one_record; relations = one_record; strings = 1; string_bytes = 0 }

one_of_each : Overlay
one_of_each = with_sizes one_size (overlay_for one_size (zeros 11) (zeros 384) (zeros 17))

start_met : Start one_of_each (λ n. zeros 44432)
unfolding zeros one_record one_size one_of_each ends_of both all is_byte kind_fits strings_fit sizes_in_range kind_tiled texts_tiled tiled sizes_fit
start_met =
    record {
      sizes = refl;
      bytes = record { arenas = λ k. elim k as (λ k. all is_byte (kind_store_of k one_of_each).arena ≡ true) [ Node ↦ refl | Way ↦ refl | Relation ↦ refl ]; texts = refl };
      parts = record { bytes = λ n. refl; room = λ n. refl };
    }
