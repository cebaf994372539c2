-- What a caller's numbers and a lent slice always are: each below the bound of its type.
use Rattle.std.specs.Prelude.{ℕ, ◌≡◌, Bool, true, List, ltb, get_or}
use Rattle.std.specs.Int.{w64}
use Rattle.std.proofs.Common.{Fits}
use Rattle.base.specs.Bytes.{both, all}
use Rattle.little.specs.Little.{is_byte}
use Rattle.kind.specs.declared.Kind.{Kind}
use Rattle.compact.specs.declared.ArenaMeta.{ArenaMeta}
use Rattle.compact.specs.declared.PushHead.{PushHead}
use Rattle.overlay.specs.Overlay.{Overlay, kind_store_of}

unfoldable pub head_fits : PushHead → Bool
head_fits h =
    both (ltb h.id 18446744073709551616)
    (both (ltb h.lat 4294967296) (both (ltb h.lon 4294967296) (both (ltb h.count 4294967296) (ltb h.tags 4294967296))))

unfoldable pub meta_fits : ArenaMeta → Bool
meta_fits m =
    both (ltb m.flags 256) (both (ltb m.version 4294967296) (both (ltb m.timestamp 18446744073709551616)
    (both (ltb m.changeset 18446744073709551616) (both (ltb m.uid 4294967296) (ltb m.user 4294967296)))))

-- the bytes of an overlay are bytes
pub record InBytes (o : Overlay) : Type 0 where
  pub arenas : (k : Kind) → all is_byte (kind_store_of k o).arena ≡ true
  pub texts : all is_byte o.texts.bytes ≡ true

-- the words of a lent table are of 64 bits
abbrev pub InWords : List ℕ → Type 0
InWords ws = (i : ℕ) → Fits w64 (get_or ws i 0)
