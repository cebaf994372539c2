-- The pieces that the walk prints, in any words and bytes: the lines of each kind. In sound storage they are together the listing of the overlay's table (proofs/Pages).
use Rattle.std.specs.Prelude.{List, ◌++◌}
use Rattle.base.specs.Bytes.{Bytes}
use Rattle.kind.specs.declared.Kind.{Kind}
use Rattle.kind.specs.declared.Kind.TheVariants.{Node, Way, Relation}
use Rattle.listing_fields.specs.Fields.{text_held}
use Rattle.overlay.specs.Overlay.{Overlay, kind_store_of}
use Rattle.listing_rows.specs.Lines.{kind_pieces}

abbrev pub kind_lines : Kind → Overlay → List Bytes
kind_lines k o = kind_pieces (text_held o.texts) k (kind_store_of k o)

unfoldable pub pieces_of : Overlay → List Bytes
pieces_of o = kind_lines Node o ++ kind_lines Way o ++ kind_lines Relation o
