-- `metadata_of` goes from attribute to attribute. The invariant: the metadata so far are no longer than all attributes, nor are those that are left, which make the whole of it, with its user as it is written.
use Rattle.std.proofs.Common.{◌≡◌, ◌≤◌}
use Rattle.std.specs.Prelude.{None}
use Rattle.event_scan.specs.Parts.{written_size}
use Rattle.event_scan.specs.Fields.{written_left, attributes_left}
use Rattle.event_fields.specs.Field.{meta_from, metadata_of}
use Rattle.event_metadata.specs.Values.{metadata_means, MetadataInBounds, user_written, user_in}
use Rattle.event_metadata.proofs.values.metadata_of.Given as goal

abbrev pub invariant-loop-attribute : goal.invariant-loop-attribute
invariant-loop-attribute g l =
    MetadataInBounds (written_size (written_left l.attributes)) l.metadata
    × (written_size (written_left l.attribute-iterator) ≤ written_size (written_left l.attributes))
    × (meta_from (metadata_means l.metadata) (attributes_left l.attribute-iterator) ≡ metadata_of (attributes_left l.attributes))
    × (user_in (user_written l.metadata) (written_left l.attribute-iterator) ≡ user_in None (written_left l.attributes))
