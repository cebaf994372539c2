-- Two steps of an iterator over a record's tags.
use Rattle.std.specs.Prelude.{List, [], ◌∷◌}
use Rattle.compact.specs.declared.CompactTagIter.{CompactTagIter}
use Rattle.compact.specs.View.{TagStep}
use Rattle.compact.specs.Tags.{tag_next}

abbrev pub two_of : CompactTagIter → List TagStep
two_of it = (tag_next it).step ∷ (tag_next (tag_next it).iter).step ∷ []
