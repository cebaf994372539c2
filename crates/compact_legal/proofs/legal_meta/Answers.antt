-- Metadata, test by test.
use Rattle.compact.specs.Held.{meta_of}
use Rattle.compact.specs.Legal.{legal_meta}
use Rattle.compact_legal.proofs.Bits.{meta_tests, zero_bits}
use Rattle.compact_legal.proofs.legal_meta.Goals as goal

pub returns : goal.returns
unfolding legal_meta meta_of
returns c = rw meta_tests (simp (zero_bits, c.is_present-present.ensures, c.has_user-named.ensures, c.has_version-versioned.ensures))
