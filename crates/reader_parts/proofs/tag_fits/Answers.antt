-- Within the limit of tags, and what is left of the value bytes.
use mathlib.Core.Path.{sym}
use native.Mathlib.Omega.{arith}
use Rattle.reader_parts.proofs.Adds.{fits_rest, fits_no_values, fits_no_tags}
use Rattle.reader_parts.proofs.tag_fits.Goals as goal

pub returns-then-held-le-MAX_TAG_VALUE_BYTES : goal.returns-then-held-le-MAX_TAG_VALUE_BYTES
returns-then-held-le-MAX_TAG_VALUE_BYTES c =
    let e = c.values_size-held.ensures in
    rw e (fits_rest c.args.kind c.args.pending c.args.len (omega (arith, c.if-head-lt-MAX_TAGS.true)) (omega (arith, e, c.if-held-le-MAX_TAG_VALUE_BYTES.true)))

pub returns-then-head-lt-MAX_TAGS : goal.returns-then-head-lt-MAX_TAGS
returns-then-head-lt-MAX_TAGS c =
    sym (fits_no_values c.args.kind c.args.pending c.args.len (omega (arith, c.values_size-held.ensures, c.if-held-le-MAX_TAG_VALUE_BYTES.false)))

pub returns : goal.returns
returns c =
    sym (fits_no_tags c.args.kind c.args.pending c.args.len (omega (arith, c.if-head-lt-MAX_TAGS.false)))
