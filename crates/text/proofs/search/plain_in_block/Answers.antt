-- `text::search::plain_in_block`: the bits of a block tell where the first byte stands that is not plain.
use Rattle.std.proofs.Common.{not}
use Rattle.std.proofs.lemmas.Simd.{length-chunk}
use Rattle.text.specs.Check.{is_plain}
use Rattle.text.proofs.Blocks.{none_set, lowest_set, outside_bits}
use Rattle.text.proofs.search.plain_in_block.Goals as goal

pub returns-then-bits-eq0 : goal.returns-then-bits-eq0
returns-then-bits-eq0 g c =
    let long = length-chunk c.args.at g.row.N c.args.s.now c.requires.within in
    none_set (λ b. not (is_plain b)) _ g.row.N _ long c.requires.small (outside_bits _ g.row.N long c.requires.small) c.if-bits-eq0.true

pub returns : goal.returns
returns g c =
    let long = length-chunk c.args.at g.row.N c.args.s.now c.requires.within in
    lowest_set (λ b. not (is_plain b)) _ g.row.N _ long c.requires.small (outside_bits _ g.row.N long c.requires.small) c.if-bits-eq0.false
