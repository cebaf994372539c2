-- `text::search::byte_in_block`: the bits of a block tell where the byte stands first.
use Rattle.std.proofs.Common.{eqb, w8}
use Rattle.std.proofs.lemmas.Simd.{bitmask_splat, length-chunk}
use Rattle.text.proofs.Blocks.{none_set, lowest_set}
use Rattle.text.proofs.search.byte_in_block.Goals as goal

pub returns-then-bits-eq0 : goal.returns-then-bits-eq0
returns-then-bits-eq0 g c =
    let long = length-chunk c.args.at g.row.N c.args.s.now c.requires.within in
    none_set (λ b. eqb b c.args.byte) _ g.row.N _ long c.requires.small (bitmask_splat w8 eqb _ g.row.N c.args.byte long c.requires.small) c.if-bits-eq0.true

pub returns : goal.returns
returns g c =
    let long = length-chunk c.args.at g.row.N c.args.s.now c.requires.within in
    lowest_set (λ b. eqb b c.args.byte) _ g.row.N _ long c.requires.small (bitmask_splat w8 eqb _ g.row.N c.args.byte long c.requires.small) c.if-bits-eq0.false
