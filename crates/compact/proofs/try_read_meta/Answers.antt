-- Metadata is read where its bytes are there.
use mathlib.Core.Path.{sym, ◌∙◌}
use borrow.Author.Tests.{leb-true, leb-false}
use Rattle.little.proofs.Littles.{bytes_of}
use Rattle.compact.proofs.Steps.{meta_short, meta_whole}
use Rattle.compact.proofs.try_read_meta.Goals as goal

pub returns-then-not-within : goal.returns-then-not-within
returns-then-not-within c =
    let a = c.args in
    let s = a.bytes.now in
    meta_short s (bytes_of s (λ i l. (c.type_inv.bytes i).fits)) a.at (leb-false _ _ (sym c.within.ensures ∙ c.if-not-within.true))

pub returns : goal.returns
returns c =
    let a = c.args in
    let s = a.bytes.now in
    rw c.read_meta.ensures (meta_whole s (bytes_of s (λ i l. (c.type_inv.bytes i).fits)) a.at (leb-true _ _ (sym c.within.ensures ∙ c.if-not-within.false)))
