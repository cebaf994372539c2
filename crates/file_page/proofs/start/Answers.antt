-- The overlay is set up, and the reader is fresh.
use borrow.Author.Rules.{rules}
use mathlib.Core.Path.{◌≡◌, ap}
use lib.ListN.{length}
use denote.Bor.{Bor}
use Rattle.base.specs.Bytes.{Bytes}
use Rattle.file_page.proofs.Ends.{started_by}
use Rattle.file_page.proofs.start.Goals as goal

pub returns : goal.returns
returns c =
    let k = c.args in
    let w : length k.words.now ≡ 45056 = search rules in
    let b : length k.bytes.now ≡ 3211264 = search rules in
    let t = c.set_up.new.self in
    let same : t.bytes.now ≡ k.bytes.now = ap (λ (x : Bor Bytes). x.now) c.set_up.ensures.same.bytes in
    let z : c.counters-1.given.0 ≡ t.counters.now = search rules in
    rw z
    (started_by k.words.now k.bytes.now k.counters.now k.ps.now k.file.now w b c.program_sizes.result c.program_sizes.ensures t.words.now t.counters.now c.set_up.result (rw same at c.set_up.ensures.done) _ c.default.ensures)
