-- A tag at an offset: its key, its length, and as many bytes.
use Rattle.std.specs.Prelude.{None, Option, Some, IfSome, cond}
use mathlib.Core.Path.{◌≡◌}
use lib.Dec.{leb}
use Prim.Native.Nat.{ℕ, ◌+◌, ◌≤◌}
use native.Mathlib.Omega.{arith}
use Rattle.base.specs.Bytes.{Bytes}
use mathlib.Core.Path.{◌∙◌}
use lib.ListN.{length}
use borrow.Author.Tests.{le-leb, lt-leb}
use Rattle.base.proofs.Split.{by_le}
use Rattle.little.proofs.Ends.{lies_within, runs_past}
use Rattle.compact_legal.proofs.Parts.{tag_bad_short, tag_bad_long, tag_good}
use Rattle.compact_legal.proofs.PartBytes.tag_end.Goals as goal

ends_within : (s : Bytes) (at : ℕ) → at + 8 ≤ length s → (n : ℕ) (o : Option ℕ) → o ≡ cond (leb (at + 8 + n) (length s)) (Some (at + 8 + n)) None → IfSome o (λ e. (at + 8 ≤ e) × (e ≤ length s))
ends_within s at h n None e = tt
ends_within s at h n (Some end) e = let w = lies_within (at + 8) n (length s) end e in let f = w.fits in let i = w.is in (omega arith, omega arith)

pub returns-in_err-value-clause-ends : goal.returns-in_err-value-clause-ends
returns-in_err-value-clause-ends c =
    let a = c.args in
    rw c.from_residual.ensures (tag_bad_short 0 a.self.now.bytes.now a.at c.requires (runs_past a.at 8 _ c.in_err-value.ensures))

pub returns-clause-ends : goal.returns-clause-ends
returns-clause-ends c =
    let a = c.args in
    let s = a.self.now.bytes.now in
    let w = lies_within a.at 8 _ c.in_ok-value.value c.in_ok-value.ensures in
    let n = c.get_u32-n in
    let e = a.at + 8 + n.result in
    let r = rw w.is at c.end_within-2.ensures in
    by_le e (length s)
    (λ l. r ∙ rw (le-leb e (length s) l) (tag_good 0 s a.at c.requires w.fits n.result n.ensures l))
    (λ l. r ∙ rw (lt-leb e (length s) l) (tag_bad_long 0 s a.at c.requires w.fits n.result n.ensures l))

pub returns-clause-within : goal.returns-clause-within
returns-clause-within c =
    let a = c.args in
    let s = a.self.now.bytes.now in
    let w = lies_within a.at 8 _ c.in_ok-value.value c.in_ok-value.ensures in
    ends_within s a.at w.fits c.get_u32-n.result (c.end_within-2.result) (rw w.is at c.end_within-2.ensures)
