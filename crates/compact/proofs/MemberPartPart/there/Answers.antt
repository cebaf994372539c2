-- A member stands where its bytes are there and its type byte names a kind.
use Rattle.std.specs.Prelude.{ℕ, Result, Ok, Err}
use Rattle.std.specs.Result.{result_ok}
use mathlib.Core.Path.{◌≡◌, ap, ◌∙◌}
use Rattle.little.proofs.Littles.{bytes_of}
use Rattle.little.proofs.Ends.{lies_within, runs_past}
use Rattle.kind.specs.Kind.{of_number, Numbered}
use Rattle.kind.specs.declared.Kind.{Kind}
use Rattle.kind.specs.declared.UnknownKind.{UnknownKind}
use Rattle.compact.proofs.Steps.{member_past, member_bad, member_whole}
use Rattle.compact.proofs.MemberPartPart.there.Goals as goal

named : (n : ℕ) (r : Result Kind UnknownKind) → Numbered n r → result_ok r ≡ of_number n
named n (Ok k) h = h
named n (Err e) h = h.0

pub returns-in_err-next : goal.returns-in_err-next
returns-in_err-next c = let a = c.args in rw c.from_residual.ensures (member_past a.bytes.now a.offset (runs_past a.offset 13 _ c.in_err-next.ensures))

pub returns-in_err-kind : goal.returns-in_err-kind
returns-in_err-kind c =
    let a = c.args in
    let w = lies_within a.offset 13 _ c.in_ok-next.next c.in_ok-next.ensures in
    let k = c.in_err-kind.ensures.value ∙ (named _ _ c.try_from.ensures ∙ ap of_number c.get_u8.ensures) in
    rw c.from_residual-in_err-kind.ensures (member_bad a.bytes.now a.offset w.fits k)

pub returns : goal.returns
returns c =
    let a = c.args in
    let s = a.bytes.now in
    let w = lies_within a.offset 13 _ c.in_ok-next.next c.in_ok-next.ensures in
    let k = c.in_ok-kind.ensures.value ∙ (named _ _ c.try_from.ensures ∙ ap of_number c.get_u8.ensures) in
    rw (c.get_u64.ensures, c.get_u32.ensures, w.is) (member_whole s a.offset w.fits (bytes_of s (λ i l. (c.type_inv.bytes i).fits)) c.in_ok-kind.kind k)
