-- `text::plain` meets its contract: each run of bytes that are all plain leaves it to those behind it.
use Rattle.std.proofs.Common.{◌≡◌, ◌∙◌, ap, sym, eqb, length}
use Rattle.base.specs.Bytes.{all}
use Rattle.text.specs.Check.{is_plain}
use Rattle.text.proofs.Blocks.{all_told}
use Rattle.text.proofs.PlainBytes.{all_behind, not_all}
use Rattle.text.proofs.plain.Goals as goal

pub returns-then-not-plain_together : goal.returns-then-not-plain_together
returns-then-not-plain_together c =
    not_all is_plain 64 c.loop-rest.rest.now (sym (ap (all is_plain) c.split_at.ensures.front) ∙ sym c.plain_together.ensures ∙ c.if-not-plain_together.true)
    ∙ c.loop-rest.invariant

pub loop-rest-preserved : goal.loop-rest-preserved
loop-rest-preserved c =
    ap (all is_plain) c.split_at.ensures.back
    ∙ all_behind is_plain 64 c.loop-rest.rest.now (sym (ap (all is_plain) c.split_at.ensures.front) ∙ sym c.plain_together.ensures ∙ c.if-not-plain_together.false)
    ∙ c.loop-rest.invariant

pub returns : goal.returns
returns c = ap (λ n. eqb n (length c.loop-rest.rest.now)) c.plain_length.ensures ∙ all_told is_plain c.loop-rest.rest.now ∙ c.loop-rest.invariant
