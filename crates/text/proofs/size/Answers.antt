-- `text::size` meets its contract.
use borrow.Author.Tests.{le-leb, lt-leb}
use Rattle.base.specs.Bytes.{both}
use Rattle.base.proofs.Split.{by_bool}
use Rattle.text.specs.Char.{xml_char}
use Rattle.text.proofs.size.Goals.{then-least-v, else-least-v}
use Rattle.text.proofs.size.Goals as goal

pub returns : goal.returns
unfolding both
returns c =
    let a = c.args in
    elim c.if-least-v.branch [
      | then-least-v w ↦
          rw (c.then_some.ensures, w.then_some-is, w.legal.ensures, le-leb a.least a.v w.if-least-v.true)
          (by_bool (xml_char a.v) (λ t. rw t) (λ t. rw t))
      | else-least-v w ↦ rw (c.then_some.ensures, w.then_some-is, lt-leb a.least a.v w.if-least-v.false)
    ]
