-- `xml_chars::completed`: the code point's two tests.
use borrow.Author.Tests.{le-leb, lt-leb}
use Rattle.base.specs.Bytes.{both}
use Rattle.xml_chars.proofs.completed.Goals.{else-least-point-via-then-least-point+else-is_legal, else-least-point-via-else-least-point}
use Rattle.xml_chars.proofs.completed.Goals as goal

pub returns-then-is_legal : goal.returns-then-is_legal
unfolding both
returns-then-is_legal c = rw (le-leb c.args.least c.args.point c.if-least-point.true, ← c.is_legal.ensures, c.if-is_legal.true)

pub returns-else-least-point : goal.returns-else-least-point
unfolding both
returns-else-least-point c =
    let a = c.args in
    elim c.else-least-point.branch [
      | else-least-point-via-then-least-point+else-is_legal w ↦ rw (le-leb a.least a.point w.if-least-point.true, ← w.is_legal.ensures, w.if-is_legal.false)
      | else-least-point-via-else-least-point w ↦ rw (lt-leb a.least a.point w.if-least-point.false)
    ]
