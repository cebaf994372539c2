-- `references::decimal_taken`: up to the last character, or past it.
use borrow.Author.Tests.{le-leb, lt-leb}
use Rattle.markup_tags.proofs.references.decimal_taken.Goals as goal

pub returns-then-v-le1114111 : goal.returns-then-v-le1114111
returns-then-v-le1114111 c = rw (le-leb c.args.v 0x10ffff c.if-v-le1114111.true)

pub returns-else-v-le1114111 : goal.returns-else-v-le1114111
returns-else-v-le1114111 c = rw (lt-leb c.args.v 0x10ffff c.if-v-le1114111.false)
