-- The kind, and three fields.
use borrow.Author.Rules.{rules}
use mir.Facts.{to_z-of_z}
use mir.Syntax.{w64}
use mir.Val.{SFits}
use Rattle.print.specs.Print.{tabs}
use Rattle.print.proofs.Pieces.{then_printed}
use Rattle.listing_rows.proofs.put_key.Goals as goal

pub returns : goal.returns
unfolding tabs
returns c =
    let f : SFits w64 c.args.id = search rules in
    then_printed (then_printed (then_printed c.put_kind.ensures (rw (c.from.ensures, to_z-of_z f) at c.put.ensures)) c.put_sign.ensures) c.put_version.ensures
