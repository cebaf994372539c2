-- The number of a version, or a text of one byte that stands for itself.
use borrow.Author.Rules.{rules}
use mir.Facts.{to_z-of_z}
use mir.Syntax.{w32}
use mir.Val.{SFits}
use Rattle.text.specs.Escape.{escape, escaped}
use Rattle.listing_page.specs.Listing.{version_field}
use Rattle.print.specs.Print.{tabs}
use Rattle.listing_rows.proofs.put_version.Goals as goal

pub returns-in-Some : goal.returns-in-Some
unfolding tabs version_field
returns-in-Some c =
    let f : SFits w32 c.in-Some.version = search rules in
    rw c.in-Some.is (rw (c.from.ensures, to_z-of_z f) at c.put.ensures)

pub returns-in-None : goal.returns-in-None
unfolding tabs escape escaped version_field
returns-in-None c = rw c.in-None.is c.put-in-None.ensures
