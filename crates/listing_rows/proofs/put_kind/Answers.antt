-- The letter of each kind.
use Rattle.std.proofs.Common.{Bor}
use mathlib.Core.Path.{◌≡◌, ◌∙◌, ap}
use Rattle.base.specs.Bytes.{Bytes}
use Rattle.listing_page.specs.Listing.{kind_field}
use Rattle.listing_rows.proofs.put_kind.Goals.{in-Node, in-Way, in-Relation}
use Rattle.listing_rows.proofs.put_kind.Goals as goal

pub returns : goal.returns
unfolding kind_field
returns c =
    let e : c.match-kind.put_bytes.now ≡ kind_field c.args.kind =
    elim c.match-kind.branch [
      | in-Node w ↦ ap (λ (x : Bor Bytes). x.now) w.put_bytes-is ∙ rw w.in-Node.is
      | in-Way w ↦ ap (λ (x : Bor Bytes). x.now) w.put_bytes-is ∙ rw w.in-Way.is
      | in-Relation w ↦ ap (λ (x : Bor Bytes). x.now) w.put_bytes-is ∙ rw w.in-Relation.is
    ] in
    rw e at c.put_bytes.ensures
