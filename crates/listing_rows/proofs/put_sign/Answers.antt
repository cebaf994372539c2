-- A text of one byte that stands for itself.
use Rattle.std.proofs.Common.{Bor}
use mathlib.Core.Path.{◌≡◌, ◌∙◌, ap}
use Rattle.base.specs.Bytes.{Bytes}
use Rattle.text.specs.Escape.{escape, escaped}
use Rattle.print.specs.Print.{tabs}
use Rattle.listing_rows.specs.Lines.{sign_of}
use Rattle.listing_rows.proofs.put_sign.Goals.{then-live, else-live}
use Rattle.listing_rows.proofs.put_sign.Goals as goal

pub returns : goal.returns
unfolding tabs escape escaped
returns c =
    let e : escape c.if-live.put.now ≡ sign_of c.args.live =
    elim c.if-live.branch [
      | then-live w ↦ ap (λ (x : Bor Bytes). escape x.now) w.put-is ∙ rw w.if-live.true
      | else-live w ↦ ap (λ (x : Bor Bytes). escape x.now) w.put-is ∙ rw w.if-live.false
    ] in
    rw e at c.put.ensures
