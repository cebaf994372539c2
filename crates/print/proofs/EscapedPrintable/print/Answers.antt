-- A copy of a text that is its own escape; of another the escape, from its place on.
use mathlib.Core.Path.{refl, sym, ◌∙◌}
use native.Mathlib.Omega.{arith}
use lib.ListN.{length-take, length-drop}
use Rattle.text.specs.Escape.{escape}
use Rattle.little.proofs.Overs.{over_lent_start}
use Rattle.print.proofs.Pieces.{plain_text, put_there, put_nowhere}
use Rattle.print.proofs.EscapedPrintable.print.Goals as goal

pub returns-then-all_plain : goal.returns-then-all_plain
returns-then-all_plain c = rw (plain_text c.args.self.now.0.now (sym c.all_plain.ensures ∙ c.if-all_plain.true)) c.put_bytes.ensures

pub put_escape-requires : goal.put_escape-requires
put_escape-requires c = simp (length-take, length-drop) (omega (arith, c.in-Some.ensures.fits, c.text_longer.ensures.value))

pub returns-in-Some : goal.returns-in-Some
returns-in-Some c =
    let t = c.take_room in
    put_there (escape c.args.self.now.0.now) t.ensures.same (rw (← c.text_longer.ensures.value) at t.ensures.taken) c.in-Some.is refl refl refl
    (over_lent_start t.new.self.out.now _ _ _ (omega (arith, c.in-Some.ensures.fits)) c.put_escape.ensures)

pub returns-in_default : goal.returns-in_default
returns-in_default c =
    put_nowhere (escape c.args.self.now.0.now) c.take_room.ensures.same (rw (← c.text_longer.ensures.value) at c.take_room.ensures.taken) c.in_default.is
