-- The name of a field's attribute: by its first `=`, its name and its escapes.
use Rattle.std.proofs.Common.{Option, sym, ap, ◌∙◌}
use Rattle.std.specs.Prelude.{option_map}
use Rattle.base.specs.Bytes.{Bytes}
use Rattle.event.specs.Event.{Attr}
use Rattle.event_scan.specs.Parts.{name_seen}
use Rattle.event_scan.proofs.Parts.{attr_nowhere, attr_nameless, attr_wrong, attr_right}
use Rattle.event_scan.proofs.fields.attribute_name.Goals as goal

abbrev name_in : Option Attr → Option Bytes
name_in o = option_map (λ (a : Attr). a.name) o

pub returns-in_err-name : goal.returns-in_err-name
returns-in_err-name c = ap name_seen c.from_residual.ensures ∙ sym (ap name_in (attr_nowhere c.args.field.now c.in_err-name.ensures))

pub returns-then-is_empty : goal.returns-then-is_empty
returns-then-is_empty c = sym (ap name_in (attr_nameless c.args.field.now c.in_ok-name.ensures (sym c.is_empty.ensures ∙ c.if-is_empty.true)))

pub returns-then-escapes_right : goal.returns-then-escapes_right
returns-then-escapes_right c =
    sym (ap name_in (attr_right c.args.field.now c.in_ok-name.ensures (sym c.is_empty.ensures ∙ c.if-is_empty.false) (sym c.escapes_right.ensures ∙ c.if-escapes_right.true)))

pub returns : goal.returns
returns c =
    sym (ap name_in (attr_wrong c.args.field.now c.in_ok-name.ensures (sym c.is_empty.ensures ∙ c.if-is_empty.false) (sym c.escapes_right.ensures ∙ c.if-escapes_right.false)))
