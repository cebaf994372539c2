-- `markup_skipped::instructions::name_ended`: the reserved targets, and the others.
use Rattle.markup_skipped.proofs.Targets.{reserved_xml, reserved_capitals, unreserved, capitals_ended}
use mathlib.Core.Path.{sym}
use Rattle.markup_skipped.proofs.instructions.name_ended.Goals as goal

pub returns-in-Xml : goal.returns-in-Xml
returns-in-Xml c = rw (c.in-Xml.is, reserved_xml) c.declaration_begun.ensures

pub returns-in-UpperXml : goal.returns-in-UpperXml
returns-in-UpperXml c = rw (c.in-UpperXml.is, reserved_capitals) (sym (capitals_ended c.args.first c.args.c))

pub returns-in_default : goal.returns-in_default
returns-in_default c = rw (unreserved c.args.letters c.in_default.not-Xml c.in_default.not-UpperXml) c.target_ended.ensures
