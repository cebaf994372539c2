-- `references::reference_step`: place by place.
use Rattle.markup_tags.proofs.references.reference_step.Goals as goal

pub returns-in-Ampersand : goal.returns-in-Ampersand
returns-in-Ampersand c = rw c.in-Ampersand.is c.ampersand_step.ensures

pub returns-in-Entity : goal.returns-in-Entity
returns-in-Entity c = rw c.in-Entity.is c.entity_step.ensures

pub returns-in-Hash : goal.returns-in-Hash
returns-in-Hash c = rw c.in-Hash.is c.hash_step.ensures

pub returns-in-Decimal : goal.returns-in-Decimal
returns-in-Decimal c = rw c.in-Decimal.is c.decimal_step.ensures

pub returns-in-HexBegun : goal.returns-in-HexBegun
returns-in-HexBegun c = rw c.in-HexBegun.is c.hex_begun_step.ensures

pub returns-in-Hex : goal.returns-in-Hex
returns-in-Hex c = rw c.in-Hex.is c.hex_step.ensures
