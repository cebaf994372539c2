-- `markup_skipped::declarations::value_ended`: the whole values, and no other.
use Rattle.base.specs.Bytes.{both, all, same, is_digit}
use Rattle.text.specs.Char.{from_to}
use Rattle.markup.specs.Markup.{version_num, key_value}
use Rattle.markup_skipped.specs.Declarations.{declaration_kept}
use Rattle.markup_skipped.proofs.Values.{word_ends, none_ends}
use Rattle.markup_skipped.proofs.declarations.value_ended.Goals as goal

pub returns-in-Version3 : goal.returns-in-Version3
unfolding key_value version_num is_digit all both declaration_kept
returns-in-Version3 c = rw c.in-Version3.is

pub returns-in-Encoding5 : goal.returns-in-Encoding5
unfolding key_value same from_to both declaration_kept
returns-in-Encoding5 c = rw c.in-Encoding5.is

pub returns-in-Yes : goal.returns-in-Yes
returns-in-Yes c = word_ends c.args.letters c.in-Yes.is

pub returns-in_default : goal.returns-in_default
returns-in_default c = none_ends c.args.letters c.in_default.not-Version3 c.in_default.not-Encoding5 c.in_default.not-Yes c.in_default.not-No
