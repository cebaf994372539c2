-- `markup_skipped::declarations::value_taken`: each beginning of a value, and what may follow it.
use mathlib.Core.Path.{sym, ◌∙◌}
use Rattle.markup_skipped.proofs.Values.{version0, version1, version2, version3, encoding0, encoding1, encoding2, encoding3, encoding4, standalone_y, standalone_ye, standalone_n, no_more}
use Rattle.markup_skipped.proofs.declarations.value_taken.Goals as goal

pub returns-in-Version0 : goal.returns-in-Version0
returns-in-Version0 c = rw c.in-Version0.is (c.taken_if.ensures ∙ sym (version0 _ c.args.c))

pub returns-in-Version1 : goal.returns-in-Version1
returns-in-Version1 c = rw c.in-Version1.is (c.taken_if-in-Version1.ensures ∙ sym (version1 _ c.args.c))

pub returns-in-Version2 : goal.returns-in-Version2
returns-in-Version2 c = let e = rw c.is_digit.ensures at c.taken_if-in-Version2.ensures in rw c.in-Version2.is (e ∙ sym (version2 _ c.args.c))

pub returns-in-Version3 : goal.returns-in-Version3
returns-in-Version3 c = let e = rw c.is_digit-in-Version3.ensures at c.taken_if-in-Version3.ensures in rw c.in-Version3.is (e ∙ sym (version3 _ c.args.c))

pub returns-in-Encoding0 : goal.returns-in-Encoding0
returns-in-Encoding0 c = let e = rw c.upper_case.ensures at c.taken_if-in-Encoding0.ensures in rw c.in-Encoding0.is (e ∙ sym (encoding0 _ c.args.c))

pub returns-in-Encoding1 : goal.returns-in-Encoding1
returns-in-Encoding1 c = let e = rw c.upper_case-in-Encoding1.ensures at c.taken_if-in-Encoding1.ensures in rw c.in-Encoding1.is (e ∙ sym (encoding1 _ c.args.c))

pub returns-in-Encoding2 : goal.returns-in-Encoding2
returns-in-Encoding2 c = let e = rw c.upper_case-in-Encoding2.ensures at c.taken_if-in-Encoding2.ensures in rw c.in-Encoding2.is (e ∙ sym (encoding2 _ c.args.c))

pub returns-in-Encoding3 : goal.returns-in-Encoding3
returns-in-Encoding3 c = let e = rw c.upper_case-in-Encoding3.ensures at c.taken_if-in-Encoding3.ensures in rw c.in-Encoding3.is (e ∙ sym (encoding3 _ c.args.c))

pub returns-in-Encoding4 : goal.returns-in-Encoding4
returns-in-Encoding4 c = let e = rw c.upper_case-in-Encoding4.ensures at c.taken_if-in-Encoding4.ensures in rw c.in-Encoding4.is (e ∙ sym (encoding4 _ c.args.c))

pub returns-in-Standalone0 : goal.returns-in-Standalone0
returns-in-Standalone0 c = rw c.in-Standalone0.is c.standalone_begun.ensures

pub returns-in-Y : goal.returns-in-Y
returns-in-Y c = rw c.in-Y.is (c.taken_if-in-Y.ensures ∙ sym (standalone_y _ c.args.c))

pub returns-in-Ye : goal.returns-in-Ye
returns-in-Ye c = rw c.in-Ye.is (c.taken_if-in-Ye.ensures ∙ sym (standalone_ye _ c.args.c))

pub returns-in-N : goal.returns-in-N
returns-in-N c = rw c.in-N.is (c.taken_if-in-N.ensures ∙ sym (standalone_n _ c.args.c))

pub returns-in-Encoding5 : goal.returns-in-Encoding5
returns-in-Encoding5 c = no_more c.args.letters _ c.args.c c.in-Encoding5.is
