-- `xml_chars::is_legal`: the production's ranges, one answer for each, and one for each gap.
use mathlib.Core.Path.{sym}
use native.Mathlib.Omega.{arith}
use Rattle.text.proofs.Xml.{legal_low, no_surrogate, legal_middle, no_fffe, legal_high, none_above}
use Rattle.xml_chars.proofs.is_legal.Goals as goal

pub returns-in-32-to-55295 : goal.returns-in-32-to-55295
returns-in-32-to-55295 c = sym (legal_low _ (omega arith) (omega arith))

pub returns-in-32-to-55295-2 : goal.returns-in-32-to-55295-2
returns-in-32-to-55295-2 c = sym (legal_middle _ (omega arith) (omega arith))

pub returns-in-32-to-55295-3 : goal.returns-in-32-to-55295-3
returns-in-32-to-55295-3 c = sym (legal_high _ (omega arith) (omega arith))

pub returns-in_default-2 : goal.returns-in_default-2
returns-in_default-2 c = sym (no_surrogate _ (omega arith) (omega arith))

pub returns-in_default-3 : goal.returns-in_default-3
returns-in_default-3 c = sym (no_fffe _ (omega arith) (omega arith))

pub returns-in_default-4 : goal.returns-in_default-4
returns-in_default-4 c = sym (none_above _ (omega arith))
