-- `xml_chars::first_step`: the characters of ASCII, the first bytes of others, and what is neither.
use mathlib.Core.Path.{sym}
use native.Mathlib.Omega.{arith}
use Rattle.text.proofs.Xml.{legal_low}
use Rattle.xml_chars.proofs.Bytes.{no_control, tab_or_feed, carriage_return}
use Rattle.xml_chars.proofs.Steps.{first_ascii, first_begins, first_low, first_high}
use Rattle.xml_chars.proofs.first_step.Goals.{in-13-1, in_default+else-byte-lt9+then-byte-lt11, in_default+else-byte-lt9+else-byte-lt11+else-byte-lt32+then-byte-lt128}
use Rattle.xml_chars.proofs.first_step.Goals as goal

pub returns-in-194-to-244 : goal.returns-in-194-to-244
returns-in-194-to-244 c = sym (first_begins _ (omega arith) (omega arith))

pub returns-in_default : goal.returns-in_default
returns-in_default c =
    let b = c.args.byte in
    sym (rw (no_control b (omega arith) (λ e. omega arith) (λ e. omega arith) (λ e. omega arith)) at (first_ascii b (omega arith)))

pub returns-in_default-2 : goal.returns-in_default-2
returns-in_default-2 c =
    let b = c.args.byte in
    sym (rw (no_control b (omega arith) (λ e. omega arith) (λ e. omega arith) (λ e. omega arith)) at (first_ascii b (omega arith)))

pub returns-in_default-3 : goal.returns-in_default-3
returns-in_default-3 c = sym (first_low _ (omega arith) (omega arith))

pub returns-in_default-4 : goal.returns-in_default-4
returns-in_default-4 c = sym (first_high _ (omega arith))

pub returns-in-32-to-127 : goal.returns-in-32-to-127
returns-in-32-to-127 c =
    let b = c.args.byte in
    rw c.from.ensures
    elim c.in-32-to-127-1.branch [
      | in-13-1 w ↦ sym (rw (carriage_return b (omega arith)) at (first_ascii b (omega arith)))
      | in_default+else-byte-lt9+then-byte-lt11 w ↦ sym (rw (tab_or_feed b (omega arith) (omega arith)) at (first_ascii b (omega arith)))
      | in_default+else-byte-lt9+else-byte-lt11+else-byte-lt32+then-byte-lt128 w ↦ sym (rw (legal_low b (omega arith) (omega arith)) at (first_ascii b (omega arith)))
    ]
