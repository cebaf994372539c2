use mathlib.Core.List.{[], ◌∷◌}
use Rattle.file_lexer.proofs.Lines.{grown_full, byte_stored, byte_outside}
use Rattle.file_lexer.proofs.output.put_byte.Goals as goal

pub returns-then-used-ge-KEPT : goal.returns-then-used-ge-KEPT
returns-then-used-ge-KEPT c = grown_full c.args.bytes.now c.args.used (c.args.byte ∷ []) c.if-used-ge-KEPT.true

pub returns-then-at-bytes : goal.returns-then-at-bytes
returns-then-at-bytes c = byte_stored c.args.bytes.now c.args.used c.args.byte c.if-used-ge-KEPT.false c.if-at-bytes.true

pub returns : goal.returns
returns c = byte_outside c.args.bytes.now c.args.used c.args.byte c.if-used-ge-KEPT.false c.if-at-bytes.false
