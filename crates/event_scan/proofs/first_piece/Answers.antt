-- `first_piece`: an escape by its letter, or a byte.
use mathlib.Core.Path.{sym, ◌∙◌}
use native.Mathlib.Omega.{arith}
use Rattle.event_scan.proofs.Pieces.{piece_none, piece_byte, piece_last, piece_escape}
use Rattle.event_scan.proofs.first_piece.Goals as goal
use Rattle.event_scan.proofs.first_piece.Goals.{then-v-lt2+in_default-1, else-v-lt2+in_default-1}

pub returns-in-empty : goal.returns-in-empty
returns-in-empty c = sym (piece_none c.args.v.now (omega arith))

pub returns-in_err-byte-in-92 : goal.returns-in_err-byte-in-92
returns-in_err-byte-in-92 c = c.from_residual.ensures ∙ sym (piece_escape c.args.v.now (omega arith) (omega arith) ∙ rw (← c.letter.ensures, c.in_err-byte-in-92.was))

pub returns-in_ok-byte-in-92 : goal.returns-in_ok-byte-in-92
returns-in_ok-byte-in-92 c = sym (piece_escape c.args.v.now (omega arith) (omega arith) ∙ rw (← c.letter.ensures, c.in_ok-byte-in-92.was))

pub returns-in-92-2 : goal.returns-in-92-2
returns-in-92-2 c = sym (piece_last c.args.v.now (omega arith) (omega arith))

pub returns-in-len1-up : goal.returns-in-len1-up
returns-in-len1-up c =
    elim c.in-len1-up-1.branch [
      | then-v-lt2+in_default-1 w ↦ sym (piece_byte c.args.v.now (grind arith) (λ e. omega arith))
      | else-v-lt2+in_default-1 w ↦ sym (piece_byte c.args.v.now (grind arith) (λ e. omega arith))
    ]
