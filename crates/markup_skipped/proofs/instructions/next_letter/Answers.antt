-- `markup_skipped::instructions::next_letter`: behind a beginning of `xml` by its letter, and behind another name nothing changes.
use Rattle.markup_skipped.proofs.Targets.{no_beginning}
use Rattle.markup_skipped.proofs.instructions.next_letter.Goals as goal

pub returns-in_default : goal.returns-in_default
returns-in_default c = no_beginning c.args.letters c.args.c c.in_default.not-X c.in_default.not-UpperX c.in_default.not-Xm c.in_default.not-UpperXm
