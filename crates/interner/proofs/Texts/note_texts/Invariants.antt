-- `note_texts` tries the handles in order. The invariant: those passed are legal, and their words are noted.
use Prim.Native.Nat.{◌≤◌, ◌<◌}
use mathlib.Core.Path.{◌≡◌}
use lib.ListN.{length}
use Rattle.interner.specs.Check.{WordsNoted}
use Rattle.interner.proofs.Words.{LegalUpTo}
use Rattle.interner.proofs.Texts.note_texts.Given as goal

abbrev pub invariant-loop-h : goal.invariant-loop-h
invariant-loop-h l =
    record {
      legal : LegalUpTo l.self.spans.now l.self.bytes.now l.h;
      long : length l.words ≡ length l.fn.words;
      noted : length l.self.bytes.now < 131072 → l.n ≤ length l.words → WordsNoted l.self.spans.now l.self.bytes.now l.words l.h;
    }
