-- `find_from` tries the handles in order. The invariant: the search from the present handle on decides.
use Prim.Native.Nat.{◌-◌}
use mathlib.Core.Path.{◌≡◌}
use Rattle.interner.specs.Strings.{find_from}
use Rattle.interner.proofs.Texts.find_from.Given as goal

abbrev pub invariant-loop-h : goal.invariant-loop-h
invariant-loop-h l = find_from l.self.spans.now l.self.bytes.now l.text (l.count - l.h) l.h ≡ find_from l.self.spans.now l.self.bytes.now l.text (l.count - l.from) l.from
