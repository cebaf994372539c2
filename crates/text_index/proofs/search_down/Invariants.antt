-- `search_down` tries the handles from the last on. The invariant: no handle that it has passed has the text.
use Prim.Native.Nat.{ℕ, ◌≤◌, ◌<◌}
use mathlib.Core.Path.{◌≡◌}
use mathlib.Core.Bool.{false}
use Rattle.interner.specs.Strings.{is_at}
use Rattle.text_index.proofs.search_down.Given as goal

abbrev pub invariant-loop-h : goal.invariant-loop-h
invariant-loop-h l = (j : ℕ) → l.h ≤ j → j < l.n → is_at l.texts.spans.now l.texts.bytes.now l.text j ≡ false
