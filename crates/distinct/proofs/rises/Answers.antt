use Prim.Native.Nat.{ℕ, ◌+◌, ◌-◌, ◌<◌}
use mathlib.Core.Path.{◌≡◌, sym, ◌∙◌}
use mathlib.Core.List.{List}
use native.Mathlib.Nat.{add-zero}
use native.Mathlib.Omega.{arith}
use lib.ListN.{length, drop}
use Rattle.std.specs.Slice.Iter.{windows_rest}
use Rattle.std.specs.Slice.ArrayWindows.{array_windows_parts}
use Rattle.std.proofs.lemmas.Iterator.{window_more}
use Rattle.base.proofs.Split.{by_eq}
use Rattle.distinct.specs.Check.{run_cmp, run_at}
use Rattle.distinct.proofs.Orders.{equal_two, equal_runs, rising_differ}
use Rattle.distinct.proofs.rises.Goals.{After-compare}
use Rattle.distinct.proofs.rises.Goals as goal

module _ (c : After-compare) where
  -- what was left of the words, and what is left without the first of them
  abbrev rest : List ℕ
  rest = windows_rest (array_windows_parts c.loop-v.v-iterator)

  abbrev tail : List ℕ
  tail = windows_rest (array_windows_parts c.next.new.self)

  -- the place of the first of the two words
  abbrev place : ℕ
  place = length c.args.words.now - length rest

  record Turn : Type 0 where
    pub near : place + 1 < length c.args.words.now
    pub less : length tail + 1 ≡ length rest
    pub end : tail ≡ drop (length c.args.words.now - length tail) c.args.words.now
    pub compared : c.compare.result ≡ run_cmp (run_at c.args.bytes.now c.args.words.now place) (run_at c.args.bytes.now c.args.words.now (place + 1))

  turn : Turn
  turn =
      let l = c.loop-v.invariant in
      let m = window_more c.args.words.now (array_windows_parts c.loop-v.v-iterator) (array_windows_parts c.next.new.self) _ _ c.in-Some.is c.next.ensures.steps (omega (arith, l.two)) l.within l.end in
      let first = rw add-zero at (m.3 0 0 (omega (arith, l.two))) in
      record {
        near = omega (arith, m.2, l.two, l.within);
        less = m.0;
        end = m.1;
        compared = rw (c.run_of.ensures, c.run_of-in-loop-v.ensures, first, m.3 1 0 (omega (arith, l.two))) at c.compare.ensures;
      }

pub returns-in-Equal : goal.returns-in-Equal
returns-in-Equal c =
    let b = c.args.bytes.now in
    let w = c.args.words.now in
    let p = (goal.at.returns-in-Equal c).After-compare in
    let t = turn p in
    let i = place p in
    equal_two b w i (i + 1) (omega arith) t.near (equal_runs (run_at b w i) (run_at b w (i + 1)) (sym t.compared ∙ c.in-Equal.is))

pub returns : goal.returns
returns c =
    let l = c.loop-v.invariant in
    rising_differ c.args.bytes.now c.args.words.now (λ i h. l.rise i (omega (arith, c.in-None.ensures.steps.1.0, l.two, l.within)))

pub loop-v-preserved : goal.loop-v-preserved
loop-v-preserved c =
    let l = c.loop-v.invariant in
    let p = (goal.at.loop-v-preserved c).After-compare in
    let t = turn p in
    record {
      two = c.next.ensures.steps.0 ∙ l.two;
      within = omega (arith, t.less, l.within);
      end = t.end;
      rise = λ j h.
          by_eq j (place p)
          (λ q. rw q (sym t.compared ∙ c.in-Less.is))
          (λ q. l.rise j (omega (arith, t.less)));
    }
