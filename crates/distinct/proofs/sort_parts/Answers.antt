use Prim.Native.Nat.{◌-◌}
use mathlib.Core.Path.{◌∙◌}
use native.Mathlib.Omega.{arith}
use lib.ListN.{length}
use Rattle.std.proofs.lemmas.List.Sorted.{IsPermutation-trans, IsPermutation-put_mid}
use Rattle.distinct.proofs.sort_parts.Goals.{then-key_of, else-key_of}
use Rattle.distinct.proofs.sort_parts.Goals as goal

pub loop-to-preserved : goal.loop-to-preserved
loop-to-preserved c =
    let l = c.loop-to in
    let long = c.if-key_of.auto.words in
    elim c.if-key_of.branch [
      | then-key_of w ↦ record {
        moved = rw w.words-is (IsPermutation-trans c.args.words.now l.words _ l.invariant.moved (IsPermutation-put_mid l.from (l.to - l.from) l.words w.sort_part.new.words w.sort_part.ensures));
        long = long ∙ l.invariant.long;
        within = omega (arith, w.from-is);
        near = omega (arith, w.from-is, l.invariant.long);
      }
      | else-key_of w ↦ record {
        moved = rw w.words-is l.invariant.moved;
        long = long ∙ l.invariant.long;
        within = omega (arith, w.from-is, l.invariant.within);
        near = omega (arith, w.from-is, l.invariant.near);
      }
    ]

pub returns : goal.returns
returns c =
    let l = c.loop-to in
    IsPermutation-trans c.args.words.now l.words _ l.invariant.moved (IsPermutation-put_mid l.from (length l.words - l.from) l.words c.sort_part-2.new.words c.sort_part-2.ensures)
