-- `intern_texts_by` goes from text to text. The invariant: the memory is the same, and what the texts that are left come to from the present overlay is what all texts come to.
use Rattle.text_index.specs.Lent.{chains_held, IsSameChains}
use Rattle.overlay.specs.Lent.{overlay_held, IsSameStorage}
use Rattle.overlay_texts.specs.Lent.{texts_left}
use Rattle.overlay_texts.proofs.Onward.{TextsOnward}
use Rattle.overlay_texts.proofs.intern_texts_by.Given as goal

abbrev pub invariant-loop-text : goal.invariant-loop-text
invariant-loop-text l =
    IsSameStorage l.storage l.fn.storage
    × IsSameChains l.chains l.fn.chains
    × TextsOnward (chains_held l.chains) (texts_left l.texts) (overlay_held l.fn.storage) l.fn.handles (texts_left l.text-iterator) (overlay_held l.storage) l.handles l.taken
