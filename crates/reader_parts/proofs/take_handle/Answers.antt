-- The handle fits 32 bits, since a sound store has fewer strings.
use Rattle.std.proofs.lemmas.Result.{Ok-from_Ok_iff}
use Prim.Native.Nat.{◌<◌}
use mathlib.Core.Path.{sym, ◌∙◌, ap}
use native.Mathlib.Omega.{arith}
use Rattle.overlay_store.specs.Calls.{Interning}
use Rattle.event_scan.specs.Fields.{text_written}
use Rattle.reader.specs.Lent.{state_held}
use Rattle.reader_texts.proofs.Handles.{handle_few}
use Rattle.reader_parts.proofs.take_handle.Goals as goal

pub returns-clause-taken : goal.returns-clause-taken
returns-clause-taken g c =
    λ short given.
    let n = c.in_ok-handle.handle in
    let stored = c.take_text.ensures.taken short given.serve in
    let few = handle_few (text_written c.args.text.now) (state_held c.args.state.now).overlay n (sym (ap (λ (i : Interning). i.answer) stored) ∙ c.in_ok-handle.was) in
    let fits : n < 4294967296 = omega (arith, given.strings) in
    let t = Ok-from_Ok_iff c.try_from.result _ _ c.try_from.ensures fits in
    rw (c.or.ensures, t, ← c.in_ok-handle.was) stored
