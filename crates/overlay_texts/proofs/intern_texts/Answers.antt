-- What is handed in is refused, or all texts.
use mathlib.Core.Path.{sym, ◌∙◌}
use lib.ListN.{length}
use Rattle.overlay.specs.Lent.{overlay_held}
use Rattle.overlay.proofs.Bounds.{lent_in_bytes}
use Rattle.overlay_texts.proofs.Texts.{length_cut, bytes_cut}
use Rattle.overlay_texts.proofs.Answers.{given_ok, all_refused, all_given}
use Rattle.overlay_texts.proofs.intern_texts.Goals as goal

pub returns-in-Err-clause-done : goal.returns-in-Err-clause-done
returns-in-Err-clause-done c =
    let t = c.args.texts.now in
    sym (all_refused t.lengths.now t.bytes.now c.args.handles.now (overlay_held c.args.storage.now) (rw c.storage.ensures at c.in-Err.ensures.value))

pub intern_texts_untested-requires-clause-given : goal.intern_texts_untested-requires-clause-given
intern_texts_untested-requires-clause-given c =
    let t = c.args.texts.now in
    let s = c.storage.result in
    let g = given_ok t.lengths.now t.bytes.now (length c.args.handles.now) (overlay_held c.args.storage.now) (rw c.storage.ensures at c.in_default.ensures.value) in
    record {
      sound = g.0;
      overlay = rw c.storage.ensures at (lent_in_bytes s.words.now s.bytes.now s.counters.now c.check_given.ensures.storage_bytes);
      texts = bytes_cut t.lengths.now t.bytes.now c.check_given.ensures.texts_bytes;
    }

pub intern_texts_untested-requires-clause-room : goal.intern_texts_untested-requires-clause-room
intern_texts_untested-requires-clause-room c =
    let t = c.args.texts.now in
    let g = given_ok t.lengths.now t.bytes.now (length c.args.handles.now) (overlay_held c.args.storage.now) (rw c.storage.ensures at c.in_default.ensures.value) in
    rw (length_cut t.lengths.now t.bytes.now) g.1.1

pub returns-clause-done : goal.returns-clause-done
returns-clause-done c =
    let t = c.args.texts.now in
    c.intern_texts_untested.ensures.done ∙ sym (all_given t.lengths.now t.bytes.now c.args.handles.now (overlay_held c.args.storage.now) (rw c.storage.ensures at c.in_default.ensures.value))
