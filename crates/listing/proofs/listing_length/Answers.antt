-- Soundness decides; then the room that the pieces leave says the length.
use mathlib.Core.Path.{◌∙◌, ap}
use Rattle.compact_legal.proofs.Judging.{handed}
use Rattle.overlay.specs.Lent.{overlay_seen}
use Rattle.overlay.proofs.Bounds.{lent_in_bytes}
use Rattle.overlay.proofs.Checked.{checked_sound, checked_unsound}
use Rattle.print.specs.Print.{Printed, joined_pieces}
use Rattle.print.proofs.Prints.{room_print}
use Rattle.listing.specs.Pieces.{pieces_of}
use Rattle.listing.proofs.Calls.{length_22, length_pieces, measured_past, measured_left}
use Rattle.listing.proofs.listing_length.Goals as goal

pub returns-in_err-check_sound : goal.returns-in_err-check_sound
returns-in_err-check_sound c =
    let o = overlay_seen c.args.storage.now in
    let u = checked_unsound o c.in_err-check_sound.ensures c.from_residual.ensures in
    rw u.1 (length_22 o u.0)

pub returns-in_err-left : goal.returns-in_err-left
returns-in_err-left c =
    let s = c.args.storage.now in
    let o = overlay_seen s in
    let f = c.in_err-left.ensures in
    let e = ap (λ (p : Printed). p.room) c.print.ensures.printed ∙ room_print _ (pieces_of o) _ in
    length_pieces o (checked_sound o c.in_ok-check_sound.ensures) (lent_in_bytes s.words.now s.bytes.now s.counters.now c.known_bytes.ensures) _
    (handed f.value f.ok_part c.from_residual-in_err-left.ensures ∙ measured_past (joined_pieces (pieces_of o)) e f.ok_part)

pub returns : goal.returns
returns c =
    let s = c.args.storage.now in
    let o = overlay_seen s in
    let e = ap (λ (p : Printed). p.room) c.print.ensures.printed ∙ room_print _ (pieces_of o) _ in
    length_pieces o (checked_sound o c.in_ok-check_sound.ensures) (lent_in_bytes s.words.now s.bytes.now s.counters.now c.known_bytes.ensures) _
    (measured_left (joined_pieces (pieces_of o)) e c.in_ok-left.ensures.ok_part)
