-- Soundness decides; in sound storage the pieces are the page.
use Rattle.overlay.specs.Lent.{overlay_seen}
use Rattle.overlay.proofs.Bounds.{lent_in_bytes}
use Rattle.overlay.proofs.Checked.{checked_sound, checked_unsound}
use Rattle.print.specs.Print.{joined_pieces}
use Rattle.listing.specs.Pieces.{pieces_of}
use Rattle.listing.proofs.Calls.{list_22, list_pieces, whole_listed}
use Rattle.listing.proofs.list.Goals as goal

pub returns-in_err-check_sound : goal.returns-in_err-check_sound
returns-in_err-check_sound c =
    let o = overlay_seen c.args.storage.now in
    let u = checked_unsound o c.in_err-check_sound.ensures c.from_residual.ensures in
    rw u.1 (list_22 c.args.out.now o u.0)

pub returns : goal.returns
returns c =
    let s = c.args.storage.now in
    let o = overlay_seen s in
    let w = whole_listed c.args.out.now (joined_pieces (pieces_of o)) _ _ c.print_whole.ensures in
    list_pieces c.args.out.now o (checked_sound o c.in_ok-check_sound.ensures)
    (lent_in_bytes s.words.now s.bytes.now s.counters.now c.known_bytes.ensures) _
    (rw c.ok_or.ensures.value w)
