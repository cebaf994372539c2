-- 0, or 22.
use Rattle.overlay.specs.Lent.{lent}
use Rattle.overlay.specs.Sound.{is_sound}
use Rattle.torvaskin.proofs.OverlayReplies.{sound_told}
use Rattle.torvaskin.proofs.overlays.tvk_is_sound.Goals as goal

pub returns : goal.returns
returns c =
    let k = c.args in
    rw (c.kept_reply.ensures, c.check_sound.ensures) (sound_told (is_sound (lent k.words.now k.bytes.now k.counters.now)))
