-- The lent storage and the reply are those of `overlay::allow_version_regression`.
use Rattle.torvaskin.specs.Overlays.{allow_reply}
use Rattle.torvaskin.proofs.OverlayReplies.{replied_is}
use Rattle.torvaskin.proofs.overlays.tvk_allow_version_regression.Goals as goal

pub returns : goal.returns
unfolding allow_reply
returns c =
    replied_is c.kept_reply.ensures c.allow_version_regression.ensures
