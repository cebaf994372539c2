-- The output and the reply are those of `listing::list`.
use Rattle.torvaskin.specs.Listings.{listing_reply}
use Rattle.torvaskin.proofs.ListingReplies.{listing_is}
use Rattle.torvaskin.proofs.listings.tvk_listing.Goals as goal

pub returns : goal.returns
unfolding listing_reply
returns c =
    listing_is c.from.ensures c.list.ensures
